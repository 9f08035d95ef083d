-- The states and slots that occur together in the fused walk, and that what it decides from a row of the table holds of the row of the result. Assumes nothing.
use mathlib.Core.Path.{◌≡◌, refl, ◌∙◌, sym}
use Prim.Native.Nat.{ℕ}
use mathlib.Core.Bool.{Bool, true, false, cond, not, ◌&&◌, ◌||◌, false≢true}
use lib.Dec.{eqb}
use Rattle.forest.specs.Forest.{Rows, Rows.node}
use Rattle.steps.specs.Mode.{Switches, bit, async_only}
use Rattle.steps.specs.Paths.{Step, Step.along, Step.in_arrow, Step.in_value}
use Rattle.steps.specs.Super.{first_super, first_access, first_name, first_inside}
use Rattle.steps.specs.ArrowToFunction.{to_function?}
use Rattle.steps.specs.Slots.{body_of, late_body, dropped}
use Rattle.steps.specs.Naming.{Names, named_arguments}
use Rattle.steps.specs.Acts.{Ctx, Op.row, Op.drop, Op.name, Op.call, by, Act, does, Kind, Kind.this, Kind.super, Kind.ident, Kind.access, Kind.call, Kind.assign}
use Rattle.steps.specs.Acts.{Kind.arrow, Kind.keyed, Kind.field, Kind.static, Kind.target, Kind.other, kind_of, reads?, sets?, method_slot, act_of, act}
use Rattle.steps.specs.Bindings.{closes}
use Rattle.steps.specs.AfterSuper.{list, visit, copy, direct, super_call, is_direct, is_met}
use Rattle.steps.specs.Fused.{met_of, direct_of, within, scan_of, anew}
use Rattle.steps.proofs.Credit.{eqb-eq}
use Rattle.steps.proofs.Shape.{at}
use Rattle.steps.proofs.Scanning.{calmly, Tells, no_met, no_direct}
use Rattle.names.proofs.Bools.{pick}

-- A Function's Body is in state copy; what falls away is in state copy or visit. No other slot asks anything.
unfoldable pub fits : (sl sc : ℕ) → Bool
fits sl sc = cond (eqb sl body_of || eqb sl late_body) (eqb sc copy) (cond (eqb sl dropped) (eqb sc copy || eqb sc visit) true)

-- Rows in state direct begin with a Call of Super.
unfoldable pub begun : ℕ → Rows → Bool
begun sc r = not (eqb sc direct) || super_call r

-- What is known of a row, of which the fused walk decides met and first, and whose children become T. `new`: its children are scanned anew.
pub record Sound (st sl k : ℕ) (new met first : Bool) (i T : Rows) (A : Act) : Type 0 where
  pub tells : Tells st met first T A.op
  pub one : fits A.one.slot (cond new list (scan_of st met first A.op)) ≡ true
  pub more : fits A.more.slot (cond new list (scan_of st met first A.op)) ≡ true
  pub begins : begun (cond new list (scan_of st met first A.op)) i ≡ true
  pub calm : closes sl k ≡ true → (eqb (scan_of st met first A.op) 2 || eqb (scan_of st met first A.op) 1) ≡ true
  pub late : closes sl k ≡ true → eqb sl 3 ≡ true → scan_of st met first A.op ≡ 2

-- a slot that asks nothing
abbrev Any : ℕ → Type 0
Any s = (x : ℕ) → fits s x ≡ true

any_free : Any 0
unfolding fits
any_free x = refl

any_method : Any 1
unfolding fits
any_method x = refl

any_wrapped : Any 4
unfolding fits
any_wrapped x = refl

any_target : Any 5
unfolding fits
any_target x = refl

any_callee : Any 6
unfolding fits
any_callee x = refl

fits-within : (sc : ℕ) → fits 7 (within sc) ≡ true
unfolding fits within
fits-within sc = pick (λ (m : ℕ). (eqb m 2 || eqb m 1) ≡ true) (eqb sc 2 || eqb sc 6) 2 1 refl refl

pub fits-copy : (sl : ℕ) → fits sl copy ≡ true
unfolding fits
fits-copy sl = go (eqb sl 2 || eqb sl 3) (eqb sl 7)
  where
    go : (x y : Bool) → cond x true (cond y true true) ≡ true
    go true y = refl
    go false true = refl
    go false false = refl

fits_body : (sl sc : ℕ) → (eqb sl 2 || eqb sl 3) ≡ true → fits sl sc ≡ true → sc ≡ 2
unfolding fits
fits_body sl sc h f = eqb-eq sc 2 (rw h at f)

fits-drop : (sl sc : ℕ) → eqb sl 7 ≡ true → fits sl sc ≡ true → (eqb sc 2 || eqb sc 1) ≡ true
unfolding fits
fits-drop sl sc h f = rw (eqb-eq sl 7 h) at f

or-true : (x : Bool) → (x || true) ≡ true
or-true true = refl
or-true false = refl

late-body : (sl sc : ℕ) → eqb sl 3 ≡ true → fits sl sc ≡ true → sc ≡ 2
late-body sl sc h f = fits_body sl sc (rw h (or-true (eqb sl 2))) f

pub within_calm : (sc : ℕ) → (eqb (within sc) 2 || eqb (within sc) 1) ≡ true
unfolding within
within_calm sc = pick (λ (m : ℕ). (eqb m 2 || eqb m 1) ≡ true) (eqb sc 2 || eqb sc 6) 2 1 refl refl

pub begun-at : (sc : ℕ) (r : Rows) → eqb sc 3 ≡ false → begun sc r ≡ true
unfolding begun
begun-at sc r e = rw e

begun_call : (sc : ℕ) (r : Rows) → super_call r ≡ true → begun sc r ≡ true
unfolding begun
begun_call sc r e = rw e (or-true (not (eqb sc 3)))

pub steady-begun : (sc : ℕ) (r : Rows) → (eqb sc 2 || eqb sc 1) ≡ true → begun sc r ≡ true
steady-begun sc r h = calmly (λ (m : ℕ). begun m r ≡ true) (begun-at 2 r refl) (begun-at 1 r refl) sc h

-- where nothing is direct, the children are in another state than direct
scan-low : (st k a n : ℕ) (met : Bool) → eqb (scan_of st met false (row k a n)) 3 ≡ false
unfolding scan_of
scan-low st k a n met =
    let P : ℕ → Type 0 = λ (m : ℕ). eqb m 3 ≡ false in
    pick P (eqb st 2 || met) 2 _ refl
    (pick P (eqb st 3) 1 _ refl
    (pick P (eqb st 6) _ _ (pick P ((eqb k 21 || eqb k 22) && bit 1 a) 4 2 refl refl)
    (pick P (eqb k 5 || eqb k 19) 0 _ refl
    (pick P (eqb k 17 || eqb k 23) 2 _ refl (pick P (eqb k 20) _ 1 (pick P (bit 1 a) 5 6 refl refl) refl)))))

begun_row : (new : Bool) (st k a n : ℕ) (met : Bool) (i : Rows) → begun (cond new list (scan_of st met false (row k a n))) i ≡ true
begun_row new st k a n met i = begun-at _ i (pick (λ (m : ℕ). eqb m 3 ≡ false) new 0 _ refl (scan-low st k a n met))

swap : (x y : Bool) → (x && true && y) ≡ (y && x)
swap true true = refl
swap true false = refl
swap false true = refl
swap false false = refl

bool : (P : Bool → Type 0) (x : Bool) → P true → P false → P x
bool P true h g = h
bool P false h g = g

bool_e : (P : Bool → Type 0) (x : Bool) → (x ≡ true → P true) → (x ≡ false → P false) → P x
bool_e P true h g = h refl
bool_e P false h g = g refl

not-or : (x : Bool) → (not x || false) ≡ true → x ≡ false
not-or true h = absurd (false≢true h)
not-or false h = refl

module _ (N : Names) (w : Switches) (l : Bool) (c : Ctx) (st sl o a n : ℕ) (i T : Rows) (f : fits sl st ≡ true) where
  Calm : ℕ → Type 0
  Calm m = (eqb m 2 || eqb m 1) ≡ true

  -- the kinds that close frames
  program_sound : (new : Bool) → Sound st sl 0 new false false i T (act N w l c sl o 0 a n i)
  unfolding act act_of kind_of Tells scan_of Calm
  program_sound new =
      record {
        tells = (no_met st 0 T refl, no_direct st 0 T refl);
        one = any_free _;
        more = any_free _;
        begins = begun_row new st 0 a n false i;
        calm = λ h. pick Calm (eqb st 2 || false) 2 _ refl (pick Calm (eqb st 3) 1 _ refl (pick Calm (eqb st 6) 2 1 refl refl));
        late = λ h e. rw (late-body sl st e f);
      }

  static_sound : (new : Bool) → Sound st sl 23 new false false i T (act N w l c sl o 23 a n i)
  unfolding act act_of kind_of Tells scan_of Calm
  static_sound new =
      record {
        tells = (no_met st 23 T refl, no_direct st 23 T refl);
        one = any_free _;
        more = any_free _;
        begins = begun_row new st 23 a n false i;
        calm = λ h. pick Calm (eqb st 2 || false) 2 _ refl (pick Calm (eqb st 3) 1 _ refl (pick Calm (eqb st 6) 2 2 refl refl));
        late = λ h e. rw (late-body sl st e f);
      }

  body_sound : (new : Bool) → Sound st sl 19 new false false i T (act N w l c sl o 19 a n i)
  unfolding act act_of kind_of Tells scan_of closes
  body_sound new =
      record {
        tells = (no_met st 19 T refl, no_direct st 19 T refl);
        one = any_free _;
        more = any_free _;
        begins = begun_row new st 19 a n false i;
        calm = λ h. rw (fits_body sl st h f);
        late = λ h e. rw (late-body sl st e f);
      }

  -- a Call, an ExprStmt, a Function
  call_sound : (new : Bool) → first_super T ≡ first_super i → Sound st sl 14 new (met_of st 14 (first_super i)) false i T (act N w l c sl o 14 a n i)
  unfolding act act_of kind_of Tells closes met_of is_met
  call_sound new e =
      record {
        tells = (rw e (swap (eqb st 1 || eqb st 4 || eqb st 5) (first_super i)), no_direct st 14 T refl);
        one = pick (λ (s : ℕ). Any s) (c.takes_super && first_access i) 6 0 any_callee any_free _;
        more = any_free _;
        begins = begun_row new st 14 a n _ i;
        calm = λ h. absurd (false≢true h);
        late = λ h e. absurd (false≢true h);
      }

  statement_begins : (new y : Bool) → super_call i ≡ y → begun (cond new list (scan_of st false (y && eqb st 0) (row 1 a n))) i ≡ true
  statement_begins new true e = begun_call _ i e
  statement_begins new false e = begun_row new st 1 a n false i

  statement_sound : (new : Bool) → super_call T ≡ super_call i → Sound st sl 1 new false (direct_of st 1 (super_call i)) i T (act N w l c sl o 1 a n i)
  unfolding act act_of kind_of Tells closes direct_of is_direct
  statement_sound new e =
      record {
        tells = (no_met st 1 T refl, rw e (swap (eqb st 0) (super_call i)));
        one = any_free _;
        more = any_free _;
        begins = statement_begins new (super_call i) refl;
        calm = λ h. absurd (false≢true h);
        late = λ h e. absurd (false≢true h);
      }

  in_function : eqb st 3 ≡ false → scan_of st false false (row 17 a n) ≡ 2
  unfolding scan_of
  in_function e = rw e (pick (λ (m : ℕ). m ≡ 2) (eqb st 2 || false) 2 _ refl (pick (λ (m : ℕ). m ≡ 2) (eqb st 6) 2 2 refl refl))

  function_sound : eqb st 3 ≡ false → Sound st sl 17 false false false i T (act N w l c sl o 17 a n i)
  unfolding act act_of kind_of Tells closes
  function_sound e =
      record {
        tells = (no_met st 17 T refl, no_direct st 17 T refl);
        one = any_free _;
        more = rw (in_function e) (fits-copy _);
        begins = begun_row false st 17 a n false i;
        calm = λ h. absurd (false≢true h);
        late = λ h e. absurd (false≢true h);
      }

  -- every other kind
  module _ (k : ℕ) (e14 : eqb k 14 ≡ false) (e1 : eqb k 1 ≡ false) (shut : closes sl k ≡ false) where
    Holds : Act → Type 0
    Holds A = Sound st sl k false false false i T A

    stays : (k' a' n' : ℕ) (t t' : Step) (s s' : ℕ) → eqb k' 14 ≡ false → eqb k' 1 ≡ false → Any s → Any s' → Holds (does (row k' a' n') (by t s) (by t' s'))
    unfolding Holds Tells
    stays k' a' n' t t' s s' e e' g g' =
        record {
          tells = (no_met st k' T e, no_direct st k' T e');
          one = g _;
          more = g' _;
          begins = begun_row false st k' a' n' false i;
          calm = λ h. absurd (false≢true (sym shut ∙ h));
          late = λ h e. absurd (false≢true (sym shut ∙ h));
        }

    kept : (t t' : Step) (s s' : ℕ) → Any s → Any s' → Holds (does (row k a n) (by t s) (by t' s'))
    kept t t' s s' g g' = stays k a n t t' s s' e14 e1 g g'

    names : (u r : ℕ) → Holds (does (name u r) (by along 0) (by along 0))
    unfolding Holds Tells scan_of
    names u r = record { tells = (refl, refl); one = any_free _; more = any_free _; begins = begun-at 2 i refl; calm = λ h. refl; late = λ h e. refl }

    calls : (u r x : ℕ) (t : Bool) → Holds (does (call u r x t) (by along 7) (by along 0))
    unfolding Holds Tells scan_of
    calls u r x t =
        record {
          tells = (refl, refl);
          one = fits-within st;
          more = any_free _;
          begins = steady-begun (within st) i (within_calm st);
          calm = λ h. absurd (false≢true (sym shut ∙ h));
          late = λ h e. absurd (false≢true (sym shut ∙ h));
        }

    drops : eqb sl 7 ≡ true → (s : ℕ) → fits s st ≡ true → Holds (does drop (by along s) (by along 0))
    unfolding Holds Tells scan_of
    drops e s g =
        record {
          tells = (refl, refl, fits-drop sl st e f);
          one = g;
          more = any_free _;
          begins = steady-begun st i (fits-drop sl st e f);
          calm = λ h. absurd (false≢true (sym shut ∙ h));
          late = λ h e. absurd (false≢true (sym shut ∙ h));
        }

    dropped-fits : eqb sl 7 ≡ true → fits 7 st ≡ true
    dropped-fits e = rw (eqb-eq sl 7 e) at f

    does-this : Holds (act_of N w l c sl o this k a n i)
    unfolding act_of
    does-this = bool (λ (x : Bool). Holds (does (cond x (name 1 c.this_at) (row k a n)) (by along 0) (by along 0))) c.takes_this (names 1 c.this_at) (kept along along 0 0 any_free any_free)

    does-super : Holds (act_of N w l c sl o super k a n i)
    unfolding act_of
    does-super = bool_e (λ (x : Bool). Holds (does (cond x drop (row k a n)) (by along 0) (by along 0))) (eqb sl 7) (λ e. drops e 0 (any_free st)) (λ e. kept along along 0 0 any_free any_free)

    does-ident : Holds (act_of N w l c sl o ident k a n i)
    unfolding act_of
    does-ident = bool (λ (x : Bool). Holds (does (cond x (name 2 c.arguments_at) (row k a n)) (by along 0) (by along 0))) (async_only w && named_arguments N n && c.takes_arguments) (names 2 c.arguments_at) (kept along along 0 0 any_free any_free)

    does-access : Holds (act_of N w l c sl o access k a n i)
    unfolding act_of
    does-access =
        bool (λ (x : Bool). Holds (does (cond x (cond (eqb sl 7) drop (call 3 c.super_at n (eqb sl 6))) (row k a n)) (by along (cond x 7 0)) (by along 0))) (reads? c sl i)
        (bool_e (λ (x : Bool). Holds (does (cond x drop (call 3 c.super_at n (eqb sl 6))) (by along 7) (by along 0))) (eqb sl 7) (λ e. drops e 7 (dropped-fits e)) (λ e. calls 3 c.super_at n (eqb sl 6)))
        (kept along along 0 0 any_free any_free)

    does_call : Holds (act_of N w l c sl o Kind.call k a n i)
    unfolding act_of
    does_call = kept along along _ 0 (pick (λ (s : ℕ). Any s) (c.takes_super && first_access i) 6 0 any_callee any_free) any_free

    does-assign : Holds (act_of N w l c sl o assign k a n i)
    unfolding act_of
    does-assign =
        bool (λ (x : Bool). Holds (does (cond x (call 4 c.super_at (first_name (first_inside i)) false) (row k a n)) (by along (cond x 7 0)) (by along 0))) (sets? c i)
        (calls 4 c.super_at (first_name (first_inside i)) false)
        (kept along along 0 0 any_free any_free)

    arrow-slot : Any (cond (to_function? w a && bit 2 a) 4 0)
    arrow-slot = pick (λ (s : ℕ). Any s) (to_function? w a && bit 2 a) 4 0 any_wrapped any_free

    does-arrow : Holds (act_of N w l c sl o arrow k a n i)
    unfolding act_of
    does-arrow =
        bool (λ (x : Bool). Holds (does (cond x (row 17 0 0) (row k a n)) (by (in_arrow a) 0) (by (in_arrow a) (cond (to_function? w a && bit 2 a) 4 0)))) (to_function? w a)
        (stays 17 0 0 (in_arrow a) (in_arrow a) 0 _ refl refl any_free arrow-slot)
        (kept (in_arrow a) (in_arrow a) 0 _ any_free arrow-slot)

    method-slot : Any (method_slot k a)
    method-slot = pick (λ (s : ℕ). Any s) (eqb k 21 || bit 2 a) 1 0 any_method any_free

    does-keyed : Holds (act_of N w l c sl o keyed k a n i)
    unfolding act_of
    does-keyed = kept along along _ (method_slot k a) (pick (λ (s : ℕ). Any s) (bit 1 a) 0 (method_slot k a) any_free method-slot) method-slot

    does-field : Holds (act_of N w l c sl o field k a n i)
    unfolding act_of
    does-field = kept (cond (bit 1 a) along (in_value o)) (in_value o) 0 0 any_free any_free

    does-static : Holds (act_of N w l c sl o static k a n i)
    unfolding act_of
    does-static = kept _ _ 0 0 any_free any_free

    does-target : Holds (act_of N w l c sl o target k a n i)
    unfolding act_of
    does-target =
        bool_e (λ (x : Bool). Holds (does (cond x drop (row k a n)) (by along (cond x 7 5)) (by along 0))) (eqb sl 7)
        (λ e. drops e 7 (dropped-fits e)) (λ e. kept along along 5 0 any_target any_free)

    does-other : Holds (act_of N w l c sl o other k a n i)
    unfolding act_of
    does-other = kept along along 0 0 any_free any_free

    pick_k : (x : Bool) (K R : Kind) → Holds (act_of N w l c sl o K k a n i) → Holds (act_of N w l c sl o R k a n i) → Holds (act_of N w l c sl o (cond x K R) k a n i)
    pick_k true K R h g = h
    pick_k false K R h g = g

    rest-sound : eqb k 17 ≡ false → Holds (act N w l c sl o k a n i)
    unfolding act kind_of
    rest-sound e17 =
        rw (e14, e17)
        (pick_k (eqb k 9) this _ does-this
        (pick_k (eqb k 10) super _ does-super
        (pick_k (eqb k 11) ident _ does-ident
        (pick_k (eqb k 12 || eqb k 13) access _ does-access
        (pick_k (eqb k 15) assign _ does-assign
        (pick_k (eqb k 16) arrow _ does-arrow
        (pick_k (eqb k 21 || eqb k 25) keyed _ does-keyed
        (pick_k (eqb k 22) field _ does-field
        (pick_k (eqb k 23) static _ does-static
        (pick_k (eqb k 28) target other does-target does-other))))))))))

-- of every row in a state and slot that occur; m is the number of the frame's captured `this`
no_close : (sl k : ℕ) → eqb k 0 ≡ false → eqb k 19 ≡ false → eqb k 23 ≡ false → closes sl k ≡ false
unfolding closes
no_close sl k e0 e19 e23 = rw (e0, e19, e23)

not-direct : (st a n : ℕ) (i s : Rows) → begun st (node 17 a n i s) ≡ true → eqb st 3 ≡ false
unfolding begun super_call
not-direct st a n i s h = not-or (eqb st 3) h

module _ (N : Names) (w : Switches) (l : Bool) (c : Ctx) (st sl o a n m : ℕ) (i s : Rows) (T : ℕ → Rows) (f : fits sl st ≡ true) where
  Row : ℕ → Type 0
  Row k = begun st (node k a n i s) ≡ true → Sound st sl k (anew sl k m) (met_of st k (first_super i)) (direct_of st k (super_call i)) i (T k) (act N w l c sl o k a n i)

  rest_row : (k : ℕ) → eqb k 0 ≡ false → eqb k 19 ≡ false → eqb k 23 ≡ false → eqb k 14 ≡ false → eqb k 1 ≡ false → eqb k 17 ≡ false → Row k
  unfolding Row Holds anew met_of direct_of
  rest_row k e0 e19 e23 e14 e1 e17 h = rw (no_close sl k e0 e19 e23, e14, e1) (rest-sound N w l c st sl o a n i (T k) f k e14 e1 (no_close sl k e0 e19 e23) e17)

  program_row : Row 0
  unfolding Row met_of direct_of
  program_row h = program_sound N w l c st sl o a n i (T 0) f (anew sl 0 m)

  body-row : Row 19
  unfolding Row met_of direct_of
  body-row h = body_sound N w l c st sl o a n i (T 19) f (anew sl 19 m)

  static_row : Row 23
  unfolding Row met_of direct_of
  static_row h = static_sound N w l c st sl o a n i (T 23) f (anew sl 23 m)

  call_row : first_super (T 14) ≡ first_super i → Row 14
  unfolding Row direct_of
  call_row e h = call_sound N w l c st sl o a n i (T 14) f (anew sl 14 m) e

  statement_row : super_call (T 1) ≡ super_call i → Row 1
  unfolding Row met_of
  statement_row e h = statement_sound N w l c st sl o a n i (T 1) f (anew sl 1 m) e

  function_row : Row 17
  unfolding Row met_of direct_of anew closes
  function_row h = function_sound N w l c st sl o a n i (T 17) f (not-direct st a n i s h)

  pub sound : (k : ℕ) → first_super (T 14) ≡ first_super i → super_call (T 1) ≡ super_call i
      → begun st (node k a n i s) ≡ true → Sound st sl k (anew sl k m) (met_of st k (first_super i)) (direct_of st k (super_call i)) i (T k) (act N w l c sl o k a n i)
  unfolding Row
  sound k e e' =
      at Row 0 k program_row (λ e0. at Row 19 k body-row (λ e19. at Row 23 k static_row (λ e23. at Row 14 k (call_row e) (λ e14. at Row 1 k (statement_row e') (λ e1. at Row 17 k function_row (λ e17. rest_row k e0 e19 e23 e14 e1 e17))))))
