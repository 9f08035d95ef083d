-- With arrows on and both async switches off, what is done with a row. Assumes nothing.
use mathlib.Core.Path.{◌≡◌, refl, sym, subst}
use mathlib.Core.List.{List}
use Prim.Native.Nat.{ℕ}
use mathlib.Core.Bool.{Bool, true, false, cond, not, ◌&&◌, ◌||◌, false≢true}
use lib.Dec.{eqb}
use Rattle.steps.specs.Paths.{Step, Step.along, Step.in_params, Step.in_body, Step.in_arrow, Step.in_value, Step.in_static}
use Rattle.steps.specs.Mode.{bit, enabled, async_only, moved_function}
use Rattle.steps.specs.Naming.{Names}
use Rattle.steps.specs.Bindings.{Binding, number, note}
use Rattle.steps.specs.Acts.{Ctx, Turn, Op.row, Op.name, Kind, Kind.this, Kind.super, Kind.ident, Kind.access, Kind.assign, Kind.arrow, Kind.function, Kind.keyed, Kind.field, Kind.static, Kind.target, Kind.other, kind_of, method_slot, act_of, act}
use Rattle.steps.specs.ArrowToFunction.{to_function?}
use Rattle.steps.specs.Walk.{build}
use Rattle.steps.specs.Slots.{body_of, late_body, dropped}
use Rattle.steps.specs.Context.{enter, Spot, into}
use Rattle.steps.proofs.Credit.{eqb-eq}
use Rattle.steps.specs.Owners.{arrows_on}
use Rattle.forest.specs.Forest.{Rows, Rows.none, Rows.node}
use Rattle.names.proofs.Bools.{pick}

-- The kinds by number: five of them, and the rest.
pub record Dull (k : ℕ) : Type 0 where
  pub n0 : eqb k 0 ≡ false
  pub n9 : eqb k 9 ≡ false
  pub n16 : eqb k 16 ≡ false
  pub n17 : eqb k 17 ≡ false
  pub n22 : eqb k 22 ≡ false
  pub n23 : eqb k 23 ≡ false

pub at : (P : ℕ → Type 0) (m k : ℕ) → P m → (eqb k m ≡ false → P k) → P k
at P m k p d = go (eqb k m) refl
  where
    go : (x : Bool) → eqb k m ≡ x → P k
    go true e = subst P (sym (eqb-eq k m e)) p
    go false e = d e

pub kinds : (P : ℕ → Type 0) → P 9 → P 16 → P 17 → P 22 → P 23 → ((k : ℕ) → Dull k → P k) → (k : ℕ) → eqb k 0 ≡ false → P k
kinds P t r f v s d k z =
    at P 9 k t (λ e9. at P 16 k r (λ e16. at P 17 k f (λ e17. at P 22 k v (λ e22. at P 23 k s (λ e23. d k (record { n0 = z; n9 = e9; n16 = e16; n17 = e17; n22 = e22; n23 = e23 }))))))

unfoldable pub quiet : Kind → Bool
quiet this = false
quiet super = true
quiet ident = true
quiet access = true
quiet Kind.call = true
quiet assign = true
quiet arrow = false
quiet function = false
quiet keyed = true
quiet field = false
quiet static = false
quiet target = true
quiet other = true

skip : (x : Bool) (K R : Kind) → quiet K ≡ true → quiet R ≡ true → quiet (cond x K R) ≡ true
skip true K R p q = p
skip false K R p q = q

pub dull_quiet : (k : ℕ) → Dull k → quiet (kind_of k) ≡ true
unfolding kind_of quiet
dull_quiet k d = rw (d.n9, d.n16, d.n17, d.n22, d.n23)
    (skip (eqb k 10) super _ refl (skip (eqb k 11) ident _ refl (skip (eqb k 12 || eqb k 13) access _ refl
    (skip (eqb k 14) Kind.call _ refl (skip (eqb k 15) assign _ refl (skip (eqb k 21 || eqb k 25) keyed _ refl (skip (eqb k 28) target other refl refl)))))))

-- The switches.
and-off : (x y : Bool) → (x && cond y false false) ≡ false
and-off true true = refl
and-off true false = refl
and-off false y = refl

pub moved_off : (a : ℕ) → moved_function arrows_on a ≡ false
unfolding moved_function
moved_off a = and-off (bit 1 a) (bit 2 a)

cond-off : (m x y : Bool) → x ≡ false → y ≡ false → cond m x y ≡ false
cond-off true x y p q = p
cond-off false x y p q = q

super_off : (c : Ctx) → c.takes_super ≡ false → (s : Step) → (enter arrows_on s c).takes_super ≡ false
unfolding enter async_only
super_off c h along = h
super_off c h (in_params r a m) = cond-off m _ _ (moved_off a) h
super_off c h (in_body r a m) = cond-off m _ _ (moved_off a) h
super_off c h (in_arrow a) = h
super_off c h (in_value r) = h
super_off c h (in_static r) = h

-- places that occur with arrows on and the async switches off
pub record Usual (q : Spot) : Type 0 where
  pub no_super : q.ctx.takes_super ≡ false
  pub no_drop : eqb q.slot dropped ≡ false
  pub on_time : eqb q.slot late_body ≡ false
  pub stays : eqb q.slot body_of ≡ true → q.ctx.takes_this ≡ false

module _ (N : Names) (q : Spot) (U : Usual q) (o k a n : ℕ) (i : Rows) where
  abbrev c : Ctx
  c = q.ctx

  abbrev sl : ℕ
  sl = q.slot

  op_quiet : (K : Kind) → quiet K ≡ true → (act_of N arrows_on false c sl o K k a n i).op ≡ row k a n
  unfolding act_of quiet async_only
  op_quiet this e = absurd (false≢true e)
  op_quiet super e = rw U.no_drop
  op_quiet ident e = refl
  op_quiet access e = rw U.no_super
  op_quiet Kind.call e = refl
  op_quiet assign e = rw U.no_super
  op_quiet arrow e = absurd (false≢true e)
  op_quiet function e = absurd (false≢true e)
  op_quiet keyed e = refl
  op_quiet field e = absurd (false≢true e)
  op_quiet static e = absurd (false≢true e)
  op_quiet target e = rw U.no_drop
  op_quiet other e = refl

  one-quiet : (K : Kind) → quiet K ≡ true → (act_of N arrows_on false c sl o K k a n i).one.step ≡ along
  unfolding act_of quiet
  one-quiet this e = refl
  one-quiet super e = refl
  one-quiet ident e = refl
  one-quiet access e = refl
  one-quiet Kind.call e = refl
  one-quiet assign e = refl
  one-quiet arrow e = absurd (false≢true e)
  one-quiet function e = absurd (false≢true e)
  one-quiet keyed e = refl
  one-quiet field e = absurd (false≢true e)
  one-quiet static e = absurd (false≢true e)
  one-quiet target e = refl
  one-quiet other e = refl

  more-quiet : (K : Kind) → quiet K ≡ true → (act_of N arrows_on false c sl o K k a n i).more.step ≡ along
  unfolding act_of quiet
  more-quiet this e = refl
  more-quiet super e = refl
  more-quiet ident e = refl
  more-quiet access e = refl
  more-quiet Kind.call e = refl
  more-quiet assign e = refl
  more-quiet arrow e = absurd (false≢true e)
  more-quiet function e = absurd (false≢true e)
  more-quiet keyed e = refl
  more-quiet field e = absurd (false≢true e)
  more-quiet static e = absurd (false≢true e)
  more-quiet target e = refl
  more-quiet other e = refl

  -- the slots of children
  slot_one : (P : ℕ → Type 0) → P 0 → P 1 → P 5 → (K : Kind) → P (act_of N arrows_on false c sl o K k a n i).one.slot
  unfolding act_of
  slot_one P fr me ta this = fr
  slot_one P fr me ta super = fr
  slot_one P fr me ta ident = fr
  slot_one P fr me ta access = rw U.no_super fr
  slot_one P fr me ta Kind.call = rw U.no_super fr
  slot_one P fr me ta assign = rw U.no_super fr
  slot_one P fr me ta arrow = fr
  slot_one P fr me ta function = fr
  slot_one P fr me ta keyed = pick P (bit 1 a) 0 (method_slot k a) fr (pick P (eqb k 21 || bit 2 a) 1 0 me fr)
  slot_one P fr me ta field = fr
  slot_one P fr me ta static = fr
  slot_one P fr me ta target = rw U.no_drop ta
  slot_one P fr me ta other = fr

  slot_more : (P : ℕ → Type 0) → P 0 → P 1 → P 2 → P 4 → (K : Kind) → P (act_of N arrows_on false c sl o K k a n i).more.slot
  unfolding act_of
  slot_more P fr me bo wr this = fr
  slot_more P fr me bo wr super = fr
  slot_more P fr me bo wr ident = fr
  slot_more P fr me bo wr access = fr
  slot_more P fr me bo wr Kind.call = fr
  slot_more P fr me bo wr assign = fr
  slot_more P fr me bo wr arrow = pick P (to_function? arrows_on a && bit 2 a) 4 0 wr fr
  slot_more P fr me bo wr function = bo
  slot_more P fr me bo wr keyed = pick P (eqb k 21 || bit 2 a) 1 0 me fr
  slot_more P fr me bo wr field = fr
  slot_more P fr me bo wr static = fr
  slot_more P fr me bo wr target = fr
  slot_more P fr me bo wr other = fr

  abbrev one : Turn
  one = (act N arrows_on false c sl o k a n i).one

  abbrev more : Turn
  more = (act N arrows_on false c sl o k a n i).more

  pub one_slot : (P : ℕ → Type 0) → P 0 → P 1 → P 5 → P one.slot
  unfolding act
  one_slot P fr me ta = slot_one P fr me ta (kind_of k)

  pub more_slot : (P : ℕ → Type 0) → P 0 → P 1 → P 2 → P 4 → P more.slot
  unfolding act
  more_slot P fr me bo wr = slot_more P fr me bo wr (kind_of k)

  pub dull_op : Dull k → (act N arrows_on false c sl o k a n i).op ≡ row k a n
  unfolding act
  dull_op d = op_quiet (kind_of k) (dull_quiet k d)

  pub dull_one : Dull k → one.step ≡ along
  unfolding act
  dull_one d = one-quiet (kind_of k) (dull_quiet k d)

  pub dull_more : Dull k → more.step ≡ along
  unfolding act
  dull_more d = more-quiet (kind_of k) (dull_quiet k d)

  -- only a Function's Body is at body_of
  body_slot : (K : Kind) → eqb (act_of N arrows_on false c sl o K k a n i).more.slot body_of ≡ true → (enter arrows_on (act_of N arrows_on false c sl o K k a n i).more.step c).takes_this ≡ false
  unfolding act_of enter
  body_slot this e = absurd (false≢true e)
  body_slot super e = absurd (false≢true e)
  body_slot ident e = absurd (false≢true e)
  body_slot access e = absurd (false≢true e)
  body_slot Kind.call e = absurd (false≢true e)
  body_slot assign e = absurd (false≢true e)
  body_slot arrow e = absurd (pick (λ (s : ℕ). eqb s body_of ≡ true → ⊥) (to_function? arrows_on a && bit 2 a) 4 0 false≢true false≢true e)
  body_slot function e = rw (moved_off a)
  body_slot keyed e = absurd (pick (λ (s : ℕ). eqb s body_of ≡ true → ⊥) (eqb k 21 || bit 2 a) 1 0 false≢true false≢true e)
  body_slot field e = refl
  body_slot static e = refl
  body_slot target e = absurd (false≢true e)
  body_slot other e = absurd (false≢true e)

  pub usual_one : Usual (into arrows_on q one)
  usual_one = record {
    no_super = super_off c U.no_super one.step;
    no_drop = one_slot (λ (s : ℕ). eqb s dropped ≡ false) refl refl refl;
    on_time = one_slot (λ (s : ℕ). eqb s late_body ≡ false) refl refl refl;
    stays = λ e. absurd (one_slot (λ (s : ℕ). eqb s body_of ≡ true → ⊥) false≢true false≢true false≢true e);
  }

  pub usual_more : Usual (into arrows_on q more)
  unfolding act
  usual_more = record {
    no_super = super_off c U.no_super more.step;
    no_drop = more_slot (λ (s : ℕ). eqb s dropped ≡ false) refl refl refl refl;
    on_time = more_slot (λ (s : ℕ). eqb s late_body ≡ false) refl refl refl refl;
    stays = body_slot (kind_of k);
  }

-- What a row becomes.
unfoldable pub new_kind : Ctx → ℕ → ℕ → ℕ
new_kind c k a = cond (eqb k 9) (cond c.takes_this 11 9) (cond (eqb k 16) (cond (bit 1 a) 16 17) k)

unfoldable pub new_attr : Ctx → ℕ → ℕ → ℕ
new_attr c k a = cond (eqb k 9) (cond c.takes_this 1 a) (cond (eqb k 16) (cond (bit 1 a) a 0) a)

unfoldable pub new_name : Names → List Binding → Ctx → ℕ → ℕ → ℕ → ℕ
new_name N bs c k a n = cond (eqb k 9) (cond c.takes_this (number N bs 1 c.this_at 0) n) (cond (eqb k 16) (cond (bit 1 a) n 0) n)

unfoldable pub meet_e : Names → Ctx → ℕ → List Binding → List Binding
meet_e N c k bs = cond (eqb k 9) (cond c.takes_this (note N 1 c.this_at 0 bs) bs) bs

module _ (N : Names) (bs : List Binding) (q : Spot) (U : Usual q) (o a n : ℕ) (i I S : Rows) where
  abbrev pub Built : ℕ → Type 0
  Built k = (eqb k 9 ≡ true → I ≡ none) →
      build N bs q.ctx (act N arrows_on false q.ctx q.slot o k a n i).op I S ≡ node (new_kind q.ctx k a) (new_attr q.ctx k a) (new_name N bs q.ctx k a n) I S

  built_this : (x : Bool) → I ≡ none →
      build N bs q.ctx (cond x (name 1 q.ctx.this_at) (row 9 a n)) I S ≡ node (cond x 11 9) (cond x 1 a) (cond x (number N bs 1 q.ctx.this_at 0) n) I S
  unfolding build
  built_this true e = rw e
  built_this false e = refl

  built_arrow : (x : Bool) → build N bs q.ctx (cond (not x) (row 17 0 0) (row 16 a n)) I S ≡ node (cond x 16 17) (cond x a 0) (cond x n 0) I S
  unfolding build
  built_arrow true = refl
  built_arrow false = refl

  pub built : (k : ℕ) → eqb k 0 ≡ false → Built k
  unfolding new_kind new_attr new_name act act_of kind_of build enabled
  built = kinds Built (λ e. built_this q.ctx.takes_this (e refl)) (λ e. built_arrow (bit 1 a)) (λ e. refl) (λ e. refl) (λ e. refl)
      (λ k d e. rw (dull_op N q U o k a n i d, d.n9, d.n16))
