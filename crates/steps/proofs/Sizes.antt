-- How many rows what is put in adds. Assumes nothing.
use mathlib.Core.Path.{◌≡◌, refl, ◌∙◌, sym, subst}
use mathlib.Core.List.{List, [], ◌∷◌}
use Prim.Native.Nat.{ℕ, suc, ◌+◌, ◌*◌, ◌≤◌, ◌<◌}
use mathlib.Core.Bool.{Bool, true, false, cond, not, ◌&&◌, ◌||◌, true≢false, false≢true}
use lib.Dec.{eqb, ltb, ltb→lt, lt→ltb, T}
use lib.ListN.{length}
use native.Mathlib.Omega.{arith}
use Rattle.steps.specs.Joining.{join}
use Rattle.steps.specs.Mode.{bit}
use Rattle.steps.specs.Naming.{Names}
use Rattle.steps.specs.Bindings.{Binding, Binding.bind, number}
use Rattle.steps.specs.Acts.{Ctx, Op, Op.row, Op.drop, Op.name}
use Rattle.steps.specs.Walk.{build}
use Rattle.steps.specs.Super.{first_super}
use Rattle.steps.specs.AfterSuper.{super_call, is_direct, is_met, scan_inner, scan_next, assignment, after_super, list, visit, copy, direct, once, heritage, members}
use Rattle.steps.specs.TopInsertion.{head_n, past_prop, past, access_row, accessor, accessor_decls, arguments_decl, this_decl, param_numbers, var_first, frame_top}
use Rattle.steps.specs.ArrowToFunction.{dress}
use Rattle.steps.specs.Slots.{wrapped}
use Rattle.steps.proofs.Credit.{eqb-eq}
use Rattle.steps.proofs.Fewer.{and_no}
use Rattle.forest.specs.Forest.{Rows, Rows.none, Rows.node, size}
use Rattle.names.proofs.Bools.{and_left, and_right, pick}

-- Supers outside of Functions and StaticBlocks: each can be followed by one assignment of five rows.
unfoldable pub supers : Rows → ℕ
supers none = 0
supers (node k a n i s) = cond (eqb k 10) 1 0 + cond (eqb k 17 || eqb k 23) 0 (supers i) + supers s

abbrev pub vol : Rows → ℕ
vol r = size r + 5 * supers r

after-copy : (b : ℕ) (r : Rows) → after_super b copy r ≡ r
unfolding after_super is_met is_direct scan_inner scan_next
after-copy b none = refl
after-copy b (node k a n i s) = rw (after-copy b i, after-copy b s)

abbrev pub Else : ℕ → Type 0
Else sc = eqb sc direct ≡ false

next_else : (sc k : ℕ) (i : Rows) → Else sc → Else (scan_next sc k i)
unfolding scan_next
next_else sc k i e = pick Else (eqb sc heritage) 6 (cond (eqb sc once || eqb sc direct || is_direct sc k i) 2 sc) refl (pick Else (eqb sc once || eqb sc direct || is_direct sc k i) 2 sc refl e)

unfoldable deep : ℕ → ℕ → ℕ → ℕ
deep sc k a =
    cond (eqb sc members) (cond ((eqb k 21 || eqb k 22) && bit 1 a) once copy)
    (cond (eqb k 5 || eqb k 19) list (cond (eqb k 17 || eqb k 23) copy (cond (eqb k 20) (cond (bit 1 a) heritage members) visit)))

deep_else : (sc k a : ℕ) → Else (deep sc k a)
unfolding deep
deep_else sc k a =
    let t₄ = pick Else (bit 1 a) 5 6 refl refl in
    let t₃ = pick Else (eqb k 20) (cond (bit 1 a) 5 6) 1 t₄ refl in
    let t₂ = pick Else (eqb k 17 || eqb k 23) 2 (cond (eqb k 20) (cond (bit 1 a) 5 6) 1) refl t₃ in
    let t₁ = pick Else (eqb k 5 || eqb k 19) 0 (cond (eqb k 17 || eqb k 23) 2 (cond (eqb k 20) (cond (bit 1 a) 5 6) 1)) refl t₂ in
    pick Else (eqb sc members) (cond ((eqb k 21 || eqb k 22) && bit 1 a) 4 2) (cond (eqb k 5 || eqb k 19) 0 (cond (eqb k 17 || eqb k 23) 2 (cond (eqb k 20) (cond (bit 1 a) 5 6) 1)))
    (pick Else ((eqb k 21 || eqb k 22) && bit 1 a) 4 2 refl refl) t₁

inner_else : (sc k a : ℕ) (i : Rows) → Else sc → is_direct sc k i ≡ false → Else (scan_inner sc k a i)
unfolding scan_inner deep
inner_else sc k a i e d = rw (e, d) (pick Else (eqb sc copy || is_met sc k i) 2 (deep sc k a) refl (deep_else sc k a))

inner_shut : (sc k a : ℕ) (i : Rows) → Else sc → (eqb k 17 || eqb k 23) ≡ true → scan_inner sc k a i ≡ copy
inner_shut sc k a i e h = go (eqb k 17) refl
  where
    Shut : ℕ → Type 0
    Shut k = scan_inner sc k a i ≡ copy

    base : (m : ℕ) → eqb m 1 ≡ false → eqb m 21 ≡ false → eqb m 22 ≡ false → eqb m 5 ≡ false → eqb m 19 ≡ false → (eqb m 17 || eqb m 23) ≡ true → scan_inner sc m a i ≡ copy
    base m e₁ e₂ e₃ e₄ e₅ e₆ = unfold scan_inner is_direct in
        rw (e, e₁, e₂, e₃, e₄, e₅, e₆, and_no (eqb sc list))
        (pick (λ (s : ℕ). s ≡ copy) (eqb sc copy || is_met sc m i) 2 (cond (eqb sc members) 2 2) refl (pick (λ (s : ℕ). s ≡ copy) (eqb sc members) 2 2 refl refl))

    go : (x : Bool) → eqb k 17 ≡ x → scan_inner sc k a i ≡ copy
    go true d = rw (eqb-eq k 17 d) (base 17 refl refl refl refl refl refl)
    go false d = rw (eqb-eq k 23 (rw d at h)) (base 23 refl refl refl refl refl refl)

first_counts : (r : Rows) → first_super r ≡ true → 1 ≤ supers r
unfolding first_super supers
first_counts none e = absurd (false≢true e)
first_counts (node k a n i s) e = rw e (omega arith)

pub record After (b : ℕ) (r : Rows) : Type 0 where
  pub any : (sc : ℕ) → Else sc → size (after_super b sc r) ≤ vol r
  pub sup : first_super r ≡ true → (sc : ℕ) → Else sc → size (after_super b sc r) + 5 ≤ vol r
  pub dir : super_call r ≡ true → size (after_super b direct r) + 5 ≤ vol r

module _ (b k a n : ℕ) (i s : Rows) (I : After b i) (S : After b s) where
  abbrev kept : ℕ
  kept = cond (eqb k 17 || eqb k 23) 0 (supers i)

  inner : (sc : ℕ) → Else sc → is_direct sc k i ≡ false → size (after_super b (scan_inner sc k a i) i) ≤ size i + 5 * kept
  inner sc e d = go (eqb k 17 || eqb k 23) refl
    where
      go : (x : Bool) → (eqb k 17 || eqb k 23) ≡ x → size (after_super b (scan_inner sc k a i) i) ≤ size i + 5 * cond x 0 (supers i)
      go true h = rw (inner_shut sc k a i e h, after-copy b i) (omega arith)
      go false h = I.any (scan_inner sc k a i) (inner_else sc k a i e d)

  next : (sc : ℕ) → Else sc → size (after_super b (scan_next sc k i) s) ≤ vol s
  next sc e = S.any (scan_next sc k i) (next_else sc k i e)

or-true : (x : Bool) → (x || true) ≡ true
or-true true = refl
or-true false = refl

met_inner : (sc k a : ℕ) (i : Rows) → is_met sc k i ≡ true → scan_inner sc k a i ≡ copy
unfolding scan_inner
met_inner sc k a i m = rw (m, or-true (eqb sc copy))

direct_inner : (sc k a : ℕ) (i : Rows) → is_met sc k i ≡ false → is_direct sc k i ≡ true → sc ≡ 0 → scan_inner sc k a i ≡ direct
unfolding scan_inner
direct_inner sc k a i m d z = rw (m, d, z)

met_kind : (sc k : ℕ) (i : Rows) → is_met sc k i ≡ true → eqb k 14 ≡ true
unfolding is_met
met_kind sc k i m = and_right (eqb sc visit || eqb sc once || eqb sc heritage) (eqb k 14) (and_left _ (first_super i) m)

met_super : (sc k : ℕ) (i : Rows) → is_met sc k i ≡ true → first_super i ≡ true
unfolding is_met
met_super sc k i m = and_right ((eqb sc visit || eqb sc once || eqb sc heritage) && eqb k 14) (first_super i) m

direct-scan : (sc k : ℕ) (i : Rows) → is_direct sc k i ≡ true → eqb sc list ≡ true
unfolding is_direct
direct-scan sc k i d = and_left (eqb sc list) (eqb k 1) (and_left _ (super_call i) d)

direct_kind : (sc k : ℕ) (i : Rows) → is_direct sc k i ≡ true → eqb k 1 ≡ true
unfolding is_direct
direct_kind sc k i d = and_right (eqb sc list) (eqb k 1) (and_left _ (super_call i) d)

direct_call : (sc k : ℕ) (i : Rows) → is_direct sc k i ≡ true → super_call i ≡ true
unfolding is_direct
direct_call sc k i d = and_right (eqb sc list && eqb k 1) (super_call i) d

not_met : (sc : ℕ) (i : Rows) → is_met sc 10 i ≡ false
unfolding is_met
not_met sc i = rw (and_no (eqb sc visit || eqb sc once || eqb sc heritage))

not-direct : (sc : ℕ) (i : Rows) → is_direct sc 10 i ≡ false
unfolding is_direct
not-direct sc i = rw (and_no (eqb sc list))

module _ (b k a n : ℕ) (i s : Rows) (I : After b i) (S : After b s) where
  after_any : (sc : ℕ) → Else sc → size (after_super b sc (node k a n i s)) ≤ vol (node k a n i s)
  unfolding after_super size supers assignment
  after_any sc e = go (is_met sc k i) (is_direct sc k i) refl refl
    where
      i' : Rows
      i' = after_super b (scan_inner sc k a i) i

      s' : Rows
      s' = after_super b (scan_next sc k i) s

      go : (x y : Bool) → is_met sc k i ≡ x → is_direct sc k i ≡ y →
          size (cond x (node 26 0 0 (node k a n i' (assignment b)) s') (node k a n i' (cond y (node 1 0 0 (assignment b) s') s')))
          ≤ (1 + size i + size s) + 5 * (cond (eqb k 10) 1 0 + cond (eqb k 17 || eqb k 23) 0 (supers i) + supers s)
      go true y m d =
          let h = next b k a n i s I S sc e in
          let k14 : k ≡ 14 = eqb-eq k 14 (met_kind sc k i m) in
          let one = first_counts i (met_super sc k i m) in
          let z : size (after_super b (scan_inner sc k a i) i) ≡ size i = rw (met_inner sc k a i m, after-copy b i) in
          let y : cond (eqb k 17 || eqb k 23) 0 (supers i) ≡ supers i = rw k14 in
          omega arith
      go false true m d =
          let h = next b k a n i s I S sc e in
          let z0 : sc ≡ 0 = eqb-eq sc 0 (direct-scan sc k i d) in
          let k1 : k ≡ 1 = eqb-eq k 1 (direct_kind sc k i d) in
          let c : super_call i ≡ true = direct_call sc k i d in
          let z : size (after_super b (scan_inner sc k a i) i) ≡ size (after_super b direct i) = rw (direct_inner sc k a i m d z0) in
          let t = I.dir c in
          let y : cond (eqb k 17 || eqb k 23) 0 (supers i) ≡ supers i = rw k1 in
          omega arith
      go false false m d =
          let h = next b k a n i s I S sc e in
          let t : size (after_super b (scan_inner sc k a i) i) ≤ size i + 5 * cond (eqb k 17 || eqb k 23) 0 (supers i) = inner b k a n i s I S sc e d in
          omega arith

  after_sup : first_super (node k a n i s) ≡ true → (sc : ℕ) → Else sc → size (after_super b sc (node k a n i s)) + 5 ≤ vol (node k a n i s)
  unfolding after_super size supers first_super
  after_sup f sc e =
      let k10 : k ≡ 10 = eqb-eq k 10 f in
      let m : is_met sc k i ≡ false = rw k10 (not_met sc i) in
      let d : is_direct sc k i ≡ false = rw k10 (not-direct sc i) in
      let h = next b k a n i s I S sc e in
      let t : size (after_super b (scan_inner sc k a i) i) ≤ size i + 5 * cond (eqb k 17 || eqb k 23) 0 (supers i) = inner b k a n i s I S sc e d in
      rw (m, d, f) (omega arith)

  after_dir : super_call (node k a n i s) ≡ true → size (after_super b direct (node k a n i s)) + 5 ≤ vol (node k a n i s)
  unfolding after_super size supers super_call is_met is_direct scan_inner scan_next
  after_dir f =
      let k14 : k ≡ 14 = eqb-eq k 14 (and_left (eqb k 14) (first_super i) f) in
      let t = I.sup (and_right (eqb k 14) (first_super i) f) visit refl in
      let y : cond (eqb k 17 || eqb k 23) 0 (supers i) ≡ supers i = rw k14 in
      rw (after-copy b s) (omega arith)

pub after : (b : ℕ) (r : Rows) → After b r
unfolding after_super size supers first_super super_call
after b none = record { any = λ sc e. omega arith; sup = λ e. absurd (false≢true e); dir = λ e. absurd (false≢true e) }
after b (node k a n i s) =
    let I = after b i in
    let S = after b s in
    record { any = after_any b k a n i s I S; sup = after_sup b k a n i s I S; dir = after_dir b k a n i s I S }

-- Module 7 adds at most five rows for each Super.
pub after-size : (b : ℕ) (r : Rows) → size (after_super b list r) ≤ vol r
after-size b r = (after b r).any list refl

-- What an accessor's Declarator has at most; the accessors of the frames below m.
unfoldable pub upto : ℕ → List Binding → ℕ
upto m [] = 0
upto m (bind u x f ∷ bs) = cond (ltb f m && (eqb u 3 || eqb u 4)) 11 0 + upto m bs

pub upto_all : (m : ℕ) (bs : List Binding) → upto m bs ≤ 11 * length bs
unfolding upto
upto_all m [] = omega arith
upto_all m (bind u x f ∷ bs) = go (ltb f m && (eqb u 3 || eqb u 4)) (upto_all m bs)
  where
    go : (y : Bool) → upto m bs ≤ 11 * length bs → cond y 11 0 + upto m bs ≤ 11 * suc (length bs)
    go true h = omega arith
    go false h = omega arith

T_true : (b : Bool) → T b → b ≡ true
T_true true t = refl
T_true false t = absurd t

ltb_yes : (m n : ℕ) → m < n → ltb m n ≡ true
ltb_yes m n h = T_true _ (lt→ltb m n h)

ltb_no : (m n : ℕ) → n ≤ m → ltb m n ≡ false
ltb_no m n h = go (ltb m n) refl
  where
    go : (x : Bool) → ltb m n ≡ x → x ≡ false
    go true e = absurd (omega (arith, ltb→lt m n (subst T (sym e) tt)))
    go false e = refl

pub upto-up : (m m' : ℕ) → m ≤ m' → (bs : List Binding) → upto m bs ≤ upto m' bs
unfolding upto
upto-up m m' l [] = omega arith
upto-up m m' l (bind u x f ∷ bs) = go (ltb f m) refl (eqb u 3 || eqb u 4) (ltb f m') refl (upto-up m m' l bs)
  where
    go : (y : Bool) → ltb f m ≡ y → (z y' : Bool) → ltb f m' ≡ y' → upto m bs ≤ upto m' bs → cond (y && z) 11 0 + upto m bs ≤ cond (y' && z) 11 0 + upto m' bs
    go false e z y' e' h = omega arith
    go true e z true e' h = omega arith
    go true e z false e' h = absurd (true≢false (sym (ltb_yes f m' (omega (arith, ltb→lt f m (subst T (sym e) tt)))) ∙ e'))

access_size : (x b : ℕ) (t : Rows) → size (access_row x b t) ≤ 3 + size t
unfolding access_row size
access_size x b t = go (eqb x 0)
  where
    go : (y : Bool) → size (cond y (node 13 0 0 (node 10 0 0 none (node 11 1 b none none)) t) (node 12 0 x (node 10 0 0 none none) t)) ≤ 3 + size t
    go true = omega arith
    go false = omega arith

accessor-size : (u x : ℕ) (ps : List ℕ) → size (accessor u x ps) ≤ 10
unfolding accessor size
accessor-size u x ps = go (eqb x 0) (eqb u 4) (head_n (past_prop x ps)) (access_size x (head_n ps) none)
  where
    go : (y z : Bool) (v : ℕ) → size (access_row x (head_n ps) none) ≤ 3 →
        size (node 16 2 0 (node 18 0 0 (cond y (node 3 1 (head_n ps) none (cond z (node 3 1 v none none) none)) (cond z (node 3 1 v none none) none))
        (cond z (node 15 0 0 (node 28 0 0 (access_row x (head_n ps) none) (node 11 1 v none none)) none) (access_row x (head_n ps) none))) none) ≤ 10
    go true true v h = omega arith
    go true false v h = omega arith
    go false true v h = omega arith
    go false false v h = omega arith

decls_size : (f c : ℕ) (ps : List ℕ) (bs : List Binding) (t : Rows) → size (accessor_decls f c ps bs t) + upto f bs ≤ size t + upto (f + 1) bs
unfolding accessor_decls upto size
decls_size f c ps [] t = omega arith
decls_size f c ps (bind u x f' ∷ bs) t =
    go (eqb f' f) refl (eqb u 3 || eqb u 4) (decls_size f (c + 1) (past u x ps) bs t) (decls_size f (c + 1) ps bs t) (accessor-size u x ps) (ltb f' f) (ltb f' (f + 1)) refl refl
  where
    go : (y : Bool) → eqb f' f ≡ y → (z : Bool) →
        size (accessor_decls f (c + 1) (past u x ps) bs t) + upto f bs ≤ size t + upto (f + 1) bs →
        size (accessor_decls f (c + 1) ps bs t) + upto f bs ≤ size t + upto (f + 1) bs → size (accessor u x ps) ≤ 10 →
        (v v' : Bool) → ltb f' f ≡ v → ltb f' (f + 1) ≡ v' →
        size (cond (y && z) (node 3 1 c (accessor u x ps) (accessor_decls f (c + 1) (past u x ps) bs t)) (accessor_decls f (c + 1) ps bs t)) + (cond (v && z) 11 0 + upto f bs)
        ≤ size t + (cond (v' && z) 11 0 + upto (f + 1) bs)
    go true e true h h' a false true d d' = omega arith
    go true e true h h' a true v' d d' = absurd (true≢false (sym d ∙ ltb_no f' f (omega (arith, eqb-eq f' f e))))
    go true e true h h' a false false d d' = absurd (true≢false (sym (ltb_yes f' (f + 1) (omega (arith, eqb-eq f' f e))) ∙ d'))
    go true e false h h' a true v' d d' = omega arith
    go true e false h h' a false v' d d' = omega arith
    go false e z h h' a false v' d d' = omega arith
    go false e z h h' a true true d d' = omega arith
    go false e z h h' a true false d d' = absurd (true≢false (sym (ltb_yes f' (f + 1) (omega (arith, ltb→lt f' f (subst T (sym d) tt)))) ∙ d'))

var_size : (d t : Rows) → size (var_first d t) ≤ 1 + size d + size t
unfolding var_first join size
var_size none t = omega arith
var_size (node k a n i s) t = omega arith

arguments_size : (b : ℕ) (g : Bool) (t : Rows) → size (arguments_decl b g t) ≤ 2 + size t
unfolding arguments_decl size
arguments_size b g t = go (eqb b 0)
  where
    go : (x : Bool) → size (cond x t (node 3 1 b (node 27 (cond g 1 0) 0 none none) t)) ≤ 2 + size t
    go true = omega arith
    go false = omega arith

this_size : (b : ℕ) (l : Bool) → size (this_decl b l) ≤ 2
unfolding this_decl size
this_size b l = go (eqb b 0) l
  where
    go : (x l : Bool) → size (cond x none (node 3 1 b (cond l none (node 9 0 0 none none)) none)) ≤ 2
    go true l = omega arith
    go false true = omega arith
    go false false = omega arith

inside_size : (b : ℕ) (x : Bool) (i : Rows) → size (cond x (after_super b list i) i) ≤ vol i
inside_size b true i = after-size b i
inside_size b false i = omega arith

-- Top insertion: five rows, the frame's accessors, and module 7.
pub top-size : (N : Names) (bs : List Binding) (r : ℕ) (g l : Bool) (i : Rows) → size (frame_top N bs r g l i) + upto r bs ≤ 5 + vol i + upto (r + 1) bs
unfolding frame_top
top-size N bs r g l i =
    let b = number N bs 1 r 0 in
    let t = this_decl b l in
    let ds = accessor_decls r 1 (param_numbers r 1 bs) bs t in
    let rs = arguments_decl (number N bs 2 r 0) g ds in
    let x = l && not (eqb b 0) in
    omega (arith, var_size rs (cond x (after_super b list i) i), arguments_size (number N bs 2 r 0) g ds, decls_size r 1 (param_numbers r 1 bs) bs t, this_size b l, inside_size b x i)

pub size-join : (x y : Rows) → size (join x y) ≡ size x + size y
unfolding size join
size-join none y = omega arith
size-join (node k a n i s) y = omega (arith, size-join s y)

supers-join : (x y : Rows) → supers (join x y) ≡ supers x + supers y
unfolding supers join
supers-join none y = omega arith
supers-join (node k a n i s) y = omega (arith, supers-join s y)

node_vol : (k a n : ℕ) (i s : Rows) → vol (node k a n i s) ≤ 6 + vol i + vol s
unfolding size supers
node_vol k a n i s = go (eqb k 10) (eqb k 17 || eqb k 23)
  where
    go : (x y : Bool) → (1 + size i + size s) + 5 * (cond x 1 0 + cond y 0 (supers i) + supers s) ≤ 6 + (size i + 5 * supers i) + (size s + 5 * supers s)
    go true true = omega arith
    go true false = omega arith
    go false true = omega arith
    go false false = omega arith

build-vol : (N : Names) (bs : List Binding) (c : Ctx) (x : Op) (i s : Rows) → vol (build N bs c x i s) ≤ 6 + vol i + vol s
unfolding build
build-vol N bs c (row k a n) i s = node_vol k a n i s
build-vol N bs c drop i s = omega (arith, size-join i s, supers-join i s)
build-vol N bs c (name u f) i s = unfold size supers in omega arith
build-vol N bs c (Op.call u f x t) i s = unfold size supers in go t c.takes_this
  where
    go : (t y : Bool) →
        vol (cond t
        (node 12 1 0 (node 14 0 0 (node 11 1 (number N bs u f x) none i) none) (cond y (node 11 1 (number N bs 1 c.this_at 0) none s) (node 9 0 0 none s)))
        (node 14 0 0 (node 11 1 (number N bs u f x) none i) s)) ≤ 6 + vol i + vol s
    go true true = unfold size supers in omega arith
    go true false = unfold size supers in omega arith
    go false y = unfold size supers in omega arith

pub dress-vol : (sl : ℕ) (N : Names) (bs : List Binding) (c : Ctx) (x : Op) (i s : Rows) → vol (dress sl (build N bs c x i) s) ≤ 8 + vol i + vol s
unfolding dress
dress-vol sl N bs c x i s = go (eqb sl wrapped)
  where
    go : (y : Bool) → vol (cond y (node 19 0 0 (node 4 0 0 (build N bs c x i none) none) s) (build N bs c x i s)) ≤ 8 + vol i + vol s
    go true = let h = build-vol N bs c x i none in unfold size supers in omega arith
    go false = let h = build-vol N bs c x i s in omega arith

-- a Function or StaticBlock shuts its Supers in
pub shut_vol : (sl k a n : ℕ) (i s : Rows) → (eqb k 17 || eqb k 23) ≡ true → eqb k 10 ≡ false → vol (dress sl (node k a n i) s) ≤ 3 + size i + vol s
unfolding dress
shut_vol sl k a n i s e e' = go (eqb sl wrapped)
  where
    go : (y : Bool) → vol (cond y (node 19 0 0 (node 4 0 0 (node k a n i none) none) s) (node k a n i s)) ≤ 3 + size i + vol s
    go true = unfold size supers in rw (e, e') (omega arith)
    go false = unfold size supers in rw (e, e') (omega arith)
