-- The rows under Program of a table that refusals 21 to 25 and 5 let through are as the steps want them. Assumes nothing.
use mathlib.Core.Path.{◌≡◌, refl, sym, subst, ◌∙◌}
use Prim.Native.Nat.{ℕ, zero, suc, ◌+◌}
use mathlib.Core.Bool.{Bool, true, false, cond, ◌&&◌, ◌||◌, true≢false, false≢true, and-true, and-false, or-false}
use lib.Dec.{eqb, ltb, leb}
use native.Mathlib.Omega.{arith}
use borrow.Author.Tests.{ltb-true, leb-true, eqb-true, eq-eqb}
use Rattle.grammar.specs.Grammar.{bit0, bit1, list_kind, place_of, place_in_function, place_in_class, kind_ok, attr_ok, fits, count_ok, name_ok, made_row}
use Rattle.forest.specs.Forest.{Rows, Rows.none, Rows.node, count, row_ok, WellFormed, Table, NoRow}
use Rattle.steps.specs.Acts.{Kind, Kind.this, Kind.super, Kind.ident, Kind.assign, Kind.arrow, Kind.function, Kind.keyed, Kind.field, Kind.static, Kind.target, Kind.other, kind_of}
use Rattle.steps.proofs.Records.{Named, NamedRow}
use Rattle.steps.proofs.WellShaped.{Empty, OneBody, ParamsBody, NoThisKind, NoThisFirst, TargetFirst, WfRow, Wf}
use Rattle.steps.proofs.Shape.{at}
use Rattle.names.proofs.Bools.{and_parts, pick}

-- What the grammar says of a row.
pub record Row (names r k a n m : ℕ) : Type 0 where
  pub attr : attr_ok k a r ≡ true
  pub place : fits r k ≡ true
  pub many : count_ok k a m ≡ true
  pub name : name_ok k a n names ≡ true

pub row_of : (names r k a n m : ℕ) → row_ok names r k a n m ≡ true → Row names r k a n m
row_of names r k a n m h =
    let p = and_parts _ (name_ok k a n names) h in
    let q = and_parts _ (count_ok k a m) p.0 in
    let s = and_parts _ (fits r k) q.0 in
    let t = and_parts (kind_ok k) (attr_ok k a r) s.0 in
    record { attr = t.1; place = s.1; many = q.1; name = p.1 }

-- no row below the first has its place
cond-not : (b : Bool) (x y : ℕ) → eqb x 1 ≡ false → eqb y 1 ≡ false → eqb (cond b x y) 1 ≡ false
cond-not true x y p q = p
cond-not false x y p q = q

not_three : (k a : ℕ) → eqb (place_in_class k a) 1 ≡ false
unfolding place_in_class
not_three k a =
    cond-not (eqb k 21 && bit1 a) 14 _ refl
    (cond-not (eqb k 21) 15 _ refl
    (cond-not (eqb k 22) 3 _ refl
    (cond-not (eqb k 24) 12 _ refl
    (cond-not (eqb k 25 && bit1 a) 14 _ refl
    (cond-not (eqb k 25) 3 _ refl
    (cond-not (eqb k 28) 13 _ refl refl))))))

not-two : (k a pos : ℕ) → eqb (place_in_function k a pos) 1 ≡ false
unfolding place_in_function
not-two k a pos =
    cond-not (eqb k 15) 3 _ refl
    (cond-not ((eqb k 16 || eqb k 17) && eqb pos 0) 6 _ refl
    (cond-not (eqb k 16 && bit1 a) 3 _ refl
    (cond-not (eqb k 16 || eqb k 17) 7 _ refl
    (cond-not (eqb k 20 && bit0 a && eqb pos 0) 3 _ refl
    (cond-not (eqb k 20) 8 _ refl
    (cond-not ((eqb k 21 || eqb k 25) && bit0 a && eqb pos 0) 3 _ refl (not_three k a)))))))

pub not_first : (k a pos : ℕ) → eqb (place_of k a pos) 1 ≡ false
unfolding place_of
not_first k a pos =
    cond-not (list_kind k) 2 _ refl
    (cond-not (eqb k 1 || eqb k 3 || eqb k 4 || eqb k 26) 3 _ refl
    (cond-not (eqb k 2 || eqb k 18) 5 _ refl
    (cond-not (eqb k 6) 10 _ refl
    (cond-not (eqb k 8) 11 _ refl
    (cond-not (leb 12 k && leb k 14 && eqb pos 0) 4 _ refl
    (cond-not (leb 12 k && leb k 14) 3 _ refl
    (cond-not (eqb k 15 && eqb pos 0) 9 _ refl (not-two k a pos))))))))

-- places with one kind
zero_out : (r : ℕ) → eqb r 1 ≡ false → fits r 0 ≡ false
zero_out r e = simp (e, and-false, or-false)

six_params : (k : ℕ) → fits 6 k ≡ true → k ≡ 18
six_params k h = eqb-true k 18 (simp or-false at h)

seven_body : (k : ℕ) → fits 7 k ≡ true → k ≡ 19
seven_body k h = eqb-true k 19 (simp or-false at h)

nine_target : (k : ℕ) → fits 9 k ≡ true → k ≡ 28
nine_target k h = eqb-true k 28 (simp or-false at h)

-- what Target holds is no This
no_this : (k : ℕ) → fits 13 k ≡ true → eqb k 9 ≡ false
no_this k h = go (eqb k 9) refl
  where
    go : (x : Bool) → eqb k 9 ≡ x → x ≡ false
    go true e = absurd (let q : k ≡ 9 = eqb-true k 9 e in false≢true (subst (λ (m : ℕ). fits 13 m ≡ true) q h))
    go false e = refl

attr_zero : (a : ℕ) → ltb a 2 ≡ true → eqb a 1 ≡ false → a ≡ 0
attr_zero zero h e = refl
attr_zero (suc zero) h e = absurd (true≢false e)
attr_zero (suc (suc a)) h e = absurd (let z = ltb-true (suc (suc a)) 2 h in omega arith)

none_of : (i : Rows) → eqb (count i) 0 ≡ true → Empty i
unfolding count Empty
none_of none h = tt
none_of (node k a n i s) h = let z = eqb-true (suc (count s)) 0 h in absurd (omega arith)

empty_none : (s : Rows) → Empty s → s ≡ none
unfolding Empty
empty_none none h = refl
empty_none (node k a n i s) h = absurd h

eq_less : (m j : ℕ) → eqb (suc m) (suc j) ≡ true → eqb m j ≡ true
eq_less m j h = eq-eqb m j (let z : suc m ≡ suc j = eqb-true (suc m) (suc j) h in omega arith)

one_body : (names a pos : ℕ) (i : Rows) → place_of 17 a pos ≡ 7 → eqb (count i) 1 ≡ true → WellFormed names 17 a pos i → OneBody i
unfolding count OneBody
one_body names a pos none r h w = absurd (false≢true h)
one_body names a pos (node k b n i s) r h w =
    let p = (row_of names (place_of 17 a pos) k b n (count i) w.0).place in
    (seven_body k (rw r at p), empty_none s (none_of s (eq_less (count s) 0 h)))

params_body : (names a : ℕ) (i : Rows) → eqb (count i) 2 ≡ true → WellFormed names 17 a 0 i → ParamsBody i
unfolding count ParamsBody place_of place_in_function
params_body names a none h w = absurd (false≢true h)
params_body names a (node k b n i s) h w =
    let p = (row_of names (place_of 17 a 0) k b n (count i) w.0).place in
    (six_params k p, one_body names a 1 s refl (eq_less (count s) 1 h) w.1.1)

target_holds : (names a : ℕ) (i : Rows) → WellFormed names 28 a 0 i → NoThisFirst i
unfolding NoThisFirst NoThisKind place_of place_in_function place_in_class
target_holds names a none w = tt
target_holds names a (node k b n i s) w = rw (no_this k (row_of names (place_of 28 a 0) k b n (count i) w.0).place) tt

assign_target : (names a : ℕ) (i : Rows) → WellFormed names 15 a 0 i → TargetFirst i
unfolding TargetFirst place_of
assign_target names a none w = tt
assign_target names a (node k b n i s) w = nine_target k (row_of names (place_of 15 a 0) k b n (count i) w.0).place

module _ (names r a n : ℕ) (i : Rows) (e : eqb r 1 ≡ false) where
  abbrev Shape : ℕ → Type 0
  Shape k = Row names r k a n (count i) → WellFormed names k a 0 i → made_row k a ≡ false → WfRow k a i

  wf_row : (k : ℕ) → Shape k
  unfolding WfRow
  wf_row k =
      at Shape 0 k (λ R w m. absurd (true≢false (sym R.place ∙ zero_out r e)))
      (λ e0. at Shape 3 k (λ R w m. attr_zero a (simp or-false at R.attr) (simp (and-true, or-false) at m))
      (λ e3. at Shape 11 k (λ R w m. attr_zero a (simp or-false at R.attr) (simp (and-true, or-false) at m))
      (λ e11. at Shape 9 k (λ R w m. none_of i (simp or-false at R.many))
      (λ e9. at Shape 17 k (λ R w m. params_body names a i (simp or-false at R.many) w)
      (λ e17. at Shape 28 k (λ R w m. target_holds names a i w)
      (λ e28. at Shape 15 k (λ R w m. assign_target names a i w)
      (λ e15 R w m. rw (e0, e3, e11, e9, e17, e28, e15) tt)))))))

  abbrev NameShape : ℕ → Type 0
  NameShape k = Row names r k a n (count i) → made_row k a ≡ false → NamedRow names (kind_of k) n

  abbrev NameKind : Kind → Type 0
  NameKind K = NamedRow names K n

  name_row : (k : ℕ) → NameShape k
  unfolding NamedRow kind_of
  name_row k =
      at NameShape 12 k (λ R m. leb-true n names (and_parts (ltb 0 n) (leb n names) (simp or-false at (rw m at R.name))).1)
      (λ e12. at NameShape 13 k (λ R m. let z : n ≡ 0 = eqb-true n 0 (simp (and-false, or-false) at R.name) in omega arith)
      (λ e13 R m. rw (e12, e13)
      (pick NameKind (eqb k 9) this _ tt (pick NameKind (eqb k 10) super _ tt (pick NameKind (eqb k 11) ident _ tt
      (pick NameKind (eqb k 14) Kind.call _ tt (pick NameKind (eqb k 15) assign _ tt (pick NameKind (eqb k 16) arrow _ tt (pick NameKind (eqb k 17) function _ tt (pick NameKind (eqb k 21 || eqb k 25) keyed _ tt
      (pick NameKind (eqb k 22) field _ tt (pick NameKind (eqb k 23) static _ tt (pick NameKind (eqb k 28) target other tt tt)))))))))))))

-- The rows under a row, all that the laws of the steps ask.
pub record Shaped (names : ℕ) (r : Rows) : Type 0 where
  pub wf : Wf r
  pub named : Named names r

pub shaped : (names k a pos : ℕ) (r : Rows) → WellFormed names k a pos r → NoRow made_row r → Shaped names r
unfolding Wf Named
shaped names k a pos none w p = record { wf = tt; named = tt }
shaped names k a pos (node k' a' n' i s) w p =
    let e = not_first k a pos in
    let R = row_of names (place_of k a pos) k' a' n' (count i) w.0 in
    let I = shaped names k' a' 0 i w.1.0 p.1.0 in
    let S = shaped names k a (pos + 1) s w.1.1 p.1.1 in
    record {
      wf = (wf_row names (place_of k a pos) a' n' i e k' R w.1.0 p.0, I.wf, S.wf);
      named = (name_row names (place_of k a pos) a' n' i e k' R p.0, I.named, S.named);
    }

-- Row 0 is a Program.
pub record Rooted (names : ℕ) (t : Rows) : Type 0 where
  pub inside : Rows
  pub root : t ≡ node 0 0 0 inside none
  pub shape : Shaped names inside

root_kind : (k : ℕ) → fits 1 k ≡ true → k ≡ 0
root_kind k h = eqb-true k 0 (simp or-false at h)

root_attr : (a : ℕ) → attr_ok 0 a 1 ≡ true → a ≡ 0
root_attr a h = eqb-true a 0 h

root-name : (a n names : ℕ) → name_ok 0 a n names ≡ true → n ≡ 0
root-name a n names h = eqb-true n 0 (simp (and-false, or-false) at h)

pub rooted : (names : ℕ) (t : Rows) → Table names t → NoRow made_row t → Rooted names t
rooted names none h f = absurd h
rooted names (node k a n i none) h f =
    let R : Row names 1 k a n (count i) = row_of names 1 k a n (count i) h.0 in
    let qk : k ≡ 0 = root_kind k R.place in
    let qa : a ≡ 0 = root_attr a (subst (λ (x : ℕ). attr_ok x a 1 ≡ true) qk R.attr) in
    let qn : n ≡ 0 = root-name a n names (subst (λ (x : ℕ). name_ok x a n names ≡ true) qk R.name) in
    record { inside = i; root = rw (qk, qa, qn); shape = shaped names k a 0 i h.1 f.1.0 }
rooted names (node k a n i (node k' a' n' i' s)) h f = absurd h
