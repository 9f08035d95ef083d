-- A table without a fault is the words of exactly one forest, and the forest is well-formed. Assumes nothing.
use Rattle.std.specs.Prelude.{Option, Some, None}
use mathlib.Core.Path.{◌≡◌, refl, ap, sym, subst, ◌∙◌}
use mathlib.Core.Bool.{true}
use mathlib.Core.List.{List, [], ◌∷◌, ◌++◌, append-nil}
use mathlib.Core.Logic.{⊎_elim}
use Prim.Native.Nat.{ℕ, zero, suc, ◌+◌, ◌*◌, ◌-◌, ◌<◌, ◌≤◌}
use native.Mathlib.Omega.{arith}
use native.Mathlib.Nat.{eq-or-lt_of_le}
use borrow.Author.Tests.{eqb-true}
use lib.Dec.{eqb}
use lib.ListN.{length, length-append}
use lib.Seq.{slice, take_all}
use Rattle.names.specs.Words.{kind_at, attr_at, name_at, end_at}
use Rattle.grammar.specs.Grammar.{top_place}
use Rattle.forest.specs.Forest.{Rows, none, node, size, count, flat, tree, rows_at, row_ok, Table}
use Rattle.forest.specs.Nested.{Nested}
use Rattle.names.specs.Answered.{or_else}
use Rattle.forest.specs.Faults.{kids, kids_of, told}
use Rattle.forest.specs.Told.{told_by, fault_at, lowest_from, lowest_fault}
use Rattle.forest.specs.declared.Fault.{Fault}
use Rattle.forest.specs.declared.BadRow.{BadRow}
use Rattle.forest.proofs.Children.{kids-fuel}
use Rattle.forest.proofs.Slices.{cons4}
use Rattle.forest.proofs.Marks.{mark-place}
use Rattle.forest.proofs.Nesting.{mark-good, tree-more, tree_done, Fit, fit, Under, nest, says_first}

fine_cases : (F : Option Fault) (i : ℕ) (later : Option BadRow) → or_else (told F i) later ≡ None → (F ≡ None) × (later ≡ None)
fine_cases None i later h = (refl, h)
fine_cases (Some fault) i later h = absurd (let z : ◌≡◌ {A = ℕ} 0 1 = cc in omega arith)

no_fault : (ws : List ℕ) (n names f i : ℕ) → lowest_from ws n names f i ≡ None → (j : ℕ) → i ≤ j → j < i + f → fault_at ws n names j ≡ None
unfolding lowest_from
no_fault ws n names zero i h j a b = absurd (omega arith)
no_fault ws n names (suc f) i h j a b =
    let r = fine_cases (fault_at ws n names i) i (lowest_from ws n names f (i + 1)) h in
    ⊎_elim (λ z. subst (λ (x : ℕ). fault_at ws n names x ≡ None) z r.0) (λ z. no_fault ws n names f (i + 1) r.1 j (omega arith) (omega arith)) (eq-or-lt_of_le a)

pub none-faulty : (ws : List ℕ) (n names : ℕ) → lowest_fault ws n names ≡ None → (i : ℕ) → i < n → Fit ws n names i
unfolding lowest_fault
none-faulty ws n names h i l = fit ws n names i (no_fault ws n names n 0 h i (omega arith) (omega arith))

module _ (ws : List ℕ) (n names : ℕ) (ok : (i : ℕ) → i < n → Fit ws n names i) (some : 0 < n) where
  -- row 0 ends at the row count
  pub end0 : end_at ws 0 ≡ n
  unfolding told_by
  end0 = eqb-true _ _ (mark-good top_place (eqb (end_at ws 0) n) (ok 0 some).low)

  module _ (long : length ws ≡ 4 * n) where
    pub inside0 : Under ws n names ok (omega arith) 0 1 0 (n - 1)
    inside0 = nest ws n names ok (omega arith) (n - 1) 0 1 0 some (omega arith) (omega (arith, end0)) (omega (arith, end0)) (λ q a b. absurd (omega arith))
        (says_first ws n names 0 (n - 1) (omega (arith, end0)))

    abbrev pub T : Rows
    T = tree ws (n - 1) 1 (end_at ws 0)

    pub shape : rows_at ws 0 n ≡ node (kind_at ws 0) (attr_at ws 0) (name_at ws 0) T none
    unfolding rows_at
    shape =
        let q : n - 0 ≡ suc (n - 1) = omega arith in
        ap (λ (f : ℕ). tree ws f 0 n) q
        ∙ tree-more ws (n - 1) 0 n some ∙ ap (λ (x : Rows). node (kind_at ws 0) (attr_at ws 0) (name_at ws 0) (tree ws (n - 1) 1 (end_at ws 0)) x) (tree_done ws (n - 1) (end_at ws 0) n (omega (arith, end0)))

    flat-root : flat 0 (node (kind_at ws 0) (attr_at ws 0) (name_at ws 0) T none) ≡ ws
    unfolding flat
    flat-root =
        let to : 0 + 1 + size (tree ws (n - 1) 1 (end_at ws 0)) ≡ end_at ws 0 = inside0.whole in
        ap (λ (x : ℕ). kind_at ws 0 ∷ attr_at ws 0 ∷ name_at ws 0 ∷ x ∷ (flat 1 (tree ws (n - 1) 1 (end_at ws 0)) ++ [])) to
        ∙ ap (λ (x : List ℕ). kind_at ws 0 ∷ attr_at ws 0 ∷ name_at ws 0 ∷ end_at ws 0 ∷ x) (append-nil _ ∙ inside0.same ∙ ap (λ (x : ℕ). slice 4 (4 * x) ws) end0)
        ∙ sym (cons4 ws 0 4 (4 * n) refl (omega arith) (omega arith))
        ∙ take_all (4 * n) ws (omega arith)

    row0 : row_ok names top_place (kind_at ws 0) (attr_at ws 0) (name_at ws 0) (count T) ≡ true
    unfolding told_by kids_of
    row0 =
        let kf : kids ws (end_at ws 0) 1 (end_at ws 0) ≡ kids ws (n - 1) 1 (end_at ws 0) = kids-fuel ws (end_at ws 0) (n - 1) 1 (end_at ws 0) (omega arith) (omega (arith, end0)) in
        subst (λ (y : ℕ). row_ok names top_place (kind_at ws 0) (attr_at ws 0) (name_at ws 0) y ≡ true) (ap length kf ∙ sym inside0.many)
        (subst (λ (x : ℕ). row_ok names x (kind_at ws 0) (attr_at ws 0) (name_at ws 0) (length (kids ws (end_at ws 0) 1 (end_at ws 0))) ≡ true) (mark-place top_place (eqb (end_at ws 0) n) (omega arith)) (ok 0 some).row)

    -- the words are those of a forest, and the forest is as the grammar says
    pub accepted : (flat 0 (rows_at ws 0 n) ≡ ws) × Table names (rows_at ws 0 n)
    accepted = subst (λ (t : Rows). (flat 0 t ≡ ws) × Table names t) (sym shape) (flat-root, (row0, inside0.wf))

    -- the rows nest
    pub nested : Nested ws n
    nested = record {
      ahead = λ k l. ⊎_elim (λ z. subst (λ (x : ℕ). x < end_at ws x) z (omega (arith, end0))) (λ z. inside0.ahead k z (omega (arith, end0))) (eq-or-lt_of_le (low k));
      inside = λ k l. (ok k l).inside;
      nested = λ k j l. ⊎_elim (λ z. subst (λ (x : ℕ). x < j → j < end_at ws x → end_at ws j ≤ end_at ws x) z (λ u v. inside0.within j u v)) (λ z. inside0.nested k j z (omega (arith, end0))) (eq-or-lt_of_le (low k));
    }
      where
        low : (k : ℕ) → 0 ≤ k
        low k = omega arith

-- the forest is the only one with these words
pub length-flat : (o : ℕ) (f : Rows) → length (flat o f) ≡ 4 * size f
unfolding flat size
length-flat o none = refl
length-flat o (node k a n i s) = omega (arith, length-append (flat (o + 1) i) (flat (o + 1 + size i) s), length-flat (o + 1) i, length-flat (o + 1 + size i) s)

pub append-same : (xs us ys vs : List ℕ) → length xs ≡ length us → xs ++ ys ≡ us ++ vs → (xs ≡ us) × (ys ≡ vs)
append-same [] [] ys vs l h = (refl, h)
append-same [] (u ∷ us) ys vs l h = absurd (omega arith)
append-same (x ∷ xs) [] ys vs l h = absurd (omega arith)
append-same (x ∷ xs) (u ∷ us) ys vs l h =
    let r = append-same xs us ys vs (omega arith) (cc) in
    let q : x ≡ u = cc in
    (ap {B = List ℕ} (λ (z : ℕ). z ∷ xs) q ∙ ap (λ (z : List ℕ). u ∷ z) r.0, r.1)

pub flat-one : (o : ℕ) (f g : Rows) → flat o f ≡ flat o g → f ≡ g
unfolding flat
flat-one o none none h = refl
flat-one o none (node k a n i s) h = absurd (let z : ◌≡◌ {A = ℕ} 0 1 = cc in omega arith)
flat-one o (node k a n i s) none h = absurd (let z : ◌≡◌ {A = ℕ} 0 1 = cc in omega arith)
flat-one o (node k a n i s) (node k' a' n' i' s') h =
    let qk : k ≡ k' = cc in
    let qa : a ≡ a' = cc in
    let qn : n ≡ n' = cc in
    let qe : o + 1 + size i ≡ o + 1 + size i' = cc in
    let qr : flat (o + 1) i ++ flat (o + 1 + size i) s ≡ flat (o + 1) i' ++ flat (o + 1 + size i') s' = cc in
    let r = append-same (flat (o + 1) i) (flat (o + 1) i') (flat (o + 1 + size i) s) (flat (o + 1 + size i') s') (omega (arith, length-flat (o + 1) i, length-flat (o + 1) i')) qr in
    let qi : i ≡ i' = flat-one (o + 1) i i' r.0 in
    let qs : s ≡ s' = flat-one (o + 1 + size i) s s' (r.1 ∙ ap (λ (x : ℕ). flat x s') (sym qe)) in
    cc
