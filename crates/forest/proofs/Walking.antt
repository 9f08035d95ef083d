-- The forest of rows i up to e, one row at a time: the laws that walkers use. Assumes nothing.
use mathlib.Core.Path.{◌≡◌, refl, sym, ◌∙◌}
use mathlib.Core.Bool.{Bool, true, false}
use mathlib.Core.List.{List}
use Prim.Native.Nat.{ℕ, zero, suc, ◌+◌, ◌-◌, ◌≤◌, ◌<◌}
use native.Mathlib.Omega.{arith}
use lib.Dec.{ltb}
use borrow.Author.Tests.{lt-ltb, ltb-true}
use Rattle.names.specs.Words.{kind_at, attr_at, name_at, end_at}
use Rattle.forest.specs.Forest.{none, node, tree, rows_at}
use Rattle.forest.specs.Nested.{Nested, Range}
use Rattle.forest.proofs.Nesting.{tree_done}

pub rows_none : (ws : List ℕ) (i e : ℕ) → e ≤ i → rows_at ws i e ≡ none
unfolding rows_at
rows_none ws i e h = tree_done ws (e - i) i e h

module _ (ws : List ℕ) (n : ℕ) (good : Nested ws n) where
  -- the children of row i
  pub inner : (i : ℕ) → i < n → Range ws n (i + 1) (end_at ws i)
  inner i l = record {
    ordered = omega (arith, good.ahead i l);
    within = good.inside i l;
    closed = λ j a b. good.nested i j l (omega arith) b;
  }

  -- the rows after row i
  pub later : (i e : ℕ) → Range ws n i e → i < e → Range ws n (end_at ws i) e
  later i e r h =
      let a : i < end_at ws i = good.ahead i (omega (arith, r.within)) in record {
        ordered = r.closed i (omega arith) h;
        within = r.within;
        closed = λ j b c. r.closed j (omega arith) c;
      }

  fuel : (f g i e : ℕ) → Range ws n i e → e ≤ f + i → e ≤ g + i → tree ws f i e ≡ tree ws g i e
  unfolding tree
  fuel zero g i e r hf hg = tree_done ws 0 i e (omega arith) ∙ sym (tree_done ws g i e (omega arith))
  fuel (suc f) zero i e r hf hg = tree_done ws (suc f) i e (omega arith)
  fuel (suc f) (suc g) i e r hf hg = go (λ i e r a b. fuel f g i e r a b) (ltb i e) refl
    where
      go : ((i e : ℕ) → Range ws n i e → e ≤ f + i → e ≤ g + i → tree ws f i e ≡ tree ws g i e) → (b : Bool) → ltb i e ≡ b → tree ws (suc f) i e ≡ tree ws (suc g) i e
      go ih true q =
          let lt : i < e = ltb-true i e q in
          let up : end_at ws i ≤ e = r.closed i (omega arith) lt in
          let here : i < n = omega (arith, r.within) in
          let past : i < end_at ws i = good.ahead i here in
          rw (q, ih (i + 1) (end_at ws i) (inner i here) (omega arith) (omega arith), ih (end_at ws i) e (later i e r lt) (omega arith) (omega arith))
      go ih false q = rw q

  -- row i, its children, and the rows after it
  pub rows_step : (i e : ℕ) → Range ws n i e → i < e
      → rows_at ws i e ≡ node (kind_at ws i) (attr_at ws i) (name_at ws i) (rows_at ws (i + 1) (end_at ws i)) (rows_at ws (end_at ws i) e)
  unfolding rows_at tree
  rows_step i e r lt =
      let up : end_at ws i ≤ e = r.closed i (omega arith) lt in
      let here : i < n = omega (arith, r.within) in
      let past : i < end_at ws i = good.ahead i here in
      fuel (e - i) (suc (e - i)) i e r (omega arith) (omega arith)
      ∙ rw (lt-ltb i e lt, fuel (e - i) (end_at ws i - (i + 1)) (i + 1) (end_at ws i) (inner i here) (omega arith) (omega arith), fuel (e - i) (e - end_at ws i) (end_at ws i) e (later i e r lt) (omega arith) (omega arith))
