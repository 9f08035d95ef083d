-- The first row of which a test holds, where the test asks what a row is told from outward: over the forest, and over the rows by an array that parents fill for their children. Assumes nothing.
use Rattle.std.specs.Prelude.{Option, Some, None}
use mathlib.Core.Path.{◌≡◌, refl, ap, sym, ◌∙◌}
use mathlib.Core.List.{List, [], ◌∷◌, ◌++◌, append-nil, append_assoc}
use Prim.Native.Nat.{ℕ, zero, suc, ◌+◌, ◌*◌, ◌-◌, ◌<◌}
use mathlib.Core.Bool.{Bool, cond}
use lib.ListN.{length, get_or, drop}
use lib.Seq.{drop-cons}
use native.Mathlib.Omega.{arith}
use native.Mathlib.Nat.{add-zero}
use native.Mathlib.Numerals.{add-one}
use Rattle.names.specs.First.{first}
use Rattle.names.specs.Words.{kind_at, attr_at, name_at, end_at}
use Rattle.forest.specs.Told.{told_by}
use Rattle.forest.specs.Nested.{Nested}
use Rattle.forest.specs.Forest.{Rows, Rows.none, Rows.node, size, flat, tree, rows_at, down}
use Rattle.forest.proofs.Nesting.{tree-more, tree_done}
use Rattle.forest.proofs.Accepting.{length-flat}
use Rattle.forest.proofs.Down.{down-long, told-down}
use Rattle.steps.specs.Refusals.{Rule, seek}
use Rattle.names.specs.Answered.{or_else}
use Rattle.names.proofs.OrElse.{or_tree, or_test}
use Rattle.steps.proofs.Seeks.{drop-four, first-same}
use Rattle.names.proofs.Laying.{drop_all}

-- row 0 and what is below it, where it ends at the row count
pub rooted : (ws : List ℕ) (n : ℕ) → 0 < n → end_at ws 0 ≡ n → rows_at ws 0 n ≡ node (kind_at ws 0) (attr_at ws 0) (name_at ws 0) (tree ws (n - 1) 1 (end_at ws 0)) none
unfolding rows_at
rooted ws n some e =
    let q : n - 0 ≡ suc (n - 1) = omega arith in
    ap (λ (f : ℕ). tree ws f 0 n) q
    ∙ tree-more ws (n - 1) 0 n some
    ∙ ap (λ (x : Rows). node (kind_at ws 0) (attr_at ws 0) (name_at ws 0) (tree ws (n - 1) 1 (end_at ws 0)) x) (tree_done ws (n - 1) (end_at ws 0) n (omega arith))

module _ (t : ℕ → ℕ → ℕ → ℕ → ℕ) (b : ℕ → ℕ → ℕ → ℕ → Bool) (steady : (v k a pos : ℕ) → t v k a (pos + 1) ≡ t v k a 1) where
  -- the child at position pos of a row that was told v is told t v k a pos, the same from position 1 on
  abbrev pub tells : Rule ℕ
  tells = record { bad = λ v k a n i. b v k a n; one = λ v k a. t v k a 0; more = λ v k a. t v k a 1 }

  unfoldable lead : ℕ → List ℕ → List ℕ → Option ℕ
  lead o [] vs = None
  lead o (k ∷ []) vs = None
  lead o (k ∷ a ∷ []) vs = None
  lead o (k ∷ a ∷ n ∷ []) vs = None
  lead o (k ∷ a ∷ n ∷ e ∷ ws) [] = None
  lead o (k ∷ a ∷ n ∷ e ∷ ws) (v ∷ vs) = or_else (cond (b v k a n) (Some o) None) (lead (o + 1) ws vs)

  lead_flat : (o : ℕ) (r : Rows) (v k a pos : ℕ) (ws vs : List ℕ) → lead o (flat o r ++ ws) (down t v k a pos r ++ vs) ≡ or_else (seek tells (t v k a pos) (t v k a 1) o r) (lead (o + size r) ws vs)
  unfolding lead flat seek size down
  lead_flat o none v k a pos ws vs = rw (add-zero o)
  lead_flat o (node k' a' n' i s) v k a pos ws vs =
      let u : ℕ = t v k a pos in
      let d : ℕ = o + 1 + size i in
      let e : o + (1 + size i + size s) ≡ o + 1 + size i + size s = omega arith in
      let hi = lead_flat (o + 1) i (t v k a pos) k' a' 0 (flat (o + 1 + size i) s ++ ws) (down t v k a (pos + 1) s ++ vs) in
      let hs = lead_flat (o + 1 + size i) s v k a (pos + 1) ws vs in
      rw (append_assoc (flat (o + 1) i) (flat (o + 1 + size i) s) ws, append_assoc (down t (t v k a pos) k' a' 0 i) (down t v k a (pos + 1) s) vs, hi, hs, steady v k a pos, e)
      (or_tree (cond (b u k' a' n') (Some o) None) (seek tells (t u k' a' 0) (t u k' a' 1) (o + 1) i) (seek tells (t v k a 1) (t v k a 1) d s) (lead (d + size s) ws vs))

  lead_first : (ws vs : List ℕ) (f i : ℕ) → length ws ≡ 4 * (i + f) → length vs ≡ i + f →
      lead i (drop (4 * i) ws) (drop i vs) ≡ first (λ j. b (get_or vs j 0) (kind_at ws j) (attr_at ws j) (name_at ws j)) f i
  unfolding lead first
  lead_first ws vs zero i h l = rw (drop_all (4 * i) ws (omega arith))
  lead_first ws vs (suc f) i h l =
      let ih = lead_first ws vs f (i + 1) (omega arith) (omega arith) in
      rw (drop-four ws i (omega arith), drop-cons vs i 0 (omega arith), ← add-one i, ih) (or_test (b (get_or vs i 0) (kind_at ws i) (attr_at ws i) (name_at ws i)) i _)

  root_lead : (r k a n : ℕ) (i : Rows) → lead 0 (flat 0 (node k a n i none)) (r ∷ down t r k a 0 i) ≡ seek tells r r 0 (node k a n i none)
  unfolding lead flat seek
  root_lead r k a n i =
      let h = lead_flat 1 i r k a 0 [] [] in
      let h' : lead 1 (flat 1 i ++ []) (down t r k a 0 i) ≡ or_else (seek tells (t r k a 0) (t r k a 1) 1 i) None = ap (lead 1 (flat 1 i ++ [])) (sym (append-nil (down t r k a 0 i))) ∙ h in
      ap (or_else (cond (b r k a n) (Some 0) None)) h'

  -- what a row p that was told v tells its child at position pos, over the words
  abbrev pub telling : List ℕ → ℕ → ℕ → ℕ → ℕ → ℕ
  telling ws v p pos c = t v (kind_at ws p) (attr_at ws p) pos

  -- what row j is told, by the array
  abbrev pub heard : List ℕ → ℕ → ℕ → ℕ
  heard ws r j = told_by ws (telling ws) r j j

  length-of : (ws : List ℕ) (n k a m : ℕ) (T : Rows) → length ws ≡ 4 * n → flat 0 (node k a m T none) ≡ ws → 1 + size T ≡ n
  unfolding size
  length-of ws n k a m T l q = omega (arith, ap length q, length-flat 0 (node k a m T none))

  pub by-told : (ws : List ℕ) (n r : ℕ) → Nested ws n → 0 < n → end_at ws 0 ≡ n → length ws ≡ 4 * n → flat 0 (rows_at ws 0 n) ≡ ws →
      first (λ j. b (heard ws r j) (kind_at ws j) (attr_at ws j) (name_at ws j)) n 0 ≡ seek tells r r 0 (rows_at ws 0 n)
  by-told ws n r good p e0 l same =
      let T : Rows = tree ws (n - 1) 1 (end_at ws 0) in
      let k : ℕ = kind_at ws 0 in
      let a : ℕ = attr_at ws 0 in
      let m : ℕ = name_at ws 0 in
      let vs : List ℕ = r ∷ down t r k a 0 T in
      let sh : rows_at ws 0 n ≡ node k a m T none = rooted ws n p e0 in
      let fl : flat 0 (node k a m T none) ≡ ws = ap (flat 0) (sym sh) ∙ same in
      let sz : length vs ≡ n = omega (arith, down-long t r k a 0 T, length-of ws n k a m T l fl) in
      first-same _ (λ j. b (get_or vs j 0) (kind_at ws j) (attr_at ws j) (name_at ws j)) n 0
      (λ j x y. ap (λ (v : ℕ). b v (kind_at ws j) (attr_at ws j) (name_at ws j)) (told-down ws t r n good p e0 j (omega arith)))
      ∙ sym (lead_first ws vs n 0 (omega arith) (omega arith))
      ∙ ap (λ (x : List ℕ). lead 0 x vs) (sym fl)
      ∙ root_lead r k a m T
      ∙ ap (seek tells r r 0) (sym sh)

-- a rule over numbers that stand for what another is told
module _ {C : Type 0} (P : Rule C) (Q : Rule ℕ) (d : ℕ → C) (bad : (v k a n : ℕ) (i : Rows) → P.bad (d v) k a n i ≡ Q.bad v k a n i) (one : (v k a : ℕ) → d (Q.one v k a) ≡ P.one (d v) k a)
    (more : (v k a : ℕ) → d (Q.more v k a) ≡ P.more (d v) k a) where
  pub seek_as : (x y o : ℕ) (r : Rows) → seek P (d x) (d y) o r ≡ seek Q x y o r
  unfolding seek
  seek_as x y o none = refl
  seek_as x y o (node k a n i s) =
      rw (bad x k a n i, ← one x k a, ← more x k a, seek_as (Q.one x k a) (Q.more x k a) (o + 1) i, seek_as y y (o + 1 + size i) s)
