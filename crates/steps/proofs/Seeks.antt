-- The first row of which a test holds, over the forest and over the words: the same where the words are the forest's. Assumes nothing.
use Rattle.std.specs.Prelude.{Option, Some, None}
use mathlib.Core.Path.{◌≡◌, refl, ap, sym, ◌∙◌}
use mathlib.Core.List.{List, [], ◌∷◌, ◌++◌, append-nil, append_assoc}
use Prim.Native.Nat.{ℕ, zero, suc, ◌+◌, ◌*◌, ◌≤◌, ◌<◌}
use mathlib.Core.Bool.{Bool, true, false, cond}
use lib.ListN.{length, get_or, drop}
use lib.Seq.{drop-cons}
use native.Mathlib.Omega.{arith}
use native.Mathlib.Nat.{add-zero}
use Rattle.names.specs.Answered.{or_else}
use Rattle.names.specs.First.{first}
use Rattle.names.specs.Words.{kind_at, attr_at, name_at, end_at}
use Rattle.forest.specs.Forest.{Rows, Rows.none, Rows.node, size, flat}
use Rattle.steps.specs.Refusals.{Rule, seek, alone}
use Rattle.names.proofs.Laying.{drop_all}
use Rattle.names.proofs.OrElse.{or_none, or_tree, or_test}

-- the four words of row i, and those of the rows after it
pub drop-four : (ws : List ℕ) (i : ℕ) → 4 * i + 3 < length ws →
    drop (4 * i) ws ≡ get_or ws (4 * i) 0 ∷ get_or ws (4 * i + 1) 0 ∷ get_or ws (4 * i + 2) 0 ∷ get_or ws (4 * i + 3) 0 ∷ drop (4 * (i + 1)) ws
drop-four ws i h =
    let e₁ : 4 * i + 1 ≡ suc (4 * i) = omega arith in
    let e₂ : 4 * i + 2 ≡ suc (suc (4 * i)) = omega arith in
    let e₃ : 4 * i + 3 ≡ suc (suc (suc (4 * i))) = omega arith in
    let e₄ : 4 * (i + 1) ≡ suc (suc (suc (suc (4 * i)))) = omega arith in
    rw (e₁, e₂, e₃, e₄, drop-cons ws (4 * i) 0 (omega arith), drop-cons ws (suc (4 * i)) 0 (omega arith), drop-cons ws (suc (suc (4 * i))) 0 (omega arith), drop-cons ws (suc (suc (suc (4 * i)))) 0 (omega arith))

pub first-same : (f g : ℕ → Bool) (n i : ℕ) → ((j : ℕ) → i ≤ j → j < i + n → f j ≡ g j) → first f n i ≡ first g n i
unfolding first
first-same f g zero i h = refl
first-same f g (suc n) i h = rw (h i (omega arith) (omega arith), first-same f g n (i + 1) (λ j a b. h j (omega arith) (omega arith)))

-- A test that asks nothing from outward: over the words it may ask the row's number, its four words and the words after them.
module _ (B : (o k a n e : ℕ) → List ℕ → Bool) (t : (k a n : ℕ) → Rows → Bool) (same : (o k a n : ℕ) (i : Rows) (ws : List ℕ) → B o k a n (o + 1 + size i) (flat (o + 1) i ++ ws) ≡ t k a n i) where
  -- the first row, numbered from o, of the rows whose words these are
  unfoldable lead : ℕ → List ℕ → Option ℕ
  lead o [] = None
  lead o (k ∷ []) = None
  lead o (k ∷ a ∷ []) = None
  lead o (k ∷ a ∷ n ∷ []) = None
  lead o (k ∷ a ∷ n ∷ e ∷ ws) = or_else (cond (B o k a n e ws) (Some o) None) (lead (o + 1) ws)

  lead_flat : (o : ℕ) (r : Rows) (ws : List ℕ) → lead o (flat o r ++ ws) ≡ or_else (seek (alone t) tt tt o r) (lead (o + size r) ws)
  unfolding lead flat seek size
  lead_flat o none ws = rw (add-zero o)
  lead_flat o (node k a n i s) ws =
      let e : o + (1 + size i + size s) ≡ o + 1 + size i + size s = omega arith in
      rw (append_assoc (flat (o + 1) i) (flat (o + 1 + size i) s) ws, same o k a n i (flat (o + 1 + size i) s ++ ws), lead_flat (o + 1) i (flat (o + 1 + size i) s ++ ws), lead_flat (o + 1 + size i) s ws, e)
      (or_tree (cond (t k a n i) (Some o) None) (seek (alone t) tt tt (o + 1) i) (seek (alone t) tt tt (o + 1 + size i) s) (lead (o + 1 + size i + size s) ws))

  lead_first : (ws : List ℕ) (f i : ℕ) → length ws ≡ 4 * (i + f) → lead i (drop (4 * i) ws) ≡ first (λ j. B j (kind_at ws j) (attr_at ws j) (name_at ws j) (end_at ws j) (drop (4 * (j + 1)) ws)) f i
  unfolding lead first
  lead_first ws zero i h = rw (drop_all (4 * i) ws (omega arith))
  lead_first ws (suc f) i h =
      let ih = lead_first ws f (i + 1) (omega arith) in
      rw (drop-four ws i (omega arith), ih) (or_test (B i (kind_at ws i) (attr_at ws i) (name_at ws i) (end_at ws i) (drop (4 * (i + 1)) ws)) i _)

  pub by-ends : (ws : List ℕ) (n : ℕ) (r : Rows) → flat 0 r ≡ ws → length ws ≡ 4 * n →
      first (λ j. B j (kind_at ws j) (attr_at ws j) (name_at ws j) (end_at ws j) (drop (4 * (j + 1)) ws)) n 0 ≡ seek (alone t) tt tt 0 r
  unfolding lead
  by-ends ws n r q h =
      sym (lead_first ws n 0 (omega arith))
      ∙ ap (lead 0) (sym q ∙ sym (append-nil (flat 0 r)))
      ∙ lead_flat 0 r []
      ∙ or_none (seek (alone t) tt tt 0 r)

-- a test that asks kind, attr and name alone
pub by_rows : (t : (k a n : ℕ) → Bool) (ws : List ℕ) (n : ℕ) (r : Rows) → flat 0 r ≡ ws → length ws ≡ 4 * n → first (λ j. t (kind_at ws j) (attr_at ws j) (name_at ws j)) n 0 ≡ seek (alone (λ k a n i. t k a n)) tt tt 0 r
by_rows t ws n r q h = by-ends (λ o k a n e ws. t k a n) (λ k a n i. t k a n) (λ o k a n i ws. refl) ws n r q h

-- what is found is one of the rows
below_cases : (b : Bool) (f g : Option ℕ) (o i s r : ℕ) → (f ≡ Some r → r < o + 1 + i) → (g ≡ Some r → r < o + 1 + i + s) → or_else (cond b (Some o) None) (or_else f g) ≡ Some r → r < o + (1 + i + s)
below_cases true f g o i s r hf hg h = let q : o ≡ r = cc in omega arith
below_cases false (Some x) g o i s r hf hg h = let l = hf h in omega arith
below_cases false None g o i s r hf hg h = let l = hg h in omega arith

pub seek_below : {C : Type 0} (R : Rule C) (x y : C) (o : ℕ) (t : Rows) (r : ℕ) → seek R x y o t ≡ Some r → r < o + size t
unfolding seek size
seek_below R x y o none r h = absurd (let z : ◌≡◌ {A = ℕ} 0 1 = cc in omega arith)
seek_below R x y o (node k a n i s) r h =
    below_cases (R.bad x k a n i) (seek R (R.one x k a) (R.more x k a) (o + 1) i) (seek R y y (o + 1 + size i) s) o (size i) (size s) r
    (λ e. seek_below R (R.one x k a) (R.more x k a) (o + 1) i r e) (λ e. seek_below R y y (o + 1 + size i) s r e) h
