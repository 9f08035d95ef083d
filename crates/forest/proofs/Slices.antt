-- Runs of a list of words. Assumes nothing.
use mathlib.Core.Path.{◌≡◌, refl, ap, sym, ◌∙◌}
use mathlib.Core.List.{List, ◌∷◌, ◌++◌}
use Prim.Native.Nat.{ℕ, zero, suc, ◌+◌, ◌-◌, ◌<◌, ◌≤◌}
use native.Mathlib.Omega.{arith}
use native.Mathlib.Numerals.{add-one}
use lib.ListN.{get_or, length}
use lib.Seq.{slice, slice_empty, slice-cons}

module _ (l : List ℕ) where
  cons1 : (f g t : ℕ) → g ≡ f + 1 → f < t → t ≤ length l → slice f t l ≡ get_or l f 0 ∷ slice g t l
  cons1 f g t q h k = slice-cons f t l 0 h k ∙ ap (λ (x : ℕ). get_or l f 0 ∷ slice x t l) (sym (q ∙ add-one f))

  -- a row's four words, and what follows
  pub cons4 : (f g t : ℕ) → g ≡ f + 4 → g ≤ t → t ≤ length l → slice f t l ≡ get_or l f 0 ∷ get_or l (f + 1) 0 ∷ get_or l (f + 2) 0 ∷ get_or l (f + 3) 0 ∷ slice g t l
  cons4 f g t q h k =
      cons1 f (f + 1) t refl (omega arith) k
      ∙ ap (λ (x : List ℕ). get_or l f 0 ∷ x) (cons1 (f + 1) (f + 2) t (omega arith) (omega arith) k
      ∙ ap (λ (x : List ℕ). get_or l (f + 1) 0 ∷ x) (cons1 (f + 2) (f + 3) t (omega arith) (omega arith) k
      ∙ ap (λ (x : List ℕ). get_or l (f + 2) 0 ∷ x) (cons1 (f + 3) g t (omega arith) (omega arith) k)))

  split_at : (d f m t : ℕ) → m ≡ f + d → m ≤ t → t ≤ length l → slice f m l ++ slice m t l ≡ slice f t l
  split_at zero f m t q h k =
      let fm : m ≡ f = omega arith in
      ap (λ (x : ℕ). slice f x l ++ slice x t l) fm ∙ ap (λ (x : List ℕ). x ++ slice f t l) (slice_empty f l)
  split_at (suc d) f m t q h k =
      ap (λ (x : List ℕ). x ++ slice m t l) (cons1 f (f + 1) m refl (omega arith) (omega arith))
      ∙ ap (λ (x : List ℕ). get_or l f 0 ∷ x) (split_at d (f + 1) m t (omega arith) h k)
      ∙ sym (cons1 f (f + 1) t refl (omega arith) k)

  pub split : (f m t : ℕ) → f ≤ m → m ≤ t → t ≤ length l → slice f m l ++ slice m t l ≡ slice f t l
  split f m t a h k = split_at (m - f) f m t (omega arith) h k
