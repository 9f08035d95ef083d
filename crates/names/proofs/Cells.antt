-- Word k of the words of a list of bytes. Assumes nothing.
use mathlib.Core.Path.{◌≡◌, refl, ◌∙◌}
use mathlib.Core.List.{List, [], ◌∷◌}
use Prim.Native.Nat.{ℕ, zero, suc, ◌+◌, ◌*◌, ◌<◌}
use native.Mathlib.Omega.{arith}
use native.Mathlib.Numerals.{add-one, add-two, add-three}
use lib.ListN.{get_or, length}
use Rattle.names.specs.Words.{word_at, words}

four : (k : ℕ) → 4 * suc k ≡ suc (suc (suc (suc (4 * k))))
four k = omega arith

pub word-at : (s : List ℕ) (k : ℕ) → 4 * k + 3 < length s → get_or (words s) k 0 ≡ word_at s (4 * k)
unfolding words
word-at [] k h = absurd (omega arith)
word-at (a ∷ []) k h = absurd (omega arith)
word-at (a ∷ b ∷ []) k h = absurd (omega arith)
word-at (a ∷ b ∷ c ∷ []) k h = absurd (omega arith)
word-at (a ∷ b ∷ c ∷ d ∷ r) zero h = refl
word-at (a ∷ b ∷ c ∷ d ∷ r) (suc k) h =
    word-at r k (omega arith) ∙ simp (four k, add-one, add-two, add-three)
