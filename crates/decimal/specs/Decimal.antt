-- Numbers in decimal, and bytes written as far as there is room. Assumes nothing.
use Rattle.std.specs.Prelude.{◌≡◌, cond, List, [], ◌∷◌, ◌++◌, ℕ, zero, suc, ◌+◌, ◌/◌, ◌%◌, length, ltb}
use Rattle.std.proofs.lemmas.List.Edits.{sets}

-- the digits of n, most significant first; the first argument is fuel
unfoldable pub digits : ℕ → ℕ → List ℕ
digits zero n = []
digits (suc f) n = cond (ltb n 10) ((48 + n) ∷ []) (digits f (n / 10) ++ ((48 + n % 10) ∷ []))

-- "Fields are decimal u32 without leading zeros"
unfoldable pub decimal : ℕ → List ℕ
decimal n = digits (suc n) n

-- the bytes bs were written from `at` on, as far as there was room, and r is one past them
pub record Wrote (before : List ℕ) (at : ℕ) (bs : List ℕ) (r : ℕ) (after : List ℕ) : Type 0 where
  pub next : r ≡ at + length bs
  pub wrote : after ≡ sets before at bs
