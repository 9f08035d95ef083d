-- The first and the last of some elements of which a test holds, by their numbers. Assumes nothing.
use Rattle.std.specs.Prelude.{List, [], ◌∷◌, ℕ, ◌+◌, Bool, cond, eqb}

-- numbers are counted from c; 0: none
unfoldable pub first_where : {A : Type 0} → (A → Bool) → ℕ → List A → ℕ
first_where p c [] = 0
first_where p c (x ∷ xs) = cond (p x) c (first_where p (c + 1) xs)

unfoldable pub last_where : {A : Type 0} → (A → Bool) → ℕ → List A → ℕ
last_where p c [] = 0
last_where p c (x ∷ xs) = cond (eqb (last_where p (c + 1) xs) 0) (cond (p x) c 0) (last_where p (c + 1) xs)
