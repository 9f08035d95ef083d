-- Sets of kinds as numbers. Assumes nothing.
use Rattle.std.specs.Prelude.{ℕ, zero, suc, ◌+◌, ◌*◌, Bool, cond}

-- the number whose bits, from the lowest on, say whether f holds of k, of k + 1 and so on, n of them
unfoldable pub bits_from : (f : ℕ → Bool) (k n : ℕ) → ℕ
bits_from f k zero = 0
bits_from f k (suc n) = cond (f k) 1 0 + 2 * bits_from f (suc k) n

-- the set of "the kinds", which are below 29, of which f holds: bit k is 1 where it holds of kind k
unfoldable pub set_of : (ℕ → Bool) → ℕ
set_of f = bits_from f 0 29
