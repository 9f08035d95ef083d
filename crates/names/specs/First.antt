-- "first bad name", "first row": the lowest number of which a test holds. Assumes nothing.
use Rattle.std.specs.Prelude.{ℕ, zero, suc, ◌+◌, Bool, cond, Option, Some, None}

-- the first of the `count` numbers from `from` on of which `test` holds
unfoldable pub first : (test : ℕ → Bool) (count from : ℕ) → Option ℕ
first test zero from = None
first test (suc count) from = cond (test from) (Some from) (first test count (from + 1))
