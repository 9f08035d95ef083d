-- A step over the rows that stand side by side, over any words. Assumes nothing.
use Rattle.std.specs.Prelude.{◌≡◌, ◌<◌, ℕ, List, true, false}
use Rattle.names.specs.Words.{end_at}
use Rattle.forest.specs.Faults.{end_good}

-- The child row, which stands at c, below the end e, and whose `end` is as it must be; behind it, the next one stands at row c'.
pub record ChildAt (ws : List ℕ) (e c row c' : ℕ) : Type 0 where
  pub below : c < e
  pub row_is : row ≡ c
  pub ends : end_good ws c e ≡ true
  pub behind : c' ≡ end_at ws c

-- No such child stands at c: c is the end, or the child there has an `end` at fault. "A child whose `end` is at fault counts as its parent's last."
pub record NoChild (ws : List ℕ) (e c c' : ℕ) : Type 0 where
  pub stays : c' ≡ c
  pub faulty : c < e → end_good ws c e ≡ false
