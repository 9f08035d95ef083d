-- What a walk over the rows of a sound table needs to know of its words. Assumes nothing.
use Rattle.std.specs.Prelude.{List, ℕ, ◌≤◌, ◌<◌}
use Rattle.names.specs.Words.{end_at}

-- each of the n rows ends past itself and within the table, and the subtrees nest
pub record Nested (ws : List ℕ) (n : ℕ) : Type 0 where
  pub ahead : (k : ℕ) → k < n → k < end_at ws k
  pub inside : (k : ℕ) → k < n → end_at ws k ≤ n
  pub nested : (k j : ℕ) → k < n → k < j → j < end_at ws k → end_at ws j ≤ end_at ws k

-- rows i up to e are whole subtrees, side by side
pub record Range (ws : List ℕ) (n i e : ℕ) : Type 0 where
  pub ordered : i ≤ e
  pub within : e ≤ n
  pub closed : (j : ℕ) → i ≤ j → j < e → end_at ws j ≤ e
