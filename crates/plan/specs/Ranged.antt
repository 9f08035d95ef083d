-- What a walker knows of its rows: they are a list of siblings in a table that nests. Assumes nothing.
use Rattle.std.specs.Prelude.{ℕ, ◌*◌, ◌≤◌, ◌≡◌, List, length}
use Rattle.names.specs.Words.{words, rows_in}
use Rattle.forest.specs.Nested.{Nested, Range}

-- the rows from i to e
pub record Ranged (rows : List ℕ) (i e : ℕ) : Type 0 where
  pub bytes : length rows ≡ 16 * rows_in rows
  pub few : rows_in rows ≤ 16384
  pub nested : Nested (words rows) (rows_in rows)
  pub range : Range (words rows) (rows_in rows) i e
