-- What a table that the checks accept is, for the layers above: they use these facts and need not see how the check works. Assumes nothing.
use Rattle.std.specs.Prelude.{ℕ, ◌*◌, ◌≤◌, ◌<◌, ◌≡◌, List, length}
use Rattle.names.specs.Words.{words, rows_in, names_in}
use Rattle.names.specs.Names.{GoodName}
use Rattle.grammar.specs.Grammar.{made_row}
use Rattle.forest.specs.Forest.{Rows, flat, table, Table, DepthWithin, NoRow}
use Rattle.forest.specs.Nested.{Nested}
use Rattle.rows.specs.Refusals.{limited}

-- the sizes, which refusal 1 tests
pub record GoodSizes (row_limit : ℕ) (rows names text : List ℕ) : Type 0 where
  pub row_bytes : length rows ≡ 16 * rows_in rows
  pub some : 0 < rows_in rows
  pub few : rows_in rows ≤ limited row_limit
  pub name_bytes : length names ≡ 8 * names_in names
  pub few_names : names_in names ≤ 4096
  pub short : length text ≤ 65535

pub record SoundTable (row_limit depth_limit : ℕ) (rows names text : List ℕ) : Type 0 where
  pub sizes : GoodSizes row_limit rows names text
  pub named : (k : ℕ) → 0 < k → k ≤ names_in names → GoodName names text k
  -- the words are those of one forest and of no other
  pub same : flat 0 (table rows) ≡ words rows
  pub only : (f : Rows) → flat 0 f ≡ words rows → f ≡ table rows
  -- which is as the grammar says, names included, is not too deep, and has no row of a result
  pub shaped : Table (names_in names) (table rows)
  pub shallow : DepthWithin (limited depth_limit) 0 (table rows)
  pub plain : NoRow made_row (table rows)
  -- what a walk over the words needs
  pub nested : Nested (words rows) (rows_in rows)
