-- The first child of a row of a table. Assumes nothing.
use Rattle.std.specs.Prelude.{◌≡◌, List, ℕ, MatchOption, Option}
use Rattle.names.specs.Words.{words, kind_at, attr_at, name_at, end_at}
use Rattle.forest.specs.Forest.{Rows.none, Rows.node, rows_at}
use Rattle.below.specs.declared.Node.{Node}
use Rattle.below.specs.Below.{children}

-- the first child of row i is that row of the same table: the children are it, with its own below it, and the rows after it
pub record FirstIs (rows : List ℕ) (i : ℕ) (child : Node) : Type 0 where
  pub same : child.rows.now ≡ rows
  pub first : children (words rows) i ≡ node (kind_at (words rows) child.at) (attr_at (words rows) child.at) (name_at (words rows) child.at) (children (words rows) child.at)
      (rows_at (words rows) (end_at (words rows) child.at) (end_at (words rows) i))

-- the first child of row i, or it has none
abbrev pub FirstOf : List ℕ → ℕ → Option Node → Type 0
FirstOf rows i answer = MatchOption answer (children (words rows) i ≡ none) (FirstIs rows i)
