-- What stands right below a row of a table. Assumes nothing.
use Rattle.std.specs.Prelude.{ℕ, ◌+◌, ◌*◌, ◌≤◌, ◌<◌, ◌≡◌, cond, List, length, Option, Some, None}
use Rattle.names.specs.Words.{words, end_at}
use Rattle.forest.specs.Forest.{Rows, rows_at}
use Rattle.forest.specs.Nested.{Nested}
use Rattle.steps.specs.Super.{first_super, first_access, first_name, first_inside}
use Rattle.steps.specs.AfterSuper.{super_call}
use Rattle.below.specs.declared.Below.{Below}

-- i is one of n rows that nest
pub record At (rows : List ℕ) (n i : ℕ) : Type 0 where
  pub bytes : length rows ≡ 16 * n
  pub few : n ≤ 16384
  pub nested : Nested (words rows) n
  pub row : i < n

-- the children of row i, and all below them
abbrev pub children : List ℕ → ℕ → Rows
children ws i = rows_at ws (i + 1) (end_at ws i)

-- the name of the first of some rows, where that is `super.p` or `super[k]`
abbrev pub property_of : Rows → Option ℕ
property_of f = cond (first_access f) (Some (first_name f)) None

-- what an act asks of it
pub record Asked (f : Rows) (b : Below) : Type 0 where
  pub supered : b.first_super ≡ first_super f
  pub accessed : b.first_access ≡ first_access f
  pub deep : b.deep_access ≡ property_of (first_inside f)

-- what `Below` says of some rows
pub record Seen (f : Rows) (b : Below) : Type 0 where
  pub asked : Asked f b
  pub called : b.super_call ≡ super_call f
  pub named : b.deep_name ≡ first_name (first_inside f)
  pub small : b.deep_name < 4294967296
