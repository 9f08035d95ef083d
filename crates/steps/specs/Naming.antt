-- The names of a table, by their bytes. Assumes nothing.
use Rattle.std.specs.Prelude.{List, ℕ, Bool}
use Rattle.names.specs.Names.{same_name, is_arguments}

-- the pairs and the text
pub record Names : Type 0 where
  pub pairs : List ℕ
  pub text : List ℕ

-- "Names are compared by bytes."
unfoldable pub same_as : Names → ℕ → ℕ → Bool
same_as N j k = same_name N.pairs N.text j k

unfoldable pub named_arguments : Names → ℕ → Bool
named_arguments N k = is_arguments N.pairs N.text k
