-- The made names written by their numbers. Assumes nothing.
use Rattle.std.specs.Prelude.{◌≡◌, List, ℕ}
use Rattle.std.proofs.lemmas.List.Edits.{sets}
use Rattle.names.specs.Bytes.{bytes_of}
use Rattle.names.specs.Laid.{joined, pairs_from}
use Rattle.base_text.specs.Bindings.{records_in}
use Rattle.numbers.specs.Entries.{made_from}

-- all of them, and their pairs, stand at the front of what was lent
pub record Laid (bindings names text numbers pairs pairs' out out' : List ℕ) : Type 0 where
  pub paired : pairs' ≡ sets pairs 0 (bytes_of (pairs_from 0 (made_from bindings names text numbers 1 (records_in bindings))))
  pub written : out' ≡ sets out 0 (joined (made_from bindings names text numbers 1 (records_in bindings)))
