-- `numbers::Tables::find_numbers` meets its contract. Assumes nothing.
use Rattle.numbers.proofs.Making.{Numbers}
use Rattle.numbers.proofs.Tables.find_numbers.Given as goal

abbrev pub invariant-loop-k : goal.invariant-loop-k
invariant-loop-k l = Numbers l.fn.self l.self l.bytes l.k
