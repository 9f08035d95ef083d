-- `numbers::Tables::enter_names` meets its contract. Assumes nothing.
use Rattle.numbers.proofs.Making.{Filing}
use Rattle.numbers.proofs.Tables.enter_names.Given as goal

abbrev pub invariant-loop-k : goal.invariant-loop-k
invariant-loop-k l = Filing l.initial.self l.self l.k
