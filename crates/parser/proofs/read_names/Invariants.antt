-- `parser::read_names` meets its contract. Assumes nothing.
use lib.ListN.{length}
use Rattle.parser.proofs.Reading.{Naming}
use Rattle.parser.proofs.read_names.Given as goal

abbrev pub invariant-loop-name : goal.invariant-loop-name
invariant-loop-name l = Naming l.s l.initial.pairs l.initial.text l.pairs l.text l.rest l.k l.t

abbrev pub decreases-loop-name : goal.decreases-loop-name
decreases-loop-name l = length l.rest
