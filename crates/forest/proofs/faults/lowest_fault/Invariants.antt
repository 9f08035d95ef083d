-- `forest::faults::lowest_fault` meets its contract. Assumes nothing.
use lib.ListN.{length}
use Rattle.names.specs.Words.{words}
use Rattle.forest.proofs.Visits.{Visit}
use Rattle.forest.proofs.faults.lowest_fault.Given as goal

abbrev pub invariant-loop-row : goal.invariant-loop-row
invariant-loop-row l = Visit (words l.rows.bytes.now) l.rows.count l.names (length l.initial.marks) l.marks l.row
