-- `refusals::firsts::field_over` meets its contract. Assumes nothing.
use lib.ListN.{length}
use Rattle.names.specs.Words.{words}
use Rattle.refusals.proofs.Values.{Since}
use Rattle.refusals.proofs.firsts.field_over.Given as goal

abbrev pub invariant-loop-i : goal.invariant-loop-i
invariant-loop-i l = Since (words l.table.rows.now) l.arrows l.table.count (length l.initial.next) l.next l.hit l.found l.i
