-- `walks::records::write_records` meets its contract. Assumes nothing.
use Rattle.walks.proofs.Copying.{Records}
use Rattle.walks.proofs.records.write_records.Given as goal

abbrev pub invariant-loop-i : goal.invariant-loop-i
invariant-loop-i l = Records l.bindings.made.now l.bindings.cap l.bindings.count l.initial.out l.out l.i
