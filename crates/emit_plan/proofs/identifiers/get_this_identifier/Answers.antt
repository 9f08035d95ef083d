-- `emit_plan::identifiers::get_this_identifier` meets its contract. Assumes nothing.
use Rattle.emit_plan.specs.Idents.{this_row}
use Rattle.emit_plan.proofs.identifiers.get_this_identifier.Goals as goal

pub returns-then-takes_this-clause-rows : goal.returns-then-takes_this-clause-rows
unfolding this_row
returns-then-takes_this-clause-rows c = rw c.if-takes_this.true c.captured_identifier.ensures.rows

pub returns-clause-rows : goal.returns-clause-rows
unfolding this_row
returns-clause-rows c = rw c.if-takes_this.false c.leaf.ensures.row
