-- `emit_plan::identifiers::accessor_identifier` meets its contract. Assumes nothing.
use Rattle.emit_plan.proofs.identifiers.accessor_identifier.Goals as goal

pub returns-clause-rows : goal.returns-clause-rows
returns-clause-rows c = rw (← c.accessor-b.ensures.0) c.leaf.ensures.row
