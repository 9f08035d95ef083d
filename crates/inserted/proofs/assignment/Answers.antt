-- `inserted::assignment` meets its contract. Assumes nothing.
use Rattle.steps.specs.AfterSuper.{assignment}
use Rattle.output.proofs.Writing.{beside}
use Rattle.output.proofs.Held.{put_around}
use Rattle.inserted.proofs.assignment.Goals as goal

pub returns-clause-rows : goal.returns-clause-rows
unfolding assignment
returns-clause-rows c = put_around c.append.ensures.row (beside c.nested.ensures.rows c.leaf.ensures.row) c.close.ensures.end
