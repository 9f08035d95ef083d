-- `output::writer::Writer::nested` meets its contract. Assumes nothing.
use Rattle.output.proofs.Held.{put_around}
use Rattle.output.proofs.writer.Writer.nested.Goals as goal

pub returns-clause-rows : goal.returns-clause-rows
returns-clause-rows c = put_around c.append.ensures.row c.leaf.ensures.row c.close.ensures.end
