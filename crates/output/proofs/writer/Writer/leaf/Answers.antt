-- `output::writer::Writer::leaf` meets its contract. Assumes nothing.
use Rattle.output.proofs.Held.{put_leaf}
use Rattle.output.proofs.writer.Writer.leaf.Goals as goal

pub returns-clause-row : goal.returns-clause-row
returns-clause-row c = put_leaf c.append.ensures.row
