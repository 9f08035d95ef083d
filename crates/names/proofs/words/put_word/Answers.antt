-- `names::words::put_word` meets its contract. Assumes nothing.
use mathlib.Core.Path.{◌∙◌}
use Rattle.names.proofs.Storing.{four-le}
use Rattle.names.proofs.words.put_word.Goals as goal

pub returns : goal.returns
returns c = four-le c.args.out.now _ c.args.at c.args.x c.requires c.ranges.x.fits (c.copy_from_slice.ensures.after ∙ c.to_le_bytes.ensures)
