-- `thawcopper::thawcopper_convert_with` meets its contract. Assumes nothing.
use Rattle.thawcopper.proofs.thawcopper_convert_with.Goals as goal

pub returns : goal.returns
returns c = rw (← c.has_bit.ensures, ← c.has_bit-2.ensures, ← c.has_bit-3.ensures, ← c.has_bit-tablet.ensures) c.convert_as.ensures
