-- `converter::result::up_to` meets its contract. Assumes nothing.
use Rattle.converter.proofs.Spaces.{over_zeros}
use Rattle.converter.proofs.result.up_to.Goals as goal

pub write_result-requires : goal.write_result-requires
write_result-requires g c = over_zeros _ _ c.requires.sizes.0 c.requires.sizes.1.0 c.requires.sizes.1.1 c.requires.switches_value
