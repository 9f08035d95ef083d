-- `refusals::firsts::super_of` meets its contract. Assumes nothing.
use Rattle.refusals.proofs.Stands.{clear}
use Rattle.refusals.proofs.firsts.super_of.Goals as goal

pub super_over-requires : goal.super_over-requires
super_over-requires g c = clear _ _ c.requires.0
