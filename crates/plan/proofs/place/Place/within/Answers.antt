-- `plan::place::Place::within` meets its contract. Assumes nothing.
use Rattle.passes.specs.View.{slot_number}
use Rattle.passes.proofs.Numbers.{slot_tag, slot_low}
use Rattle.plan.proofs.Placing.{within-back}
use Rattle.plan.proofs.place.Place.within.Goals as goal

pub returns : goal.returns
returns c = rw (slot_tag c.args.slot) (within-back c.args.self (slot_number c.args.slot) (slot_low c.args.slot))
