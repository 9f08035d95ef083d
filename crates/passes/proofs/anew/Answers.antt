-- `passes::anew` meets its contract. Assumes nothing.
use Rattle.steps.specs.Fused.{anew}
use Rattle.passes.proofs.Numbers.{slot_same}
use Rattle.passes.proofs.anew.Goals as goal

pub returns : goal.returns
unfolding anew
returns c = rw (c.closes.ensures, c.eq.ensures, slot_same)
