-- `passes::own` meets its contract. Assumes nothing.
use Rattle.steps.specs.Fused.{own}
use Rattle.passes.proofs.Numbers.{not_slot}
use Rattle.passes.proofs.own.Goals as goal

pub returns-in-Wrapped : goal.returns-in-Wrapped
unfolding own
returns-in-Wrapped c = rw (c.in-Wrapped.is, c.within.ensures)

pub returns-in_default : goal.returns-in_default
unfolding own
returns-in_default c = rw (not_slot _ _ c.in_default.not-Wrapped)
