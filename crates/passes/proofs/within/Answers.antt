-- `passes::within` meets its contract. Assumes nothing.
use Rattle.steps.specs.Fused.{within}
use Rattle.passes.proofs.Numbers.{not_state}
use Rattle.passes.proofs.within.Goals as goal

pub returns-in_default : goal.returns-in_default
unfolding within
returns-in_default c = rw (not_state _ _ c.in_default.not-Copy, not_state _ _ c.in_default.not-Members)
