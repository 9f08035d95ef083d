-- `emit_plan::plans::inside_state` meets its contract. Assumes nothing.
use Rattle.passes.proofs.Numbers.{not_state}
use Rattle.emit_plan.proofs.plans.inside_state.Goals as goal

pub returns-in_default : goal.returns-in_default
returns-in_default c = rw (not_state _ _ c.in_default.not-List)
