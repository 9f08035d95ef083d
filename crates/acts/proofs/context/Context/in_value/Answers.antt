-- `acts::context::Context::in_value` meets its contract. Assumes nothing.
use mathlib.Core.Path.{refl}
use Rattle.steps.specs.Context.{enter}
use Rattle.acts.proofs.context.Context.in_value.Goals as goal

pub returns : goal.returns
unfolding enter
returns c = refl
