-- `acts::context::Context::in_static` meets its contract. Assumes nothing.
use mathlib.Core.Path.{refl}
use Rattle.steps.specs.Context.{enter}
use Rattle.acts.proofs.context.Context.in_static.Goals as goal

pub returns : goal.returns
unfolding enter
returns c = refl
