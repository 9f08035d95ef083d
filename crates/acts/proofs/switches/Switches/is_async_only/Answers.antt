-- `acts::switches::Switches::is_async_only` meets its contract. Assumes nothing.
use mathlib.Core.Path.{ap, ◌∙◌}
use Rattle.steps.specs.Mode.{is_async_only, async_only}
use Rattle.acts.proofs.switches.Switches.is_async_only.Goals as goal

pub returns : goal.returns
unfolding async_only
returns c = c.is_async_only.ensures ∙ ap is_async_only c.converter.ensures.mode
