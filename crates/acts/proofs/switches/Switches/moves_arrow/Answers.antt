-- `acts::switches::Switches::moves_arrow` meets its contract. Assumes nothing.
use mathlib.Core.Path.{◌∙◌}
use Rattle.acts.specs.View.{switches_of}
use Rattle.acts.proofs.Entering.{arrow_as}
use Rattle.acts.proofs.switches.Switches.moves_arrow.Goals as goal

pub returns : goal.returns
returns c = c.will_transform_async_function.ensures ∙ arrow_as (switches_of c.args.self) c.args.attr _ c.converter.result.async_generator_functions_enabled _ c.converter.ensures.async_to_generator c.has_bit.ensures
