-- `acts::switches::Switches::moves_function` meets its contract. Assumes nothing.
use mathlib.Core.Path.{◌∙◌}
use Rattle.acts.specs.View.{switches_of}
use Rattle.acts.proofs.Entering.{moved_as}
use Rattle.acts.proofs.switches.Switches.moves_function.Goals as goal

pub returns : goal.returns
returns c = c.will_transform_async_function.ensures ∙ moved_as (switches_of c.args.self) c.args.attr _ _ _ _ c.converter.ensures.async_to_generator c.converter.ensures.async_generator_functions c.has_bit.ensures c.has_bit-2.ensures
