-- `acts::switches::Switches::is_enabled` meets its contract. Assumes nothing.
use Rattle.acts.specs.View.{switches_of}
use Rattle.acts.proofs.Entering.{arrows_enabled}
use Rattle.acts.proofs.switches.Switches.is_enabled.Goals as goal

pub returns : goal.returns
returns c = arrows_enabled (switches_of c.args.self)
