-- `acts::act::kept` meets its contract. Assumes nothing.
use mathlib.Core.Path.{refl}
use Rattle.passes.specs.View.{op_of}
use Rattle.acts.proofs.act.kept.Goals as goal

pub returns : goal.returns
unfolding op_of
returns c = refl
