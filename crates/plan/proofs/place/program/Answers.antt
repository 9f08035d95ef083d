-- `plan::place::program` meets its contract. Assumes nothing.
use mathlib.Core.Path.{ap, sym, subst, ◌∙◌}
use native.Mathlib.Omega.{arith}
use Rattle.steps.specs.Slots.{free}
use Rattle.steps.specs.Acts.{Ctx}
use Rattle.steps.specs.Context.{spot}
use Rattle.plan.specs.Frames.{FramesBelow}
use Rattle.plan.proofs.place.program.Goals as goal

pub placed-requires : goal.placed-requires
placed-requires c =
    subst (FramesBelow 16384) (sym c.at_program.ensures) (record { this = omega arith; super = omega arith; arguments = omega arith })

pub returns : goal.returns
returns c = c.placed.ensures ∙ ap (λ (x : Ctx). spot x free) c.at_program.ensures
