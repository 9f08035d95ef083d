-- An act as the code has it, and the steps' act. Assumes nothing.
use Rattle.std.specs.Prelude.{◌≡◌}
use Rattle.steps.specs.Mode.{Switches}
use Rattle.steps.specs.Acts.{Ctx, Act as StepsAct}
use Rattle.steps.specs.Context.{enter, Spot as StepsSpot, spot}
use Rattle.passes.specs.View.{op_of, slot_number}
use Rattle.passes.specs.declared.slots.Slot.{Slot}
use Rattle.passes.specs.declared.Becomes.{Becomes}
use Rattle.acts.specs.declared.context.Context.{Context}
use Rattle.acts.specs.declared.act.Spot.{Spot}
use Rattle.acts.specs.declared.act.Act.{Act}
use Rattle.acts.specs.View.{context_of}

abbrev pub spot_of : Spot → StepsSpot
spot_of q = spot (context_of q.context) (slot_number q.slot)

-- children in these contexts and slots: the first, and the later ones
abbrev pub inside_of : (op : Becomes) (one : Context) (slot : Slot) (more : Context) (last : Slot) → Act Spot
inside_of op one slot more last = record { op = op; one = record { context = one; slot = slot }; more = record { context = more; slot = last } }

-- the act r of a row in context c is the steps' act A
pub record Does (w : Switches) (c : Ctx) (A : StepsAct) (r : Act Spot) : Type 0 where
  pub becomes : op_of r.op ≡ A.op
  pub first : spot_of r.one ≡ spot (enter w A.one.step c) A.one.slot
  pub later : spot_of r.more ≡ spot (enter w A.more.step c) A.more.slot
