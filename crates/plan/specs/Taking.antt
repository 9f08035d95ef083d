-- An act with the places of a row's children in numbers. Assumes nothing.
use Rattle.std.specs.Prelude.{◌≡◌, ℕ}
use Rattle.steps.specs.Mode.{Switches}
use Rattle.steps.specs.Acts.{Ctx, Act as StepsAct}
use Rattle.steps.specs.Context.{enter, spot}
use Rattle.passes.specs.View.{op_of}
use Rattle.acts.specs.View.{context_of}
use Rattle.acts.specs.declared.act.Act.{Act}
use Rattle.acts.specs.declared.act.Spot.{Spot}
use Rattle.plan.specs.declared.place.Place.{Place}
use Rattle.plan.specs.Frames.{FramesBelow, OpLow}
use Rattle.plan.specs.Placing.{place_of}

-- the act r of a row in context c is the steps' act A
pub record Takes (w : Switches) (c : Ctx) (A : StepsAct) (r : Act Place) : Type 0 where
  pub becomes : op_of r.op ≡ A.op
  pub first : place_of r.one ≡ spot (enter w A.one.step c) A.one.slot
  pub later : place_of r.more ≡ spot (enter w A.more.step c) A.more.slot

-- an act as the code has it, with the frames of its children's places
pub record ActLow (cap : ℕ) (r : Act Place) : Type 0 where
  pub op : OpLow cap (op_of r.op)
  pub one : FramesBelow cap (place_of r.one).ctx
  pub more : FramesBelow cap (place_of r.more).ctx

-- the spots of an act have a number
pub record Placeable (r : Act Spot) : Type 0 where
  pub one : FramesBelow 16384 (context_of r.one.context)
  pub more : FramesBelow 16384 (context_of r.more.context)
