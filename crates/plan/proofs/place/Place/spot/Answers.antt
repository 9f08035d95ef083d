-- `plan::place::Place::spot` meets its contract. The code has one division for each part. Assumes nothing.
use Prim.Native.Nat.{◌%◌}
use native.Mathlib.Omega.{arith}
use native.Mathlib.Nat.{div-div-eq-div-mul}
use Rattle.passes.proofs.Slotted.{own_slot}
use Rattle.plan.specs.Placing.{place_of}
use Rattle.plan.proofs.Placing.{frame_low}
use Rattle.plan.proofs.place.Place.spot.Goals as goal

pub returns : goal.returns
unfolding place_of
returns c = record {
  result_value = rw (c.from.ensures, own_slot (c.args.self.code % 8) (omega arith)) (simp div-div-eq-div-mul);
  frames_below = record { this = frame_low _; super = frame_low _; arguments = frame_low _ };
}
