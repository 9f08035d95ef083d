-- `plan::place::Place::this_at` meets its contract. The code has one division for it. Assumes nothing.
use native.Mathlib.Nat.{div-div-eq-div-mul}
use Rattle.plan.specs.Placing.{place_of}
use Rattle.plan.proofs.Placing.{frame_low}
use Rattle.plan.proofs.place.Place.this_at.Goals as goal

pub returns : goal.returns
unfolding place_of
returns c = record {
  value = simp div-div-eq-div-mul;
  upper_bound = frame_low _;
}
