-- Change request No. 1: what is accepted under two limits gives the same rows and bindings under larger ones. Assumes nothing.
use mathlib.Core.Path.{◌≡◌, sym, ◌∙◌}
use mathlib.Core.List.{List}
use Prim.Native.Nat.{ℕ, ◌≤◌}
use Rattle.rows.specs.Refusals.{checked, Sound}
use Rattle.rows.proofs.Larger.{checked-up}
use Rattle.steps.specs.Mode.{Switches}
use Rattle.steps.specs.Accepted.{Accepted}
use Rattle.steps.specs.Outcome.{Outcome.converted, Room, outcome}
use Rattle.steps.proofs.Acceptance.{Converted, converts}

module _ (row_limit depth_limit more_rows more_depth : ℕ) (w : Switches) (rows names text : List ℕ) (lr : row_limit ≤ more_rows) (ld : depth_limit ≤ more_depth) where
  pub accepted_up : Accepted row_limit depth_limit w rows names text → Accepted more_rows more_depth w rows names text
  accepted_up A =
      record { sound = checked-up row_limit depth_limit more_rows more_depth rows names text lr ld A.sound; six-none = A.six-none; seven-none = A.seven-none; eight-none = A.eight-none }

  -- where the check under the smaller limits finds the table sound, the outcomes are equal whatever they are: 6 to 9 too
  pub outcome-up : (room : Room) → checked row_limit depth_limit rows names text ≡ Sound → outcome row_limit depth_limit w rows names text room ≡ outcome more_rows more_depth w rows names text room
  unfolding outcome
  outcome-up room h = rw (h, checked-up row_limit depth_limit more_rows more_depth rows names text lr ld h)

  -- "What is accepted under the smaller pair must give the same rows and bindings under the larger; .. with the same switches and room, over any two pairs where one is no larger than the other in
  -- either number"
  pub limits_same : (room : Room) (out bindings : List ℕ) → outcome row_limit depth_limit w rows names text room ≡ converted out bindings
      → outcome more_rows more_depth w rows names text room ≡ converted out bindings
  limits_same room out bindings h =
      let C : Converted row_limit depth_limit w rows names text room out bindings = converts row_limit depth_limit w rows names text room out bindings h in
      sym (outcome-up room C.accepted.sound) ∙ h
