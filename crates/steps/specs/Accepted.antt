-- One acceptance, for the laws of the steps and demand 3: what refusals 1, 3 to 8 and 21 to 25 leave. Assumes nothing.
use Rattle.std.specs.Prelude.{◌≡◌, List, ℕ, None}
use Rattle.forest.specs.Forest.{table}
use Rattle.rows.specs.Refusals.{checked, Sound}
use Rattle.steps.specs.Mode.{Switches}
use Rattle.steps.specs.Outcome.{names_of}
use Rattle.steps.specs.Refusals.{six, seven, eight}

-- "accepted .. whatever room is lent": no test but 9 turns the table away
pub record Accepted (row_limit depth_limit : ℕ) (w : Switches) (rows names text : List ℕ) : Type 0 where
  pub sound : checked row_limit depth_limit rows names text ≡ Sound
  pub six-none : six w (table rows) ≡ None
  pub seven-none : seven w (table rows) ≡ None
  pub eight-none : eight (names_of names text) w (table rows) ≡ None
