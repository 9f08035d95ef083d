-- The request's numbers for each answer of `convert` (docs/FORMAT.md, "Converting"). "Every refusal has zero counts"; "An acceptance has number 0, place 0". Assumes nothing.
use Rattle.std.specs.Prelude.{ℕ, Result}
use Rattle.names.specs.Answered.{if_refused, if_accepted}
use Rattle.rows.specs.Refusals as checks
use Rattle.refusals.specs.Refused as turns
use Rattle.answer.specs.declared.Converted.{Converted}
use Rattle.answer.specs.declared.Refusal.{Refusal}
use Rattle.answer.specs.declared.Refusal.TheVariants.{Unsound, TurnedAway, NoRoom}

-- what a call of `convert` answers
abbrev pub Answer : Type 0
Answer = Result Converted Refusal

abbrev pub refusal_number : Refusal → ℕ
refusal_number (Unsound unsound) = checks.unsound_number unsound
refusal_number (TurnedAway refused) = turns.number_of refused
refusal_number NoRoom = 9

abbrev pub refusal_place : Refusal → ℕ
refusal_place (Unsound unsound) = checks.unsound_place unsound
refusal_place (TurnedAway refused) = turns.place_for refused
refusal_place NoRoom = 0

abbrev pub number_of : Answer → ℕ
number_of answer = if_refused refusal_number answer

abbrev pub place_of : Answer → ℕ
place_of answer = if_refused refusal_place answer

abbrev pub rows_of : Answer → ℕ
rows_of answer = if_accepted (λ converted. converted.rows) answer

abbrev pub bindings_of : Answer → ℕ
bindings_of answer = if_accepted (λ converted. converted.bindings) answer
