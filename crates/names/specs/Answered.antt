-- Answers of tests and of entries: what is found, if anything; an acceptance, or a refusal with its number and place. Assumes nothing.
use Rattle.std.specs.Prelude.{ℕ, Option, Some, None, Result, Ok, Err}

-- what a test found, or else what another one did
abbrev pub or_else : {A : Type 0} → Option A → Option A → Option A
or_else None other = other
or_else (Some found) other = Some found

-- the refusal of what a test found, or what is answered where it found nothing
abbrev pub unless_found : {A B E : Type 0} → (A → E) → Option A → Result B E → Result B E
unless_found refusal (Some found) other = Err (refusal found)
unless_found refusal None other = other

-- a refusal's number or place: "an acceptance has number 0, place 0"
abbrev pub if_refused : {A E : Type 0} → (E → ℕ) → Result A E → ℕ
if_refused told (Ok accepted) = 0
if_refused told (Err refusal) = told refusal

-- an acceptance's count: "Every refusal has zero counts"
abbrev pub if_accepted : {A E : Type 0} → (A → ℕ) → Result A E → ℕ
if_accepted count (Ok accepted) = count accepted
if_accepted count (Err refusal) = 0
