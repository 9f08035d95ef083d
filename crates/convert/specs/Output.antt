-- What the program prints for each standard input. Assumes nothing.
use Rattle.std.specs.Prelude.{◌≡◌, false, cond, List, [], ℕ, ◌≤◌, length, take, eqb}
use Rattle.names.specs.Laid.{joined, pairs_from}
use Rattle.names.specs.Bytes.{bytes_of}
use Rattle.steps.specs.Mode.{Switches}
use Rattle.steps.specs.Outcome.{Outcome, Room}
use Rattle.answer.specs.Converting.{outcome_as, number_in, place_in, row_words, record_words}
use Rattle.printer.specs.Print.{printed}
use Rattle.parser.specs.Parse.{Read, Read.sheet, Read.faulty, sheet_of}
use Rattle.convert.specs.declared.Refusal.{Refusal}
use Rattle.convert.specs.declared.Refusal.TheVariants.{Faulty, TooLong}

-- "The convert program prints, with room for 2,048 rows and 256 bindings"
abbrev pub room : Room
room = record { rows = 2048; bindings = 256 }

-- a conversion's answer: a refusal has no rows and no records
abbrev pub answer : Outcome → List ℕ
answer o = printed (number_in o) (place_in o) (row_words o) (record_words o)

-- "the program calls as the print room"
abbrev pub outcome_for : Switches → (rows names text : List ℕ) → Outcome
outcome_for w rows names text = outcome_as false w rows names text room

-- 12, "program only, tested first", or what becomes of the sheet
abbrev pub answer_to : Read → List ℕ
answer_to (faulty line) = printed 12 line [] []
answer_to (sheet w names rows) = answer (outcome_for w (bytes_of rows) (bytes_of (pairs_from 0 names)) (joined names))

-- the output for an input
abbrev pub output_for : List ℕ → List ℕ
output_for input = answer_to (sheet_of input)

-- the output for an input over 131,072 bytes: its first faulty or missing line, or 0 where it is in the form and has too many names or too much text
abbrev pub answer_long : ℕ → List ℕ
answer_long line = cond (eqb line 0) (printed 1 0 [] []) (printed 12 line [] [])

-- The request's number for what the program refuses before a table is converted, and its place: "program only, tested first" a line, from 1, or 0.
abbrev pub number_of : Refusal → ℕ
number_of (Faulty fault) = 12
number_of TooLong = 1

abbrev pub place_of : Refusal → ℕ
place_of (Faulty fault) = fault.line
place_of TooLong = 0

-- its text: no rows and no records
abbrev pub turned_away : Refusal → List ℕ
turned_away refusal = printed (number_of refusal) (place_of refusal) [] []

-- the first r bytes are the whole text
pub record Shows (text : List ℕ) (r : ℕ) (out : List ℕ) : Type 0 where
  pub shown : take r out ≡ text
  pub whole : r ≤ length out
