-- What `convert` promises: of every number returned and of every word lent. Assumes nothing.
use Rattle.std.specs.Prelude.{◌≡◌, List, [], ◌∷◌, ◌++◌, Bool, false, ℕ, ◌*◌, ◌/◌, length, take, drop}
use Rattle.names.specs.Words.{words}
use Rattle.names.specs.Bytes.{bytes_of}
use Rattle.forest.specs.Forest.{rows_at, table}
use Rattle.rows.specs.Limits.{row_limit_of, depth_limit_of}
use Rattle.steps.specs.Mode.{Switches}
use Rattle.steps.specs.Bindings.{Binding, Binding.bind}
use Rattle.steps.specs.Steps.{Result}
use Rattle.steps.specs.Outcome.{Outcome, Outcome.refused, Outcome.converted, Room, outcome}
use Rattle.steps.specs.Owners.{OwnersKept, Calm, Home.at_top, arrows_on}

-- "the whole ones lent": rows of 16 bytes, records of 12
abbrev pub lent_room : (out_rows out_bindings : List ℕ) → Room
lent_room out_rows out_bindings = record { rows = length out_rows / 16; bindings = length out_bindings / 12 }

-- what a caller is answered, given its room: "1 and 3 are given at the caller's own numbers"
abbrev pub outcome_as : (tablet : Bool) → Switches → (rows names text : List ℕ) → Room → Outcome
outcome_as tablet w rows names text room = outcome (row_limit_of tablet) (depth_limit_of tablet) w rows names text room

-- what the print room is answered, given the bytes that it lends
abbrev pub outcome_of : Switches → (rows names text out_rows out_bindings : List ℕ) → Outcome
outcome_of w rows names text out_rows out_bindings = outcome_as false w rows names text (lent_room out_rows out_bindings)

-- The number and the place of an outcome, and the words that it writes. "Every refusal .. writes nothing. An acceptance has number 0, place 0".
abbrev pub number_in : Outcome → ℕ
number_in (refused number place) = number
number_in (converted rows bindings) = 0

abbrev pub place_in : Outcome → ℕ
place_in (refused number place) = place
place_in (converted rows bindings) = 0

abbrev pub row_words : Outcome → List ℕ
row_words (refused number place) = []
row_words (converted rows bindings) = rows

abbrev pub record_words : Outcome → List ℕ
record_words (refused number place) = []
record_words (converted rows bindings) = bindings

-- some words at the front, as bytes, and all else as it was
abbrev pub at_front : (ws before : List ℕ) → List ℕ
at_front ws before = bytes_of ws ++ drop (length (bytes_of ws)) before

-- the four numbers of an answer, and what it leaves in the two slices lent
pub record Answers (o : Outcome) (number place rows bindings : ℕ) (out_rows out_rows' out_bindings out_bindings' : List ℕ) : Type 0 where
  pub numbered : number ≡ number_in o
  pub placed : place ≡ place_in o
  -- a row has four words, a record three
  pub counted : 4 * rows ≡ length (row_words o)
  pub listed : 3 * bindings ≡ length (record_words o)
  -- "and writes just the counted rows, bindings .. at the front"
  pub rows_written : out_rows' ≡ at_front (row_words o) out_rows
  pub bindings_written : out_bindings' ≡ at_front (record_words o) out_bindings

-- the records that stand in some words
unfoldable pub records_in : List ℕ → List Binding
records_in [] = []
records_in (u ∷ []) = []
records_in (u ∷ x ∷ []) = []
records_in (u ∷ x ∷ f ∷ ws) = bind u x f ∷ records_in ws

-- the result that stands at the front of two slices: so many rows, and so many records
abbrev pub result_in : (rows bindings : ℕ) (out_rows out_bindings : List ℕ) → Result
result_in rows bindings out_rows out_bindings =
    record { rows = rows_at (words (take (16 * rows) out_rows)) 0 rows; bindings = records_in (words (take (12 * bindings) out_bindings)) }

-- Demand 3, of the bytes lent and the bytes written: "every table accepted with arrows on and both async switches off .. that has no arrow in a class field's value or in an ordinary
-- function's parameters, and no constructor that mentions `super`"
abbrev pub KeepsOwners : Switches → (rows : List ℕ) (number written_rows written_bindings : ℕ) (out_rows out_bindings : List ℕ) → Type 0
KeepsOwners w rows number written_rows written_bindings out_rows out_bindings =
    w ≡ arrows_on → number ≡ 0 → Calm at_top at_top false (table rows) → OwnersKept (table rows) (result_in written_rows written_bindings out_rows out_bindings)

-- What `convert` promises a caller: the answer, and demand 3. "The owner rule speaks of tables accepted under either"
pub record Converts (tablet : Bool) (w : Switches) (rows names text : List ℕ) (number place written_rows written_bindings : ℕ) (out_rows out_rows' out_bindings out_bindings' : List ℕ) : Type 0 where
  pub answers : Answers (outcome_as tablet w rows names text (lent_room out_rows out_bindings)) number place written_rows written_bindings out_rows out_rows' out_bindings out_bindings'
  pub owners : KeepsOwners w rows number written_rows written_bindings out_rows' out_bindings'
