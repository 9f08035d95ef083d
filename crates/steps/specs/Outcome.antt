-- What is answered for every input: the refusals in the request's order, and the result. Assumes nothing.
use Rattle.std.specs.Prelude.{List, [], ◌∷◌, ℕ, cond, ◌&&◌, leb, length, Option, Some, None, Ok, Err}
use Rattle.forest.specs.Forest.{size, flat, table}
use Rattle.rows.specs.Refusals.{checked, unsound_number, unsound_place, Checked}
use Rattle.steps.specs.Mode.{Switches}
use Rattle.steps.specs.Naming.{Names}
use Rattle.steps.specs.Bindings.{Binding, Binding.bind}
use Rattle.steps.specs.Steps.{Result, steps}
use Rattle.steps.specs.Refusals.{six, seven, eight}

-- a refusal has a number and a place; a conversion has the words of the rows and of the records
pub data Outcome : Type 0 where
  refused : (number place : ℕ) → Outcome
  converted : (rows bindings : List ℕ) → Outcome

-- how much is lent, in whole rows and whole records
pub record Room : Type 0 where
  pub rows : ℕ
  pub bindings : ℕ

-- "Record: use, property name number or 0, frame's input row"
unfoldable pub records : List Binding → List ℕ
records [] = []
records (bind u x f ∷ bs) = u ∷ x ∷ f ∷ records bs

abbrev pub names_of : (names text : List ℕ) → Names
names_of names text = record { pairs = names; text = text }

-- 1, 4, 21 to 25, 3 and 5, as the crate `rows` has them
abbrev pub unless_refused : Checked → Outcome → Outcome
unless_refused (Ok sound) other = other
unless_refused (Err unsound) other = refused (unsound_number unsound) (unsound_place unsound)

abbrev pub unless_at : (number : ℕ) → Option ℕ → Outcome → Outcome
unless_at number (Some row) other = refused number row
unless_at number None other = other

-- 9: "the result has more rows or bindings than the whole ones lent", place 0
unfoldable pub within : Room → Result → Outcome
within room r =
    cond (leb (size r.rows) room.rows && leb (length r.bindings) room.bindings)
    (converted (flat 0 r.rows) (records r.bindings))
    (refused 9 0)

-- "Tested in the order 1, 4, 2, 3, 5, 6, 7, 8, 9, each over the whole table before the next"; "21 to 25 stand where 2 stood in the order". The limits are those of rows and depth that a caller has.
unfoldable pub outcome : (row_limit depth_limit : ℕ) → Switches → (rows names text : List ℕ) → Room → Outcome
outcome row_limit depth_limit w rows names text room =
    unless_refused (checked row_limit depth_limit rows names text)
    (unless_at 6 (six w (table rows)) (unless_at 7 (seven w (table rows)) (unless_at 8 (eight (names_of names text) w (table rows))
    (within room (steps (names_of names text) w (table rows))))))
