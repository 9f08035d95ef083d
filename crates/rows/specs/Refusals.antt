-- Refusals 1, 4, 21 to 25, 3 and 5 of section "Turned away", in the order in which they are tested. Assumes nothing.
use Rattle.std.specs.Prelude.{ℕ, ◌*◌, ◌%◌, min, Bool, cond, ◌&&◌, List, length, eqb, ltb, leb, Option, Result, Ok, Err, ⊤}
use Rattle.names.specs.Words.{words, kind_at, attr_at, rows_in, names_in}
use Rattle.names.specs.First.{first}
use Rattle.names.specs.Answered.{unless_found, if_refused}
use Rattle.names.specs.Names.{names_fit, first_bad_name}
use Rattle.grammar.specs.Grammar.{made_row}
use Rattle.forest.specs.Faults.{first_fault, fault_number}
use Rattle.forest.specs.Told.{first_deep}
use Rattle.rows.specs.declared.Unsound.{Unsound}
use Rattle.rows.specs.declared.Unsound.TheVariants.{Malformed, BadName, BadRow, TooDeep, MadeBinding}

-- The request's number for each refusal (docs/FORMAT.md, "What is turned away"). 2 is retired.
abbrev pub unsound_number : Unsound → ℕ
unsound_number Malformed = 1
unsound_number (BadRow fault row) = fault_number fault
unsound_number (TooDeep row) = 3
unsound_number (BadName name) = 4
unsound_number (MadeBinding row) = 5

-- and its place
abbrev pub unsound_place : Unsound → ℕ
unsound_place Malformed = 0
unsound_place (BadRow fault row) = row
unsound_place (TooDeep row) = row
unsound_place (BadName name) = name
unsound_place (MadeBinding row) = row

-- what the checks answer
abbrev pub Checked : Type 0
Checked = Result ⊤ Unsound

abbrev pub Sound : Checked
Sound = Ok tt

-- the place of an answer: 0 where the table is sound
abbrev pub place_for : Checked → ℕ
place_for checked = if_refused unsound_place checked

-- the most rows and the greatest depth that any caller can ask for: a larger limit counts as this one
abbrev pub most_rows : ℕ
most_rows = 16384

abbrev pub limited : ℕ → ℕ
limited limit = min limit most_rows

-- not 1: "row words not a multiple of 4; rows 0 or over 16,384; name words odd; names over 4,096; text over 65,535 bytes". The arguments are the limit of rows and three lengths in bytes.
abbrev pub sizes_ok : (most rows names text : ℕ) → Bool
sizes_ok most rows names text = eqb (rows % 16) 0 && ltb 0 rows && leb rows (16 * most) && names_fit names text

-- "first row: attr 1 on Declarator, Ident or Member, or an Arguments row", of n rows
unfoldable pub first_made : List ℕ → ℕ → Option ℕ
first_made ws n = first (λ i. made_row (kind_at ws i) (attr_at ws i)) n 0

-- 4, 21 to 25, 3 and 5, each with what is answered where it is not given
abbrev pub four : (names text : List ℕ) → Checked → Checked
four names text = unless_found BadName (first_bad_name names text)

abbrev pub faulty : (rows names : List ℕ) → Checked → Checked
faulty rows names = unless_found (λ bad. BadRow bad.fault bad.row) (first_fault (words rows) (rows_in rows) (names_in names))

abbrev pub three : (depth_limit : ℕ) (rows : List ℕ) → Checked → Checked
three depth_limit rows = unless_found TooDeep (first_deep (words rows) (limited depth_limit) (rows_in rows))

abbrev pub five : (rows : List ℕ) → Checked → Checked
five rows = unless_found MadeBinding (first_made (words rows) (rows_in rows))

-- "Tested in the order 1, 4, 2, 3, 5, .. each over the whole table before the next." "21 to 25 stand where 2 stood in the order; 2 is retired."
unfoldable pub checked : (row_limit depth_limit : ℕ) (rows names text : List ℕ) → Checked
checked row_limit depth_limit rows names text =
    cond (sizes_ok (limited row_limit) (length rows) (length names) (length text))
    (four names text (faulty rows names (three depth_limit rows (five rows Sound))))
    (Err Malformed)
