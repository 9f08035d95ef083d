-- Change request No. 3: what was answered before it, 2 for a bad row of any sort, and what is to hold between that and what is answered now (`five_exactly`). Assumes nothing.
use Rattle.std.specs.Prelude.{◌≡◌, cond, List, ℕ, ◌≤◌, length}
use Rattle.names.specs.Words.{words, rows_in, names_in}
use Rattle.names.specs.Names.{first_bad_name}
use Rattle.forest.specs.Forest.{table}
use Rattle.forest.specs.Bad.{first_bad}
use Rattle.forest.specs.Told.{first_deep}
use Rattle.rows.specs.Refusals.{limited, sizes_ok, first_made}
use Rattle.steps.specs.Mode.{Switches}
use Rattle.steps.specs.Steps.{steps}
use Rattle.steps.specs.Refusals.{six, seven, eight}
use Rattle.steps.specs.Outcome.{Outcome, Outcome.refused, Room, names_of, unless_at, within}

-- "Tested in the order 1, 4, 2, 3, 5, 6, 7, 8, 9, each over the whole table before the next": of document 01, with the first bad row told as 2
unfoldable pub former_outcome : (row_limit depth_limit : ℕ) → Switches → (rows names text : List ℕ) → Room → Outcome
former_outcome row_limit depth_limit w rows names text room =
    cond (sizes_ok (limited row_limit) (length rows) (length names) (length text))
    (unless_at 4 (first_bad_name names text)
    (unless_at 2 (first_bad (words rows) (rows_in rows) (names_in names))
    (unless_at 3 (first_deep (words rows) (limited depth_limit) (rows_in rows))
    (unless_at 5 (first_made (words rows) (rows_in rows))
    (unless_at 6 (six w (table rows)) (unless_at 7 (seven w (table rows)) (unless_at 8 (eight (names_of names text) w (table rows))
    (within room (steps (names_of names text) w (table rows))))))))))
    (refused 1 0)

-- "turned away by one of the five", at a place
pub record FiveAt (now : Outcome) (place : ℕ) : Type 0 where
  pub number : ℕ
  pub least : 21 ≤ number
  pub most : number ≤ 25
  pub told : now ≡ refused number place

-- "a table is turned away by one of the five exactly if 2 was given before, at the same place"; every other answer is the same
pub record FiveExactly (now before : Outcome) : Type 0 where
  pub was_two : (place : ℕ) → FiveAt now place → before ≡ refused 2 place
  pub is-five : (place : ℕ) → before ≡ refused 2 place → FiveAt now place
  pub others : ((place : ℕ) → before ≡ refused 2 place → ⊥) → now ≡ before
