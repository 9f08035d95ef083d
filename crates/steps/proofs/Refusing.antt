-- What holds of the number of a refusal, whatever is answered after the checks of the table: of 6, 7, 8 and 9. Assumes nothing.
use Rattle.std.specs.Prelude.{Option, Some, None}
use mathlib.Core.Bool.{Bool, true, false, cond, ◌&&◌}
use mathlib.Core.List.{List}
use Prim.Native.Nat.{ℕ}
use lib.Dec.{leb}
use lib.ListN.{length}
use Rattle.forest.specs.Forest.{size, table}
use Rattle.steps.specs.Mode.{Switches}
use Rattle.steps.specs.Steps.{steps}
use Rattle.steps.specs.Refusals.{six, seven, eight}
use Rattle.steps.specs.Outcome.{Outcome, Outcome.refused, Outcome.converted, Room, names_of, unless_at, within}

-- P holds of its number, if it is a refusal
abbrev pub RefusedBy : (P : ℕ → Type 0) → Outcome → Type 0
RefusedBy P (refused number place) = P number
RefusedBy P (converted rows bindings) = Unit {0}

-- 6, 7, 8 and 9, and the result
abbrev pub later : Switches → (rows names text : List ℕ) → Room → Outcome
later w rows names text room =
    unless_at 6 (six w (table rows)) (unless_at 7 (seven w (table rows)) (unless_at 8 (eight (names_of names text) w (table rows))
    (within room (steps (names_of names text) w (table rows)))))

module _ (P : ℕ → Type 0) where
  found_by : (number : ℕ) (f : Option ℕ) (o : Outcome) → P number → RefusedBy P o → RefusedBy P (unless_at number f o)
  found_by number (Some row) o p h = p
  found_by number None o p h = h

  room_by : (b : Bool) (rows bindings : List ℕ) → P 9 → RefusedBy P (cond b (converted rows bindings) (refused 9 0))
  room_by true rows bindings p = tt
  room_by false rows bindings p = p

  pub later-by : P 6 → P 7 → P 8 → P 9 → (w : Switches) (rows names text : List ℕ) (room : Room) → RefusedBy P (later w rows names text room)
  unfolding within
  later-by p6 p7 p8 p9 w rows names text room =
      let R = steps (names_of names text) w (table rows) in
      found_by 6 (six w (table rows)) _ p6
      (found_by 7 (seven w (table rows)) _ p7
      (found_by 8 (eight (names_of names text) w (table rows)) _ p8
      (room_by (leb (size R.rows) room.rows && leb (length R.bindings) room.bindings) _ _ p9)))
