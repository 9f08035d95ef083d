-- The numbers of an answer fit 32 bits, as the C boundary has them. Assumes nothing.
use mathlib.Core.Path.{◌≡◌, refl, ap, subst}
use mathlib.Core.Bool.{Bool, true, false, cond, ◌&&◌}
use mathlib.Core.List.{List}
use Prim.Native.Nat.{ℕ, ◌/◌, ◌≤◌, ◌<◌, ◌^◌}
use native.Mathlib.Omega.{arith}
use lib.Dec.{leb}
use lib.ListN.{length}
use Rattle.std.specs.Prelude.{Ok, Err}
use Rattle.names.proofs.Storing.{length-bytes}
use Rattle.forest.specs.Forest.{size, flat, table}
use Rattle.rows.specs.Refusals as checks
use Rattle.rows.specs.Refusals.{checked, Checked, Sound}
use Rattle.forest.proofs.Accepting.{length-flat}
use Rattle.rows.proofs.Answers as answers
use Rattle.steps.specs.Mode.{Switches}
use Rattle.steps.specs.Steps.{Result, steps}
use Rattle.steps.specs.Outcome.{Outcome, Outcome.refused, Outcome.converted, names_of, records, unless_refused, within, outcome}
use Rattle.steps.proofs.Acceptance.{Converted, converts, result_within, result_small}
use Rattle.output.proofs.Placing.{records-bytes}
use Rattle.refusals.specs.Refused as turns
use Rattle.refusals.specs.Refused.{Answer, turned_away}
use Rattle.refusals.specs.declared.Refused.{Refused}
use Rattle.answer.specs.Converting.{lent_room, place_in, Answers}
use Rattle.refusals.proofs.Giving.{given}
use Rattle.refusals.proofs.Turning as turning
use Rattle.refusals.proofs.Turning.{unless_turned, turned_outcome}

-- 9 has place 0
room-place : (b : Bool) (ws vs : List ℕ) → place_in (cond b (converted ws vs) (refused 9 0)) ≤ 16384
room-place true ws vs = omega arith
room-place false ws vs = omega arith

turned_place : (a : Answer) (o : Outcome) → ((r : Refused) → a ≡ Err r → turns.place_for r ≤ 16384) → place_in o ≤ 16384 → place_in (unless_turned a o) ≤ 16384
turned_place (Ok u) o h k = k
turned_place (Err r) o h k = h r refl

checked-place : (c : Checked) (o : Outcome) → checks.place_for c ≤ 16384 → (c ≡ Sound → place_in o ≤ 16384) → place_in (unless_refused c o) ≤ 16384
checked-place (Ok sound) o h k = k refl
checked-place (Err unsound) o h k = h

module _ (row_limit depth_limit : ℕ) (w : Switches) (rows names text out_rows out_bindings : List ℕ) where
  abbrev O : Outcome
  O = outcome row_limit depth_limit w rows names text (lent_room out_rows out_bindings)

  -- the place of an outcome is a name or a row of the table
  pub outcome-place : place_in O ≤ 16384
  unfolding outcome within
  outcome-place =
      let R : Result = steps (names_of names text) w (table rows) in
      let b : Bool = leb (size R.rows) (length out_rows / 16) && leb (length R.bindings) (length out_bindings / 12) in
      let last : Outcome = cond b (converted (flat 0 R.rows) (records R.bindings)) (refused 9 0) in
      checked-place (checked row_limit depth_limit rows names text) _ (answers.place-small row_limit depth_limit rows names text)
      (λ s. subst (λ (o : Outcome). place_in o ≤ 16384) (turned_outcome w rows names text last)
      (turned_place (turned_away (names_of names text) w (table rows)) last (turning.place-small w rows names text (given row_limit depth_limit rows names text s).0) (room-place b _ _)))

  module _ (number place n m : ℕ) (out_rows' out_bindings' : List ℕ) where
    -- so many rows and bindings
    counts-at : (o : Outcome) → O ≡ o → Answers o number place n m out_rows out_rows' out_bindings out_bindings' → (n < 2 ^ 32) × (m < 2 ^ 32)
    counts-at (refused k p) q a = (omega (arith, a.counted), omega (arith, a.listed))
    counts-at (converted ws bs) q a =
        let C : Converted row_limit depth_limit w rows names text (lent_room out_rows out_bindings) ws bs = converts row_limit depth_limit w rows names text (lent_room out_rows out_bindings) ws bs q in
        let R : Result = steps (names_of names text) w (table rows) in
        let W = result_within row_limit depth_limit w rows names text C.accepted in
        let g = (given row_limit depth_limit rows names text C.accepted.sound).0 in (
          omega (arith, a.counted, ap length C.rows_are, length-flat 0 R.rows, result_small row_limit depth_limit w rows names text C.accepted),
          omega (arith, a.listed, ap length C.bindings_are, length-bytes (records R.bindings), records-bytes R.bindings, W.few, g.few),
        )

    -- what the casts of the C boundary ask
    pub record Small : Type 0 where
      pub placed : place < 2 ^ 32
      pub rows-counted : n < 2 ^ 32
      pub bindings-counted : m < 2 ^ 32

    pub answer-small : Answers O number place n m out_rows out_rows' out_bindings out_bindings' → Small
    answer-small a =
        let k = counts-at O refl a in
        record { placed = omega (arith, a.placed, outcome-place); rows-counted = k.0; bindings-counted = k.1 }
