-- What each way out of `convert` answers and writes. Assumes nothing.
use mathlib.Core.Path.{◌≡◌, refl, sym, ap, subst, ◌∙◌}
use mathlib.Core.Bool.{false, ◌&&◌, and-false}
use mathlib.Core.List.{List, ◌++◌}
use Prim.Native.Nat.{ℕ, ◌/◌, ◌≤◌, ◌<◌}
use native.Mathlib.Omega.{arith}
use borrow.Author.Tests.{lt-leb}
use lib.Dec.{leb}
use lib.ListN.{length, drop}
use Rattle.std.specs.Prelude.{Ok, Err, IsErrAnd}
use Rattle.names.specs.Answered.{if_refused}
use Rattle.names.specs.Bytes.{bytes_of}
use Rattle.names.proofs.Storing.{length-bytes}
use Rattle.forest.specs.Forest.{size, flat, table}
use Rattle.rows.specs.Refusals as checks
use Rattle.rows.specs.Refusals.{Checked, Sound, checked}
use Rattle.rows.specs.declared.Unsound.{Unsound}
use Rattle.rows.specs.declared.Unsound.TheVariants.{Malformed, BadName, BadRow, TooDeep, MadeBinding}
use Rattle.rows.proofs.Five.{fault-five}
use Rattle.forest.proofs.Accepting.{length-flat}
use Rattle.steps.specs.Mode.{Switches}
use Rattle.steps.specs.Steps.{Result, steps}
use Rattle.steps.specs.Outcome.{Outcome, Outcome.refused, names_of, records, unless_refused, within, outcome}
use Rattle.steps.specs.Accepted.{Accepted}
use Rattle.steps.proofs.Acceptance.{accepted_converts}
use Rattle.output.specs.Output.{Done, Copied}
use Rattle.output.proofs.Placing.{rows_bytes, records-bytes, whole, whole_copy}
use Rattle.refusals.specs.Refused as turns
use Rattle.refusals.specs.Refused.{turned_away}
use Rattle.refusals.specs.declared.Refused.{Refused}
use Rattle.refusals.specs.declared.Refused.TheVariants.{SuperNotAllowed, FieldHolds, NamedArguments}
use Rattle.answer.specs.Answer.{Answer, number_of, place_of, rows_of, bindings_of}
use Rattle.answer.specs.declared.Refusal.TheVariants.{Unsound as NoTable, TurnedAway}
use Rattle.answer.specs.Converting.{lent_room, outcome_of, Answers}
use Rattle.refusals.proofs.Turning.{unless_turned, turned_outcome}

-- only Sound has number 0,
pub sound-zero : (c : Checked) → if_refused checks.unsound_number c ≡ 0 → c ≡ Sound
sound-zero (Ok sound) h = refl
sound-zero (Err Malformed) h = absurd (omega arith)
sound-zero (Err (BadName name)) h = absurd (omega arith)
sound-zero (Err (BadRow fault row)) h = let least = (fault-five fault).0 in absurd (omega arith)
sound-zero (Err (TooDeep row)) h = absurd (omega arith)
sound-zero (Err (MadeBinding row)) h = absurd (omega arith)

-- and of 6, 7 and 8 only what turns nothing away
pub not-zero : (r : turns.Answer) → if_refused turns.number_of r ≡ 0 → r ≡ Ok tt
not-zero (Ok u) h = refl
not-zero (Err (SuperNotAllowed row)) h = absurd (omega arith)
not-zero (Err (FieldHolds row)) h = absurd (omega arith)
not-zero (Err (NamedArguments row)) h = absurd (omega arith)

-- a refusal writes nothing
refusal_answers : (number place : ℕ) (out_rows out_bindings : List ℕ) → Answers (refused number place) number place 0 0 out_rows out_rows out_bindings out_bindings
unfolding bytes_of
refusal_answers number place out_rows out_bindings = record { numbered = refl; placed = refl; counted = refl; listed = refl; rows_written = refl; bindings_written = refl }

-- an answer whose outcome is a refusal
as_refused : (o : Outcome) (out_rows out_bindings : List ℕ) (number place : ℕ) → o ≡ refused number place → Answers o number place 0 0 out_rows out_rows out_bindings out_bindings
as_refused o out_rows out_bindings number place q =
    subst (λ (x : Outcome). Answers x number place 0 0 out_rows out_rows out_bindings out_bindings) (sym q) (refusal_answers number place out_rows out_bindings)

-- under any limits
module _ (row_limit depth_limit : ℕ) (w : Switches) (rows names text out_rows out_bindings : List ℕ) where
  abbrev U : Outcome
  U = outcome row_limit depth_limit w rows names text (lent_room out_rows out_bindings)

  -- 1, 4, 21 to 25, 3 and 5
  unsound : (u : Unsound) → Err u ≡ checked row_limit depth_limit rows names text → Answers U (checks.unsound_number u) (checks.unsound_place u) 0 0 out_rows out_rows out_bindings out_bindings
  unfolding outcome
  unsound u q = as_refused U out_rows out_bindings (checks.unsound_number u) (checks.unsound_place u) (rw (← q))

  -- as `?` passes it on
  pub unsound_as : (u : Unsound) → Err u ≡ checked row_limit depth_limit rows names text → (a : Answer) → IsErrAnd a (λ e. e ≡ NoTable u)
      → Answers U (number_of a) (place_of a) (rows_of a) (bindings_of a) out_rows out_rows out_bindings out_bindings
  unsound_as u q (Ok c) h = absurd h
  unsound_as u q (Err e) h = rw h (unsound u q)

  pub turned : checked row_limit depth_limit rows names text ≡ Sound → (r : Refused) → Err r ≡ turned_away (names_of names text) w (table rows)
      → Answers U (turns.number_of r) (turns.place_for r) 0 0 out_rows out_rows out_bindings out_bindings
  unfolding outcome
  turned s r q =
      as_refused U out_rows out_bindings (turns.number_of r) (turns.place_for r)
      (rw s (sym (turned_outcome w rows names text _) ∙ ap (λ (x : turns.Answer). unless_turned x (within (lent_room out_rows out_bindings) (steps (names_of names text) w (table rows)))) (sym q)))

  pub turned_as : checked row_limit depth_limit rows names text ≡ Sound → (r : Refused) → Err r ≡ turned_away (names_of names text) w (table rows) → (a : Answer) → IsErrAnd a (λ e. e ≡ TurnedAway r)
      → Answers U (number_of a) (place_of a) (rows_of a) (bindings_of a) out_rows out_rows out_bindings out_bindings
  turned_as s r q (Ok c) h = absurd h
  turned_as s r q (Err e) h = rw h (turned s r q)

-- under the print room's
module _ (w : Switches) (rows names text out_rows out_bindings : List ℕ) where
  abbrev O : Outcome
  O = outcome_of w rows names text out_rows out_bindings

  abbrev R : Result
  R = steps (names_of names text) w (table rows)

  module _ (A : Accepted 16384 128 w rows names text) where
    -- 9
    full : (leb (size R.rows) (length out_rows / 16) && leb (length R.bindings) (length out_bindings / 12)) ≡ false → Answers O 9 0 0 0 out_rows out_rows out_bindings out_bindings
    unfolding outcome within
    full q = as_refused O out_rows out_bindings 9 0 (rw (A.sound, A.six-none, A.seven-none, A.eight-none, q))

    pub full-rows : (total : ℕ) → total ≡ size R.rows → length out_rows / 16 < total → Answers O 9 0 0 0 out_rows out_rows out_bindings out_bindings
    full-rows total q l = full (rw (lt-leb (size R.rows) (length out_rows / 16) (omega arith)))

    pub full-bindings : (count : ℕ) → count ≡ length R.bindings → length out_bindings / 12 < count → Answers O 9 0 0 0 out_rows out_rows out_bindings out_bindings
    full-bindings count q l = full (rw (lt-leb (length R.bindings) (length out_bindings / 12) (omega arith)) (and-false (leb (size R.rows) (length out_rows / 16))))

    -- 0
    pub converted-all : (out_rows' out_bindings' : List ℕ) (total count : ℕ) → Done out_rows 0 R.rows total out_rows' → Copied out_bindings 0 R.bindings count out_bindings'
        → total ≤ length out_rows / 16 → count ≤ length out_bindings / 12 → Answers O 0 0 total count out_rows out_rows' out_bindings out_bindings'
    converted-all out_rows' out_bindings' total count d b l k =
        let n = d.next in
        let m = b.next in
        let lr = rows_bytes R.rows 0 in
        let lb = records-bytes R.bindings in
        subst (λ (o : Outcome). Answers o 0 0 total count out_rows out_rows' out_bindings out_bindings')
        (sym (accepted_converts 16384 128 w rows names text (lent_room out_rows out_bindings) A (omega arith) (omega arith)))
        (record {
          numbered = refl;
          placed = refl;
          counted = omega (arith, length-flat 0 R.rows);
          listed = omega (arith, length-bytes (records R.bindings));
          rows_written = whole d (omega arith) ∙ ap (λ (x : ℕ). bytes_of (flat 0 R.rows) ++ drop x out_rows) (sym lr);
          bindings_written = whole_copy b (omega arith) ∙ ap (λ (x : ℕ). bytes_of (records R.bindings) ++ drop x out_bindings) (sym lb);
        })
