-- Demand 3 of the bytes that are written: whatever answers as it should keeps the owners, whatever the limits. Assumes nothing.
use mathlib.Core.Path.{◌≡◌, refl, sym, ap, ap₂, subst, ◌∙◌}
use mathlib.Core.Bool.{Bool}
use mathlib.Core.List.{List, [], ◌∷◌}
use Prim.Native.Nat.{ℕ, ◌*◌}
use native.Mathlib.Omega.{arith}
use lib.ListN.{length, take}
use Rattle.names.specs.Words.{words}
use Rattle.names.proofs.Storing.{front-words}
use Rattle.forest.specs.Forest.{Rows, size, flat, rows_at, table}
use Rattle.rows.specs.Limits.{row_limit_of, depth_limit_of}
use Rattle.rows.specs.Refusals.{checked, Checked, Sound}
use Rattle.forest.proofs.Accepting.{length-flat}
use Rattle.forest.proofs.ReadBack.{read_back}
use Rattle.steps.specs.Mode.{Switches}
use Rattle.steps.specs.Bindings.{Binding, Binding.bind}
use Rattle.steps.specs.Steps.{Result, steps}
use Rattle.steps.specs.Outcome.{Outcome, Outcome.refused, Outcome.converted, names_of, records, unless_refused, outcome}
use Rattle.steps.specs.Accepted.{Accepted}
use Rattle.steps.specs.Owners.{OwnersKept, arrows_on}
use Rattle.steps.proofs.Acceptance.{Converted, converts, owner_rule}
use Rattle.steps.proofs.Refusing.{RefusedBy, later-by}
use Rattle.answer.specs.Converting.{lent_room, outcome_as, Answers, records_in, result_in, KeepsOwners, Converts}
use Rattle.answer.proofs.Answering.{sound-zero}
use Rattle.std.specs.Prelude.{Ok, Err}

-- the records of bindings read back as those bindings
records-back : (bs : List Binding) → records_in (records bs) ≡ bs
unfolding records_in records
records-back [] = refl
records-back (bind u x f ∷ bs) = rw (records-back bs)

-- no refusal has number 0
abbrev Numbered : Outcome → Type 0
Numbered = RefusedBy (λ number. number ≡ 0 → ⊥)

checked_numbered : (c : Checked) (o : Outcome) → Numbered o → Numbered (unless_refused c o)
checked_numbered (Ok sound) o h = h
checked_numbered (Err unsound) o h = λ q. let e : Err unsound ≡ Sound = sound-zero (Err unsound) q in cc

module _ (row_limit depth_limit : ℕ) (w : Switches) (rows names text out_rows out_bindings : List ℕ) where
  abbrev O : Outcome
  O = outcome row_limit depth_limit w rows names text (lent_room out_rows out_bindings)

  outcome_numbered : Numbered O
  unfolding outcome
  outcome_numbered =
      checked_numbered (checked row_limit depth_limit rows names text) _
      (later-by (λ number. number ≡ 0 → ⊥) (λ q. omega arith) (λ q. omega arith) (λ q. omega arith) (λ q. omega arith) w rows names text (lent_room out_rows out_bindings))

  module _ (number place n m : ℕ) (out_rows' out_bindings' : List ℕ) where
    -- what stands at the front reads back as the result
    read_result : (ws bs : List ℕ) → O ≡ converted ws bs → Answers (converted ws bs) number place n m out_rows out_rows' out_bindings out_bindings'
        → result_in n m out_rows' out_bindings' ≡ steps (names_of names text) w (table rows)
    read_result ws bs q a =
        let C : Converted row_limit depth_limit w rows names text (lent_room out_rows out_bindings) ws bs = converts row_limit depth_limit w rows names text (lent_room out_rows out_bindings) ws bs q in
        let R : Result = steps (names_of names text) w (table rows) in
        let u : words (take (16 * n) out_rows') ≡ flat 0 R.rows = front-words ws _ out_rows' (16 * n) (omega (arith, a.counted)) a.rows_written ∙ C.rows_are in
        let v : words (take (12 * m) out_bindings') ≡ records R.bindings = front-words bs _ out_bindings' (12 * m) (omega (arith, a.listed)) a.bindings_written ∙ C.bindings_are in
        let s : n ≡ size R.rows = omega (arith, a.counted, ap length C.rows_are, length-flat 0 R.rows) in
        ap₂ (λ (x : Rows) (y : List Binding). record { rows = x; bindings = y })
        (ap (λ (x : List ℕ). rows_at x 0 n) u ∙ ap (rows_at (flat 0 R.rows) 0) s ∙ read_back R.rows)
        (ap records_in v ∙ records-back R.bindings)

    keeps-at : (o : Outcome) → O ≡ o → Numbered o → Answers o number place n m out_rows out_rows' out_bindings out_bindings'
        → KeepsOwners w rows number n m out_rows' out_bindings'
    keeps-at (refused k p) q z a = λ e h calm. absurd (z (sym a.numbered ∙ h))
    keeps-at (converted ws bs) q z a = λ e h calm.
        let C : Converted row_limit depth_limit w rows names text (lent_room out_rows out_bindings) ws bs = converts row_limit depth_limit w rows names text (lent_room out_rows out_bindings) ws bs q in
        let A : Accepted row_limit depth_limit arrows_on rows names text = subst (λ (x : Switches). Accepted row_limit depth_limit x rows names text) e C.accepted in
        let r : result_in n m out_rows' out_bindings' ≡ steps (names_of names text) arrows_on (table rows) = read_result ws bs q a ∙ ap (λ (x : Switches). steps (names_of names text) x (table rows)) e in
        subst (λ (x : Result). OwnersKept (table rows) x) (sym r) (owner_rule row_limit depth_limit rows names text A calm)

    -- demand 3 follows from the answer
    pub keeps-owners : Answers O number place n m out_rows out_rows' out_bindings out_bindings'
        → KeepsOwners w rows number n m out_rows' out_bindings'
    keeps-owners a = keeps-at O refl outcome_numbered a

-- the whole promise follows from the answer
pub promised : (tablet : Bool) (w : Switches) (rows names text out_rows out_bindings : List ℕ) (number place n m : ℕ) (out_rows' out_bindings' : List ℕ)
    → Answers (outcome_as tablet w rows names text (lent_room out_rows out_bindings)) number place n m out_rows out_rows' out_bindings out_bindings'
    → Converts tablet w rows names text number place n m out_rows out_rows' out_bindings out_bindings'
promised tablet w rows names text out_rows out_bindings number place n m out_rows' out_bindings' a =
    record { answers = a; owners = keeps-owners (row_limit_of tablet) (depth_limit_of tablet) w rows names text out_rows out_bindings number place n m out_rows' out_bindings' a }

-- and holds in other numbers that are equal
pub renumbered : {tablet : Bool} {w : Switches} {rows names text out_rows out_bindings : List ℕ} {number place n m : ℕ} {out_rows' out_bindings' : List ℕ} (number' place' n' m' : ℕ) → number' ≡ number → place' ≡ place → n' ≡ n → m' ≡ m
    → Converts tablet w rows names text number place n m out_rows out_rows' out_bindings out_bindings' → Converts tablet w rows names text number' place' n' m' out_rows out_rows' out_bindings out_bindings'
renumbered number' place' n' m' a b c d h = rw (a, b, c, d) h
