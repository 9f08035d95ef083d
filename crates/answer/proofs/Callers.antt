-- Change request No. 1: below the check a caller's answer is the print room's. Assumes nothing.
use mathlib.Core.Path.{◌≡◌, sym, ap₂, subst, ◌∙◌}
use mathlib.Core.Bool.{Bool, true, false}
use mathlib.Core.List.{List}
use Prim.Native.Nat.{ℕ, ◌≤◌}
use native.Mathlib.Omega.{arith}
use Rattle.rows.specs.Limits.{row_limit_of, depth_limit_of}
use Rattle.rows.specs.Refusals.{checked, Checked, Sound}
use Rattle.steps.specs.Mode.{Switches}
use Rattle.steps.specs.Outcome.{Outcome}
use Rattle.steps.specs.Accepted.{Accepted}
use Rattle.steps.proofs.Larger.{accepted_up, outcome-up}
use Rattle.answer.specs.Converting.{lent_room, outcome_of, outcome_as, Answers}
use Rattle.std.specs.Prelude.{Ok, Err, Result}

-- the print room's limits are the larger
rows_most : (tablet : Bool) → row_limit_of tablet ≤ 16384
rows_most true = omega arith
rows_most false = omega arith

depth_most : (tablet : Bool) → depth_limit_of tablet ≤ 128
depth_most true = omega arith
depth_most false = omega arith

-- what a check under a caller's limits says
pub checked_as : (tablet : Bool) (rows names text : List ℕ) (r d : ℕ) (c : Checked) → r ≡ row_limit_of tablet → d ≡ depth_limit_of tablet → c ≡ checked r d rows names text
    → c ≡ checked (row_limit_of tablet) (depth_limit_of tablet) rows names text
checked_as tablet rows names text r d c a b q = q ∙ ap₂ (λ (x y : ℕ). checked x y rows names text) a b

module _ (tablet : Bool) (w : Switches) (rows names text : List ℕ) where
  pub accepted_either : Accepted (row_limit_of tablet) (depth_limit_of tablet) w rows names text → Accepted 16384 128 w rows names text
  accepted_either = accepted_up (row_limit_of tablet) (depth_limit_of tablet) 16384 128 w rows names text (rows_most tablet) (depth_most tablet)

  pub answers_either : checked (row_limit_of tablet) (depth_limit_of tablet) rows names text ≡ Sound → (out_rows out_bindings : List ℕ) (number place n m : ℕ) (out_rows' out_bindings' : List ℕ)
      → Answers (outcome_of w rows names text out_rows out_bindings) number place n m out_rows out_rows' out_bindings out_bindings'
      → Answers (outcome_as tablet w rows names text (lent_room out_rows out_bindings)) number place n m out_rows out_rows' out_bindings out_bindings'
  answers_either s out_rows out_bindings number place n m out_rows' out_bindings' =
      subst (λ (o : Outcome). Answers o number place n m out_rows out_rows' out_bindings out_bindings')
      (sym (outcome-up (row_limit_of tablet) (depth_limit_of tablet) 16384 128 w rows names text (rows_most tablet) (depth_most tablet) (lent_room out_rows out_bindings) s))
