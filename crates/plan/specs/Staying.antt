-- The rows that no step changes where they stand. Assumes nothing.
use Rattle.std.specs.Prelude.{◌≡◌, Bool, false, ◌||◌, ℕ, eqb}
use Rattle.grammar.specs.Kinds.{ExprStmt, Var, Declarator, Return, Block, Other, Opaque, Params, Class, Object, Sequence, Arguments}
use Rattle.forest.specs.Forest.{Rows}
use Rattle.steps.specs.Mode.{Switches}
use Rattle.steps.specs.Naming.{Names}
use Rattle.steps.specs.Paths.{Step.along}
use Rattle.steps.specs.Slots.{free, wrapped}
use Rattle.steps.specs.Acts.{Op.row, by, does}
use Rattle.steps.specs.Bindings.{closes}
use Rattle.steps.specs.Context.{Spot, act_c}

-- the kinds that no rule of modules 3 to 8 is about
abbrev pub is_plain : ℕ → Bool
is_plain k = eqb k ExprStmt || eqb k Var || eqb k Declarator || eqb k Return || eqb k Block || eqb k Other || eqb k Opaque || eqb k Params || eqb k Class || eqb k Object || eqb k Sequence || eqb k Arguments

-- a row of kind k and attr a at q stays as it is, its children stand where it stands, it closes no frame, and nothing is put around it
pub record Stays (w : Switches) (q : Spot) (k a : ℕ) : Type 0 where
  pub acted : (N : Names) (o n : ℕ) (i : Rows) → act_c N w q o k a n i ≡ does (row k a n) (by along free) (by along free)
  pub unclosed : closes q.slot k ≡ false
  pub bare : eqb q.slot wrapped ≡ false
