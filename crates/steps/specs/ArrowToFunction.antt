-- Module 6, Arrow to function: `transform_arrow_function_expression` of the Rust. Assumes nothing.
use Rattle.std.specs.Prelude.{ℕ, Bool, not, cond, ◌&&◌, eqb}
use Rattle.grammar.specs.Kinds.{Return, Body}
use Rattle.forest.specs.Forest.{Rows, Rows.none, Rows.node}
use Rattle.steps.specs.Mode.{Switches, bit, enabled}
use Rattle.steps.specs.Slots.{wrapped}

-- "Enabled, not async": such an Arrow becomes a Function with attr 0
abbrev pub to_function? : Switches → ℕ → Bool
to_function? w a = enabled w && not (bit 1 a)

-- "an expression body becomes a Body with one Return": around what a row of that slot becomes; s are the rows after it
unfoldable pub dress : ℕ → (Rows → Rows) → Rows → Rows
dress sl t s = cond (eqb sl wrapped) (node Body 0 0 (node Return 0 0 (t none) none) s) (t s)
