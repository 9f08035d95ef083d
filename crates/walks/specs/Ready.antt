-- What the functions below `convert` ask and promise. Assumes nothing.
use Rattle.std.specs.Prelude.{◌≡◌, Bool, true, ◌&&◌, ◌||◌, List, [], ℕ, ◌≤◌, eqb}
use Rattle.grammar.specs.Kinds.{Arrow}
use Rattle.names.specs.Words.{rows_in}
use Rattle.forest.specs.Forest.{table}
use Rattle.steps.specs.Mode.{Switches, enabled, async_only}
use Rattle.steps.specs.ArrowToFunction.{to_function?}
use Rattle.steps.specs.Steps.{steps}
use Rattle.steps.specs.Context.{made_c}
use Rattle.steps.specs.Outcome.{names_of}
use Rattle.steps.specs.Accepted.{Accepted}
use Rattle.acts.specs.View.{switches_of}
use Rattle.bindings.specs.Store.{Store}
use Rattle.bindings.specs.Post.{Kept}
use Rattle.bindings.specs.Filed.{Filed, behind}
use Rattle.emit_plan.specs.declared.Walk.{Walk}
use Rattle.answer.specs.Answer.{Answer, number_of, place_of, rows_of, bindings_of}
use Rattle.answer.specs.Converting.{outcome_of, Answers}

-- an Arrow that module 6 makes a Function
abbrev pub becomes_function : Switches → (k a : ℕ) → Bool
becomes_function w k a = eqb k Arrow && to_function? w a

-- the result is the table
abbrev pub Unchanged : Switches → (rows names text : List ℕ) → Type 0
Unchanged w rows names text = steps (names_of names text) w (table rows) ≡ record { rows = table rows; bindings = [] }

-- what the two walks are made over, beside an accepted table: a mode that changes rows, and an empty array with room for its bindings
pub record Ready (w : Switches) (rows names text made : List ℕ) (cap : ℕ) : Type 0 where
  pub on : (enabled w || async_only w) ≡ true
  pub empty : Store made cap 0
  pub unfiled : Filed names text (behind cap made) cap []
  pub low : cap ≤ 16384
  pub fits : rows_in rows ≤ cap

-- what the second walk is made over: an accepted table in such a mode, and the array that the first walk made, with its bindings
pub record Collected (rows names text : List ℕ) (v : Walk) : Type 0 where
  pub accepted : Accepted 16384 128 (switches_of v.switches) rows names text
  pub on : (enabled (switches_of v.switches) || async_only (switches_of v.switches)) ≡ true
  pub kept : Kept v.bindings.made.now v.bindings.cap (made_c (names_of names text) (switches_of v.switches) (table rows)) v.bindings.count
  pub filed : Filed names text (behind v.bindings.cap v.bindings.made.now) v.bindings.cap (made_c (names_of names text) (switches_of v.switches) (table rows))
  pub fits : rows_in rows ≤ v.bindings.cap

-- the same of the table that the walk has
abbrev pub CollectedOf : Walk → Type 0
CollectedOf v = Collected v.rows.now v.names.pairs.now v.names.text.now v

-- what the functions below `convert` promise of their answer, and of the two slices before and after
abbrev pub Gives : Switches → (rows names text : List ℕ) → Answer → (out_rows out_rows' out_bindings out_bindings' : List ℕ) → Type 0
Gives w rows names text r out_rows out_rows' out_bindings out_bindings' =
    Answers (outcome_of w rows names text out_rows out_bindings) (number_of r) (place_of r) (rows_of r) (bindings_of r) out_rows out_rows' out_bindings out_bindings'
