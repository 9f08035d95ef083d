-- The Var of a frame, from the bindings. Assumes nothing.
use Rattle.std.specs.Prelude.{ℕ, cond, eqb}
use Rattle.grammar.specs.Kinds.{Program}
use Rattle.forest.specs.Forest.{Rows, Rows.none}
use Rattle.steps.specs.Slots.{late_body}
use Rattle.steps.specs.Bindings.{closes}
use Rattle.steps.specs.TopInsertion.{var_first}
use Rattle.insertion.specs.Declarations.{frame_decls}
use Rattle.bindings.specs.declared.view.Bindings.{Bindings}

-- what goes first inside a row of kind k in that slot, where r is the frame
abbrev pub top_rows : Bindings → (sl k r : ℕ) → Rows
top_rows v sl k r = cond (closes sl k) (var_first (frame_decls v.made.now v.cap v.count r (eqb k Program) (eqb sl late_body)) none) none
