-- What stands inside of a row, by the siblings and their walk, and behind it. Assumes nothing.
use Rattle.std.specs.Prelude.{Bool, cond, ℕ}
use Rattle.grammar.specs.Kinds.{ExprStmt, Ident, Call}
use Rattle.forest.specs.Forest.{Rows, Rows.none, Rows.node}
use Rattle.steps.specs.AfterSuper.{assignment}
use Rattle.uses.specs.declared.Access.{Access}
use Rattle.uses.specs.Uses.{access_number}
use Rattle.emit_plan.specs.declared.Inner.{Inner}
use Rattle.emit_plan.specs.Plans.{inside_of, topped_of, accessor_of}

-- what the siblings become
abbrev pub rows_of : Inner → Rows
rows_of n = inside_of n.walk.now n.siblings

-- .. with the Var that goes first where a row of kind k in that slot closes a frame
abbrev pub topped_rows : Inner → (sl k : ℕ) → Rows
topped_rows n sl k = topped_of n.walk.now sl k n.siblings

-- .. in the Call of an accessor, by its use, frame and property
abbrev pub called_with : Inner → Access → (f x : ℕ) → Rows
called_with n u f x = node Call 0 0 (node Ident 1 (accessor_of n.walk.now (access_number u) f x) none (rows_of n)) none

-- the assignment of binding b, as a statement, behind the first direct `super(..)` of a list
abbrev pub assignment_if : (first : Bool) (b : ℕ) → Rows
assignment_if first b = cond first (node ExprStmt 0 0 (assignment b) none) none
