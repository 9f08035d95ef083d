-- Module 7, After super: "Runs on the converted body." `ConstructorBodyThisAfterSuperInserter` of the Rust. Assumes nothing.
use Rattle.std.specs.Prelude.{ℕ, Bool, false, cond, ◌&&◌, ◌||◌, eqb}
use Rattle.grammar.specs.Kinds.{ExprStmt, Block, This, Ident, Call, Assign, Function, Body, Class, Method, Field, StaticBlock, Sequence, Target}
use Rattle.forest.specs.Forest.{Rows, Rows.none, Rows.node}
use Rattle.steps.specs.Mode.{bit}
use Rattle.steps.specs.Super.{first_super}

-- What is done in a row list. A statement list in which no direct super call was met yet:
abbrev pub list : ℕ
list = 0

-- visited
abbrev pub visit : ℕ
visit = 1

-- not visited
abbrev pub copy : ℕ
copy = 2

-- the call of a direct super statement
abbrev pub direct : ℕ
direct = 3

-- visited, what follows is not: a member's computed key
abbrev pub once : ℕ
once = 4

-- visited, then members: a Class with heritage
abbrev pub heritage : ℕ
heritage = 5

abbrev pub members : ℕ
members = 6

unfoldable pub super_call : Rows → Bool
super_call none = false
super_call (node k a n i s) = eqb k Call && first_super i

-- "In each list (a Body's or Block's children) the first direct `super(..)` statement"
unfoldable pub is_direct : (sc k : ℕ) → Rows → Bool
is_direct sc k i = eqb sc list && eqb k ExprStmt && super_call i

-- "Any other called Super"
unfoldable pub is_met : (sc k : ℕ) → Rows → Bool
is_met sc k i = (eqb sc visit || eqb sc once || eqb sc heritage) && eqb k Call && first_super i

-- What is done with a row's children. "has its arguments visited"; "its arguments not visited"; "Functions and StaticBlocks are not entered; of a Class only heritage and computed keys are."
unfoldable pub scan_inner : (sc k a : ℕ) → Rows → ℕ
scan_inner sc k a i =
    cond (eqb sc copy || is_met sc k i) copy
    (cond (eqb sc direct) visit
    (cond (is_direct sc k i) direct
    (cond (eqb sc members) (cond ((eqb k Method || eqb k Field) && bit 1 a) once copy)
    (cond (eqb k Block || eqb k Body) list
    (cond (eqb k Function || eqb k StaticBlock) copy
    (cond (eqb k Class) (cond (bit 1 a) heritage members) visit))))))

-- and with the rows after it: "the scan of that list stops"
unfoldable pub scan_next : (sc k : ℕ) → Rows → ℕ
scan_next sc k i = cond (eqb sc heritage) members (cond (eqb sc once || eqb sc direct || is_direct sc k i) copy sc)

-- `captured = this`
unfoldable pub assignment : ℕ → Rows
assignment b = node Assign 0 0 (node Target 0 0 (node Ident 1 b none none) (node This 0 0 none none)) none

-- ".. and `captured = this` put after it as a statement"; "becomes a Sequence of itself and that assignment". b is the binding's number.
unfoldable pub after_super : ℕ → ℕ → Rows → Rows
after_super b sc none = none
after_super b sc (node k a n i s) =
    cond (is_met sc k i)
    (node Sequence 0 0 (node k a n (after_super b (scan_inner sc k a i) i) (assignment b)) (after_super b (scan_next sc k i) s))
    (node k a n (after_super b (scan_inner sc k a i) i)
    (cond (is_direct sc k i)
    (node ExprStmt 0 0 (assignment b) (after_super b (scan_next sc k i) s))
    (after_super b (scan_next sc k i) s)))
