-- Which rows go to which walker: "Statements hold expressions, which hold functions and classes, which hold statements." Assumes nothing.
use Rattle.std.specs.Prelude.{ℕ, Bool, true, false, ◌||◌, eqb}
use Rattle.grammar.specs.Kinds.{Program, ExprStmt, Var, Declarator, Return, Block, Other, Arrow, Function, Params, Body, Class, Method, Field, StaticBlock}
use Rattle.steps.specs.Acts.{Op, Op.row, Op.drop, Op.name, Op.call}

-- statements, and a Var's Declarators
abbrev pub is_statement : ℕ → Bool
is_statement k = eqb k ExprStmt || eqb k Var || eqb k Declarator || eqb k Return || eqb k Block || eqb k Other

-- the rows that a Function or an Arrow is made of, and the others that close a frame
abbrev pub is_function : ℕ → Bool
is_function k = eqb k Program || eqb k Arrow || eqb k Function || eqb k Params || eqb k Body || eqb k StaticBlock

-- a Class and its members
abbrev pub is_class : ℕ → Bool
is_class k = eqb k Class || eqb k Method || eqb k Field

-- a row stays a row
unfoldable pub is_row : Op → Bool
is_row (row k a n) = true
is_row drop = false
is_row (name u f) = false
is_row (call u f x t) = false
