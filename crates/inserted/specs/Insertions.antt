-- Parts of what module 8 puts in, as the writers make them: an accessor by the numbers of its params, one by one. Assumes nothing.
use Rattle.std.specs.Prelude.{ℕ, Bool, cond, eqb}
use Rattle.grammar.specs.Kinds.{Declarator, Ident, Assign, Arrow, Params, Arguments, Target}
use Rattle.forest.specs.Forest.{Rows, Rows.none, Rows.node}
use Rattle.steps.specs.Joining.{join}
use Rattle.steps.specs.TopInsertion.{access_row}

-- "arguments (guarded at Program)"
abbrev pub arguments_row : Bool → Rows
arguments_row g = node Arguments (cond g 1 0) 0 none none

-- the Declarator of a param, where there is one
unfoldable pub param_if : Bool → (b : ℕ) → Rows
param_if y b = cond y (node Declarator 1 b none none) none

-- "params prop if computed, then value if set": u is the use, x the property, p and v are the params' numbers
unfoldable pub params_row : (u x p v : ℕ) → Rows
params_row u x p v = node Params 0 0 (join (param_if (eqb x 0) p) (param_if (eqb u 4) v)) none

-- the access, assigned to where the use is set
unfoldable pub body_row : (u x p v : ℕ) → Rows
body_row u x p v =
    cond (eqb u 4)
    (node Assign 0 0 (node Target 0 0 (access_row x p none) (node Ident 1 v none none)) none)
    (access_row x p none)

-- "Accessors are expression Arrows .. and stay Arrows."
unfoldable pub accessor_of : (u x p v : ℕ) → Rows
accessor_of u x p v = node Arrow 2 0 (join (params_row u x p v) (body_row u x p v)) none

-- the Declarator of accessor b: u is its use, x its property, p and v are its params' numbers
abbrev pub accessor_decl : (b u x p v : ℕ) → Rows
accessor_decl b u x p v = node Declarator 1 b (accessor_of u x p v) none
