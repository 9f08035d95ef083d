-- `inserted::param_if` meets its contract. Assumes nothing.
use native.Mathlib.Omega.{arith}
use Rattle.output.proofs.Writing.{nothing, named}
use Rattle.inserted.proofs.Shapes.{param_yes, param_no, size_param}
use Rattle.inserted.proofs.param_if.Goals as goal

pub leaf-requires : goal.leaf-requires
leaf-requires c = let z = size_param c.args.b c.if-yes.true in omega arith

pub returns-then-yes-clause-rows : goal.returns-then-yes-clause-rows
returns-then-yes-clause-rows c = named (param_yes _ c.if-yes.true) c.leaf.ensures.row

pub returns-else-yes-clause-rows : goal.returns-else-yes-clause-rows
returns-else-yes-clause-rows c = named (param_no _ c.if-yes.false) (nothing _ _)
