-- `inserted::arguments_declarator` meets its contract. Assumes nothing.
use native.Mathlib.Omega.{arith}
use Rattle.output.proofs.Writing.{nothing, named}
use Rattle.inserted.proofs.Shapes.{arguments_none, arguments_some, size_arguments}
use Rattle.inserted.proofs.arguments_declarator.Goals as goal

pub returns-then-b-eq0-clause-rows : goal.returns-then-b-eq0-clause-rows
returns-then-b-eq0-clause-rows c = named (arguments_none _ _ c.if-b-eq0.true) (nothing _ _)

pub nested-requires : goal.nested-requires
nested-requires c = let z = size_arguments c.args.guarded c.if-b-eq0.false in omega arith

pub returns-then-guarded-clause-rows : goal.returns-then-guarded-clause-rows
returns-then-guarded-clause-rows c = named (arguments_some _ _ c.if-b-eq0.false) (rw c.if-guarded.true c.nested.ensures.rows)

pub nested-requires-2 : goal.nested-requires-2
nested-requires-2 c = let z = size_arguments c.args.guarded c.if-b-eq0.false in omega arith

pub returns-clause-rows : goal.returns-clause-rows
returns-clause-rows c = named (arguments_some _ _ c.if-b-eq0.false) (rw c.if-guarded.false c.nested-2.ensures.rows)
