-- `inserted::this_declarator` meets its contract. Assumes nothing.
use native.Mathlib.Omega.{arith}
use Rattle.output.proofs.Writing.{nothing, named}
use Rattle.inserted.proofs.Shapes.{this_none, this_late, this_here, size-late, size-here}
use Rattle.inserted.proofs.this_declarator.Goals as goal

pub returns-then-b-eq0-clause-rows : goal.returns-then-b-eq0-clause-rows
returns-then-b-eq0-clause-rows c = named (this_none _ c.if-b-eq0.true) (nothing _ _)

pub leaf-requires : goal.leaf-requires
leaf-requires c = let z = size-late c.if-b-eq0.false c.if-late.true in omega arith

pub returns-then-late-clause-rows : goal.returns-then-late-clause-rows
returns-then-late-clause-rows c = named (this_late c.if-b-eq0.false c.if-late.true) c.leaf.ensures.row

pub nested-requires : goal.nested-requires
nested-requires c = let z = size-here c.if-b-eq0.false c.if-late.false in omega arith

pub returns-clause-rows : goal.returns-clause-rows
returns-clause-rows c = named (this_here c.if-b-eq0.false c.if-late.false) c.nested.ensures.rows
