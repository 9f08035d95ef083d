-- `inserted::access_row` meets its contract. Assumes nothing.
use native.Mathlib.Omega.{arith}
use Rattle.output.proofs.Writing.{beside, named}
use Rattle.output.proofs.Held.{put_around}
use Rattle.inserted.proofs.Shapes.{access_computed, access_member, size_computed, size_member}
use Rattle.inserted.proofs.access_row.Goals as goal

pub leaf-requires : goal.leaf-requires
leaf-requires c = let z = size_computed c.args.b c.if-x-eq0.true in omega arith

pub leaf-requires-then-x-eq0 : goal.leaf-requires-then-x-eq0
leaf-requires-then-x-eq0 c = let z = size_computed c.args.b c.if-x-eq0.true in omega arith

pub close-requires : goal.close-requires
close-requires c = let z = size_computed c.args.b c.if-x-eq0.true in (omega arith, omega arith)

pub returns-then-x-eq0-clause-rows : goal.returns-then-x-eq0-clause-rows
returns-then-x-eq0-clause-rows c = named (access_computed _ _ c.if-x-eq0.true) (put_around c.append.ensures.row (beside c.leaf.ensures.row c.leaf-then-x-eq0.ensures.row) c.close.ensures.end)

pub nested-requires : goal.nested-requires
nested-requires c = let z = size_member c.args.b c.if-x-eq0.false in omega arith

pub returns-clause-rows : goal.returns-clause-rows
returns-clause-rows c = named (access_member _ _ c.if-x-eq0.false) c.nested.ensures.rows
