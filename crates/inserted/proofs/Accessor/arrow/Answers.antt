-- `inserted::Accessor::arrow` meets its contract. Assumes nothing.
use native.Mathlib.Omega.{arith}
use Rattle.uses.specs.Uses.{access_number}
use Rattle.inserted.specs.Insertions.{accessor_of}
use Rattle.output.proofs.Writing.{then}
use Rattle.output.proofs.Held.{put_around}
use Rattle.inserted.proofs.Shapes.{size-accessor}
use Rattle.inserted.proofs.Accessor.arrow.Goals as goal

pub params_row-requires : goal.params_row-requires
params_row-requires c = let z = size-accessor (access_number c.args.self.access) c.args.self.property c.args.self.prop c.args.self.value in omega arith

pub body_row-requires : goal.body_row-requires
body_row-requires c = let z = size-accessor (access_number c.args.self.access) c.args.self.property c.args.self.prop c.args.self.value in omega arith

pub close-requires : goal.close-requires
close-requires c = let z = size-accessor (access_number c.args.self.access) c.args.self.property c.args.self.prop c.args.self.value in (omega arith, omega arith)

pub returns-clause-rows : goal.returns-clause-rows
unfolding accessor_of
returns-clause-rows c = put_around c.append.ensures.row (then c.params_row.ensures.rows c.body_row.ensures.rows) c.close.ensures.end
