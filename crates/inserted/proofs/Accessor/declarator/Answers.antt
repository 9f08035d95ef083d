-- `inserted::Accessor::declarator` meets its contract. Assumes nothing.
use native.Mathlib.Omega.{arith}
use Rattle.uses.specs.Uses.{access_number}
use Rattle.grammar.specs.Kinds.{Declarator}
use Rattle.inserted.specs.Insertions.{accessor_of}
use Rattle.output.proofs.Writing.{size-one}
use Rattle.output.proofs.Held.{put_around}
use Rattle.inserted.proofs.Accessor.declarator.Goals as goal

pub arrow-requires : goal.arrow-requires
arrow-requires c = let z = size-one Declarator 1 c.args.b (accessor_of (access_number c.args.self.access) c.args.self.property c.args.self.prop c.args.self.value) in omega arith

pub close-requires : goal.close-requires
close-requires c = let z = size-one Declarator 1 c.args.b (accessor_of (access_number c.args.self.access) c.args.self.property c.args.self.prop c.args.self.value) in (omega arith, omega arith)

pub returns-clause-rows : goal.returns-clause-rows
returns-clause-rows c = put_around c.append.ensures.row c.arrow.ensures.rows c.close.ensures.end
