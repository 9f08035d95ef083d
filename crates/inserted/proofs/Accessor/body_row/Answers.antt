-- `inserted::Accessor::body_row` meets its contract. Assumes nothing.
use native.Mathlib.Omega.{arith}
use mathlib.Core.Path.{ap}
use Rattle.forest.specs.Forest.{size}
use Rattle.output.proofs.Writing.{beside, named}
use Rattle.output.proofs.Held.{put_around}
use Rattle.inserted.proofs.Shapes.{body_set, body_get, size-set}
use Rattle.inserted.proofs.Accessor.body_row.Goals as goal

pub access_row-requires : goal.access_row-requires
access_row-requires c = let z = ap size (body_get c.args.self.property c.args.self.prop c.args.self.value c.in-Get.is) in omega arith

pub append-requires-in-Set : goal.append-requires-in-Set
append-requires-in-Set c = let z = size-set c.args.self.property c.args.self.prop c.args.self.value c.in-Set.is in omega arith

pub access_row-requires-in-Set : goal.access_row-requires-in-Set
access_row-requires-in-Set c = let z = size-set c.args.self.property c.args.self.prop c.args.self.value c.in-Set.is in omega arith

pub close-requires : goal.close-requires
close-requires c = let z = size-set c.args.self.property c.args.self.prop c.args.self.value c.in-Set.is in (omega arith, omega arith)

pub leaf-requires : goal.leaf-requires
leaf-requires c = let z = size-set c.args.self.property c.args.self.prop c.args.self.value c.in-Set.is in omega arith

pub close-requires-in-Set : goal.close-requires-in-Set
close-requires-in-Set c = let z = size-set c.args.self.property c.args.self.prop c.args.self.value c.in-Set.is in (omega arith, omega arith)

pub returns-in-Get-clause-rows : goal.returns-in-Get-clause-rows
returns-in-Get-clause-rows c = named (body_get _ _ _ c.in-Get.is) c.access_row.ensures.rows

pub returns-in-Set-clause-rows : goal.returns-in-Set-clause-rows
returns-in-Set-clause-rows c = named (body_set _ _ _ c.in-Set.is)
    (put_around c.append.ensures.row
    (beside (put_around c.append-in-Set.ensures.row c.access_row-in-Set.ensures.rows c.close.ensures.end) c.leaf.ensures.row)
    c.close-in-Set.ensures.end)
