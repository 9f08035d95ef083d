-- `walks::records::write_records` meets its contract. Assumes nothing.
use native.Mathlib.Omega.{arith}
use Rattle.walks.proofs.Copying.{records-first, records-next, records_end}
use Rattle.walks.proofs.records.write_records.Goals as goal

pub loop-i-init : goal.loop-i-init
loop-i-init c = records-first _ _ _ _

pub overflow_add-i : goal.overflow_add-i
overflow_add-i c = let low = c.args.bindings.small in let room = c.args.bindings.store.room in omega arith

pub overflow_cast-i : goal.overflow_cast-i
overflow_cast-i c = let low = c.args.bindings.small in let room = c.args.bindings.store.room in omega arith

pub record-b-requires : goal.record-b-requires
record-b-requires c = let room = c.args.bindings.store.room in omega arith

pub put_record-requires : goal.put_record-requires
put_record-requires c = let low = c.args.bindings.small in let room = c.args.bindings.store.room in omega arith

pub loop-i-preserved : goal.loop-i-preserved
loop-i-preserved c = records-next _ _ _ _ _ _ _ _ _ _ _ c.loop-i.invariant (omega arith) c.record-b.ensures.usage c.record-b.ensures.property c.record-b.ensures.frame c.put_record.ensures

pub shape_of-out : goal.shape_of-out
shape_of-out c = c.loop-i.invariant.rest.long

pub returns : goal.returns
returns c = records_end _ _ _ _ _ _ c.loop-i.invariant (omega arith)
