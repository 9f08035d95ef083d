-- `acts::act::on_keyed` meets its contract. Assumes nothing.
use Rattle.passes.specs.View.{slot_number}
use Rattle.acts.specs.View.{context_of}
use Rattle.acts.proofs.Branches.{decided, stay, keyed-plain, keyed-computed, keyed-named}
use Rattle.acts.proofs.act.on_keyed.Goals as goal

pub returns-then-not-method : goal.returns-then-not-method
returns-then-not-method c = let a = c.args in let x = context_of a.q.context in
    λ N w l o i m. decided w x _ _ _ _
    (keyed-plain N w l x (slot_number a.q.slot) o a.row.kind a.row.attr a.row.name i c.has_bit-keyed.result c.args.method c.has_bit-keyed.ensures m c.if-not-method.true)
    _ _ _ _ c.inside.ensures c.kept.ensures (stay w _) (stay w _)

pub returns-then-keyed : goal.returns-then-keyed
returns-then-keyed c = let a = c.args in let x = context_of a.q.context in
    λ N w l o i m. decided w x _ _ _ _
    (keyed-computed N w l x (slot_number a.q.slot) o a.row.kind a.row.attr a.row.name i c.has_bit-keyed.result c.args.method c.has_bit-keyed.ensures m c.if-not-method.false c.if-keyed.true)
    _ _ _ _ c.inside-then-keyed.ensures c.kept-then-keyed.ensures (stay w _) (stay w _)

pub returns : goal.returns
returns c = let a = c.args in let x = context_of a.q.context in
    λ N w l o i m. decided w x _ _ _ _
    (keyed-named N w l x (slot_number a.q.slot) o a.row.kind a.row.attr a.row.name i c.has_bit-keyed.result c.args.method c.has_bit-keyed.ensures m c.if-not-method.false c.if-keyed.false)
    _ _ _ _ c.inside-2.ensures c.kept-2.ensures (stay w _) (stay w _)
