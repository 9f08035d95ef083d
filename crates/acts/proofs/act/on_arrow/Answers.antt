-- `acts::act::on_arrow` meets its contract. Assumes nothing.
use mathlib.Core.Path.{refl}
use Rattle.acts.specs.View.{context_of, switches_of}
use Rattle.acts.proofs.Branches.{decided, arrow-kept, arrow-wrapped, arrow-bodied}
use Rattle.passes.specs.View.{op_of, slot_number}
use Rattle.acts.proofs.act.on_arrow.Goals as goal

pub returns-then-is_enabled-asynchronous : goal.returns-then-is_enabled-asynchronous
returns-then-is_enabled-asynchronous c = let a = c.args in let w = switches_of a.switches in let x = context_of a.q.context in
    λ N l o i. decided w x _ _ _ _
    (arrow-kept N w l x (slot_number a.q.slot) o a.row.kind a.row.attr a.row.name i c.is_enabled.result c.has_bit-asynchronous.result c.has_bit-expression.result
    c.is_enabled.ensures c.has_bit-asynchronous.ensures c.has_bit-expression.ensures c.if-is_enabled-asynchronous.true)
    _ _ _ _ c.inside.ensures c.kept.ensures c.in_arrow-context.ensures c.in_arrow-context.ensures

pub returns-then-expression : goal.returns-then-expression
unfolding op_of
returns-then-expression c = let a = c.args in let w = switches_of a.switches in let x = context_of a.q.context in
    λ N l o i. decided w x _ _ _ _
    (arrow-wrapped N w l x (slot_number a.q.slot) o a.row.kind a.row.attr a.row.name i c.is_enabled.result c.has_bit-asynchronous.result c.has_bit-expression.result
    c.is_enabled.ensures c.has_bit-asynchronous.ensures c.has_bit-expression.ensures c.if-is_enabled-asynchronous.false c.if-expression.true)
    _ _ _ _ c.inside-then-expression.ensures (refl) c.in_arrow-context.ensures c.in_arrow-context.ensures

pub returns : goal.returns
unfolding op_of
returns c = let a = c.args in let w = switches_of a.switches in let x = context_of a.q.context in
    λ N l o i. decided w x _ _ _ _
    (arrow-bodied N w l x (slot_number a.q.slot) o a.row.kind a.row.attr a.row.name i c.is_enabled.result c.has_bit-asynchronous.result c.has_bit-expression.result
    c.is_enabled.ensures c.has_bit-asynchronous.ensures c.has_bit-expression.ensures c.if-is_enabled-asynchronous.false c.if-expression.false)
    _ _ _ _ c.inside-2.ensures (refl) c.in_arrow-context.ensures c.in_arrow-context.ensures
