-- `acts::act::on_field` meets its contract. Assumes nothing.
use Rattle.passes.specs.View.{slot_number}
use Rattle.acts.specs.View.{context_of, switches_of}
use Rattle.acts.proofs.Branches.{decided, stay, field-computed, field-named}
use Rattle.acts.proofs.act.on_field.Goals as goal

pub returns-then-has_bit : goal.returns-then-has_bit
returns-then-has_bit c =
    let a = c.args in
    let w = switches_of a.switches in
    let x = context_of a.q.context in
    λ N l i. decided w x _ _ _ _ (field-computed N w l x (slot_number a.q.slot) a.at a.row.kind a.row.attr a.row.name i c.has_bit.result c.has_bit.ensures c.if-has_bit.true) _ _ _ _ c.inside.ensures c.kept.ensures (stay _ _) c.in_value-value.ensures

pub returns : goal.returns
returns c =
    let a = c.args in
    let w = switches_of a.switches in
    let x = context_of a.q.context in
    λ N l i. decided w x _ _ _ _ (field-named N w l x (slot_number a.q.slot) a.at a.row.kind a.row.attr a.row.name i c.has_bit.result c.has_bit.ensures c.if-has_bit.false) _ _ _ _ c.inside-2.ensures c.kept-2.ensures
    c.in_value-value.ensures c.in_value-value.ensures
