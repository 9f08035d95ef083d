-- `acts::act::on_function` meets its contract. Assumes nothing.
use mathlib.Core.Path.{◌∙◌}
use Rattle.passes.specs.View.{slot_number}
use Rattle.acts.specs.View.{context_of, switches_of}
use Rattle.acts.proofs.Branches.{decided, function_late, function_plain}
use Rattle.passes.specs.declared.slots.Slot.TheVariants.{OfMethod}
use Rattle.passes.proofs.Numbers.{slot_same}
use Rattle.acts.proofs.act.on_function.Goals as goal

pub returns-then-late : goal.returns-then-late
returns-then-late c =
    let a = c.args in
    let w = switches_of a.switches in
    let x = context_of a.q.context in
    λ N i. decided w x _ _ _ _ (function_late N w a.late x (slot_number a.q.slot) a.at a.row.kind a.row.attr a.row.name i c.eq-method.result (c.eq-method.ensures ∙ slot_same a.q.slot OfMethod) c.if-late.true) _ _ _ _
    c.inside.ensures c.kept.ensures c.in_params-params.ensures c.in_body-body.ensures

pub returns : goal.returns
returns c =
    let a = c.args in
    let w = switches_of a.switches in
    let x = context_of a.q.context in
    λ N i. decided w x _ _ _ _ (function_plain N w a.late x (slot_number a.q.slot) a.at a.row.kind a.row.attr a.row.name i c.eq-method.result (c.eq-method.ensures ∙ slot_same a.q.slot OfMethod) c.if-late.false) _ _ _ _
    c.inside-2.ensures c.kept-2.ensures c.in_params-params.ensures c.in_body-body.ensures
