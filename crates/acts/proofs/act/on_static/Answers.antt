-- `acts::act::on_static` meets its contract. Assumes nothing.
use Rattle.passes.specs.View.{slot_number}
use Rattle.acts.specs.View.{context_of, switches_of}
use Rattle.acts.proofs.Branches.{decided, static_act}
use Rattle.acts.proofs.act.on_static.Goals as goal

pub returns : goal.returns
returns c =
    let a = c.args in
    let w = switches_of a.switches in
    let x = context_of a.q.context in
    λ N l i. decided w x _ _ _ _ (static_act N w l x (slot_number a.q.slot) a.at a.row.kind a.row.attr a.row.name i) _ _ _ _ c.inside.ensures c.kept.ensures c.in_static-context.ensures c.in_static-context.ensures
