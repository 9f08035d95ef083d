-- `acts::act::on_ident` meets its contract. Assumes nothing.
use mathlib.Core.Path.{refl}
use Rattle.acts.specs.View.{context_of}
use Rattle.acts.proofs.Branches.{decided_along, ident-yes, ident-no}
use Rattle.passes.specs.View.{op_of, slot_number}
use Rattle.acts.proofs.act.on_ident.Goals as goal

pub returns-then-only-arguments : goal.returns-then-only-arguments
unfolding op_of
returns-then-only-arguments c =
    let a = c.args in
    λ N w l o i p q. decided_along w _ _ _ a.q.context (ident-yes N w l (context_of a.q.context) (slot_number a.q.slot) o a.row.kind a.row.attr a.row.name i a.only a.arguments p q c.if-only-arguments.true) _ _ c.along.ensures (refl)

pub returns : goal.returns
returns c =
    let a = c.args in
    λ N w l o i p q. decided_along w _ _ _ a.q.context (ident-no N w l (context_of a.q.context) (slot_number a.q.slot) o a.row.kind a.row.attr a.row.name i a.only a.arguments p q c.if-only-arguments.false) _ _ c.along-2.ensures c.kept.ensures
