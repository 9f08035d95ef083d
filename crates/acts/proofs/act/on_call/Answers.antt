-- `acts::act::on_call` meets its contract. Assumes nothing.
use Rattle.passes.specs.View.{slot_number}
use Rattle.acts.specs.View.{context_of}
use Rattle.acts.proofs.Branches.{decided_along, call-yes, call-no}
use Rattle.acts.proofs.act.on_call.Goals as goal

pub returns-then-context-access : goal.returns-then-context-access
returns-then-context-access c =
    λ N w l o i p. decided_along w _ _ _ c.args.q.context (call-yes N w l (context_of c.args.q.context) (slot_number c.args.q.slot) o c.args.row.kind c.args.row.attr c.args.row.name i c.args.access p
    c.if-context-access.true) _ _ c.along.ensures c.kept.ensures

pub returns : goal.returns
returns c =
    λ N w l o i p. decided_along w _ _ _ c.args.q.context (call-no N w l (context_of c.args.q.context) (slot_number c.args.q.slot) o c.args.row.kind c.args.row.attr c.args.row.name i c.args.access p
    c.if-context-access.false) _ _ c.along-2.ensures c.kept-2.ensures
