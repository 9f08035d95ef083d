-- `acts::act::on_this` meets its contract. Assumes nothing.
use mathlib.Core.Path.{refl}
use Rattle.acts.specs.View.{context_of}
use Rattle.acts.proofs.Branches.{decided_along, this_yes, this_no}
use Rattle.passes.specs.View.{op_of, slot_number}
use Rattle.acts.proofs.act.on_this.Goals as goal

pub returns-then-context : goal.returns-then-context
unfolding op_of
returns-then-context c =
    λ N w l o i. decided_along w _ _ _ c.args.q.context (this_yes N w l (context_of c.args.q.context) (slot_number c.args.q.slot) o c.args.row.kind c.args.row.attr c.args.row.name i c.if-context.true) _ _ c.along.ensures (refl)

pub returns : goal.returns
returns c =
    λ N w l o i. decided_along w _ _ _ c.args.q.context (this_no N w l (context_of c.args.q.context) (slot_number c.args.q.slot) o c.args.row.kind c.args.row.attr c.args.row.name i c.if-context.false) _ _ c.along-2.ensures c.kept.ensures
