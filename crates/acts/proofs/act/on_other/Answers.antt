-- `acts::act::on_other` meets its contract. Assumes nothing.
use Rattle.passes.specs.View.{slot_number}
use Rattle.acts.specs.View.{context_of}
use Rattle.acts.proofs.Branches.{decided_along, other-act}
use Rattle.acts.proofs.act.on_other.Goals as goal

pub returns : goal.returns
returns c =
    λ N w l o i. decided_along w _ _ _ c.args.q.context (other-act N w l (context_of c.args.q.context) (slot_number c.args.q.slot) o c.args.row.kind c.args.row.attr c.args.row.name i) _ _ c.along.ensures c.kept.ensures
