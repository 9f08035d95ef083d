-- `acts::act::on_assign` meets its contract. Assumes nothing.
use mathlib.Core.Path.{refl, sym, ◌∙◌}
use Rattle.acts.specs.View.{context_of}
use Rattle.acts.proofs.Branches.{decided_along, assign-yes, assign-unmoved, assign-no}
use Rattle.passes.specs.View.{op_of, slot_number}
use Rattle.acts.proofs.act.on_assign.Goals as goal
use Rattle.acts.proofs.act.on_assign.Goals.{in_default-via-in-Some+else-context, in_default-via-in_default}

pub returns-in-Some : goal.returns-in-Some
unfolding op_of
returns-in-Some c =
    let a = c.args in
    λ N w l o i p. decided_along w _ _ _ a.q.context (assign-yes N w l (context_of a.q.context) (slot_number a.q.slot) o a.row.kind a.row.attr a.row.name i (sym c.in-Some.is ∙ p) c.if-context.true) _ _ c.along.ensures (refl)

pub returns-in_default : goal.returns-in_default
returns-in_default c =
    let a = c.args in
    λ N w l o i p. decided_along w _ _ _ a.q.context
    (elim c.in_default.branch [
      | in_default-via-in-Some+else-context x ↦ assign-unmoved N w l (context_of a.q.context) (slot_number a.q.slot) o a.row.kind a.row.attr a.row.name i x.if-context.false
      | in_default-via-in_default x ↦ assign-no N w l (context_of a.q.context) (slot_number a.q.slot) o a.row.kind a.row.attr a.row.name i (sym x.in_default.is ∙ p)
    ]) _ _ c.along-in_default.ensures c.kept.ensures
