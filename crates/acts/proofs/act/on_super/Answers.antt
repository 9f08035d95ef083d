-- `acts::act::on_super` meets its contract. Assumes nothing.
use mathlib.Core.Path.{refl}
use Rattle.acts.specs.View.{context_of}
use Rattle.acts.proofs.Branches.{decided_along, super-yes, super_no}
use Rattle.passes.specs.View.{op_of, slot_number}
use Rattle.passes.specs.declared.slots.Slot.TheVariants.{Dropped}
use Rattle.passes.proofs.Numbers.{slot_told}
use Rattle.acts.proofs.act.on_super.Goals as goal

pub returns-then-eq : goal.returns-then-eq
unfolding op_of
returns-then-eq c =
    λ N w l o i. decided_along w _ _ _ c.args.q.context (super-yes N w l (context_of c.args.q.context) (slot_number c.args.q.slot) o c.args.row.kind c.args.row.attr c.args.row.name i (slot_told c.args.q.slot Dropped
    c.eq.ensures c.if-eq.true)) _ _ c.along.ensures (refl)

pub returns : goal.returns
returns c =
    λ N w l o i. decided_along w _ _ _ c.args.q.context (super_no N w l (context_of c.args.q.context) (slot_number c.args.q.slot) o c.args.row.kind c.args.row.attr c.args.row.name i (slot_told c.args.q.slot Dropped
    c.eq.ensures c.if-eq.false)) _ _ c.along-2.ensures c.kept.ensures
