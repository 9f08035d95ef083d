-- `acts::act::on_access` meets its contract. Assumes nothing.
use mathlib.Core.Path.{refl, ◌∙◌}
use Rattle.acts.specs.View.{context_of}
use Rattle.acts.proofs.Branches.{decided_along, access-kept, access-gone, access-read}
use Rattle.passes.specs.View.{op_of, slot_number}
use Rattle.std.proofs.lemmas.Bool.{not_from_false, not_from_true}
use Rattle.passes.specs.declared.slots.Slot.TheVariants.{Callee, Dropped, OfTarget}
use Rattle.passes.proofs.Numbers.{slot_same, slot_told}
use Rattle.acts.proofs.act.on_access.Goals as goal

pub returns-then-not-context-sup : goal.returns-then-not-context-sup
returns-then-not-context-sup c =
    let a = c.args in
    λ N w l o i p. decided_along w _ _ _ a.q.context (access-kept N w l (context_of a.q.context) (slot_number a.q.slot) o a.row.kind a.row.attr a.row.name i a.sup
    c.eq.result p (c.eq.ensures ∙ slot_same a.q.slot OfTarget) (not_from_false _ c.if-not-context-sup.true)) _ _ c.along.ensures c.kept.ensures

pub returns-then-eq : goal.returns-then-eq
unfolding op_of
returns-then-eq c =
    let a = c.args in
    λ N w l o i p. decided_along w _ _ _ a.q.context (access-gone N w l (context_of a.q.context) (slot_number a.q.slot) o a.row.kind a.row.attr a.row.name i a.sup c.eq.result p (c.eq.ensures ∙ slot_same a.q.slot OfTarget)
    (not_from_true _ c.if-not-context-sup.false) (slot_told a.q.slot Dropped c.eq-2.ensures c.if-eq.true)) _ _ c.along-then-eq.ensures (refl)

pub returns : goal.returns
unfolding op_of
returns c =
    let a = c.args in
    λ N w l o i p. decided_along w _ _ _ a.q.context (access-read N w l (context_of a.q.context) (slot_number a.q.slot) o a.row.kind a.row.attr a.row.name i a.sup c.eq.result p (c.eq.ensures ∙ slot_same a.q.slot OfTarget)
    (not_from_true _ c.if-not-context-sup.false) c.eq-3.result (c.eq-3.ensures ∙ slot_same a.q.slot Callee) (slot_told a.q.slot Dropped c.eq-2.ensures c.if-eq.false)) _ _ c.along-2.ensures (refl)
