-- `plan::late::leaves` meets its contract. Assumes nothing.
use mathlib.Core.Path.{refl, ap, ◌∙◌}
use native.Mathlib.Omega.{arith}
use mathlib.Core.Bool.{not}
use lib.Dec.{eqb}
use Rattle.grammar.specs.Kinds.{Super, Function}
use Rattle.grammar.specs.declared.kind.Kind.TheVariants as kinds
use Rattle.grammar.proofs.Listed.{same_kind}
use Rattle.steps.specs.Outcome.{names_of}
use Rattle.passes.specs.declared.slots.Slot.TheVariants.{Dropped}
use Rattle.passes.proofs.Numbers.{slot_same}
use Rattle.acts.specs.View.{switches_of}
use Rattle.plan.specs.Placing.{place_of}
use Rattle.plan.proofs.Leaving.{leaves-here, leaves-inside, leaves_none, here_as, no_function, not-down, children-say, children-range, children_fewer, later_fewer, leaving_next}
use Prim.Native.Nat.{ℕ, ◌+◌}
use Rattle.plan.proofs.late.+leaves.Goals as goal

pub loop-i-init : goal.loop-i-init
loop-i-init t c = record { same = refl; range = c.requires.range; start = omega arith }

pub kind_at-requires : goal.kind_at-requires
kind_at-requires t c = let b = c.requires.bytes in let r = c.loop-i.invariant.range.within in let l = c.loop-i-test.true in omega arith

pub end_at-stop-requires : goal.end_at-stop-requires
end_at-stop-requires t c = let b = c.requires.bytes in let r = c.loop-i.invariant.range.within in let l = c.loop-i-test.true in omega arith

pub returns-then-eq : goal.returns-then-eq
returns-then-eq t c =
    let a = c.args in
    let g = c.requires.nested in
    let R = c.loop-i.invariant.range in
    let lt = c.loop-i-test.true in
    let N = names_of a.names.now.pairs.now a.names.now.text.now in
    let w = switches_of a.switches in
    let q = place_of c.loop-i.q in
    let more = place_of a.more in
    let k = c.kind_at in
    let sup = c.eq.ensures ∙ same_kind k.result _ kinds.Super c.from-kind.ensures refl ∙ ap (λ (m : ℕ). eqb m Super) k.ensures.0 in
    leaves-here _ _ g N w q more _ _ R lt (here_as _ sup (c.eq-in-loop-i.ensures ∙ slot_same c.slot-slot.result Dropped) c.slot-slot.ensures ∙ c.if-eq.true) ∙ c.loop-i.invariant.same

pub overflow_add-first : goal.overflow_add-first
overflow_add-first t c = let r = c.loop-i.invariant.range.within in let l = c.loop-i-test.true in let f = c.requires.few in omega arith

pub invariant_of-node : goal.invariant_of-node
invariant_of-node t c = record { known = record { bytes = c.requires.bytes; few = c.requires.few; nested = c.requires.nested; row = (let r = c.loop-i.invariant.range.within in let l = c.loop-i-test.true in omega arith) } }

pub leaves-requires : goal.leaves-requires
leaves-requires t c =
    let r = c.requires in
    let g = r.nested in
    let R = c.loop-i.invariant.range in
    let lt = c.loop-i-test.true in
    let x = c.end_at-stop in
    let fewer = children_fewer _ _ g _ _ R lt x.result x.ensures.0 c.args.from t c.loop-i.invariant.start c.decreases in
    (fewer, record { bytes = r.bytes; few = r.few; nested = g; range = children-range _ _ g _ _ R lt x.result x.ensures.0 })

pub returns-then-leaves : goal.returns-then-leaves
returns-then-leaves t c =
    let a = c.args in
    let g = c.requires.nested in
    let R = c.loop-i.invariant.range in
    let lt = c.loop-i-test.true in
    let N = names_of a.names.now.pairs.now a.names.now.text.now in
    let w = switches_of a.switches in
    let q = place_of c.loop-i.q in
    let more = place_of a.more in
    let k = c.kind_at in
    let sup = c.eq.ensures ∙ same_kind k.result _ kinds.Super c.from-kind.ensures refl ∙ ap (λ (m : ℕ). eqb m Super) k.ensures.0 in
    let x = c.end_at-stop in
    let f = no_function k.result (c.loop-i.i + 1) x.result (c.ne.ensures ∙ ap not (same_kind k.result _ kinds.Function c.from-kind.ensures refl)) c.if-ne-first.true in
    let takes = c.row_act-act.ensures.takes in
    let said = children-say _ _ g N w q more _ _ R lt (λ h. f (k.ensures.0 ∙ h)) c.leaves.result _ _ x.result takes.first takes.later x.ensures.0 c.leaves.ensures in
    leaves-inside _ _ g N w q more _ _ R lt (here_as _ sup (c.eq-in-loop-i.ensures ∙ slot_same c.slot-slot.result Dropped) c.slot-slot.ensures ∙ c.if-eq.false) (said ∙ c.if-leaves.true) ∙ c.loop-i.invariant.same

pub loop-i-smaller-else-leaves : goal.loop-i-smaller-else-leaves
loop-i-smaller-else-leaves t c =
    later_fewer _ _ c.requires.nested _ _ c.loop-i.invariant.range c.loop-i-test.true c.end_at-stop.result c.end_at-stop.ensures.0

pub loop-i-preserved-else-leaves : goal.loop-i-preserved-else-leaves
loop-i-preserved-else-leaves t c =
    let a = c.args in
    let g = c.requires.nested in
    let R = c.loop-i.invariant.range in
    let lt = c.loop-i-test.true in
    let N = names_of a.names.now.pairs.now a.names.now.text.now in
    let w = switches_of a.switches in
    let q = place_of c.loop-i.q in
    let more = place_of a.more in
    let k = c.kind_at in
    let sup = c.eq.ensures ∙ same_kind k.result _ kinds.Super c.from-kind.ensures refl ∙ ap (λ (m : ℕ). eqb m Super) k.ensures.0 in
    let x = c.end_at-stop in
    let f = no_function k.result (c.loop-i.i + 1) x.result (c.ne.ensures ∙ ap not (same_kind k.result _ kinds.Function c.from-kind.ensures refl)) c.if-ne-first.true in
    let takes = c.row_act-act.ensures.takes in
    let said = children-say _ _ g N w q more _ _ R lt (λ h. f (k.ensures.0 ∙ h)) c.leaves.result _ _ x.result takes.first takes.later x.ensures.0 c.leaves.ensures in
    let here = here_as _ sup (c.eq-in-loop-i.ensures ∙ slot_same c.slot-slot.result Dropped) c.slot-slot.ensures ∙ c.if-eq.false in
    leaving_next _ _ g _ _ R lt x.result x.ensures.0 N w (place_of a.one) more q a.from c.loop-i.invariant here (said ∙ c.if-leaves.false)

pub loop-i-smaller : goal.loop-i-smaller
loop-i-smaller t c =
    later_fewer _ _ c.requires.nested _ _ c.loop-i.invariant.range c.loop-i-test.true c.end_at-stop.result c.end_at-stop.ensures.0

pub loop-i-preserved : goal.loop-i-preserved
loop-i-preserved t c =
    let a = c.args in
    let g = c.requires.nested in
    let R = c.loop-i.invariant.range in
    let lt = c.loop-i-test.true in
    let N = names_of a.names.now.pairs.now a.names.now.text.now in
    let w = switches_of a.switches in
    let q = place_of c.loop-i.q in
    let more = place_of a.more in
    let k = c.kind_at in
    let sup = c.eq.ensures ∙ same_kind k.result _ kinds.Super c.from-kind.ensures refl ∙ ap (λ (m : ℕ). eqb m Super) k.ensures.0 in
    let x = c.end_at-stop in
    let none = not-down _ _ g N w q more _ _ R lt _ x.result (c.ne.ensures ∙ ap not (same_kind k.result _ kinds.Function c.from-kind.ensures refl ∙ ap (λ (m : ℕ). eqb m Function) k.ensures.0)) x.ensures.0 c.if-ne-first.false in
    leaving_next _ _ g _ _ R lt x.result x.ensures.0 N w (place_of a.one) more q a.from c.loop-i.invariant (here_as _ sup (c.eq-in-loop-i.ensures ∙ slot_same c.slot-slot.result Dropped) c.slot-slot.ensures ∙ c.if-eq.false) none

pub returns : goal.returns
returns t c =
    let a = c.args in
    let N = names_of a.names.now.pairs.now a.names.now.text.now in
    leaves_none _ _ c.requires.nested N (switches_of a.switches) (place_of c.loop-i.q) (place_of a.more) _ _ c.loop-i-test.false ∙ c.loop-i.invariant.same
