-- The walkers of `emit::walkers` meet their contracts. Assumes nothing.
use mathlib.Core.Path.{◌≡◌}
use Rattle.passes.specs.View.{state_number}
use Rattle.plan.specs.Placing.{place_of}
use Rattle.emit.proofs.Lists.{Turning}
use Prim.Native.Nat.{◌+◌, ◌*◌, ◌-◌}
use Rattle.emit.proofs.walkers.+walk_rows.Given as goal

abbrev pub decreases-list : goal.decreases-list
decreases-list l = 8 * (l.inner.siblings.end - l.inner.siblings.from)

abbrev pub decreases-around : goal.decreases-around
decreases-around l = 8 * (l.inner.siblings.end - l.inner.siblings.from) + 1

abbrev pub decreases-statement : goal.decreases-statement
decreases-statement l = 8 * (l.inner.siblings.end - l.inner.siblings.from) + 2

abbrev pub decreases-function : goal.decreases-function
decreases-function l = 8 * (l.inner.siblings.end - l.inner.siblings.from) + 1

abbrev pub decreases-kept : goal.decreases-kept
decreases-kept l = 8 * (l.inner.siblings.end - l.inner.siblings.from) + 3

abbrev pub decreases-class : goal.decreases-class
decreases-class l = 8 * (l.inner.siblings.end - l.inner.siblings.from) + 2

abbrev pub decreases-sequence : goal.decreases-sequence
decreases-sequence l = 8 * (l.inner.siblings.end - l.inner.siblings.from) + 2

abbrev pub decreases-transform_member_expression_for_super : goal.decreases-transform_member_expression_for_super
decreases-transform_member_expression_for_super l = 8 * (l.inner.siblings.end - l.inner.siblings.from) + 1

abbrev pub decreases-transform_call_expression_for_super : goal.decreases-transform_call_expression_for_super
decreases-transform_call_expression_for_super l = 8 * (l.inner.siblings.end - l.inner.siblings.from) + 2

abbrev pub decreases-undressed : goal.decreases-undressed
decreases-undressed l = 8 * (l.plan.inner.end - l.plan.inner.from) + 4

abbrev pub decreases-expression : goal.decreases-expression
decreases-expression l = 8 * (l.plan.inner.end - l.plan.inner.from) + 5

abbrev pub invariant-list-loop-i : goal.invariant-list-loop-i
invariant-list-loop-i l =
    Turning l.walk.rows.now l.walk.names.pairs.now l.walk.names.text.now l.walk l.bind (state_number l.initial.state) (place_of l.initial.q) (place_of l.more)
    l.initial.i l.end l.initial.w.rows.now l.initial.w.at l.i (place_of l.q) (state_number l.state) l.w.rows.now l.w.at
    × (l.w.rows.ghost_name ≡ l.initial.w.rows.ghost_name)

abbrev pub decreases-list-loop-i : goal.decreases-list-loop-i
decreases-list-loop-i l = l.end - l.i
