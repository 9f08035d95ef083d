-- `plan::often::method_act` meets its contract. Assumes nothing.
use mathlib.Core.Path.{sym, ◌∙◌}
use Rattle.steps.specs.Slots.{free, of_method}
use Rattle.passes.specs.View.{op_of}
use Rattle.plan.specs.Placing.{place_of}
use Rattle.plan.proofs.Taking.{takes_along, method_computed, method_named}
use Rattle.plan.proofs.often.method_act.Goals as goal

pub returns-then-has_bit : goal.returns-then-has_bit
unfolding op_of
returns-then-has_bit c =
    let a = c.args in
    let at = place_of a.q in
    λ N w l o i. takes_along w at.ctx _ _ free of_method (method_computed N w l at.ctx at.slot o a.row.kind a.row.attr a.row.name i c.requires (sym c.has_bit.ensures ∙ c.if-has_bit.true)) _ c.kept-op.ensures c.inside.ensures c.within-more.ensures

pub returns : goal.returns
unfolding op_of
returns c =
    let a = c.args in
    let at = place_of a.q in
    λ N w l o i. takes_along w at.ctx _ _ of_method of_method (method_named N w l at.ctx at.slot o a.row.kind a.row.attr a.row.name i c.requires
    (sym c.has_bit.ensures ∙ c.if-has_bit.false)) _ c.kept-op.ensures c.within-more.ensures c.within-more.ensures
