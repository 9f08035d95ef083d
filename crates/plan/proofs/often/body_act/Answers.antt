-- `plan::often::body_act` meets its contract. Assumes nothing.
use Rattle.steps.specs.Slots.{free}
use Rattle.passes.specs.View.{op_of}
use Rattle.plan.specs.Placing.{place_of}
use Rattle.plan.proofs.Taking.{takes_along, body-row}
use Rattle.plan.proofs.often.body_act.Goals as goal

pub returns : goal.returns
unfolding op_of
returns c =
    let a = c.args in
    let at = place_of a.q in
    λ N w l o i. takes_along w at.ctx _ _ free free (body-row N w l at.ctx at.slot o a.row.kind a.row.attr a.row.name i c.requires) _ c.kept.ensures c.inside-inside.ensures c.inside-inside.ensures
