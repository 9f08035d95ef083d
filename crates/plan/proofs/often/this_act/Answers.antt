-- `plan::often::this_act` meets its contract. Assumes nothing.
use mathlib.Core.Path.{ap, sym, ◌∙◌}
use Prim.Native.Nat.{ℕ}
use Rattle.steps.specs.Slots.{free}
use Rattle.steps.specs.Acts.{Op}
use Rattle.passes.specs.View.{op_of}
use Rattle.plan.specs.Placing.{place_of}
use Rattle.plan.proofs.Taking.{takes_along, this_name, this-row}
use Rattle.plan.proofs.often.this_act.Goals as goal

pub returns-then-takes_this : goal.returns-then-takes_this
unfolding op_of
returns-then-takes_this c =
    let a = c.args in
    let at = place_of a.q in
    λ N w l o i. takes_along w at.ctx _ _ free free (this_name N w l at.ctx at.slot o a.row.kind a.row.attr a.row.name i c.requires (sym c.takes_this.ensures ∙ c.if-takes_this.true)) _ (ap (λ
    (f : ℕ). Op.name 1 f) c.this_at.ensures.value) c.inside-inside.ensures c.inside-inside.ensures

pub returns : goal.returns
unfolding op_of
returns c =
    let a = c.args in
    let at = place_of a.q in
    λ N w l o i. takes_along w at.ctx _ _ free free (this-row N w l at.ctx at.slot o a.row.kind a.row.attr a.row.name i c.requires (sym c.takes_this.ensures ∙ c.if-takes_this.false)) _ c.kept.ensures c.inside-inside.ensures c.inside-inside.ensures
