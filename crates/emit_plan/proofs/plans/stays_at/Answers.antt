-- `emit_plan::plans::stays_at` meets its contract. Assumes nothing.
use mathlib.Core.Path.{sym, ◌∙◌}
use mathlib.Core.Bool.{false≢true}
use Rattle.emit_plan.proofs.Unchanged.{unchanged_at}
use Rattle.emit_plan.proofs.plans.stays_at.Goals as goal

pub returns-then-not-is_steady : goal.returns-then-not-is_steady
returns-then-not-is_steady c = λ h. absurd (false≢true h)

pub returns-then-is_direct : goal.returns-then-is_direct
returns-then-is_direct c = λ h. absurd (false≢true h)

pub returns : goal.returns
returns c =
    λ h. unchanged_at c.kind_at-kind.ensures.0 c.attr_at.ensures.0 (c.is_steady.ensures c.if-not-is_steady.false) (sym c.is_direct.ensures ∙ c.if-is_direct.false) (c.stays.ensures h)
