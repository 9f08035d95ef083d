-- `passes::next_of` meets its contract. Assumes nothing.
use mathlib.Core.Path.{sym, ◌∙◌}
use Rattle.steps.specs.Fused.{next_of}
use Rattle.passes.proofs.Numbers.{not_state}
use Rattle.passes.proofs.next_of.Goals as goal

pub returns-in_default : goal.returns-in_default
unfolding next_of
returns-in_default c =
    let o = c.in_default in
    rw (not_state _ _ o.not-Heritage, not_state _ _ o.not-Once, not_state _ _ o.not-Direct, sym c.is_behind.ensures ∙ c.if-is_behind.true)

pub returns-in_default-2 : goal.returns-in_default-2
unfolding next_of
returns-in_default-2 c =
    let o = c.in_default in
    rw (not_state _ _ o.not-Heritage, not_state _ _ o.not-Once, not_state _ _ o.not-Direct, sym c.is_behind.ensures ∙ c.if-is_behind.false)
