-- `passes::scan_row` meets its contract. Assumes nothing.
use mathlib.Core.Path.{◌∙◌}
use Rattle.steps.specs.Fused.{scan_of}
use Rattle.passes.specs.declared.states.State.TheVariants.{Copy, Direct, Members}
use Rattle.passes.proofs.Numbers.{state_same}
use Rattle.passes.proofs.scan_row.Goals as goal

pub returns-then-eq-in_sequence : goal.returns-then-eq-in_sequence
unfolding scan_of
returns-then-eq-in_sequence c = rw (← (c.eq.ensures ∙ state_same c.args.state Copy), ← c.in_sequence.ensures, c.if-eq-in_sequence.true)

pub returns-then-eq : goal.returns-then-eq
unfolding scan_of
returns-then-eq c = rw (← (c.eq.ensures ∙ state_same c.args.state Copy), ← c.in_sequence.ensures, c.if-eq-in_sequence.false, ← (c.eq-2.ensures ∙ state_same c.args.state Direct), c.if-eq.true)

pub returns-then-is_behind : goal.returns-then-is_behind
unfolding scan_of
returns-then-is_behind c = rw (← (c.eq.ensures ∙ state_same c.args.state Copy), ← c.in_sequence.ensures, c.if-eq-in_sequence.false, ← (c.eq-2.ensures ∙ state_same c.args.state Direct), c.if-eq.false, ← c.is_behind.ensures, c.if-is_behind.true)

pub returns-then-eq-2 : goal.returns-then-eq-2
unfolding scan_of
returns-then-eq-2 c =
    rw (
      ← (c.eq.ensures ∙ state_same c.args.state Copy),
      ← c.in_sequence.ensures,
      c.if-eq-in_sequence.false,
      ← (c.eq-2.ensures ∙ state_same c.args.state Direct),
      c.if-eq.false,
      ← c.is_behind.ensures,
      c.if-is_behind.false,
      ← (c.eq-3.ensures ∙ state_same c.args.state Members),
      c.if-eq-2.true,
      ← c.has_bit-set.ensures,
    ) c.scan_member.ensures

pub returns : goal.returns
unfolding scan_of
returns c =
    rw (
      ← (c.eq.ensures ∙ state_same c.args.state Copy),
      ← c.in_sequence.ensures,
      c.if-eq-in_sequence.false,
      ← (c.eq-2.ensures ∙ state_same c.args.state Direct),
      c.if-eq.false,
      ← c.is_behind.ensures,
      c.if-is_behind.false,
      ← (c.eq-3.ensures ∙ state_same c.args.state Members),
      c.if-eq-2.false,
      ← c.has_bit-set.ensures,
    ) c.scan_kind.ensures
