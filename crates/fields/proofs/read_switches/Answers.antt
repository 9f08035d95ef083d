-- `fields::read_switches` meets its contract. Assumes nothing.
use mathlib.Core.Path.{◌∙◌}
use native.Mathlib.Omega.{arith}
use Rattle.fields.proofs.Splitting.{switches_long, switches_apart, first_bad, second_bad, third_bad, all_good}
use Rattle.fields.proofs.read_switches.Goals as goal
use Rattle.fields.proofs.read_switches.Goals.{then-s-ne-SPACE-via-then-s-ne-SPACE, then-s-ne-SPACE-via-else-s-ne-SPACE+then-t-ne-SPACE}

pub returns-in_default : goal.returns-in_default
returns-in_default c = switches_long _ (λ e. omega arith)

pub returns-in_default-2 : goal.returns-in_default-2
returns-in_default-2 c = switches_long _ (λ e. omega arith)

pub returns-then-s-ne-SPACE : goal.returns-then-s-ne-SPACE
returns-then-s-ne-SPACE c =
    elim c.then-s-ne-SPACE.branch [ then-s-ne-SPACE-via-then-s-ne-SPACE w ↦ switches_apart _ (λ e f. w.if-s-ne-SPACE.true e) | then-s-ne-SPACE-via-else-s-ne-SPACE+then-t-ne-SPACE w ↦ switches_apart _ (λ e f. w.if-t-ne-SPACE.true f) ]

pub returns-in_err-read_bit : goal.returns-in_err-read_bit
returns-in_err-read_bit c = c.from_residual.ensures ∙ first_bad _ (omega arith) c.if-s-ne-SPACE.false c.if-t-ne-SPACE.false c.read_bit.ensures c.in_err-read_bit.was

pub returns-in_err-read_bit-2 : goal.returns-in_err-read_bit-2
returns-in_err-read_bit-2 c =
    c.from_residual-in_err-read_bit-2.ensures ∙ second_bad _ (omega arith) c.if-s-ne-SPACE.false c.if-t-ne-SPACE.false c.read_bit.ensures c.read_bit-2.ensures c.in_ok-read_bit.was c.in_err-read_bit-2.was

pub returns-in_err-read_bit-3 : goal.returns-in_err-read_bit-3
returns-in_err-read_bit-3 c =
    c.from_residual-in_err-read_bit-3.ensures ∙ third_bad _ (omega arith) c.if-s-ne-SPACE.false c.if-t-ne-SPACE.false c.read_bit.ensures c.read_bit-2.ensures c.in_ok-read_bit.was c.read_bit-3.ensures c.in_ok-read_bit-2.was c.in_err-read_bit-3.was

pub returns : goal.returns
returns c =
    all_good _ (omega arith) c.if-s-ne-SPACE.false c.if-t-ne-SPACE.false c.read_bit.ensures c.read_bit-2.ensures c.in_ok-read_bit.was c.read_bit-3.ensures c.in_ok-read_bit-2.was c.in_ok-read_bit-3.was
