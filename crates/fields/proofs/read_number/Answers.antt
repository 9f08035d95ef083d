-- `fields::read_number` meets its contract. Assumes nothing.
use Rattle.std.proofs.Common.{tests, ◌≡◌, ℕ, ◌+◌, ◌-◌, ◌*◌, get_or, drop, ap}
use mathlib.Core.Path.{sym, ◌∙◌}
use Rattle.fields.specs.Fields.{digits_of}
use native.Mathlib.Omega.{arith}
use Rattle.fields.proofs.Splitting.{number-start, number_empty, number-zero, digit_none, digit_big, digit_next, digit_end}
use Rattle.fields.proofs.read_number.Goals as goal
use Rattle.fields.proofs.read_number.Goals.{else-s-gt1-via-then-s-gt1+else-s-eq-ZERO, else-s-gt1-via-else-s-gt1}

pub returns-then-is_empty : goal.returns-then-is_empty
returns-then-is_empty c = sym (number_empty _ (grind (arith, tests)))

pub returns-then-s-eq-ZERO : goal.returns-then-s-eq-ZERO
returns-then-s-eq-ZERO c = sym (number-zero _ c.if-s-gt1.true c.if-s-eq-ZERO.true)

pub loop-c-init : goal.loop-c-init
loop-c-init c =
    number-start _ (grind (arith, tests)) (elim c.else-s-gt1.branch [ else-s-gt1-via-then-s-gt1+else-s-eq-ZERO w ↦ (λ h. w.if-s-eq-ZERO.false) | else-s-gt1-via-else-s-gt1 w ↦ (λ h. absurd (omega arith)) ])

pub returns-then-not-is_ascii_digit : goal.returns-then-not-is_ascii_digit
returns-then-not-is_ascii_digit c = sym (c.loop-c.invariant ∙ digit_none _ _ _ c.loop-c-test.true c.if-not-is_ascii_digit.ensures.cases)

pub returns-in_err-checked_mul : goal.returns-in_err-checked_mul
returns-in_err-checked_mul c =
    let d = c.if-not-is_ascii_digit.ensures.cases in
    let k = c.in_err-checked_mul.ensures in
    c.from_residual.ensures ∙ sym (c.loop-c.invariant ∙ digit_big _ _ _ c.loop-c-test.true d.0 d.1 (omega arith))

pub returns-in_err-v : goal.returns-in_err-v
returns-in_err-v c =
    let d = c.if-not-is_ascii_digit.ensures.cases in
    let k = c.in_err-v.ensures in
    let l = c.in_ok-checked_mul.ensures in
    c.from_residual-in_err-v.ensures ∙ sym (c.loop-c.invariant ∙ digit_big _ _ _ c.loop-c-test.true d.0 d.1 (omega (arith, c.from.ensures)))

pub loop-c-preserved : goal.loop-c-preserved
loop-c-preserved c =
    let d = c.if-not-is_ascii_digit.ensures.cases in
    let k = c.in_ok-v.ensures in
    let l = c.in_ok-checked_mul.ensures in
    let v : c.loop-c.v * 10 + (get_or c.args.s.now c.loop-c.c-index 0 - 48) ≡ c.in_ok-v.v = omega (arith, c.from.ensures) in
    c.loop-c.invariant ∙ digit_next _ _ _ c.loop-c-test.true d.0 d.1 (omega (arith, c.from.ensures)) ∙ ap (λ (x : ℕ). digits_of x (drop (c.loop-c.c-index + 1) c.args.s.now)) v

pub returns : goal.returns
returns c = sym (c.loop-c.invariant ∙ digit_end _ _ _ c.loop-c-test.false)
