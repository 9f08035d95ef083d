-- `parser::read_head` meets its contract. Assumes nothing.
use mathlib.Core.Path.{sym, ap, ◌∙◌}
use native.Mathlib.Omega.{arith}
use Rattle.parser.proofs.Sheets.{handed, or_none, or_some, first-none, first_no, second_none, second_no, third_none, third_no, third_yes}
use Rattle.parser.proofs.read_head.Goals as goal

pub returns-in_err-header : goal.returns-in_err-header
returns-in_err-header c =
    let e = c.in_err-header.ensures in
    rw (handed _ _ c.from_residual.ensures.1, e.1) (first-none _ e.0, omega arith)

pub returns-then-not-is_switch_header : goal.returns-then-not-is_switch_header
returns-then-not-is_switch_header c = (first_no c.in_ok-header.ensures c.if-not-is_switch_header.ensures, omega arith)

pub returns-in_err-bits : goal.returns-in_err-bits
returns-in_err-bits c =
    let e = c.in_err-bits.ensures in
    rw (handed _ _ c.from_residual-in_err-bits.ensures.1, e.1) (second_none c.in_ok-header.ensures c.if-not-is_switch_header.ensures e.0, omega arith)

pub returns-in_err-arrow_function : goal.returns-in_err-arrow_function
returns-in_err-arrow_function c =
    let e = or_none c.read_switches.result (sym c.ok_or.ensures.value ∙ c.in_err-arrow_function.was) in
    rw (handed _ _ c.from_residual-in_err-arrow_function.ensures.1, ap (λ x. x.line) e.1)
    (second_no c.in_ok-header.ensures c.if-not-is_switch_header.ensures c.in_ok-bits.ensures (e.0 ∙ c.read_switches.ensures), omega arith)

pub returns-in_err-header-2 : goal.returns-in_err-header-2
returns-in_err-header-2 c =
    let e = c.in_err-header-2.ensures in
    let x = or_some c.read_switches.result _ (sym c.ok_or.ensures.value ∙ c.in_ok-arrow_function.was) in
    rw (handed _ _ c.from_residual-in_err-header-2.ensures.1, e.1)
    (third_none c.in_ok-header.ensures c.if-not-is_switch_header.ensures c.in_ok-bits.ensures (x ∙ c.read_switches.ensures) e.0, omega arith)

pub returns-then-not-is_name_header : goal.returns-then-not-is_name_header
returns-then-not-is_name_header c =
    let x = or_some c.read_switches.result _ (sym c.ok_or.ensures.value ∙ c.in_ok-arrow_function.was) in
    (third_no c.in_ok-header.ensures c.if-not-is_switch_header.ensures c.in_ok-bits.ensures (x ∙ c.read_switches.ensures) c.in_ok-header-2.ensures c.if-not-is_name_header.ensures, omega arith)

pub returns : goal.returns
returns c =
    let x = or_some c.read_switches.result _ (sym c.ok_or.ensures.value ∙ c.in_ok-arrow_function.was) in (
      third_yes c.in_ok-header.ensures c.if-not-is_switch_header.ensures c.in_ok-bits.ensures (x ∙ c.read_switches.ensures) c.in_ok-header-2.ensures c.if-not-is_name_header.ensures,
      omega (arith, c.in_ok-header.ensures.shorter, c.in_ok-bits.ensures.shorter, c.in_ok-header-2.ensures.shorter),
    )
