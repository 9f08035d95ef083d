-- `printer::put_line` meets its contract. Assumes nothing.
use Rattle.printer.proofs.Printing.{line_none, no_number, next_number, last_number}
use mathlib.Core.Path.{◌≡◌}
use lib.ListN.{length}
use native.Mathlib.Omega.{arith}
use Rattle.printer.proofs.put_line.Goals as goal

pub returns-in_default : goal.returns-in_default
returns-in_default c = (line_none _ _ _ _ _ c.in_default.ensures.cases c.put_byte.ensures, λ h. absurd (omega (arith, c.in_default.ensures.cases)))

pub loop-n-init : goal.loop-n-init
loop-n-init c = record { near = omega arith; wrote = no_number _ _ c.in-Some.rest.now }

pub loop-n-preserved : goal.loop-n-preserved
loop-n-preserved c =
    let w = c.put_field-to.ensures in
    let v = c.loop-n.invariant in
    record { near = omega (arith, w.1, v.near); wrote = next_number _ _ _ _ _ _ _ _ c.loop-n-test.true v.wrote w.0 }

pub returns : goal.returns
returns c =
    let w = c.put_field.ensures in
    let v = c.loop-n.invariant in
    let e = c.in-Some.ensures.cases in
    let i : c.loop-n.n-index ≡ length c.in-Some.rest.now = omega arith in
    (last_number _ _ _ _ c.in-Some.rest.now _ _ _ _ e.0 (rw i at v.wrote) w.0, λ h. omega (arith, w.1, v.near, e.1))
