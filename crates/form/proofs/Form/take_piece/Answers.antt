-- `form::Form::take_piece` meets its contract. Assumes nothing.
use mathlib.Core.Path.{refl, sym, ◌∙◌}
use native.Mathlib.Omega.{arith}
use mathlib.Core.Path.{ap}
use lib.ListN.{drop}
use Prim.Native.Nat.{◌+◌}
use Rattle.form.specs.Form.{Point, scan, point_of}
use Rattle.form.proofs.Ending.{scan-next, scan_end}
use Rattle.form.proofs.Form.take_piece.Goals as goal

pub loop-c-init : goal.loop-c-init
loop-c-init c = record { same = refl; near = omega arith; on = omega arith }

pub loop-c-preserved : goal.loop-c-preserved
loop-c-preserved c =
    let v = c.loop-c.invariant in
    let e = c.take.ensures in
    record {
      same = ap (λ (x : Point). scan x (drop (c.loop-c.c-index + 1) c.args.piece.now)) e.0 ∙ sym (scan-next (point_of c.loop-c.self) c.args.piece.now c.loop-c.c-index c.loop-c-test.true) ∙ v.same;
      near = omega (arith, e.1, v.near);
      on = omega (arith, e.2, v.on);
    }

pub returns : goal.returns
returns c =
    let v = c.loop-c.invariant in
    (sym (scan_end (point_of c.loop-c.self) c.args.piece.now c.loop-c.c-index (omega arith) c.loop-c-test.false) ∙ v.same, omega (arith, v.near), v.on)
