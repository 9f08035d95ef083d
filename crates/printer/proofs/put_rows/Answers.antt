-- `printer::put_rows` meets its contract. Assumes nothing.
use mathlib.Core.Path.{◌≡◌}
use Prim.Native.Nat.{◌*◌, ◌/◌}
use native.Mathlib.Omega.{arith}
use native.Mathlib.Nat.{mul-suc}
use lib.ListN.{length}
use Rattle.names.specs.Words.{words}
use Rattle.printer.proofs.Printing.{no_rows, row_more, row_within, row_long}
use Rattle.printer.proofs.put_rows.Goals as goal

pub loop-i-init : goal.loop-i-init
loop-i-init g c = record { near = omega arith; wrote = no_rows g.row.N _ _ (words c.args.bytes.now) }

pub row-requires : goal.row-requires
row-requires g c = (omega arith, (row_within g.row.N c.loop-i.i _ c.requires.0 c.loop-i-test.true, omega arith))

pub put_line-to-requires : goal.put_line-to-requires
put_line-to-requires g c =
    let r = row_within g.row.N c.loop-i.i _ c.requires.0 c.loop-i-test.true in
    let l : length c.row.result ≡ g.row.N = row_long g.row.N (words c.args.bytes.now) c.loop-i.i c.row.ensures in
    (omega (arith, c.loop-i.invariant.near), omega arith)

pub loop-i-preserved : goal.loop-i-preserved
loop-i-preserved g c =
    let w = c.put_line-to.ensures in
    let l : length c.row.result ≡ g.row.N = row_long g.row.N (words c.args.bytes.now) c.loop-i.i c.row.ensures in
    record {
      near = omega (arith, w.1 (omega arith), c.loop-i.invariant.near, mul-suc g.row.N c.loop-i.i);
      wrote = row_more g.row.N _ _ _ _ _ _ _ _ c.loop-i.invariant.wrote (rw c.row.ensures at w.0);
    }

pub returns : goal.returns
returns g c =
    let i : c.loop-i.i ≡ length c.args.bytes.now / (4 * g.row.N) = omega arith in
    (rw i at c.loop-i.invariant.wrote, rw i at c.loop-i.invariant.near)
