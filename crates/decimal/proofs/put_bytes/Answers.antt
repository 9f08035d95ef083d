-- `decimal::put_bytes` meets its contract. Assumes nothing.
use native.Mathlib.Omega.{arith}
use Rattle.decimal.proofs.Writing.{nothing, one_more, all_of}
use Rattle.decimal.proofs.put_bytes.Goals as goal

pub loop-b-init : goal.loop-b-init
loop-b-init c = (omega arith, nothing _ c.args.s.now)

pub loop-b-preserved : goal.loop-b-preserved
loop-b-preserved c =
    let w = c.put_byte-to.ensures in
    (omega (arith, w.next), one_more _ _ _ _ _ _ _ _ c.loop-b-test.true c.loop-b.invariant.1 w)

pub returns : goal.returns
returns c = all_of _ _ _ _ _ _ c.loop-b.auto.b-index-end c.loop-b-test.false c.loop-b.invariant.1
