-- `numbers::Taken::free_number` meets its contract. Assumes nothing.
use native.Mathlib.Omega.{arith}
use Rattle.numbers.proofs.Looking.{few-entries, tried_next, tried_done, tried_high}
use Rattle.numbers.proofs.Entering.{entries-long}
use Rattle.numbers.proofs.Taken.free_number.Goals as goal

pub overflow_add-n : goal.overflow_add-n
overflow_add-n c =
    let s = c.args.self.now.checked.script in
    let l = few-entries c.args.self.now.checked.sound _ c.args.self.now.stored.few in
    let k = c.loop-n.invariant.high in
    omega (arith, entries-long s.bindings.now s.names.now s.text.now c.args.self.now.numbers.now c.args.self.now.count)

pub loop-n-smaller : goal.loop-n-smaller
loop-n-smaller c =
    let s = c.args.self.now.checked.script in
    let k = tried_high c.loop-n.invariant c.find_candidate.ensures.0 c.loop-n-test.true in
    omega (arith, entries-long s.bindings.now s.names.now s.text.now c.args.self.now.numbers.now c.args.self.now.count)

pub loop-n-preserved : goal.loop-n-preserved
loop-n-preserved c = tried_next c.loop-n.invariant c.find_candidate.ensures.0 c.loop-n-test.true

pub returns : goal.returns
returns c = tried_done c.loop-n.invariant c.find_candidate.ensures.0 c.loop-n-test.false
