-- `buckets::first_in` meets its contract. Assumes nothing.
use Rattle.std.proofs.Common.{rules}
use Rattle.buckets.proofs.Walking.{walking_start, walking_done, walking_falls, walking_asks, walking_next}
use Rattle.buckets.proofs.first_in.Goals as goal

pub loop-e-init : goal.loop-e-init
loop-e-init g c = walking_start c.args.lasts.now c.args.befores.now c.args.h c.requires.falls c.requires.callable

pub is_it-it-requires : goal.is_it-it-requires
is_it-it-requires g c = walking_asks c.loop-e.invariant c.loop-e-test.true

pub offset_bounds-befores-e : goal.offset_bounds-befores-e
offset_bounds-befores-e g c = let l = (walking_falls c.loop-e.invariant c.loop-e-test.true).0 in search rules

pub bounds-befores-e : goal.bounds-befores-e
bounds-befores-e g c = (walking_falls c.loop-e.invariant c.loop-e-test.true).0

pub loop-e-smaller : goal.loop-e-smaller
loop-e-smaller g c = (walking_falls c.loop-e.invariant c.loop-e-test.true).1

pub loop-e-preserved : goal.loop-e-preserved
loop-e-preserved g c = walking_next c.loop-e.invariant c.loop-e-test.true _ c.is_it-it.ensures _ c.pick-found.ensures

pub returns : goal.returns
returns g c = walking_done c.loop-e.invariant c.loop-e-test.false
