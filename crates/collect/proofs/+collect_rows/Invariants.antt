-- `collect::collect` and `collect::collect_row` meet their contracts. Assumes nothing.
use mathlib.Core.Path.{◌≡◌}
use Rattle.names.specs.Words.{words, rows_in}
use Rattle.forest.specs.Forest.{rows_at}
use Rattle.steps.specs.Outcome.{names_of}
use Rattle.steps.specs.Context.{collect_c}
use Rattle.bindings.specs.Store.{binds}
use Rattle.acts.specs.View.{switches_of}
use Rattle.plan.specs.Placing.{place_of}
use Rattle.collect.proofs.Siblings.{Walking}
use Prim.Native.Nat.{◌+◌, ◌*◌, ◌-◌}
use Rattle.collect.proofs.+collect_rows.Given as goal

abbrev pub decreases-collect : goal.decreases-collect
decreases-collect l = 2 * (l.end - l.from)

abbrev pub decreases-collect_row : goal.decreases-collect_row
decreases-collect_row l = 2 * (l.stop - (l.i + 1)) + 1

abbrev pub invariant-collect-loop-i : goal.invariant-collect-loop-i
invariant-collect-loop-i l =
    Walking (names_of l.names.pairs.now l.names.text.now) (switches_of l.switches) (words l.rows) (rows_in l.rows) (place_of l.more) (collect_c (names_of l.names.pairs.now l.names.text.now) (switches_of l.switches)
    (place_of l.initial.q) (place_of l.more) l.from (rows_at (words l.rows) l.from l.end) (binds l.initial.maker.made.now l.initial.maker.cap l.initial.maker.count)) l.from l.end l.maker.cap l.maker.made.now l.i (place_of l.q) l.maker.count
    × ((l.maker.cap ≡ l.initial.maker.cap) × (l.maker.made.ghost_name ≡ l.initial.maker.made.ghost_name))

abbrev pub decreases-collect-loop-i : goal.decreases-collect-loop-i
decreases-collect-loop-i l = l.end - l.i
