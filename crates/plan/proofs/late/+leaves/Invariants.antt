-- `plan::late::leaves` meets its contract. Assumes nothing.
use Rattle.names.specs.Words.{words, rows_in}
use Rattle.steps.specs.Outcome.{names_of}
use Rattle.acts.specs.View.{switches_of}
use Rattle.plan.specs.Placing.{place_of}
use Rattle.plan.proofs.Leaving.{Leaving}
use Prim.Native.Nat.{◌-◌}
use Rattle.plan.proofs.late.+leaves.Given as goal

-- each call is for fewer rows
abbrev pub decreases-leaves : goal.decreases-leaves
decreases-leaves l = l.end - l.from

abbrev pub invariant-loop-i : goal.invariant-loop-i
invariant-loop-i l = Leaving (names_of l.names.pairs.now l.names.text.now) (switches_of l.switches) (words l.rows) (rows_in l.rows) (place_of l.initial.q) (place_of l.more) l.from l.end l.i (place_of l.q)

abbrev pub decreases-loop-i : goal.decreases-loop-i
decreases-loop-i l = l.end - l.i
