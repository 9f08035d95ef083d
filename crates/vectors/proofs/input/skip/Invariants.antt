use Rattle.std.proofs.Common.{◌≤◌, length}
use Rattle.vectors.proofs.input.skip.Given as goal

abbrev pub invariant-loop-b : goal.invariant-loop-b
invariant-loop-b l = length l.rest ≤ length l.s

abbrev pub decreases-loop-b : goal.decreases-loop-b
decreases-loop-b l = length l.rest
