use Rattle.std.proofs.Common.{◌+◌, ◌≤◌, length}
use Rattle.vectors.proofs.input.numbers.Given as goal

abbrev pub invariant-loop-i : goal.invariant-loop-i
invariant-loop-i l = l.i + length l.rest ≤ length l.s
