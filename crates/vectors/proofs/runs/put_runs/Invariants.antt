use Rattle.std.proofs.Common.{◌+◌, ◌*◌, ◌≤◌, length}
use Rattle.vectors.proofs.runs.put_runs.Given as goal

abbrev pub invariant-loop : goal.invariant-loop
invariant-loop l = (l.len ≤ length l.out) × ((length l.words.rest.now + 1 ≤ length l.fn.words.rest.now) × (length l.fn.words.rest.now ≤ length l.words.rest.now + 1 + 6 * l.counter))
