use Rattle.std.proofs.Common.{◌≡◌, ◌+◌, ◌≤◌, length}
use Rattle.vectors.proofs.cases.run_all.Given as goal

abbrev pub invariant-loop-words : goal.invariant-loop-words
invariant-loop-words g l = (l.tally.differ ≤ l.tally.cases) × (l.tally.cases + length l.words.rest.now ≤ length l.fn.words) × (l.tally.what.now ≡ l.what)

abbrev pub decreases-loop-words : goal.decreases-loop-words
decreases-loop-words g l = length l.words.rest.now
