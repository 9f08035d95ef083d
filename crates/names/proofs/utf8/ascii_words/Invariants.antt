-- `names::utf8::ascii_words` meets its contract. Assumes nothing.
use Prim.Native.Nat.{ℕ, ◌-◌, ◌≤◌, ◌<◌}
use lib.ListN.{length, get_or}
use Rattle.names.proofs.utf8.ascii_words.Given as goal

abbrev pub invariant-loop-word : goal.invariant-loop-word
invariant-loop-word l = (l.i ≤ length l.s) × ((j : ℕ) → j < l.i → get_or l.s j 0 < 128)

abbrev pub decreases-loop-word : goal.decreases-loop-word
decreases-loop-word l = length l.s - l.i
