use Rattle.std.proofs.Common.{◌≡◌, length, take}
use Rattle.vectors.proofs.compared.widened.Given as goal

abbrev pub invariant-loop-i : goal.invariant-loop-i
invariant-loop-i g l = (length l.numbers ≡ length l.words) × (take l.i l.numbers ≡ take l.i l.words)
