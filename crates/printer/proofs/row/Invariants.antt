-- `printer::row` meets its contract. Assumes nothing.
use Rattle.std.proofs.Common.{◌≡◌, ℕ, ◌+◌, ◌*◌, ◌<◌, length, get_or}
use Rattle.names.specs.Words.{words}
use Rattle.printer.proofs.row.Given as goal

abbrev pub invariant-loop-j : goal.invariant-loop-j
invariant-loop-j g l = (length l.numbers ≡ g.row.N) × ((k : ℕ) → k < l.j → get_or l.numbers k 0 ≡ get_or (words l.bytes) (g.row.N * l.i + k) 0)
