-- `printer::put_line` meets its contract. Assumes nothing.
use Prim.Native.Nat.{◌+◌, ◌*◌, ◌≤◌}
use lib.ListN.{take}
use Rattle.decimal.specs.Decimal.{Wrote}
use Rattle.printer.proofs.Printing.{spaced}
use Rattle.printer.proofs.put_line.Given as goal

abbrev pub invariant-loop-n : goal.invariant-loop-n
invariant-loop-n l = record {
  near : l.to ≤ l.at + 11 * l.n-index;
  wrote : Wrote l.initial.out l.at (spaced (take l.n-index l.rest)) l.to l.out;
}
