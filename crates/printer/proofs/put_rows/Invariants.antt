-- `printer::put_rows` meets its contract. Assumes nothing.
use Prim.Native.Nat.{◌+◌, ◌*◌, ◌≤◌}
use Rattle.names.specs.Words.{words}
use Rattle.decimal.specs.Decimal.{Wrote}
use Rattle.printer.specs.Print.{lines_of}
use Rattle.printer.proofs.put_rows.Given as goal

abbrev pub invariant-loop-i : goal.invariant-loop-i
invariant-loop-i g l = record {
  near : l.to ≤ l.at + 11 * (g.row.N * l.i);
  wrote : Wrote l.initial.out l.at (lines_of g.row.N l.i (words l.bytes)) l.to l.out;
}
