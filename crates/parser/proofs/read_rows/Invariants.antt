-- `parser::read_rows` meets its contract. Assumes nothing.
use mathlib.Core.Path.{◌≡◌}
use Rattle.parser.proofs.Reading.{Turn}
use lib.ListN.{length}
use Rattle.parser.proofs.read_rows.Given as goal

abbrev pub invariant-loop-text : goal.invariant-loop-text
invariant-loop-text l = record {
  turn : Turn l.s l.line l.fn.rows l.w.rows.now l.rest l.w.at;
  held : l.w.rows.ghost_name ≡ l.initial.w.rows.ghost_name;
}

abbrev pub decreases-loop-text : goal.decreases-loop-text
decreases-loop-text l = length l.rest
