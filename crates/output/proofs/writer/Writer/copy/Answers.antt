-- `output::writer::Writer::copy` meets its contract. Assumes nothing.
use native.Mathlib.Omega.{arith}
use mathlib.Core.Path.{ap}
use mathlib.Core.List.{List}
use Prim.Native.Nat.{ℕ, ◌+◌, ◌*◌}
use denote.Ref.{at_last}
use Rattle.names.specs.Words.{rows_in}
use Rattle.output.proofs.Stores.{run}
use Rattle.output.proofs.writer.Writer.copy.Goals as goal

pub returns-clause-rows : goal.returns-clause-rows
returns-clause-rows c =
    let w = c.args.self.now in
    let s = c.args.rows.now in
    ap (λ (o : List ℕ). record { rows = at_last w.rows o; at = w.at + rows_in s }) (run w.rows.now _ s (w.at * 16) (omega arith) c.copy.ensures)
