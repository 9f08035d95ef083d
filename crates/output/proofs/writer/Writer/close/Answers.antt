-- `output::writer::Writer::close` meets its contract. Assumes nothing.
use native.Mathlib.Omega.{arith}
use mathlib.Core.Path.{◌≡◌, ap, sym}
use mathlib.Core.List.{List}
use Prim.Native.Nat.{ℕ}
use denote.Ref.{at_last}
use Rattle.output.specs.declared.writer.Writer.{Writer}
use Rattle.output.specs.Output.{set_end}
use Rattle.output.proofs.Writing.{end_in, end_out}
use Rattle.output.proofs.writer.Writer.close.Goals as goal

-- the writer over the bytes o
abbrev over : (w : Writer) (o : List ℕ) → Writer
over w o = record { rows = at_last w.rows o; at = w.at }

pub returns-then-b-self-clause-end : goal.returns-then-b-self-clause-end
returns-then-b-self-clause-end c =
    let w = c.args.self.now in
    let e : c.put_word.new.out ≡ set_end w.rows.now c.args.row w.at = cc (end_in w.rows.now c.args.row w.at (omega arith)) in
    ap (over w) e

pub returns-else-b-self-clause-end : goal.returns-else-b-self-clause-end
returns-else-b-self-clause-end c =
    let w = c.args.self.now in
    ap (over w) (sym (end_out w.rows.now c.args.row w.at c.if-b-self.false))
