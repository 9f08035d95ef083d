-- `printer::print` meets its contract. Assumes nothing.
use native.Mathlib.Omega.{arith}
use Rattle.printer.proofs.Printing.{parts}
use Rattle.printer.proofs.print.Goals as goal

pub returns : goal.returns
returns c = (
  parts _ _ c.args.rows.now c.args.records.now c.put_bytes-i.ensures c.put_answer-j.ensures.0 c.put_bytes-k.ensures c.put_rows-l.ensures.0 c.put_bytes-m.ensures c.put_rows.ensures.0,
  omega (arith, c.put_bytes-i.ensures.next, c.put_answer-j.ensures.1, c.put_bytes-k.ensures.next, c.put_rows-l.ensures.1, c.put_bytes-m.ensures.next, c.put_rows.ensures.1),
)
