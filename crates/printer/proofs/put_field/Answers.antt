-- `printer::put_field` meets its contract. Assumes nothing.
use Rattle.decimal.proofs.Writing.{then}
use native.Mathlib.Omega.{arith}
use Rattle.printer.proofs.put_field.Goals as goal

pub returns : goal.returns
returns c =
    let w = then c.put_number-next.ensures.0 c.put_byte.ensures in
    (w, omega arith)
