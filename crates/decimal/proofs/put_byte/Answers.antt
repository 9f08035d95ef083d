-- `decimal::put_byte` meets its contract. Assumes nothing.
use Rattle.decimal.proofs.Writing.{none}
use Rattle.decimal.proofs.put_byte.Goals as goal

pub returns : goal.returns
returns c = none _ _ _ c.if-at-out.false
