-- `fields::split_line` meets its contract. Assumes nothing.
use Rattle.std.proofs.Common.{tests}
use mathlib.Core.Path.{refl}
use native.Mathlib.Omega.{arith}
use Rattle.fields.proofs.Splitting.{lined_or}
use Rattle.fields.proofs.split_line.Goals as goal

pub returns : goal.returns
returns c = rw c.or.ensures (lined_or c.args.s _ refl (grind (arith, tests)) c.split_once.result c.split_once.ensures)
