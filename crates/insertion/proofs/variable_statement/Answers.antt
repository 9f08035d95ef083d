-- `insertion::variable_statement` meets its contract. Assumes nothing.
use native.Mathlib.Omega.{arith}
use Rattle.output.proofs.Held.{put_around}
use Rattle.insertion.proofs.variable_statement.Goals as goal

pub close-requires : goal.close-requires
close-requires c = (omega arith, omega (arith, c.declarators.ensures.rows.next))

pub returns-clause-rows : goal.returns-clause-rows
returns-clause-rows c = put_around c.append.ensures.row c.declarators.ensures.rows c.close.ensures.end
