-- `convert::answer_long` meets its contract. Assumes nothing.
use native.Mathlib.Omega.{arith}
use Rattle.convert.proofs.Long.{told_form, told-fault}
use Rattle.convert.proofs.answer_long.Goals as goal

pub returns-in-Ok : goal.returns-in-Ok
returns-in-Ok c = told_form _ c.in-Ok.ensures c.turn_away.ensures

pub returns-in-Err : goal.returns-in-Err
returns-in-Err c = let e = c.in-Err.ensures in told-fault _ _ e.0 (omega (arith, c.requires, e.1)) c.turn_away-in-Err.ensures
