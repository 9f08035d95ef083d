-- `form::Form::closed` meets its contract. Assumes nothing.
use native.Mathlib.Omega.{arith}
use Rattle.form.proofs.Ending.{close_empty, close-line}
use Rattle.form.proofs.Form.closed.Goals as goal

pub returns-then-self-eq0 : goal.returns-then-self-eq0
returns-then-self-eq0 c = (close_empty c.args.self c.if-self-eq0.true, omega arith, omega arith)

pub returns : goal.returns
returns c = let e = c.end_line.ensures in (close-line c.args.self c.if-self-eq0.false e.0, e.2, e.3)
