-- `form::Form::take` meets its contract. Assumes nothing.
use native.Mathlib.Omega.{arith}
use Rattle.form.proofs.Ending.{step_line, step_full, step_kept}
use Rattle.form.proofs.Form.take.Goals as goal

pub returns-then-c-eq-NEWLINE : goal.returns-then-c-eq-NEWLINE
returns-then-c-eq-NEWLINE c = let e = c.end_line.ensures in (step_line c.args.self.now c.end_line.new.self c.args.c c.if-c-eq-NEWLINE.true e.0 e.1, e.2, e.3)

pub returns-then-self-lt-KEPT : goal.returns-then-self-lt-KEPT
returns-then-self-lt-KEPT c = (step_kept c.args.self.now c.args.c c.if-c-eq-NEWLINE.false c.if-self-lt-KEPT.true, omega arith, omega arith)

pub returns-else-self-lt-KEPT : goal.returns-else-self-lt-KEPT
returns-else-self-lt-KEPT c = (step_full c.args.self.now c.args.c c.if-c-eq-NEWLINE.false c.if-self-lt-KEPT.false, omega arith, omega arith)
