-- `form::Form::end_text` meets its contract. Assumes nothing.
use Rattle.form.proofs.Ending.{told_rows, told_line}
use Rattle.form.proofs.Form.end_text.Goals as goal

pub returns-in-Rows : goal.returns-in-Rows
returns-in-Rows c = let e = c.closed-last.ensures in told_rows _ _ _ c.in-Rows.is e.0

pub returns-in_default : goal.returns-in_default
returns-in_default c = let e = c.closed-last.ensures in (told_line _ _ _ c.in_default.not-Rows e.0, e.2, e.1)
