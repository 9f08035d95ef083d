-- `form::Part::after` meets its contract. Assumes nothing.
use Rattle.form.proofs.Ending.{after-faulty, after-header, after-switches, after-names, after-rows, after-name, after-row}
use Rattle.form.proofs.Part.after.Goals as goal

pub returns-in-Faulty-clause-ends : goal.returns-in-Faulty-clause-ends
returns-in-Faulty-clause-ends c = rw c.in-Faulty.is (after-faulty c.args.line.now c.args.rows)

pub returns-in-SwitchHeader-clause-ends : goal.returns-in-SwitchHeader-clause-ends
returns-in-SwitchHeader-clause-ends c = rw (c.in-SwitchHeader.is, c.only_if.ensures) (after-header c.args.line.now c.args.rows c.is_switch_header.ensures)

pub returns-in-Switches-clause-ends : goal.returns-in-Switches-clause-ends
returns-in-Switches-clause-ends c = rw (c.in-Switches.is, c.only_if-in-Switches.ensures) (after-switches c.args.line.now c.args.rows c.read_switches.ensures c.is_some.ensures)

pub returns-in-NameHeader-clause-ends : goal.returns-in-NameHeader-clause-ends
returns-in-NameHeader-clause-ends c = rw (c.in-NameHeader.is, c.only_if-in-NameHeader.ensures) (after-names c.args.line.now c.args.rows c.is_name_header.ensures)

pub returns-then-is_row_header-clause-ends : goal.returns-then-is_row_header-clause-ends
returns-then-is_row_header-clause-ends c = rw c.in-Names.is (after-rows c.args.line.now c.args.rows c.if-is_row_header.ensures)

pub returns-else-is_row_header-clause-ends : goal.returns-else-is_row_header-clause-ends
returns-else-is_row_header-clause-ends c = rw c.in-Names.is (after-name c.args.line.now c.args.rows c.if-is_row_header.ensures)

pub returns-in-Rows-clause-ends : goal.returns-in-Rows-clause-ends
returns-in-Rows-clause-ends c = rw (c.in-Rows.is, c.only_if-in-Rows.ensures) (after-row c.args.line.now c.args.rows c.read_row.ensures c.is_some-in-Rows.ensures)
