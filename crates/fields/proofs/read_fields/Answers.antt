-- `fields::read_fields` meets its contract. Assumes nothing.
use mathlib.Core.Path.{sym, ◌∙◌}
use Rattle.fields.specs.Fields.{number}
use Rattle.fields.proofs.Splitting.{first_no, second_no, third_no, fourth_no, all_four}
use Rattle.fields.proofs.read_fields.Goals as goal

pub returns-in_err-read_number : goal.returns-in_err-read_number
returns-in_err-read_number c =
    c.from_residual.ensures ∙ first_no (number c.args.attr.now) (number c.args.name.now) (number c.args.end.now) (sym c.read_number.ensures ∙ c.in_err-read_number.was)

pub returns-in_err-read_number-2 : goal.returns-in_err-read_number-2
returns-in_err-read_number-2 c =
    c.from_residual-in_err-read_number-2.ensures
    ∙ second_no (number c.args.name.now) (number c.args.end.now) (sym c.read_number.ensures ∙ c.in_ok-read_number.was) (sym c.read_number-2.ensures ∙ c.in_err-read_number-2.was)

pub returns-in_err-read_number-3 : goal.returns-in_err-read_number-3
returns-in_err-read_number-3 c =
    c.from_residual-in_err-read_number-3.ensures
    ∙ third_no (number c.args.end.now) (sym c.read_number.ensures ∙ c.in_ok-read_number.was) (sym c.read_number-2.ensures ∙ c.in_ok-read_number-2.was) (sym c.read_number-3.ensures ∙ c.in_err-read_number-3.was)

pub returns-in_err-read_number-4 : goal.returns-in_err-read_number-4
returns-in_err-read_number-4 c =
    c.from_residual-in_err-read_number-4.ensures
    ∙ fourth_no (sym c.read_number.ensures ∙ c.in_ok-read_number.was) (sym c.read_number-2.ensures ∙ c.in_ok-read_number-2.was) (sym c.read_number-3.ensures ∙ c.in_ok-read_number-3.was) (sym c.read_number-4.ensures ∙ c.in_err-read_number-4.was)

pub returns : goal.returns
returns c =
    all_four (sym c.read_number.ensures ∙ c.in_ok-read_number.was) (sym c.read_number-2.ensures ∙ c.in_ok-read_number-2.was) (sym c.read_number-3.ensures ∙ c.in_ok-read_number-3.was) (sym c.read_number-4.ensures ∙ c.in_ok-read_number-4.was)
