-- `fields::read_row` meets its contract. Assumes nothing.
use Rattle.std.specs.Option.{is_some}
use mathlib.Core.Path.{ap, ◌∙◌}
use Rattle.fields.proofs.Splitting.{row-one, row-two, row-three, row-many, row-four}
use Rattle.fields.proofs.read_row.Goals as goal

pub returns-in_err-kind : goal.returns-in_err-kind
returns-in_err-kind c = c.from_residual.ensures ∙ row-one _ c.in_err-kind.ensures

pub returns-in_err-attr : goal.returns-in_err-attr
returns-in_err-attr c = c.from_residual-in_err-attr.ensures ∙ row-two c.in_ok-kind.ensures c.in_err-attr.ensures

pub returns-in_err-name : goal.returns-in_err-name
returns-in_err-name c = c.from_residual-in_err-name.ensures ∙ row-three c.in_ok-kind.ensures c.in_ok-attr.ensures c.in_err-name.ensures

pub returns-in-Some : goal.returns-in-Some
returns-in-Some c = row-many c.in_ok-kind.ensures c.in_ok-attr.ensures c.in_ok-name.ensures c.split_once-4.result c.split_once-4.ensures (ap is_some c.in-Some.is)

pub returns-in-None : goal.returns-in-None
returns-in-None c =
    c.read_fields.ensures
    ∙ row-four c.in_ok-kind.ensures c.in_ok-attr.ensures c.in_ok-name.ensures c.split_once-4.result c.split_once-4.ensures (ap is_some c.in-None.is)
