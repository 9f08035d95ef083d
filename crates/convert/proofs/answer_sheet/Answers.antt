-- `convert::answer_sheet` meets its contract. Assumes nothing.
use mathlib.Core.Path.{ap, ◌∙◌}
use native.Mathlib.Omega.{arith}
use Rattle.acts.specs.View.{switches_of}
use Rattle.answer.proofs.Owning.{renumbered}
use Rattle.answer.proofs.Small.{answer-small}
use Rattle.convert.specs.Output.{answer}
use Rattle.convert.proofs.Answering.{rows_fit, records_fit, told, lent-room, shows, shown_as}
use Rattle.convert.proofs.answer_sheet.Goals as goal

pub print_converted-requires : goal.print_converted-requires
print_converted-requires c =
    let n = c.from.ensures in
    let h = renumbered _ _ _ _ n.0 n.1 n.2 n.3 c.convert-converted.ensures in
    let s = answer-small _ _ _ _ _ _ _ _ _ _ _ _ _ _ h.answers in
    let rows = c.convert-converted.auto.out_rows in
    let records = c.convert-converted.auto.out_bindings in
    (s.placed, rows_fit _ _ _ _ _ _ _ _ _ h.answers, records_fit _ _ _ _ _ _ _ _ _ h.answers, omega (arith, rows, c.room-result.ensures), omega (arith, records, c.room-records.ensures))

pub returns : goal.returns
returns c =
    let w = c.print_converted.ensures in
    let n = c.from.ensures in
    let h = renumbered _ _ _ _ n.0 n.1 n.2 n.3 c.convert-converted.ensures in
    let a = c.args in
    shown_as _ _ _ _
    (told _ _ _ _ _ _ _ _ _ h.answers
    ∙ ap answer
    (lent-room (switches_of a.switches) a.rows.now a.pairs.now a.text.now c.room-result.result c.room-records.result c.room-result.ensures c.room-records.ensures))
    (shows _ _ _ _ w.0 (omega (arith, w.1)))
