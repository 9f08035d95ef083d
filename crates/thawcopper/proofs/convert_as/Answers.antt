-- `thawcopper::convert_as` meets its contract. Assumes nothing.
use mathlib.Core.Path.{◌∙◌}
use Rattle.answer.proofs.Owning.{renumbered}
use Rattle.answer.proofs.Small.{answer-small}
use Rattle.thawcopper.proofs.convert_as.Goals as goal

pub answer_of-requires : goal.answer_of-requires
answer_of-requires c =
    let s = answer-small _ _ _ _ _ _ _ _ _ _ _ _ _ _ c.convert-converted.ensures.answers in
    let n = c.from.ensures in
    (rw n.1 s.placed, (rw n.2 s.rows-counted, rw n.3 s.bindings-counted))

pub returns : goal.returns
returns c = let s = c.answer_of.ensures in let n = c.from.ensures in renumbered _ _ _ _ (s.0 ∙ n.0) (s.1 ∙ n.1) (s.2 ∙ n.2) (s.3 ∙ n.3) c.convert-converted.ensures
