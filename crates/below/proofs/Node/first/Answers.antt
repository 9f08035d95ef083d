-- `below::Node::first` meets its contract. Assumes nothing.
use mathlib.Core.Path.{refl}
use Rattle.below.proofs.Firsts.{childless, parent}
use Rattle.below.proofs.Node.first.Goals as goal

pub returns-then-at-end_at : goal.returns-then-at-end_at
returns-then-at-end_at c = record { same = refl; first = parent _ _ _ _ c.args.self.known c.end_at.ensures.0 c.if-at-end_at.true }

pub returns : goal.returns
returns c = childless _ _ _ c.end_at.ensures.0 c.if-at-end_at.false
