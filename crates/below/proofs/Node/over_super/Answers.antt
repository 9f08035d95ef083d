-- `below::Node::over_super` meets its contract. Assumes nothing.
use Rattle.below.proofs.Firsts.{super_of}
use Rattle.below.proofs.Node.over_super.Goals as goal

pub returns : goal.returns
returns c = super_of _ _ _ c.first.ensures c.is_some_and.ensures
