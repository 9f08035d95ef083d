-- `below::Node::first_name` meets its contract. Assumes nothing.
use Rattle.below.proofs.Firsts.{name_of}
use Rattle.below.proofs.Node.first_name.Goals as goal

pub returns : goal.returns
returns c = name_of _ _ _ c.first.ensures c.map_or.ensures
