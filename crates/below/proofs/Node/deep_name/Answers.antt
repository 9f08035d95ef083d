-- `below::Node::deep_name` meets its contract. Assumes nothing.
use Rattle.below.proofs.Firsts.{deep_of}
use Rattle.below.proofs.Node.deep_name.Goals as goal

pub returns : goal.returns
returns c = deep_of _ _ _ c.first.ensures c.map_or.ensures
