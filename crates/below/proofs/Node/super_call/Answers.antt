-- `below::Node::super_call` meets its contract. Assumes nothing.
use Rattle.below.proofs.Firsts.{call_of}
use Rattle.below.proofs.Node.super_call.Goals as goal

pub returns : goal.returns
returns c = call_of _ _ _ c.first.ensures c.is_some_and.ensures
