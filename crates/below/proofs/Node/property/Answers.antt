-- `below::Node::property` meets its contract. Assumes nothing.
use Rattle.below.proofs.Firsts.{property_yes, property_no, property_none}
use Rattle.below.proofs.Node.property.Goals as goal

pub returns-in-Some : goal.returns-in-Some
returns-in-Some c = property_yes c.in-Some.ensures c.is_access.ensures c.if-is_access.true c.name.ensures.0

pub returns-in_default : goal.returns-in_default
returns-in_default c = property_no c.in-Some.ensures c.is_access.ensures c.if-is_access.false

pub returns-in_default-2 : goal.returns-in_default-2
returns-in_default-2 c = property_none _ _ c.in_default.is c.first.ensures
