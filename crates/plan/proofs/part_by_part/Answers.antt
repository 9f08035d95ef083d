-- `plan::part_by_part` meets its contract. Assumes nothing.
use Rattle.plan.proofs.part_by_part.Goals as goal

pub returns-in-Row : goal.returns-in-Row
returns-in-Row c = rw c.in-Row.is

pub returns-in-Name : goal.returns-in-Name
returns-in-Name c = rw c.in-Name.is

pub returns-in-Call : goal.returns-in-Call
returns-in-Call c = rw c.in-Call.is
