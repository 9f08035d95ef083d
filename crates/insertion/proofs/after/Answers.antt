-- `insertion::after` meets its contract. Assumes nothing.
use borrow.Author.Tests.{ne_eqb}
use Rattle.insertion.proofs.after.Goals as goal

pub returns-then-p-eq0 : goal.returns-then-p-eq0
returns-then-p-eq0 c = rw (c.if-taken.true, c.if-p-eq0.true)

pub returns-then-taken : goal.returns-then-taken
returns-then-taken c = rw (c.if-taken.true, ne_eqb _ 0 c.if-p-eq0.false) c.next.ensures
