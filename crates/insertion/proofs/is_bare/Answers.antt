-- `insertion::is_bare` meets its contract. Assumes nothing.
use Rattle.insertion.proofs.is_bare.Goals as goal

pub returns : goal.returns
returns c = rw (c.this_of.ensures, c.arguments_of.ensures, c.first_accessor.ensures)
