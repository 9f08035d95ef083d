-- The measure of `decimal::put_number`: the number that it writes. Assumes nothing.
use Rattle.decimal.proofs.+put_number.Given as goal

abbrev pub decreases-put_number : goal.decreases-put_number
decreases-put_number l = l.n
