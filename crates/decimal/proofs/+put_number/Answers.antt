-- `decimal::put_number` meets its contract. Assumes nothing.
use mathlib.Core.Path.{refl}
use Rattle.decimal.proofs.Writing.{wrote_small, wrote_more, sized}
use native.Mathlib.Omega.{arith}
use borrow.Author.Rules.{rules}
use Rattle.decimal.proofs.+put_number.Goals as goal

pub put_number-next-requires : goal.put_number-next-requires
put_number-next-requires t c = (omega (arith, c.decreases), search rules)

pub put_byte-requires-else-n-lt10 : goal.put_byte-requires-else-n-lt10
put_byte-requires-else-n-lt10 t c = omega (arith, c.put_number-next.ensures.1)

pub returns-then-n-lt10 : goal.returns-then-n-lt10
returns-then-n-lt10 t c = sized c.ranges.n.fits (wrote_small _ _ _ _ _ _ c.if-n-lt10.true refl c.put_byte.ensures)

pub returns-else-n-lt10 : goal.returns-else-n-lt10
returns-else-n-lt10 t c =
    sized c.ranges.n.fits
    (wrote_more _ _ _ _ _ _ _ _ c.if-n-lt10.false refl c.put_number-next.ensures.0 c.put_byte-else-n-lt10.ensures)
