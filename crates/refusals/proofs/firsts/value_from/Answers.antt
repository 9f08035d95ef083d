-- `refusals::firsts::value_from` meets its contract. Assumes nothing.
use mathlib.Core.Path.{sym}
use borrow.Author.Tests.{lt-ltb, le-ltb}
use Rattle.refusals.specs.Hits.{value_from}
use Rattle.refusals.proofs.firsts.value_from.Goals as goal

pub returns-then-not-has_bit : goal.returns-then-not-has_bit
unfolding value_from
returns-then-not-has_bit c = sym (rw (← c.has_bit.ensures, c.if-not-has_bit.true))

pub returns-then-not-has_bit-2 : goal.returns-then-not-has_bit-2
unfolding value_from
returns-then-not-has_bit-2 c = sym (rw (← c.has_bit.ensures, c.if-not-has_bit.false, ← c.has_bit-2.ensures, c.if-not-has_bit-2.true))

pub returns-then-i-e : goal.returns-then-i-e
unfolding value_from
returns-then-i-e c =
    sym (rw (← c.has_bit.ensures, c.if-not-has_bit.false, ← c.has_bit-2.ensures, c.if-not-has_bit-2.false, lt-ltb _ _ c.if-i-e.true) (sym c.end_at.ensures.0))

pub returns : goal.returns
unfolding value_from
returns c = sym (rw (← c.has_bit.ensures, c.if-not-has_bit.false, ← c.has_bit-2.ensures, c.if-not-has_bit-2.false, le-ltb _ _ c.if-i-e.false))
