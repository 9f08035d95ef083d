-- `candidates::put_candidate` meets its contract. Assumes nothing.
use native.Mathlib.Omega.{arith}
use Rattle.candidates.proofs.Writing.{bare-name, numbered_name}
use Rattle.candidates.proofs.put_candidate.Goals as goal

pub put_bytes-end-requires : goal.put_bytes-end-requires
put_bytes-end-requires c = record { at_bound = omega (arith, c.put_byte-first.ensures.next); s_len_bound = omega (arith, c.spell-base.ensures.1) }

pub returns-then-n-lt2 : goal.returns-then-n-lt2
returns-then-n-lt2 c = bare-name (omega (arith, c.if-n-lt2.true)) c.spell-base.ensures c.put_byte-first.ensures c.put_bytes-end.ensures

pub put_number-requires : goal.put_number-requires
put_number-requires c = omega (arith, c.spell-base.ensures.1, c.put_byte-first.ensures.next, c.put_bytes-end.ensures.next)

pub returns : goal.returns
returns c =
    numbered_name (omega (arith, c.if-n-lt2.false)) c.spell-base.ensures c.put_byte-first.ensures c.put_bytes-end.ensures c.put_number.ensures.0
    c.put_number.ensures.1
