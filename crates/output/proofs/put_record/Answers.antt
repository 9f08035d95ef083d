-- `output::put_record` meets its contract. Assumes nothing.
use native.Mathlib.Omega.{arith}
use mathlib.Core.Path.{refl, sym}
use Rattle.output.proofs.Recording.{record_in, record_out}
use Rattle.output.proofs.put_record.Goals as goal

pub returns-then-first-out : goal.returns-then-first-out
returns-then-first-out c =
    record { next = refl; wrote = cc (record_in c.args.out.now c.args.at c.args.a c.args.b c.args.c (omega arith)) }

pub returns-else-first-out : goal.returns-else-first-out
returns-else-first-out c =
    record { next = refl; wrote = sym (record_out c.args.out.now c.args.at c.args.a c.args.b c.args.c c.if-first-out.false) }
