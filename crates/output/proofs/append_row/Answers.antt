-- `output::append_row` meets its contract. Assumes nothing.
use native.Mathlib.Omega.{arith}
use mathlib.Core.Path.{refl, sym}
use Rattle.output.proofs.Writing.{put_in, put_out}
use Rattle.output.proofs.append_row.Goals as goal

pub returns-then-b-out : goal.returns-then-b-out
returns-then-b-out c =
    record { next = refl; wrote = cc (put_in c.args.out.now c.args.at c.args.kind c.args.attr c.args.name c.args.end (omega arith)) }

pub returns-else-b-out : goal.returns-else-b-out
returns-else-b-out c =
    record { next = refl; wrote = sym (put_out c.args.out.now c.args.at c.args.kind c.args.attr c.args.name c.args.end c.if-b-out.false) }
