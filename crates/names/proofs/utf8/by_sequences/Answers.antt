-- `names::utf8::by_sequences` meets its contract. Assumes nothing.
use Rattle.names.proofs.Reading.{read_start, read_next, read_bad, read_end}
use Rattle.names.proofs.utf8.by_sequences.Goals as goal

pub loop-i-init : goal.loop-i-init
loop-i-init c = read_start _

pub returns-then-w-eq0 : goal.returns-then-w-eq0
returns-then-w-eq0 c = read_bad _ _ _ c.loop-i.invariant c.loop-i-test.true c.seq_at-w.ensures.0 c.if-w-eq0.true

pub loop-i-preserved : goal.loop-i-preserved
loop-i-preserved c = read_next _ _ _ c.loop-i.invariant c.loop-i-test.true c.seq_at-w.ensures.0 c.if-w-eq0.false

pub returns : goal.returns
returns c = read_end _ _ c.loop-i.invariant c.loop-i-test.false
