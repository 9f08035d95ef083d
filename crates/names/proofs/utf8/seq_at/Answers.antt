-- `names::utf8::seq_at` meets its contract. Assumes nothing.
use mathlib.Core.Path.{sym, ◌∙◌}
use native.Mathlib.Omega.{arith}
use Rattle.names.proofs.Sequences.{one_by, two_by, three_by, four_by}
use Rattle.names.proofs.utf8.seq_at.Goals as goal

pub returns-then-a-le127 : goal.returns-then-a-le127
returns-then-a-le127 c = (one_by _ _ _ _ c.if-a-le127.true, omega arith)

pub returns-then-two : goal.returns-then-two
returns-then-two c = (two_by _ _ _ _ c.if-a-le127.false c.if-a-le223.true _ (sym c.if-two.true ∙ rw c.byte-b.ensures at c.two.ensures), omega arith)

pub returns-else-two : goal.returns-else-two
returns-else-two c = (two_by _ _ _ _ c.if-a-le127.false c.if-a-le223.true _ (sym c.if-two.false ∙ rw c.byte-b.ensures at c.two.ensures), omega arith)

pub returns-then-three : goal.returns-then-three
returns-then-three c =
    (three_by _ _ _ _ c.if-a-le223.false c.if-a-le239.true _ (sym c.if-three.true ∙ rw (c.byte-b.ensures, c.byte-c.ensures) at c.three.ensures), omega arith)

pub returns-else-three : goal.returns-else-three
returns-else-three c =
    (three_by _ _ _ _ c.if-a-le223.false c.if-a-le239.true _ (sym c.if-three.false ∙ rw (c.byte-b.ensures, c.byte-c.ensures) at c.three.ensures), omega arith)

pub returns-then-four : goal.returns-then-four
returns-then-four c =
    (four_by _ _ _ _ c.if-a-le239.false _ (sym c.if-four.true ∙ rw (c.byte-b.ensures, c.byte-c.ensures, c.byte.ensures) at c.four.ensures), omega arith)

pub returns-else-four : goal.returns-else-four
returns-else-four c =
    (four_by _ _ _ _ c.if-a-le239.false _ (sym c.if-four.false ∙ rw (c.byte-b.ensures, c.byte-c.ensures, c.byte.ensures) at c.four.ensures), omega arith)
