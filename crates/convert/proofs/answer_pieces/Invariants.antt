-- `convert::answer_pieces` meets its contract. Assumes nothing.
use Rattle.convert.proofs.Long.{Going}
use Rattle.convert.proofs.answer_pieces.Given as goal

abbrev pub invariant-loop-piece : goal.invariant-loop-piece
invariant-loop-piece g l = Going l.initial.input l.initial.out l.input l.out l.form l._piece
