-- `names::words::word` meets its contract. Assumes nothing.
use native.Mathlib.Omega.{arith}
use Rattle.names.proofs.words.word.Goals as goal

pub returns : goal.returns
returns c = omega arith
