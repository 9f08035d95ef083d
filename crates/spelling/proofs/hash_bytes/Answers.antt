-- `spelling::hash_bytes` meets its contract. Assumes nothing.
use mathlib.Core.Path.{refl}
use native.Mathlib.Omega.{arith}
use Rattle.spelling.proofs.Hashing.{hashed_byte, hashed_all}
use Rattle.spelling.proofs.hash_bytes.Goals as goal

pub loop-b-preserved : goal.loop-b-preserved
loop-b-preserved c = hashed_byte c.loop-b.invariant c.loop-b-test.true _ _ c.from.ensures refl (omega arith)

pub returns : goal.returns
returns c = (hashed_all c.loop-b.invariant c.loop-b-test.false, c.loop-b.invariant.small)
