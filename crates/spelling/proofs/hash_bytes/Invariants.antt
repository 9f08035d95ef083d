-- `spelling::hash_bytes` meets its contract. Assumes nothing.
use Rattle.spelling.proofs.Hashing.{Hashing}
use Rattle.spelling.proofs.hash_bytes.Given as goal

abbrev pub invariant-loop-b : goal.invariant-loop-b
invariant-loop-b l = Hashing l.a l.h l.b-index
