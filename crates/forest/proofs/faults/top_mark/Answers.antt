-- `forest::faults::top_mark` meets its contract. Assumes nothing.
use mathlib.Core.Path.{ap}
use Prim.Native.Nat.{ℕ, ◌+◌}
use borrow.Author.Tests.{eq-eqb, ne_eqb}
use Rattle.forest.proofs.faults.top_mark.Goals as goal

pub returns-then-end-n : goal.returns-then-end-n
returns-then-end-n c = rw (eq-eqb _ _ c.if-end-n.true) c.number-top.ensures.0

pub returns : goal.returns
returns c = rw (ne_eqb _ _ c.if-end-n.false) (ap (λ (x : ℕ). x + 16) c.number-top.ensures.0)
