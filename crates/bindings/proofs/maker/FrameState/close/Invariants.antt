-- `bindings::maker::FrameState::close` meets its contract. Assumes nothing.
use Prim.Native.Nat.{◌+◌, ◌-◌}
use mathlib.Core.Path.{◌≡◌}
use mathlib.Core.Bool.{cond}
use lib.Dec.{eqb}
use Rattle.bindings.proofs.Closing.{Closing}
use Rattle.bindings.specs.Filed.{behind}
use Rattle.bindings.proofs.maker.FrameState.close.Given as goal

abbrev pub invariant-loop-b : goal.invariant-loop-b
invariant-loop-b l = (Closing l.initial.made l.cap l.fn.self.count l.fn.self.row l.made l.total l.b) × (behind l.cap l.made ≡ behind l.cap l.initial.made)

abbrev pub decreases-loop-b : goal.decreases-loop-b
decreases-loop-b l = cond (eqb l.b 0) 0 (l.fn.self.count + 1 - l.b)
