-- `decimal::put_bytes` meets its contract. Assumes nothing.
use Prim.Native.Nat.{◌+◌}
use mathlib.Core.Path.{◌≡◌}
use lib.ListN.{take}
use Rattle.decimal.specs.Decimal.{Wrote}
use Rattle.decimal.proofs.put_bytes.Given as goal

abbrev pub invariant-loop-b : goal.invariant-loop-b
invariant-loop-b l = (l.to ≡ l.at + l.b-index) × Wrote l.initial.out l.at (take l.b-index l.s) l.to l.out
