-- `plan::place::bit` meets its contract. Assumes nothing.
use mathlib.Core.Path.{◌≡◌, refl}
use mathlib.Core.Bool.{Bool, true, false, cond}
use Prim.Native.Nat.{◌<◌}
use native.Mathlib.Omega.{arith}
use mir.Val.{bool_byte}
use Rattle.plan.proofs.place.bit.Goals as goal

one : (b : Bool) → (bool_byte b ≡ cond b 1 0) × (bool_byte b < 2)
one true = (refl, omega arith)
one false = (refl, omega arith)

-- a flag is 1 or 0

pub returns : goal.returns
returns c = let all = one c.args.flag in record {
  value = all.0;
  upper_bound = all.1;
}
