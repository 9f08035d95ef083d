-- The act of a row whose slot is a number of no list is that of a row with no slot: nothing is lost by the narrower type. Assumes nothing.
use native.Mathlib.Omega.{arith}
use mathlib.Core.Path.{◌≡◌, refl}
use mathlib.Core.Bool.{Bool}
use Prim.Native.Nat.{ℕ}
use Rattle.forest.specs.Forest.{Rows}
use Rattle.steps.specs.Mode.{Switches}
use Rattle.steps.specs.Naming.{Names}
use Rattle.steps.specs.Slots.{of_method, of_target, callee, dropped}
use Rattle.steps.specs.Acts.{Ctx, Kind, kind_of, act_of, act}
use Rattle.passes.specs.View.{slotted}
use Rattle.passes.proofs.Slotted.{same-slot}

module _ (N : Names) (w : Switches) (l : Bool) (c : Ctx) (n o k a x : ℕ) (i : Rows) where
  pub act_of-slotted : (kind : Kind) → act_of N w l c (slotted n) o kind k a x i ≡ act_of N w l c n o kind k a x i
  unfolding act_of
  act_of-slotted Kind.this = refl
  act_of-slotted Kind.super = rw (same-slot n dropped (omega arith) (omega arith))
  act_of-slotted Kind.ident = refl
  act_of-slotted Kind.access = rw (same-slot n of_target (omega arith) (omega arith), same-slot n dropped (omega arith) (omega arith), same-slot n callee (omega arith) (omega arith))
  act_of-slotted Kind.call = refl
  act_of-slotted Kind.assign = refl
  act_of-slotted Kind.arrow = refl
  act_of-slotted Kind.function = rw (same-slot n of_method (omega arith) (omega arith))
  act_of-slotted Kind.keyed = refl
  act_of-slotted Kind.field = refl
  act_of-slotted Kind.static = refl
  act_of-slotted Kind.target = rw (same-slot n dropped (omega arith) (omega arith))
  act_of-slotted Kind.other = refl

  pub act_slotted : act N w l c (slotted n) o k a x i ≡ act N w l c n o k a x i
  unfolding act
  act_slotted = act_of-slotted (kind_of k)
