-- The bounds of the steps, and demand 3, for rows under Program. Assumes nothing.
use mathlib.Core.Path.{◌≡◌, refl}
use Prim.Native.Nat.{ℕ, ◌+◌, ◌*◌, ◌≤◌, ◌<◌, ◌^◌}
use mathlib.Core.Bool.{Bool, true, false, ◌||◌}
use lib.ListN.{length}
use native.Mathlib.Omega.{arith}
use Rattle.steps.specs.Naming.{Names, same_as}
use Rattle.steps.specs.Mode.{Switches, enabled, async_only}
use Rattle.steps.specs.Steps.{Result, steps}
use Rattle.steps.specs.Acts.{kind_of}
use Rattle.steps.specs.Context.{made_c, steps_c}
use Rattle.steps.proofs.Contexts.{steps-same}
use Rattle.steps.proofs.Records.{AllSound, Named, NamedRow, made-sound}
use Rattle.steps.proofs.Fewer.{wf_fit, made-few}
use Rattle.steps.proofs.Grown.{steps-size}
use Rattle.steps.specs.Owners.{OwnersKept, Calm, Home.at_top, arrows_on}
use Rattle.steps.proofs.WellShaped.{Wf}
use Rattle.steps.proofs.OwnerRule.{demand}
use Rattle.forest.specs.Forest.{Rows, Rows.none, Rows.node, size}

-- What holds of the steps for an accepted table of i under Program, of names up to M.
pub record Bounded (M : ℕ) (i : Rows) (r : Result) : Type 0 where
  pub few : length r.bindings ≤ size i
  pub sound : AllSound M (1 + size i) r.bindings
  pub rows : size r.rows ≤ 6 + 8 * size i + 11 * length r.bindings

whole : (N : Names) (w : Switches) (M : ℕ) (i : Rows) → Named M i → AllSound M (1 + size i) (made_c N w (node 0 0 0 i none))
unfolding size Named NamedRow kind_of
whole N w M i z =
    let e : 1 + size i + 0 ≡ 1 + size i = omega arith in
    rw e at (made-sound N w M (node 0 0 0 i none) (tt, z, tt))

pub bounded : (N : Names) (w : Switches) (M : ℕ) (i : Rows) → Wf i → Named M i → Bounded M i (steps N w (node 0 0 0 i none))
bounded N w M i f z = rw (steps-same N w (node 0 0 0 i none)) (record { few = few (enabled w || async_only w) refl; sound = sound (enabled w || async_only w) refl; rows = steps-size N w i (wf_fit i f) })
  where
    few : (x : Bool) → (enabled w || async_only w) ≡ x → length (steps_c N w (node 0 0 0 i none)).bindings ≤ size i
    few true e = unfold steps_c in rw e (made-few N w M i (wf_fit i f) z)
    few false e = unfold steps_c in rw e (omega arith)

    sound : (x : Bool) → (enabled w || async_only w) ≡ x → AllSound M (1 + size i) (steps_c N w (node 0 0 0 i none)).bindings
    sound true e = unfold steps_c in rw e (whole N w M i z)
    sound false e = unfold steps_c AllSound in rw e tt

-- no cursor of 32 bits wraps
pub cursors : (N : Names) (w : Switches) (M : ℕ) (i : Rows) → Wf i → Named M i → 1 + size i ≤ 16384 → size (steps N w (node 0 0 0 i none)).rows < 2 ^ 32
cursors N w M i f z l = let b = bounded N w M i f z in omega (arith, b.rows, b.few)

-- demand 3, of the steps over paths
pub kept : (N : Names) → same_as N 0 0 ≡ true → (i : Rows) → Wf i → Calm at_top at_top false i → OwnersKept (node 0 0 0 i none) (steps N arrows_on (node 0 0 0 i none))
kept N z i W Q = rw (steps-same N arrows_on (node 0 0 0 i none)) (demand N z i W Q)
