-- An expression in its Body and Return. Assumes nothing.
use mathlib.Core.Path.{◌≡◌, refl, sym, subst}
use mathlib.Core.Bool.{Bool, true, false, cond, true≢false}
use mathlib.Core.List.{List}
use Prim.Native.Nat.{ℕ, ◌+◌, ◌<◌, ◌^◌}
use native.Mathlib.Omega.{arith}
use lib.Dec.{eqb}
use Rattle.grammar.specs.Kinds.{Body, Return}
use Rattle.forest.specs.Forest.{Rows, Rows.none, Rows.node, size}
use Rattle.steps.specs.ArrowToFunction.{dress}
use Rattle.steps.specs.Slots.{wrapped}
use Rattle.passes.specs.View.{slot_number}
use Rattle.output.specs.Output.{put, set_end, Done}
use Rattle.output.proofs.Writing.{nest, named, size-one}
use Rattle.emit_plan.specs.declared.Walk.{Walk}
use Rattle.emit_plan.specs.declared.Plan.{Plan}
use Rattle.emit_plan.specs.Plans.{built, dressed}
use Rattle.emit_plan.specs.Dressing.{opened}

-- the rows f, in a Body and Return where they are wanted
abbrev bodied : Bool → Rows → Rows
bodied w f = cond w (node Body 0 0 (node Return 0 0 f none) none) f

bodied-size : (w : Bool) (f : Rows) → size (bodied w f) ≡ cond w 2 0 + size f
bodied-size true f = let a = size-one 19 0 0 (node Return 0 0 f none) in let b = size-one 4 0 0 f in omega arith
bodied-size false f = omega arith

room_inside : (w : Bool) (f : Rows) (at : ℕ) {r : ℕ} → r ≡ cond w (at + 2) at → at + size (bodied w f) < 2 ^ 32 → r + size f < 2 ^ 32
room_inside true f at e h = let s = bodied-size true f in omega arith
room_inside false f at e h = omega arith

room-around : (w : Bool) (f : Rows) (at : ℕ) → at + size (bodied w f) < 2 ^ 32 → w ≡ true → at + 2 < 2 ^ 32
room-around true f at h e = let s = bodied-size true f in omega arith
room-around false f at h e = absurd (true≢false (sym e))

written : (w : Bool) (f : Rows) {o o1 o2 o3 : List ℕ} {at r next : ℕ} → r ≡ cond w (at + 2) at → o1 ≡ opened w o at → Done o1 r f next o2
    → o3 ≡ cond w (set_end (set_end o2 (at + 1) next) at next) o2 → Done o at (bodied w f) next o3
written true f {o} {o1} {o2} {o3} {at} {r} {next} e p d c =
    nest (record { next = refl; wrote = refl })
    (nest (record { next = refl; wrote = refl }) (subst (λ (x : ℕ). Done (put (put o at Body 0 0 0) (at + 1) Return 0 0 0) x f next o2) (let z : r ≡ at + 1 + 1 = omega arith in z) (subst (λ (x : List ℕ). Done x r f next o2) p d)) refl) c
written false f {o} {o1} {o2} {o3} {at} {r} {next} e p d c =
    subst (λ (x : List ℕ). Done o at f next x) (sym c) (subst (λ (x : ℕ). Done o x f next o2) e (subst (λ (x : List ℕ). Done x r f next o2) p d))

module _ (rows names text : List ℕ) (v : Walk) (p : Plan) (wraps : Bool) (q : wraps ≡ eqb (slot_number p.slot) wrapped) where
  abbrev inner : Rows
  inner = built rows names text v p none

  dressed_is : dressed rows names text v p ≡ bodied wraps inner
  unfolding dress
  dressed_is = rw q refl

  module _ (at : ℕ) (h : at + size (dressed rows names text v p) < 2 ^ 32) where
    room : at + size (bodied wraps inner) < 2 ^ 32
    room = subst (λ (t : Rows). at + size t < 2 ^ 32) dressed_is h

    pub body-room : wraps ≡ true → at + 2 < 2 ^ 32
    body-room = room-around wraps inner at room

    pub inner_room : {r : ℕ} → r ≡ cond wraps (at + 2) at → r + size inner < 2 ^ 32
    inner_room e = room_inside wraps inner at e room

  pub dressed_written : {o o1 o2 o3 : List ℕ} {at r next : ℕ} → r ≡ cond wraps (at + 2) at → o1 ≡ opened wraps o at → Done o1 r inner next o2
      → o3 ≡ cond wraps (set_end (set_end o2 (at + 1) next) at next) o2 → Done o at (dressed rows names text v p) next o3
  dressed_written e w d c = named dressed_is (written wraps inner e w d c)
