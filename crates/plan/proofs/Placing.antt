-- A spot in one number, and back. Assumes nothing.
use mathlib.Core.Path.{◌≡◌, ◌∙◌}
use mathlib.Core.Bool.{Bool, true, false, cond}
use Prim.Native.Nat.{ℕ, ◌+◌, ◌*◌, ◌/◌, ◌%◌, ◌<◌}
use native.Mathlib.Omega.{arith}
use native.Mathlib.Nat.{mod-lt, mod-eq_of_lt, div-eq_of_lt, add-mul-mod_self_left, add-mul-div_left, mul-div_right, mul-mod_right}
use Rattle.steps.specs.Acts.{Ctx}
use Rattle.steps.specs.Context.{spot}
use Rattle.steps.specs.Slots.{free}
use Rattle.plan.specs.Frames.{FramesBelow}
use Rattle.plan.specs.Placing.{flag_in, frame_in, context_in, place_of}
use Rattle.plan.specs.declared.place.Place.{Place}

-- of x below m, with y above it: the part below m
pub lowest : (m : ℕ) {x : ℕ} (y : ℕ) → x < m → (x + m * y) % m ≡ x
lowest m {x} y h = add-mul-mod_self_left x m y ∙ mod-eq_of_lt h

-- and the part above it
pub above : (m : ℕ) {x : ℕ} (y : ℕ) → x < m → (x + m * y) / m ≡ y
above m {x} y h =
    let pos : 0 < m = omega arith in
    add-mul-div_left x y pos ∙ rw (div-eq_of_lt h) (omega arith)

-- a frame is a remainder by 16384
pub frame_low : (n : ℕ) → frame_in n < 16384
frame_low n = mod-lt n (omega arith)

-- so the frames of a place are below 16384
pub frames-below : (p : Place) → FramesBelow 16384 (place_of p).ctx
unfolding place_of
frames-below p = record { this = frame_low _; super = frame_low _; arguments = frame_low _ }

-- its slot is a remainder by 8
pub place_slot : (p : Place) → (place_of p).slot < 8
unfolding place_of
place_slot p = mod-lt p.code (omega arith)

-- a flag as a number
abbrev bit_of : Bool → ℕ
bit_of b = cond b 1 0

-- it is below 2
bit-low : (b : Bool) → bit_of b < 2
bit-low true = omega arith
bit-low false = omega arith

-- a flag is read back from below y
flag_back : (b : Bool) (y : ℕ) → flag_in (bit_of b + 2 * y) ≡ b
flag_back true y = rw (lowest 2 y (bit-low true))
flag_back false y = rw (lowest 2 y (bit-low false))

-- a context as a number
abbrev code_of : Ctx → ℕ
code_of c = bit_of c.takes_this + 2 * (bit_of c.takes_super + 2 * (bit_of c.takes_arguments + 2 * (c.this_at + 16384 * (c.super_at + 16384 * c.arguments_at))))

-- a context is read back from it
context_back : (c : Ctx) → FramesBelow 16384 c → context_in (code_of c) ≡ c
context_back c h =
    let t : bit_of c.takes_this < 2 = bit-low c.takes_this in
    let s : bit_of c.takes_super < 2 = bit-low c.takes_super in
    let a : bit_of c.takes_arguments < 2 = bit-low c.takes_arguments in
    let ft : c.this_at < 16384 = h.this in
    let fs : c.super_at < 16384 = h.super in
    let fa : c.arguments_at < 16384 = h.arguments in
    simp (above 2, above 16384, flag_back, lowest 16384, mod-eq_of_lt)

-- a spot is read back from the number that `placed` makes of it; t, s and a are the flags as numbers
pub place-back : (c : Ctx) (sl t s a : ℕ) → FramesBelow 16384 c → sl < 8 → t ≡ bit_of c.takes_this → s ≡ bit_of c.takes_super → a ≡ bit_of c.takes_arguments
    → place_of (record { code = sl + 8 * (t + 2 * (s + 2 * (a + 2 * (c.this_at + 16384 * (c.super_at + 16384 * c.arguments_at))))) }) ≡ spot c sl
unfolding place_of
place-back c sl t s a h l et es ea = rw (et, es, ea, lowest 8, above 8, context_back c h)

-- with the slot taken away the context stays
pub inside_back : (p : Place) → place_of (record { code = 8 * (p.code / 8) }) ≡ spot (place_of p).ctx free
unfolding place_of
inside_back p =
    let pos : 0 < 8 = omega arith in
    rw (mul-div_right (p.code / 8) pos, mul-mod_right)

-- with another slot the context stays
pub within-back : (p : Place) (sl : ℕ) → sl < 8 → place_of (record { code = sl + 8 * (p.code / 8) }) ≡ spot (place_of p).ctx sl
unfolding place_of
within-back p sl h = rw (lowest 8, above 8)
