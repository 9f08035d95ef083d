-- Sets of kinds as numbers: what a bit says. Assumes nothing.
use mathlib.Core.Path.{◌≡◌, ap, ◌∙◌}
use mathlib.Core.Bool.{Bool, true, false, cond}
use Prim.Native.Nat.{ℕ, zero, suc, ◌+◌, ◌*◌, ◌/◌, ◌%◌, ◌^◌, ◌<◌}
use native.Mathlib.Omega.{arith}
use native.Mathlib.Nat.{zero-add, div-one, div-div-eq-div-mul, add-mul-mod_self_left, pow-succ'}
use lib.Dec.{eqb}
use Rattle.grammar.specs.Masks.{bits_from, set_of}

-- the lowest bit
low : (b : Bool) (m : ℕ) → eqb ((cond b 1 0 + 2 * m) / 1 % 2) 1 ≡ b
low true m = rw (div-one, add-mul-mod_self_left 1 2 m)
low false m = rw (div-one, add-mul-mod_self_left 0 2 m)

-- the number without its lowest bit
half : (b : Bool) (m : ℕ) → (cond b 1 0 + 2 * m) / 2 ≡ m
half true m = omega arith
half false m = omega arith

-- a bit above the lowest is one of that number
high : (b : Bool) (m j : ℕ) → (cond b 1 0 + 2 * m) / 2 ^ suc j ≡ m / 2 ^ j
high b m j = rw (pow-succ', ← div-div-eq-div-mul (cond b 1 0 + 2 * m) 2 (2 ^ j), half b m)

-- bit j of the bits from k on says whether f holds of k + j
bit : (f : ℕ → Bool) (k n j : ℕ) → j < n → eqb (bits_from f k n / 2 ^ j % 2) 1 ≡ f (k + j)
unfolding bits_from
bit f k zero j h = absurd (omega arith)
bit f k (suc n) zero h =
    let e : k + 0 ≡ k = omega arith in
    rw e (low (f k) (bits_from f (suc k) n))
bit f k (suc n) (suc j) h =
    let e : k + suc j ≡ suc k + j = omega arith in
    let l : j < n = omega arith in
    rw (e, high (f k) (bits_from f (suc k) n) j) (bit f (suc k) n j l)

-- bit k of a set says whether kind k is in it
pub in_set : (f : ℕ → Bool) (k : ℕ) → k < 29 → eqb (set_of f / 2 ^ k % 2) 1 ≡ f k
unfolding set_of
in_set f k h = bit f 0 29 k h ∙ ap f (zero-add k)
