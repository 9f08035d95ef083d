-- Places as the code has them, and the bytes that they are made of. Assumes nothing.
use mathlib.Core.Path.{◌≡◌, refl, sym, ap, ◌∙◌}
use mathlib.Core.Bool.{Bool, true, false, cond}
use Prim.Native.Nat.{ℕ, ◌<◌, ◌≤◌}
use native.Mathlib.Omega.{arith}
use borrow.Author.Tests.{ne_eqb, ltb-false, le-ltb}
use lib.Dec.{eqb, ltb}
use Rattle.grammar.specs.Codes.{placed}
use Rattle.grammar.specs.Grammar.{fits, attr_ok}

-- a test for a place of the list says the same of what a byte says as of the byte
pub test_placed : (p n : ℕ) → 0 < n → n < 16 → eqb (placed p) n ≡ eqb p n
test_placed p n some few = go (ltb p 16) refl
  where
    go : (b : Bool) → ltb p 16 ≡ b → eqb (cond b p 0) n ≡ eqb p n
    go true q = refl
    go false q = let above : 16 ≤ p = ltb-false p 16 q in ne_eqb 0 n (λ z. omega arith) ∙ sym (ne_eqb p n (λ z. omega arith))

-- so what may stand in a place is the same by the byte as by the place that it says
pub fits_placed : (p k : ℕ) → fits (placed p) k ≡ fits p k
fits_placed p k =
    rw (
      test 1 (omega arith) (omega arith),
      test 2 (omega arith) (omega arith),
      test 3 (omega arith) (omega arith),
      test 4 (omega arith) (omega arith),
      test 5 (omega arith) (omega arith),
      test 6 (omega arith) (omega arith),
      test 7 (omega arith) (omega arith),
      test 8 (omega arith) (omega arith),
      test 9 (omega arith) (omega arith),
      test 10 (omega arith) (omega arith),
      test 11 (omega arith) (omega arith),
      test 12 (omega arith) (omega arith),
      test 13 (omega arith) (omega arith),
      test 14 (omega arith) (omega arith),
      test 15 (omega arith) (omega arith),
    )
  where
    test : (n : ℕ) → 0 < n → n < 16 → eqb (placed p) n ≡ eqb p n
    test = test_placed p

-- and so are the attrs that it allows
pub attr_placed : (k a p : ℕ) → attr_ok k a (placed p) ≡ attr_ok k a p
attr_placed k a p = rw (test_placed p 2 (omega arith) (omega arith), test_placed p 10 (omega arith) (omega arith), test_placed p 15 (omega arith) (omega arith))

-- a number above 15 is no place: no row fits it
pub fits_above : (p k : ℕ) → 16 ≤ p → fits p k ≡ false
fits_above p k h = sym (fits_placed p k) ∙ ap (λ (b : Bool). fits (cond b p 0) k) (le-ltb p 16 h)
