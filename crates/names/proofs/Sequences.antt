-- The rows of the table that a first byte leaves. Assumes nothing.
use mathlib.Core.Path.{◌≡◌, refl}
use mathlib.Core.Bool.{Bool, false, cond, and-false}
use Prim.Native.Nat.{ℕ, ◌≤◌, ◌<◌}
use native.Mathlib.Omega.{arith}
use borrow.Author.Tests.{le-leb, lt-leb}
use lib.Dec.{leb}
use Rattle.names.specs.Utf8.{two, three, four, seq_of}

module _ (a b c d : ℕ) where
  below_three : a < 0xE0 → three a b c ≡ false
  below_three h = rw (lt-leb 0xE0 a h, lt-leb 0xE1 a (omega arith), lt-leb 0xED a (omega arith), lt-leb 0xEE a (omega arith)) refl

  below_four : a < 0xF0 → four a b c d ≡ false
  below_four h = rw (lt-leb 0xF0 a h, lt-leb 0xF1 a (omega arith), lt-leb 0xF4 a (omega arith)) refl

  above_two : 0xDF < a → two a b ≡ false
  above_two h = rw (lt-leb a 0xDF h, and-false (leb 0xC2 a)) refl

  above_three : 0xEF < a → three a b c ≡ false
  above_three h =
      rw (
        lt-leb a 0xE0 (omega arith),
        lt-leb a 0xEC (omega arith),
        lt-leb a 0xED (omega arith),
        lt-leb a 0xEF h,
        and-false (leb 0xE0 a),
        and-false (leb 0xE1 a),
        and-false (leb 0xED a),
        and-false (leb 0xEE a),
      ) refl

  pub one_by : a ≤ 0x7F → 1 ≡ seq_of a b c d
  unfolding seq_of
  one_by h = rw (le-leb a 0x7F h) refl

  pub two_by : 0x7F < a → a ≤ 0xDF → (t : Bool) → t ≡ two a b → cond t 2 0 ≡ seq_of a b c d
  unfolding seq_of
  two_by l h t q = rw (lt-leb a 0x7F l, ← q, below_three (omega arith), below_four (omega arith)) refl

  pub three_by : 0xDF < a → a ≤ 0xEF → (t : Bool) → t ≡ three a b c → cond t 3 0 ≡ seq_of a b c d
  unfolding seq_of
  three_by l h t q = rw (lt-leb a 0x7F (omega arith), above_two l, ← q, below_four (omega arith)) refl

  pub four_by : 0xEF < a → (t : Bool) → t ≡ four a b c d → cond t 4 0 ≡ seq_of a b c d
  unfolding seq_of
  four_by l t q = rw (lt-leb a 0x7F (omega arith), above_two (omega arith), above_three l, ← q) refl
