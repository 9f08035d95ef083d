-- A word in which no byte has its highest bit: each of them is ASCII. Assumes nothing.
use mathlib.Core.Path.{◌≡◌, ◌∙◌, sym, ap, subst}
use mathlib.Core.Logic.{⊎_elim}
use mathlib.Core.List.{List}
use Prim.Native.Nat.{ℕ, zero, suc, ◌+◌, ◌-◌, ◌*◌, ◌≤◌, ◌<◌}
use native.Mathlib.Omega.{arith}
use lib.Bits.{bit_and, and_block, and_high}
use lib.ListN.{get_or, take, drop, length-take}
use lib.Seq.{get_or-take, get_or-drop}
use mir.Syntax.{w8, w64}
use mir.Val.{Fits}
use Rattle.std.specs.Array.{IsFirstChunk}
use Rattle.std.specs.Int.{from_le_bytes}
use Rattle.names.proofs.Bools.{lt_or_ge}

-- the word of n bytes, the low byte first
abbrev word_of : (ℕ → ℕ) → ℕ → ℕ
word_of f zero = 0
word_of f (suc n) = f 0 + 256 * word_of (λ k. f (suc k)) n

abbrev high_bits : ℕ → ℕ
high_bits = word_of (λ _. 128)

first_bits : (r v m : ℕ) → r < 256 → bit_and (r + 256 * v) (128 + 256 * m) ≡ bit_and v m * 256 + bit_and r 128
first_bits r v m h =
    let a : r + 256 * v ≡ v * 256 + r = omega arith in
    let b : 128 + 256 * m ≡ m * 256 + 128 = omega arith in
    (λ i. bit_and (a i) (b i)) ∙ and_block 8 v m r 128 h (omega arith)

-- a word without high bits: its first byte, and the word of the others
halves : (n : ℕ) (f : ℕ → ℕ) → f 0 < 256 → bit_and (word_of f (suc n)) (high_bits (suc n)) ≡ 0
    → bit_and (word_of (λ k. f (suc k)) n) (high_bits n) * 256 + bit_and (f 0) 128 ≡ 0
halves n f h q = sym (first_bits (f 0) (word_of (λ k. f (suc k)) n) (high_bits n) h) ∙ q

-- none of its bytes has one
low_bytes : (n : ℕ) (f : ℕ → ℕ) → ((k : ℕ) → k < n → f k < 256) → bit_and (word_of f n) (high_bits n) ≡ 0 → (k : ℕ) → k < n → f k < 128
low_bytes zero f h q k l = absurd (omega arith)
low_bytes (suc n) f h q zero l = omega (arith, h 0 l, halves n f (h 0 l) q, and_high (f 0) 1 7)
low_bytes (suc n) f h q (suc k) l =
    low_bytes n (λ j. f (suc j)) (λ j m. h (suc j) (omega arith)) (omega (arith, halves n f (h 0 (omega arith)) q)) k (omega arith)

-- the same of the library's word of eight bytes
word_low : (w : List ℕ) → ((k : ℕ) → k < 8 → get_or w k 0 < 256) → (x : ℕ) → x ≡ from_le_bytes w64 w → bit_and x 0x8080_8080_8080_8080 ≡ 0
    → (k : ℕ) → k < 8 → get_or w k 0 < 128
word_low w h x e q =
    let y : word_of (λ k. get_or w k 0) 8 ≡ x = omega (arith, e) in
    low_bytes 8 (λ k. get_or w k 0) h (ap (λ v. bit_and v 0x8080_8080_8080_8080) y ∙ q)

-- the word of eight bytes at i
module _ (s : List ℕ) (bytes : (k : ℕ) → Fits w8 (get_or s k 0)) (i m : ℕ) (w : List ℕ) (chunk : IsFirstChunk (take m (drop i s)) w 8) where
  pub wide : 8 ≤ m
  wide = omega (arith, chunk.enough, length-take m (drop i s))

  word_at : (k : ℕ) → k < 8 → get_or w k 0 ≡ get_or s (i + k) 0
  word_at k l =
      ap (λ (v : List ℕ). get_or v k 0) chunk.same
      ∙ get_or-take 8 (take m (drop i s)) k 0 l
      ∙ get_or-take m (drop i s) k 0 (omega (arith, wide))
      ∙ get_or-drop i s k 0

  small : (k : ℕ) → k < 8 → get_or w k 0 < 256
  small k l = subst (λ (v : ℕ). v < 256) (sym (word_at k l)) (bytes (i + k)).fits

  -- where it has no high bits, and ASCII stands before it
  pub ascii_on : (x : ℕ) → x ≡ from_le_bytes w64 w → bit_and x 0x8080_8080_8080_8080 ≡ 0 → ((j : ℕ) → j < i → get_or s j 0 < 128) → (j : ℕ) → j < i + 8 → get_or s j 0 < 128
  ascii_on x e q a j l =
      ⊎_elim (a j)
      (λ h.
      let f : i + (j - i) ≡ j = omega arith in
      let same : get_or w (j - i) 0 ≡ get_or s j 0 = word_at (j - i) (omega arith) ∙ ap (λ (k : ℕ). get_or s k 0) f in
      subst (λ (v : ℕ). v < 128) same (word_low w small x e q (j - i) (omega arith)))
      (lt_or_ge j i)
