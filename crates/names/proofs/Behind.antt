-- What stands behind ASCII at the front of a text is UTF-8 where the whole is. Assumes nothing.
use mathlib.Core.Path.{◌≡◌, refl, sym, ap, ◌∙◌}
use mathlib.Core.Logic.{⊎_elim}
use mathlib.Core.List.{List}
use Prim.Native.Nat.{ℕ, zero, suc, ◌+◌, ◌-◌, ◌≤◌, ◌<◌}
use native.Mathlib.Omega.{arith}
use borrow.Author.Tests.{lt-ltb, le-ltb}
use lib.Dec.{ltb}
use lib.ListN.{length, length-drop, get_or, take, drop}
use lib.Seq.{get_or-drop, take_all}
use Rattle.names.specs.Utf8.{seq_at, utf8_from, utf8}
use Rattle.names.proofs.Bools.{lt_or_ge}
use Rattle.names.proofs.Sequences.{one_by}

module _ (s : List ℕ) where
  -- a byte of ASCII is a sequence
  ascii_step : (f i : ℕ) → i < length s → get_or s i 0 < 128 → utf8_from (suc f) s i ≡ utf8_from f s (i + 1)
  unfolding utf8_from
  ascii_step f i h a =
      let one : seq_at s i ≡ 1 = sym (one_by (get_or s i 0) (get_or s (i + 1) 0) (get_or s (i + 2) 0) (get_or s (i + 3) 0) (omega arith)) in
      rw (lt-ltb i (length s) h, one) refl

  -- as many of them are as many sequences
  ascii_front : (n : ℕ) → n ≤ length s → ((j : ℕ) → j < n → get_or s j 0 < 128) → utf8 s ≡ utf8_from (length s - n) s n
  unfolding utf8
  ascii_front zero h a = ap (λ (f : ℕ). utf8_from f s 0) (omega arith)
  ascii_front (suc n) h a =
      let f : length s - n ≡ suc (length s - suc n) = omega arith in
      ascii_front n (omega arith) (λ j l. a j (omega arith))
      ∙ ap (λ (x : ℕ). utf8_from x s n) f
      ∙ ascii_step (length s - suc n) n (omega arith) (a n (omega arith))
      ∙ ap (utf8_from (length s - suc n) s) (omega arith)

-- what stands behind the first n bytes
module _ (s : List ℕ) (n : ℕ) where
  abbrev behind : List ℕ
  behind = take (length s - n) (drop n s)

  rest : behind ≡ drop n s
  rest = take_all (length s - n) (drop n s) (omega (arith, length-drop n s))

  -- it reads as in the whole
  seq_behind : (i : ℕ) → seq_at (drop n s) i ≡ seq_at s (n + i)
  seq_behind i =
      let p : (k : ℕ) → get_or (drop n s) (i + k) 0 ≡ get_or s (n + i + k) 0 = λ k. get_or-drop n s (i + k) 0 ∙ ap (λ (m : ℕ). get_or s m 0) (omega arith) in
      rw (get_or-drop n s i 0, p 1, p 2, p 3) refl

  ends : (i : ℕ) → ltb i (length (drop n s)) ≡ ltb (n + i) (length s)
  ends i =
      let l : length (drop n s) ≡ length s - n = length-drop n s in
      ⊎_elim
      (λ h. lt-ltb i (length (drop n s)) h ∙ sym (lt-ltb (n + i) (length s) (omega (arith, l))))
      (λ h. le-ltb i (length (drop n s)) h ∙ sym (le-ltb (n + i) (length s) (omega (arith, l))))
      (lt_or_ge i (length (drop n s)))

  from_behind : (f i : ℕ) → utf8_from f (drop n s) i ≡ utf8_from f s (n + i)
  unfolding utf8_from
  from_behind zero i = refl
  from_behind (suc f) i =
      let w : ℕ = seq_at s (n + i) in
      let next : utf8_from f (drop n s) (i + w) ≡ utf8_from f s (n + i + w) = from_behind f (i + w) ∙ ap (utf8_from f s) (omega arith) in
      rw (ends i, seq_behind i, next) refl

  -- bytes behind ASCII are UTF-8 where all are
  pub utf8_behind : n ≤ length s → ((j : ℕ) → j < n → get_or s j 0 < 128) → utf8 behind ≡ utf8 s
  unfolding utf8
  utf8_behind h a =
      ap utf8 rest
      ∙ ap (λ (f : ℕ). utf8_from f (drop n s) 0) (length-drop n s)
      ∙ from_behind (length s - n) 0
      ∙ ap (utf8_from (length s - n) s) (omega arith)
      ∙ sym (ascii_front s n h a)
