-- The first character of a text: it stands within it, and its bytes are those of the code point that is read from them. Assumes nothing.
use Prim.Native.Nat.{ℕ, ◌+◌, ◌*◌, ◌/◌, ◌%◌, ◌<◌, ◌≤◌}
use mathlib.Core.Path.{◌≡◌, refl, sym, ◌∙◌}
use mathlib.Core.Bool.{Bool, true, false, cond, ◌&&◌}
use mathlib.Core.List.{List, [], ◌∷◌}
use mathlib.Core.Logic.{⊎_elim}
use native.Mathlib.Omega.{arith}
use native.Mathlib.Nat.{not-suc-le-zero, le_trans}
use borrow.Author.Tests.{leb-true, lt-ltb, le-ltb, eq-eqb}
use lib.Dec.{leb}
use lib.ListN.{length, get_or, take}
use lib.Seq.{take-append-le}
use Rattle.names.specs.Utf8.{within, tail, seq_of, two, three, four, utf8_from, utf8}
use Rattle.names.proofs.Bools.{and_left, and_right, or_cases}
use Rattle.letters.specs.Characters.{code_of, first_width, first_code, encode}

and-false : (b : Bool) → b && false ≡ false
and-false true = refl
and-false false = refl

le1 : (p : Bool) → cond p 1 0 ≤ 1
le1 true = omega arith
le1 false = omega arith

le2 : (p q : Bool) → cond p 1 (cond q 2 0) ≤ 2
le2 true q = omega arith
le2 false true = omega arith
le2 false false = omega arith

le3 : (p q r : Bool) → cond p 1 (cond q 2 (cond r 3 0)) ≤ 3
le3 true q r = omega arith
le3 false true r = omega arith
le3 false false true = omega arith
le3 false false false = omega arith

le4 : (p q r s : Bool) → cond p 1 (cond q 2 (cond r 3 (cond s 4 0))) ≤ 4
le4 true q r s = omega arith
le4 false true r s = omega arith
le4 false false true s = omega arith
le4 false false false true = omega arith
le4 false false false false = omega arith

pub width_fits : (s : List ℕ) → 0 < length s → first_width s ≤ length s
unfolding seq_of
width_fits [] h = absurd (not-suc-le-zero h)
width_fits (x ∷ []) h = simp and-false (le1 (leb x 0x7F))
width_fits (x ∷ y ∷ []) h = simp and-false (le2 (leb x 0x7F) (two x y))
width_fits (x ∷ y ∷ z ∷ []) h = simp and-false (le3 (leb x 0x7F) (two x y) (three x y z))
width_fits (x ∷ y ∷ z ∷ u ∷ rest) h =
    let l : cond (leb x 0x7F) 1 (cond (two x y) 2 (cond (three x y z) 3 (cond (four x y z u) 4 0))) ≤ 4 = le4 (leb x 0x7F) (two x y) (three x y z) (four x y z u) in
    let g : 4 ≤ length (x ∷ y ∷ z ∷ u ∷ rest) = omega arith in
    le_trans l g

-- what the tests of a sequence say of its bytes
pub record Range (lo hi b : ℕ) : Type 0 where
  pub low : lo ≤ b
  pub high : b ≤ hi

range : (lo hi b : ℕ) → within lo hi b ≡ true → Range lo hi b
range lo hi b h = record { low = leb-true lo b (and_left (leb lo b) (leb b hi) h); high = leb-true b hi (and_right (leb lo b) (leb b hi) h) }

-- a leading byte, a second byte in its range, and one or two that continue
record Row3 (l h m n a b c : ℕ) : Type 0 where
  lead : Range l h a
  next : Range m n b
  last : Range 0x80 0xBF c

row3 : (l h m n a b c : ℕ) → within l h a && within m n b && tail c ≡ true → Row3 l h m n a b c
row3 l h m n a b c e =
    let f = and_left (within l h a && within m n b) (tail c) e in
    record { lead = range l h a (and_left (within l h a) _ f); next = range m n b (and_right (within l h a) _ f); last = range 0x80 0xBF c (and_right (within l h a && within m n b) (tail c) e) }

record Row4 (l h m n a b c d : ℕ) : Type 0 where
  lead : Range l h a
  next : Range m n b
  third : Range 0x80 0xBF c
  fourth : Range 0x80 0xBF d

row4 : (l h m n a b c d : ℕ) → within l h a && within m n b && tail c && tail d ≡ true → Row4 l h m n a b c d
row4 l h m n a b c d e =
    let r = row3 l h m n a b c (and_left (within l h a && within m n b && tail c) (tail d) e) in
    record { lead = r.lead; next = r.next; third = r.last; fourth = range 0x80 0xBF d (and_right (within l h a && within m n b && tail c) (tail d) e) }

-- bytes that encode a code point: the leading byte and the others without their marks give it
encode2 : (a b : ℕ) → Range 0xC2 0xDF a → Range 0x80 0xBF b → encode (a % 32 * 64 + b % 64) ≡ a ∷ b ∷ []
encode2 a b p q =
    let c : ℕ = a % 32 * 64 + b % 64 in
    let l1 : 0x80 ≤ c = omega arith in
    let l2 : c < 0x800 = omega arith in
    let e1 : 0xC0 + c / 64 ≡ a = omega arith in
    let e2 : 0x80 + c % 64 ≡ b = omega arith in
    rw (le-ltb c 0x80 l1, lt-ltb c 0x800 l2, e1, e2)

encode3 : (a b d : ℕ) → Range 0xE0 0xEF a → Range 0x80 0xBF b → Range 0x80 0xBF d → 0x800 ≤ a % 16 * 4096 + b % 64 * 64 + d % 64 → encode (a % 16 * 4096 + b % 64 * 64 + d % 64) ≡ a ∷ b ∷ d ∷ []
encode3 a b d p q r l =
    let c : ℕ = a % 16 * 4096 + b % 64 * 64 + d % 64 in
    let l1 : 0x80 ≤ c = omega arith in
    let l2 : c < 0x10000 = omega arith in
    let e1 : 0xE0 + c / 4096 ≡ a = omega arith in
    let e2 : 0x80 + c / 64 % 64 ≡ b = omega arith in
    let e3 : 0x80 + c % 64 ≡ d = omega arith in
    rw (le-ltb c 0x80 l1, le-ltb c 0x800 l, lt-ltb c 0x10000 l2, e1, e2, e3)

encode4 : (a b d e : ℕ) → Range 0xF0 0xF4 a → Range 0x80 0xBF b → Range 0x80 0xBF d → Range 0x80 0xBF e → 0x10000 ≤ a % 8 * 262144 + b % 64 * 4096 + d % 64 * 64 + e % 64
    → encode (a % 8 * 262144 + b % 64 * 4096 + d % 64 * 64 + e % 64) ≡ a ∷ b ∷ d ∷ e ∷ []
encode4 a b d e p q r s l =
    let c : ℕ = a % 8 * 262144 + b % 64 * 4096 + d % 64 * 64 + e % 64 in
    let l1 : 0x80 ≤ c = omega arith in
    let l2 : 0x800 ≤ c = omega arith in
    let e1 : 0xF0 + c / 262144 ≡ a = omega arith in
    let e2 : 0x80 + c / 4096 % 64 ≡ b = omega arith in
    let e3 : 0x80 + c / 64 % 64 ≡ d = omega arith in
    let e4 : 0x80 + c % 64 ≡ e = omega arith in
    rw (le-ltb c 0x80 l1, le-ltb c 0x800 l2, le-ltb c 0x10000 l, e1, e2, e3, e4)

decode2 : (a b : ℕ) → two a b ≡ true → encode (a % 32 * 64 + b % 64) ≡ a ∷ b ∷ []
decode2 a b e = encode2 a b (range 0xC2 0xDF a (and_left (within 0xC2 0xDF a) (tail b) e)) (range 0x80 0xBF b (and_right (within 0xC2 0xDF a) (tail b) e))

-- the four rows of the table for three bytes, and the three for four
decode3 : (a b c : ℕ) → three a b c ≡ true → encode (a % 16 * 4096 + b % 64 * 64 + c % 64) ≡ a ∷ b ∷ c ∷ []
decode3 a b c e =
    ⊎_elim
    (λ f.
    ⊎_elim
    (λ g.
    ⊎_elim
    (λ h. let r = row3 0xE0 0xE0 0xA0 0xBF a b c h in encode3 a b c (record { low = omega arith; high = omega arith }) (record { low = omega arith; high = omega arith }) r.last (omega arith))
    (λ h. let r = row3 0xE1 0xEC 0x80 0xBF a b c h in encode3 a b c (record { low = omega arith; high = omega arith }) r.next r.last (omega arith))
    (or_cases _ _ g))
    (λ g. let r = row3 0xED 0xED 0x80 0x9F a b c g in encode3 a b c (record { low = omega arith; high = omega arith }) (record { low = omega arith; high = omega arith }) r.last (omega arith))
    (or_cases _ _ f))
    (λ f. let r = row3 0xEE 0xEF 0x80 0xBF a b c f in encode3 a b c (record { low = omega arith; high = omega arith }) r.next r.last (omega arith))
    (or_cases _ _ e)

decode4 : (a b c d : ℕ) → four a b c d ≡ true → encode (a % 8 * 262144 + b % 64 * 4096 + c % 64 * 64 + d % 64) ≡ a ∷ b ∷ c ∷ d ∷ []
decode4 a b c d e =
    ⊎_elim
    (λ f.
    ⊎_elim
    (λ g. let r = row4 0xF0 0xF0 0x90 0xBF a b c d g in encode4 a b c d (record { low = omega arith; high = omega arith }) (record { low = omega arith; high = omega arith }) r.third r.fourth (omega arith))
    (λ g. let r = row4 0xF1 0xF3 0x80 0xBF a b c d g in encode4 a b c d (record { low = omega arith; high = omega arith }) r.next r.third r.fourth (omega arith))
    (or_cases _ _ f))
    (λ f. let r = row4 0xF4 0xF4 0x80 0x8F a b c d f in encode4 a b c d (record { low = omega arith; high = omega arith }) (record { low = omega arith; high = omega arith }) r.third r.fourth (omega arith))
    (or_cases _ _ e)

-- by the width that the tests give
sequence : (a b c d : ℕ) (p q r t : Bool) → leb a 0x7F ≡ p → two a b ≡ q → three a b c ≡ r → four a b c d ≡ t → (◌≡◌ {A = ℕ} (cond p 1 (cond q 2 (cond r 3 (cond t 4 0)))) 0 → ⊥)
    → encode (code_of (cond p 1 (cond q 2 (cond r 3 (cond t 4 0)))) a b c d) ≡ take (cond p 1 (cond q 2 (cond r 3 (cond t 4 0)))) (a ∷ b ∷ c ∷ d ∷ [])
unfolding code_of
sequence a b c d true q r t ea eb ec ed z = let l : a ≤ 0x7F = leb-true a 0x7F ea in let m : a < 0x80 = omega arith in rw (lt-ltb a 0x80 m)
sequence a b c d false true r t ea eb ec ed z = decode2 a b eb
sequence a b c d false false true t ea eb ec ed z = decode3 a b c ec
sequence a b c d false false false true ea eb ec ed z = decode4 a b c d ed
sequence a b c d false false false false ea eb ec ed z = absurd (z refl)

-- as many of the first four bytes as there are
pad : (s : List ℕ) (w : ℕ) → 0 < length s → w ≤ length s → w ≤ 4 → take w s ≡ take w (get_or s 0 0 ∷ get_or s 1 0 ∷ get_or s 2 0 ∷ get_or s 3 0 ∷ [])
pad [] w h l k = absurd (not-suc-le-zero h)
pad (x ∷ []) w h l k = sym (take-append-le w (x ∷ []) (0 ∷ 0 ∷ 0 ∷ []) l)
pad (x ∷ y ∷ []) w h l k = sym (take-append-le w (x ∷ y ∷ []) (0 ∷ 0 ∷ []) l)
pad (x ∷ y ∷ z ∷ []) w h l k = sym (take-append-le w (x ∷ y ∷ z ∷ []) (0 ∷ []) l)
pad (x ∷ y ∷ z ∷ u ∷ rest) w h l k = take-append-le w (x ∷ y ∷ z ∷ u ∷ []) rest k

pub some_width : (s : List ℕ) → utf8 s ≡ true → 0 < length s → first_width s ≡ 0 → ⊥
unfolding utf8 utf8_from
some_width [] u h z = not-suc-le-zero h
some_width (x ∷ r) u h z = let f : false ≡ true = rw (lt-ltb 0 (length (x ∷ r)) h, eq-eqb (first_width (x ∷ r)) 0 z) at u in let o : ◌≡◌ {A = ℕ} 0 1 = cc in omega arith

width_at_most : (s : List ℕ) → first_width s ≤ 4
unfolding seq_of
width_at_most s = le4 (leb (get_or s 0 0) 0x7F) (two (get_or s 0 0) (get_or s 1 0)) (three (get_or s 0 0) (get_or s 1 0) (get_or s 2 0)) (four (get_or s 0 0) (get_or s 1 0) (get_or s 2 0) (get_or s 3 0))

-- the bytes of the first character of a text that is UTF-8 are those of the code point read from it
pub first_character : (s : List ℕ) → utf8 s ≡ true → 0 < length s → encode (first_code s) ≡ take (first_width s) s
unfolding seq_of
first_character s u h =
    sequence (get_or s 0 0) (get_or s 1 0) (get_or s 2 0) (get_or s 3 0) (leb (get_or s 0 0) 0x7F) (two (get_or s 0 0) (get_or s 1 0)) (three (get_or s 0 0) (get_or s 1 0) (get_or s 2 0)) (four (get_or s 0 0)
    (get_or s 1 0) (get_or s 2 0) (get_or s 3 0)) refl refl refl refl (some_width s u h)
    ∙ sym (pad s (first_width s) h (width_fits s h) (width_at_most s))
