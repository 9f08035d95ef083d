-- The library's UTF-8, which is what some characters spell, is that of the Unicode Standard's table. Assumes nothing.
use mathlib.Core.Path.{◌≡◌, refl, sym, subst, ◌∙◌}
use mathlib.Core.Bool.{Bool, true, false, cond, ◌&&◌, ◌||◌, false≢true}
use mathlib.Core.Logic.{◌⊎◌, inl, inr, ⊎_elim}
use mathlib.Core.List.{List}
use Prim.Native.Nat.{ℕ, zero, suc, ◌+◌, ◌-◌, ◌*◌, ◌≤◌, ◌<◌}
use native.Mathlib.Omega.{arith}
use lib.Dec.{eqb, ltb, leb}
use lib.ListN.{length, get_or, get_or-eq_default, take, drop}
use borrow.Author.Tests.{leb-true, leb-false, le-leb, ltb-true, ltb-false, eqb-true, eqb-false}
use Rattle.std.specs.Prelude.{Result, Ok, Err, MatchResult}
use Rattle.std.specs.Result.{is_ok}
use Rattle.std.specs.Str.{IsUtf8, StartsWithNoChar}
use Rattle.std.proofs.lemmas.Str.{IsUtf8-nil as none}
use Rattle.std.proofs.str.Laws.{Follows}
use Rattle.std.proofs.str.Valid.{of_one, of_two, of_three, of_four, longer, whole}
use Rattle.std.proofs.str.Faults.{Ranged, no_char, valid_to, not_text}
use Rattle.names.specs.Utf8.{within, tail, two, three, four, seq_of, seq_at, utf8_from, utf8}
use Rattle.names.proofs.Bools.{and_left, and_right, and_both, or_left, or_right, either, lt_or_ge}

-- a byte in a range
within-is : (lo hi b : ℕ) → lo ≤ b → b ≤ hi → within lo hi b ≡ true
within-is lo hi b p q = and_both (le-leb lo b p) (le-leb b hi q)

within-bounds : (lo hi b : ℕ) → within lo hi b ≡ true → (lo ≤ b) × (b ≤ hi)
within-bounds lo hi b h = (leb-true lo b (and_left (leb lo b) (leb b hi) h), leb-true b hi (and_right (leb lo b) (leb b hi) h))

tail-follows : (b : ℕ) → tail b ≡ true → Follows b
tail-follows b h = let r = within-bounds 0x80 0xBF b h in (r.0, omega arith)

follows-tail : (b : ℕ) → Follows b → tail b ≡ true
follows-tail b f = within-is 0x80 0xBF b f.0 (omega arith)

-- a row of the table, by its ranges
pair_row : (l h m n a b : ℕ) → (within l h a && within m n b) ≡ true → (l ≤ a) × (a ≤ h) × (m ≤ b) × (b ≤ n)
pair_row l h m n a b q =
    let x = within-bounds l h a (and_left (within l h a) (within m n b) q) in
    let y = within-bounds m n b (and_right (within l h a) (within m n b) q) in
    (x.0, x.1, y.0, y.1)

pair_is : (l h m n a b : ℕ) → l ≤ a → a ≤ h → m ≤ b → b ≤ n → (within l h a && within m n b) ≡ true
pair_is l h m n a b p q r s = and_both (within-is l h a p q) (within-is m n b r s)

-- what the rows of three bytes give
module _ (a b c : ℕ) where
  abbrev code : ℕ
  code = (a - 224) * 4096 + (b - 128) * 64 + (c - 128)

  abbrev Three : Type 0
  Three = (224 ≤ a) × (a < 240) × Follows b × Follows c × (2048 ≤ code) × ((code < 55296) ⊎ (57344 ≤ code))

  row3 : (l h m n : ℕ) → (within l h a && within m n b && tail c) ≡ true → (l ≤ a) × (a ≤ h) × (m ≤ b) × (b ≤ n) × Follows c
  row3 l h m n q =
      let x = pair_row l h m n a b (and_left (within l h a && within m n b) (tail c) q) in
      (x.0, x.1, x.2, x.3, tail-follows c (and_right (within l h a && within m n b) (tail c) q))

  three_gives : three a b c ≡ true → Three
  three_gives h =
      let r1 = within 0xE0 0xE0 a && within 0xA0 0xBF b && tail c in
      let r2 = within 0xE1 0xEC a && tail b && tail c in
      let r3 = within 0xED 0xED a && within 0x80 0x9F b && tail c in
      let r4 = within 0xEE 0xEF a && tail b && tail c in
      either Three (r1 || r2 || r3) r4 h
      (λ h3. either Three (r1 || r2) r3 h3
      (λ h2. either Three r1 r2 h2
      (λ q. let x = row3 0xE0 0xE0 0xA0 0xBF q in let f = x.4 in (omega arith, omega arith, (omega arith, omega arith), f, omega arith, inl (omega arith)))
      (λ q. let x = row3 0xE1 0xEC 0x80 0xBF q in let f = x.4 in (omega arith, omega arith, (omega arith, omega arith), f, omega arith, inl (omega arith))))
      (λ q. let x = row3 0xED 0xED 0x80 0x9F q in let f = x.4 in (omega arith, omega arith, (omega arith, omega arith), f, omega arith, inl (omega arith))))
      (λ q. let x = row3 0xEE 0xEF 0x80 0xBF q in let f = x.4 in (omega arith, omega arith, (omega arith, omega arith), f, omega arith, inr (omega arith)))

-- what those of four give
module _ (a b c d : ℕ) where
  abbrev high : ℕ
  high = (a - 240) * 64 + (b - 128)

  abbrev Four : Type 0
  Four = (240 ≤ a) × Follows b × Follows c × Follows d × ((16 ≤ high) × (high < 272))

  row4 : (l h m n : ℕ) → (within l h a && within m n b && tail c && tail d) ≡ true → (l ≤ a) × (a ≤ h) × (m ≤ b) × (b ≤ n) × Follows c × Follows d
  row4 l h m n q =
      let x = row3 a b c l h m n (and_left (within l h a && within m n b && tail c) (tail d) q) in
      (x.0, x.1, x.2, x.3, x.4, tail-follows d (and_right (within l h a && within m n b && tail c) (tail d) q))

  four_gives : four a b c d ≡ true → Four
  four_gives h =
      let r1 = within 0xF0 0xF0 a && within 0x90 0xBF b && tail c && tail d in
      let r2 = within 0xF1 0xF3 a && tail b && tail c && tail d in
      let r3 = within 0xF4 0xF4 a && within 0x80 0x8F b && tail c && tail d in
      either Four (r1 || r2) r3 h
      (λ h2. either Four r1 r2 h2
      (λ q. let x = row4 0xF0 0xF0 0x90 0xBF q in (omega arith, (omega arith, omega arith), x.4, x.5, (omega arith, omega arith)))
      (λ q. let x = row4 0xF1 0xF3 0x80 0xBF q in (omega arith, (omega arith, omega arith), x.4, x.5, (omega arith, omega arith))))
      (λ q. let x = row4 0xF4 0xF4 0x80 0x8F q in (omega arith, (omega arith, omega arith), x.4, x.5, (omega arith, omega arith)))

-- a byte that is not 0 is there
there : (s : List ℕ) (j : ℕ) → 128 ≤ get_or s j 0 → j < length s
there s j h = ⊎_elim (λ l. l) (λ l. absurd (let z = get_or-eq_default s 0 {n = j} l in omega arith)) (lt_or_ge j (length s))

-- a sequence of the table is a character's bytes
text_by : (s : List ℕ) (i : ℕ) → i < length s → (p q r t : Bool)
    → leb (get_or s i 0) 0x7F ≡ p → two (get_or s i 0) (get_or s (i + 1) 0) ≡ q → three (get_or s i 0) (get_or s (i + 1) 0) (get_or s (i + 2) 0) ≡ r
    → four (get_or s i 0) (get_or s (i + 1) 0) (get_or s (i + 2) 0) (get_or s (i + 3) 0) ≡ t
    → (w : ℕ) → cond p 1 (cond q 2 (cond r 3 (cond t 4 0))) ≡ w → (w ≡ 0 → ⊥) → IsUtf8 (take w (drop i s))
text_by s i l true q r t hp hq hr ht w e z = subst (λ (n : ℕ). IsUtf8 (take n (drop i s))) e (of_one s i l (let k = leb-true _ _ hp in omega arith))
text_by s i l false true r t hp hq hr ht w e z =
    let x = pair_row 0xC2 0xDF 0x80 0xBF (get_or s i 0) (get_or s (i + 1) 0) hq in
    subst (λ (n : ℕ). IsUtf8 (take n (drop i s))) e (of_two s i (there s (i + 1) x.2) (x.0, omega arith) (x.2, omega arith))
text_by s i l false false true t hp hq hr ht w e z =
    let x = three_gives _ _ _ hr in
    subst (λ (n : ℕ). IsUtf8 (take n (drop i s))) e (of_three s i (there s (i + 2) x.3.0) (x.0, x.1) x.2 x.3 x.4 x.5)
text_by s i l false false false true hp hq hr ht w e z =
    let x = four_gives _ _ _ _ ht in
    subst (λ (n : ℕ). IsUtf8 (take n (drop i s))) e (of_four s i (there s (i + 3) x.3.0) x.0 x.1 x.2 x.3 x.4)
text_by s i l false false false false hp hq hr ht w e z = absurd (z (sym e))

text_at : (s : List ℕ) (i : ℕ) → i < length s → (seq_at s i ≡ 0 → ⊥) → IsUtf8 (take (seq_at s i) (drop i s))
unfolding seq_of
text_at s i l z = text_by s i l _ _ _ _ refl refl refl refl (seq_at s i) refl z

-- and where the table has none, no character begins
bad : {b : Bool} → b ≡ false → b ≡ true → ⊥
bad p q = false≢true (sym p ∙ q)

none_by : (n x y z v : ℕ) → Ranged n x y z v → 128 ≤ x → two x y ≡ false → three x y z ≡ false → four x y z v ≡ false → ⊥
none_by n x y z v g l hq hr ht =
    let s = g.second l in
    let fy = follows-tail y s.2 in
    let r1 = within 0xE0 0xE0 x && within 0xA0 0xBF y && tail z in
    let r2 = within 0xE1 0xEC x && tail y && tail z in
    let r3 = within 0xED 0xED x && within 0x80 0x9F y && tail z in
    let r4 = within 0xEE 0xEF x && tail y && tail z in
    let h3 = or_left (r1 || r2 || r3) r4 hr in
    let h2 = or_left (r1 || r2) r3 h3 in
    let f1 = within 0xF0 0xF0 x && within 0x90 0xBF y && tail z && tail v in
    let f2 = within 0xF1 0xF3 x && tail y && tail z && tail v in
    let f3 = within 0xF4 0xF4 x && within 0x80 0x8F y && tail z && tail v in
    let k2 = or_left (f1 || f2) f3 ht in
    ⊎_elim (λ a. bad hq (pair_is 0xC2 0xDF 0x80 0xBF x y s.0 (omega arith) (omega arith) (omega arith)))
    (λ a. let t = follows-tail z (g.third a).1 in
    ⊎_elim
    (λ b.
    let i = g.in_three a b in
    ⊎_elim (λ c. bad (or_left r1 r2 h2) (and_both (pair_is 0xE0 0xE0 0xA0 0xBF x y (omega arith) (omega arith) (omega arith) (omega arith)) t))
    (λ c. ⊎_elim (λ d. bad (or_right r1 r2 h2) (and_both (pair_is 0xE1 0xEC 0x80 0xBF x y (omega arith) (omega arith) (omega arith) (omega arith)) t))
    (λ d. ⊎_elim
    (λ e. ⊎_elim (λ j. bad (or_right (r1 || r2) r3 h3) (and_both (pair_is 0xED 0xED 0x80 0x9F x y (omega arith) (omega arith) (omega arith) (omega arith)) t))
    (λ j. omega arith) i.1)
    (λ e. bad (or_right (r1 || r2 || r3) r4 hr) (and_both (pair_is 0xEE 0xEF 0x80 0xBF x y (omega arith) (omega arith) (omega arith) (omega arith)) t))
    (lt_or_ge x 238))
    (lt_or_ge x 237))
    (lt_or_ge x 225))
    (λ b.
    let i = g.fourth b in
    let u = follows-tail v i.1 in
    let i0 = i.2.0 in
    let i1 = i.2.1 in
    ⊎_elim (λ c. bad (or_left f1 f2 k2) (and_both (and_both (pair_is 0xF0 0xF0 0x90 0xBF x y (omega arith) (omega arith) (omega arith) (omega arith)) t) u))
    (λ c. ⊎_elim (λ d. bad (or_right f1 f2 k2) (and_both (and_both (pair_is 0xF1 0xF3 0x80 0xBF x y (omega arith) (omega arith) (omega arith) (omega arith)) t) u))
    (λ d. bad (or_right (f1 || f2) f3 ht) (and_both (and_both (pair_is 0xF4 0xF4 0x80 0x8F x y (omega arith) (omega arith) (omega arith) (omega arith)) t) u))
    (lt_or_ge x 244))
    (lt_or_ge x 241))
    (lt_or_ge x 240))
    (lt_or_ge x 224)

no_seq : (n x y z v : ℕ) → Ranged n x y z v → (p q r t : Bool) → leb x 0x7F ≡ p → two x y ≡ q → three x y z ≡ r → four x y z v ≡ t
    → ◌≡◌ {A = ℕ} (cond p 1 (cond q 2 (cond r 3 (cond t 4 0)))) 0 → ⊥
no_seq n x y z v g true q r t hp hq hr ht e = omega arith
no_seq n x y z v g false true r t hp hq hr ht e = omega arith
no_seq n x y z v g false false true t hp hq hr ht e = omega arith
no_seq n x y z v g false false false true hp hq hr ht e = omega arith
no_seq n x y z v g false false false false hp hq hr ht e = none_by n x y z v g (leb-false x 0x7F hp) hq hr ht

none_at : (s : List ℕ) (i : ℕ) → seq_at s i ≡ 0 → StartsWithNoChar (drop i s)
unfolding seq_of
none_at s i e = no_char s i (λ g. no_seq _ _ _ _ _ g _ _ _ _ refl refl refl refl e)

-- what stands before byte i is UTF-8: then so is the whole, or it is not, as the table says of the rest
step : (s : List ℕ) (f i : ℕ) (b x y : Bool) (W : Type 0) → IsUtf8 (take i s) → length s ≤ i + suc f
    → ((j : ℕ) → length s ≤ j + f → IsUtf8 (take j s) → utf8_from f s j ≡ b → W)
    → (IsUtf8 s → b ≡ true → W) → ((IsUtf8 s → ⊥) → b ≡ false → W)
    → ltb i (length s) ≡ x → eqb (seq_at s i) 0 ≡ y → cond x (cond y false (utf8_from f s (i + seq_at s i))) true ≡ b → W
step s f i b false y W u r ih good ill p q e = good (whole s i (ltb-false i (length s) p) u) (sym e)
step s f i b true true W u r ih good ill p q e = ill (not_text s i (valid_to s i (ltb-true i (length s) p) u (none_at s i (eqb-true (seq_at s i) 0 q)))) (sym e)
step s f i b true false W u r ih good ill p q e =
    let z = eqb-false (seq_at s i) 0 q in
    ih (i + seq_at s i) (omega arith) (longer s i (seq_at s i) u (text_at s i (ltb-true i (length s) p) z)) e

from : (s : List ℕ) (f i : ℕ) (b : Bool) (W : Type 0) → IsUtf8 (take i s) → length s ≤ i + f → (IsUtf8 s → b ≡ true → W) → ((IsUtf8 s → ⊥) → b ≡ false → W) → utf8_from f s i ≡ b → W
unfolding utf8_from
from s zero i b W u r good ill e = good (whole s i (omega arith) u) (sym e)
from s (suc f) i b W u r good ill e = step s f i b _ _ W u r (λ j k v g. from s f j b W v k good ill g) good ill refl refl e

-- the library's test and the table's say the same
text_is : (s : List ℕ) → IsUtf8 s → true ≡ utf8 s
unfolding utf8
text_is s t = from s (length s) 0 (utf8 s) (true ≡ utf8 s) none (omega arith) (λ u e. sym e) (λ n e. absurd (n t)) refl

no_text_is : (s : List ℕ) → (IsUtf8 s → ⊥) → false ≡ utf8 s
unfolding utf8
no_text_is s n = from s (length s) 0 (utf8 s) (false ≡ utf8 s) none (omega arith) (λ u e. absurd (n u)) (λ m e. sym e) refl

-- so the library's answer is the table's
pub tested : (s : List ℕ) {A E : Type 0} (r : Result A E) (P : A → Type 0) (Q : E → Type 0)
    → MatchResult r (λ a. P a × IsUtf8 s) (λ e. (IsUtf8 s → ⊥) × Q e) → is_ok r ≡ utf8 s
tested s (Ok a) P Q h = text_is s h.1
tested s (Err e) P Q h = no_text_is s h.0
