-- The capitals of a first character, by the range in which it lies. Assumes nothing.
use Prim.Native.Nat.{ℕ, ◌+◌, ◌-◌, ◌/◌, ◌%◌, ◌<◌, ◌≤◌}
use mathlib.Core.Path.{◌≡◌, refl, ap, sym, ◌∙◌}
use mathlib.Core.Bool.{Bool, true, false, cond, ◌&&◌}
use mathlib.Core.List.{List, [], ◌∷◌}
use lib.Dec.{leb, ltb, eqb}
use lib.ListN.{length, get_or}
use native.Mathlib.Omega.{arith}
use borrow.Author.Tests.{lt-ltb, le-ltb, le-leb, lt-leb, leb-true}
use Rattle.names.proofs.Bools.{and_left, and_right}
use Rattle.letters.specs.Characters.{encode_all}
use Rattle.std.specs.Prelude.{Option, Some, None, is_some}
use Rattle.letters.specs.Letters.{entry_bytes, entry_for, capitals_in, uppers, Upper, in_table, known, capital, flipped, cyrillic_capital, told, Capitals}
use Rattle.letters.specs.declared.Capital.{Capital}
use Rattle.letters.specs.declared.Capital.TheVariants.{One, Two}
use Rattle.letters.proofs.Range.{every, at, same, same-eq}

-- The code's table against Unicode's list: the test at one place, and the law that turns it, passed over the first n places, into the rule at each of them.
unfoldable pub right : List ℕ → ℕ → Bool
right table k = same (entry_bytes (get_or table k 0)) (entry_for k)

pub entry_law : (table : List ℕ) (n : ℕ) → every (right table) 0 n ≡ true → (k : ℕ) → k < n → entry_bytes (get_or table k 0) ≡ entry_for k
unfolding right
entry_law table n t k h = same-eq (entry_bytes (get_or table k 0)) (entry_for k) (at (right table) 0 n t k (omega arith) (omega arith))

-- the entry of a character, at its place in the code's table
entry_of : (c : ℕ) → 0x80 ≤ c → entry_for (c - 0x80) ≡ encode_all (capitals_in uppers c)
unfolding entry_for
entry_of c a =
    let e : 0x80 + (c - 0x80) ≡ c = omega arith in
    rw e

-- Change request No. 4, "Prove it equal to the 96 entries it replaces": those of Unicode's list, by one test over all of them.
unfoldable follows : ℕ → Bool
follows c = same (capitals_in uppers c) (cyrillic_capital c ∷ [])

all_follow : every follows 0x400 96 ≡ true
unfolding follows capitals_in uppers cyrillic_capital
all_follow = refl

pub cyrillic-entries : (c : ℕ) → 0x400 ≤ c → c ≤ 0x45F → capitals_in uppers c ≡ cyrillic_capital c ∷ []
unfolding follows
cyrillic-entries c a b = same-eq (capitals_in uppers c) (cyrillic_capital c ∷ []) (at follows 0x400 96 all_follow c a (omega arith))

-- the UTF-8 of a Cyrillic capital
two_bytes : (z : ℕ) → 0x400 ≤ z → z ≤ 0x42F → encode_all (z ∷ []) ≡ (0xC0 + z / 64) ∷ (0x80 + z % 64) ∷ []
unfolding encode_all
two_bytes z a b =
    let l : 0x80 ≤ z = omega arith in
    let k : z < 0x800 = omega arith in
    rw (le-ltb z 0x80 l, lt-ltb z 0x800 k)

-- at most two bytes stand for a first character: each entry of Unicode's list gives so many
abbrev short : List Upper → Bool
short [] = true
short (u ∷ us) = leb (length (encode_all u.capitals)) 2 && short us

short-one : (x y : Bool) (a b : List ℕ) → length a ≤ 2 → length b ≤ 2 → length (cond x a (cond y b [])) ≤ 2
short-one true y a b p q = p
short-one false true a b p q = q
short-one false false a b p q = omega arith

short-pick : (x : Bool) (a b : List ℕ) → length (encode_all a) ≤ 2 → length (encode_all b) ≤ 2 → length (encode_all (cond x a b)) ≤ 2
short-pick true a b p q = p
short-pick false a b p q = q

short_in : (us : List Upper) (c : ℕ) → short us ≡ true → length (encode_all (capitals_in us c)) ≤ 2
unfolding capitals_in encode_all
short_in [] c h = omega arith
short_in (u ∷ us) c h =
    let one = leb (length (encode_all u.capitals)) 2 in
    short-pick (eqb c u.code) u.capitals (capitals_in us c) (leb-true _ _ (and_left one (short us) h)) (short_in us c (and_right one (short us) h))

all_short : short uppers ≡ true
unfolding uppers encode_all
all_short = refl

pub capital-short : (c : ℕ) → length (capital c) ≤ 2
unfolding capital
capital-short c = short-one (ltb c 0x80) (in_table c) (flipped c ∷ []) (encode_all (capitals_in uppers c)) (omega arith) (short_in uppers c all_short)

-- What each arm of the code answers.
answers : (c : ℕ) (answer : Option Capital) → told answer ≡ capital c → is_some answer ≡ known c → Capitals c answer
answers c answer e h = record { bytes = e; most = rw e (capital-short c); heard = h }

pub ascii : (c x : ℕ) → c ≤ 0x7F → x ≡ flipped c → Capitals c (Some (One (x ∷ [])))
unfolding capital
ascii c x h e =
    let l : c < 0x80 = omega arith in
    answers _ _ (rw (lt-ltb c 0x80 l, ← e)) (rw (lt-ltb c 0x80 l))

pub latin : (c : ℕ) (bs : List ℕ) → 0x80 ≤ c → c ≤ 0xFF → bs ≡ entry_for (c - 0x80) → Capitals c (Some (Two bs))
unfolding capital
latin c bs h k e = answers _ _ (e ∙ entry_of c h ∙ rw (le-ltb c 0x80 h, le-leb 0x80 c h, le-leb c 0xFF k)) (rw (le-ltb c 0x80 h, le-leb 0x80 c h, le-leb c 0xFF k))

pub cyrillic : (c z : ℕ) → 0x400 ≤ c → c ≤ 0x45F → z ≡ cyrillic_capital c → 0x400 ≤ z → z ≤ 0x42F → Capitals c (Some (Two ((0xC0 + z / 64) ∷ (0x80 + z % 64) ∷ [])))
unfolding capital
cyrillic c z h k q lo hi =
    let a : 0x80 ≤ c = omega arith in
    let b : 0xFF < c = omega arith in
    let e : encode_all (capitals_in uppers c) ≡ (0xC0 + z / 64) ∷ (0x80 + z % 64) ∷ [] = ap encode_all (cyrillic-entries c h k ∙ ap (λ (m : ℕ). m ∷ []) (sym q)) ∙ two_bytes z lo hi in
    answers _ _ (rw (le-ltb c 0x80 a, le-leb 0x80 c a, lt-leb c 0xFF b, le-leb 0x400 c h, le-leb c 0x45F k, e)) (rw (le-ltb c 0x80 a, le-leb 0x80 c a, lt-leb c 0xFF b, le-leb 0x400 c h, le-leb c 0x45F k))

pub between : (c : ℕ) → 0xFF < c → c < 0x400 → Capitals c None
unfolding capital
between c h k =
    let a : 0x80 ≤ c = omega arith in
    answers _ _ (rw (le-ltb c 0x80 a, le-leb 0x80 c a, lt-leb c 0xFF h, lt-leb 0x400 c k)) (rw (le-ltb c 0x80 a, le-leb 0x80 c a, lt-leb c 0xFF h, lt-leb 0x400 c k))

pub beyond : (c : ℕ) → 0x45F < c → Capitals c None
unfolding capital
beyond c h =
    let a : 0x80 ≤ c = omega arith in
    let b : 0xFF < c = omega arith in
    let d : 0x400 ≤ c = omega arith in
    answers _ _ (rw (le-ltb c 0x80 a, le-leb 0x80 c a, lt-leb c 0xFF b, le-leb 0x400 c d, lt-leb c 0x45F h)) (rw (le-ltb c 0x80 a, le-leb 0x80 c a, lt-leb c 0xFF b, le-leb 0x400 c d, lt-leb c 0x45F h))
