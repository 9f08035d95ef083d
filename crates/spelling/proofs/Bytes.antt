-- Names by their bytes. Assumes nothing.
use mathlib.Core.Path.{◌≡◌, refl, ap, sym, ◌∙◌}
use mathlib.Core.Bool.{Bool, true, false, cond, ◌&&◌}
use mathlib.Core.List.{List, [], ◌∷◌}
use Prim.Native.Nat.{ℕ, zero, suc, ◌+◌, ◌*◌, ◌-◌, ◌≤◌, ◌<◌}
use native.Mathlib.Omega.{arith}
use lib.Dec.{eqb, ltb, leb}
use lib.Pointwise.{pointwise}
use lib.ListN.{length, take, drop, get_or}
use borrow.Author.Tests.{ltb-true, leb-true, leb-false, ltb-false, ne_eqb}
use Rattle.names.specs.Words.{words, names_in}
use Rattle.names.specs.Names.{start_of, length_of, bytes_of, same_bytes}
use Rattle.names.proofs.Bools.{and_left, and_right}
use Rattle.spelling.specs.Spelling.{is_name}

-- what the library's comparison of two slices says
pub same-eq : (xs ys : List ℕ) → pointwise eqb xs ys ≡ same_bytes xs ys
unfolding same_bytes
same-eq [] [] = refl
same-eq [] (y ∷ ys) = refl
same-eq (x ∷ xs) [] = refl
same-eq (x ∷ xs) (y ∷ ys) = ap (λ (b : Bool). eqb x y && b) (same-eq xs ys)

-- A number that is no name has no bytes.
words-past : (s : List ℕ) (k : ℕ) → length s < 4 * k + 4 → get_or (words s) k 0 ≡ 0
unfolding words
words-past [] k h = refl
words-past (a ∷ []) k h = refl
words-past (a ∷ b ∷ []) k h = refl
words-past (a ∷ b ∷ c ∷ []) k h = refl
words-past (a ∷ b ∷ c ∷ d ∷ r) zero h = absurd (omega arith)
words-past (a ∷ b ∷ c ∷ d ∷ r) (suc k) h = words-past r k (omega arith)

past-none : (names text : List ℕ) (k : ℕ) (b : Bool) → names_in names < k → cond b [] (take (length_of names k) (drop (start_of names k) text)) ≡ []
past-none names text k true h = refl
past-none names text k false h = rw (words-past names (2 * (k - 1) + 1) (omega arith))

none_cases : (names text : List ℕ) (k : ℕ) (x y : Bool) → ltb 0 k ≡ x → leb k (names_in names) ≡ y → (x && y) ≡ false → bytes_of names text k ≡ []
unfolding bytes_of
none_cases names text k false y p q h = let z : k ≡ 0 = omega (arith, ltb-false 0 k p) in rw z
none_cases names text k true false p q h = past-none names text k (eqb k 0) (leb-false k (names_in names) q)
none_cases names text k true true p q h = absurd (let z : ◌≡◌ {A = ℕ} 0 1 = cc in omega arith)

pub no_bytes : (names text : List ℕ) (k : ℕ) → is_name names k ≡ false → bytes_of names text k ≡ []
no_bytes names text k h = none_cases names text k (ltb 0 k) (leb k (names_in names)) refl refl h

-- the number of a name
pub is_some : (names : List ℕ) (k : ℕ) → is_name names k ≡ true → (0 < k) × (k ≤ names_in names)
is_some names k h = (ltb-true 0 k (and_left (ltb 0 k) (leb k (names_in names)) h), leb-true k (names_in names) (and_right (ltb 0 k) (leb k (names_in names)) h))

-- the part of the text from a to b, where a and b are what the code read
pub its_bytes : (names text : List ℕ) (k a b n : ℕ) → is_name names k ≡ true → a ≡ start_of names k → n ≡ length_of names k → b ≡ a + n → take (b - a) (drop a text) ≡ bytes_of names text k
unfolding bytes_of
its_bytes names text k a b n h qa qn qb =
    let s = is_some names k h in
    let d : b - a ≡ n = omega arith in
    rw (d, qa, qn, ne_eqb k 0 (λ z. omega (arith, s.0)))

-- and where b is the code's word for it that k is a name's number
pub bytes_by : (names : List ℕ) (k : ℕ) {b : Bool} → b ≡ is_name names k → b ≡ true → {a n : ℕ} (text : List ℕ) → a ≡ start_of names k → n ≡ length_of names k → take (a + n - a) (drop a text) ≡ bytes_of names text k
bytes_by names k {b} p q {a} {n} text qa qn = its_bytes names text k a (a + n) n (sym p ∙ q) qa qn refl
