-- Laws of a number's digits: a number with one digit more, how many there are, and that they tell the number. Assumes nothing.
use mathlib.Core.Path.{◌≡◌, refl, sym, ap, ◌∙◌}
use mathlib.Core.Bool.{Bool, true, false, cond}
use mathlib.Core.List.{List, [], ◌∷◌, ◌++◌}
use Prim.Native.Nat.{ℕ, zero, suc, ◌+◌, ◌*◌, ◌-◌, ◌/◌, ◌%◌, ◌≤◌, ◌<◌}
use native.Mathlib.Omega.{arith}
use lib.ListN.{length, length-append}
use lib.Dec.{ltb}
use borrow.Author.Tests.{lt-ltb, le-ltb, ltb-true, ltb-false}
use Rattle.decimal.specs.Decimal.{digits, decimal}

-- any fuel that is enough
fuel : (f g n : ℕ) → n < f → n < g → digits f n ≡ digits g n
unfolding digits
fuel zero g n h k = absurd (omega arith)
fuel (suc f) zero n h k = absurd (omega arith)
fuel (suc f) (suc g) n h k = go (λ m a b. fuel f g m a b) (ltb n 10) refl
  where
    go : ((m : ℕ) → m < f → m < g → digits f m ≡ digits g m) → (b : Bool) → ltb n 10 ≡ b → digits (suc f) n ≡ digits (suc g) n
    go ih true q = rw q
    go ih false q = let l : 10 ≤ n = ltb-false n 10 q in rw (q, ih (n / 10) (omega arith) (omega arith))

-- one digit
pub decimal-small : (n : ℕ) → n < 10 → decimal n ≡ (48 + n) ∷ []
unfolding decimal digits
decimal-small n h = rw (lt-ltb n 10 h)

-- and one more
pub decimal-more : (n : ℕ) → 10 ≤ n → decimal n ≡ decimal (n / 10) ++ ((48 + n % 10) ∷ [])
unfolding decimal digits
decimal-more n h = rw (le-ltb n 10 h, fuel n (suc (n / 10)) (n / 10) (omega arith) (omega arith))

-- ten times as large, and a digit longer
ten_more : (b k : ℕ) → 1 ≤ k → ((m : ℕ) → m < b → length (decimal m) ≤ k) → (n : ℕ) → n < 10 * b → length (decimal n) ≤ k + 1
ten_more b k z h n l = go (ltb n 10) refl
  where
    go : (t : Bool) → ltb n 10 ≡ t → length (decimal n) ≤ k + 1
    go true q = omega (arith, ap length (decimal-small n (ltb-true n 10 q)))
    go false q =
        let g : 10 ≤ n = ltb-false n 10 q in
        let i = h (n / 10) (omega arith) in
        omega (arith, ap length (decimal-more n g), length-append (decimal (n / 10)) ((48 + n % 10) ∷ []))

one_digit : (n : ℕ) → n < 10 → length (decimal n) ≤ 1
one_digit n h = omega (arith, ap length (decimal-small n h))

-- a u32 has at most ten digits
pub decimal-short : (n : ℕ) → n < 4294967296 → length (decimal n) ≤ 10
decimal-short n h =
    ten_more 1000000000 9 (omega arith) (ten_more 100000000 8 (omega arith) (ten_more 10000000 7 (omega arith) (ten_more 1000000 6 (omega arith) (ten_more 100000 5 (omega arith)
    (ten_more 10000 4 (omega arith) (ten_more 1000 3 (omega arith) (ten_more 100 2 (omega arith) (ten_more 10 1 (omega arith) one_digit)))))))) n (omega arith)

-- and at least one
pub decimal-some : (n : ℕ) → 1 ≤ length (decimal n)
decimal-some n = go (ltb n 10) refl
  where
    go : (t : Bool) → ltb n 10 ≡ t → 1 ≤ length (decimal n)
    go true q = omega (arith, ap length (decimal-small n (ltb-true n 10 q)))
    go false q = omega (arith, ap length (decimal-more n (ltb-false n 10 q)), length-append (decimal (n / 10)) ((48 + n % 10) ∷ []))

-- the number that digits make, behind those that make v
unfoldable value_from : ℕ → List ℕ → ℕ
value_from v [] = v
value_from v (c ∷ s) = value_from (v * 10 + (c - 48)) s

value_append : (v : ℕ) (xs ys : List ℕ) → value_from v (xs ++ ys) ≡ value_from (value_from v xs) ys
unfolding value_from
value_append v [] ys = refl
value_append v (x ∷ xs) ys = value_append (v * 10 + (x - 48)) xs ys

value_digits : (f n : ℕ) → n < f → value_from 0 (digits f n) ≡ n
unfolding digits value_from
value_digits zero n h = absurd (omega arith)
value_digits (suc f) n h = go (value_digits f (n / 10)) (ltb n 10) refl
  where
    go : (n / 10 < f → value_from 0 (digits f (n / 10)) ≡ n / 10) → (b : Bool) → ltb n 10 ≡ b
        → value_from 0 (cond b ((48 + n) ∷ []) (digits f (n / 10) ++ ((48 + n % 10) ∷ []))) ≡ n
    go ih true e = let l = ltb-true n 10 e in omega arith
    go ih false e =
        let l = ltb-false n 10 e in
        let i : value_from 0 (digits f (n / 10)) ≡ n / 10 = ih (omega arith) in
        rw (value_append 0 (digits f (n / 10)) ((48 + n % 10) ∷ []), i) (omega arith)

value_decimal : (n : ℕ) → value_from 0 (decimal n) ≡ n
unfolding decimal
value_decimal n = value_digits (suc n) n (omega arith)

-- two numbers with the same digits are one
pub decimal-one : (m n : ℕ) → decimal m ≡ decimal n → m ≡ n
decimal-one m n e = sym (value_decimal m) ∙ ap (value_from 0) e ∙ value_decimal n
