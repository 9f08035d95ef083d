-- A rule of a range of numbers, as of the places of a table, proved at each of them by one test that antt computes, one number after the other. Assumes nothing.
use mathlib.Core.Path.{◌≡◌, refl, ◌∙◌, ap, sym}
use mathlib.Core.Bool.{Bool, true, false, ◌&&◌, false≢true}
use mathlib.Core.List.{List, [], ◌∷◌}
use Prim.Native.Nat.{ℕ, zero, suc, ◌+◌, ◌-◌, ◌<◌, ◌≤◌}
use native.Mathlib.Nat.{add-zero, add-suc, suc-add, le_of_suc-le-suc, not-suc-le-zero}
use native.Mathlib.Omega.{arith}
use borrow.Author.Tests.{eqb-true}
use lib.Dec.{eqb}
use Rattle.names.proofs.Bools.{and_left, and_right}

-- the test f passes at each of the n numbers from i on
abbrev pub every : (ℕ → Bool) → ℕ → ℕ → Bool
every f i zero = true
every f i (suc n) = f i && every f (suc i) n

from : (f : ℕ → Bool) (i n : ℕ) → every f i n ≡ true → (k : ℕ) → k < n → f (i + k) ≡ true
from f i zero t k h = absurd (not-suc-le-zero h)
from f i (suc n) t zero h = ap f (add-zero i) ∙ and_left (f i) (every f (suc i) n) t
from f i (suc n) t (suc k) h = ap f (add-suc i k ∙ sym (suc-add i k)) ∙ from f (suc i) n (and_right (f i) (every f (suc i) n) t) k (le_of_suc-le-suc h)

-- the law: a test that passes over the whole range holds at each of its numbers
pub at : (f : ℕ → Bool) (i n : ℕ) → every f i n ≡ true → (c : ℕ) → i ≤ c → c < i + n → f c ≡ true
at f i n t c a b =
    let e : c ≡ i + (c - i) = omega arith in
    ap f e ∙ from f i n t (c - i) (omega arith)

-- two lists of numbers are the same, as a test
abbrev pub same : List ℕ → List ℕ → Bool
same [] [] = true
same [] (y ∷ ys) = false
same (x ∷ xs) [] = false
same (x ∷ xs) (y ∷ ys) = eqb x y && same xs ys

cons : (x y : ℕ) (xs ys : List ℕ) → x ≡ y → xs ≡ ys → ◌≡◌ {A = List ℕ} (x ∷ xs) (y ∷ ys)
cons x y xs ys p q = cc

pub same-eq : (xs ys : List ℕ) → same xs ys ≡ true → xs ≡ ys
same-eq [] [] t = refl
same-eq [] (y ∷ ys) t = absurd (false≢true t)
same-eq (x ∷ xs) [] t = absurd (false≢true t)
same-eq (x ∷ xs) (y ∷ ys) t = cons x y xs ys (eqb-true x y (and_left (eqb x y) (same xs ys) t)) (same-eq xs ys (and_right (eqb x y) (same xs ys) t))
