-- A made name differs from all that is taken; the number behind it is the smallest that frees it, and bounded. Assumes nothing.
use Prim.Native.Nat.{ℕ, zero, suc, ◌+◌, ◌≤◌, ◌<◌}
use mathlib.Core.Path.{◌≡◌, refl, ap, sym, subst, ◌∙◌}
use mathlib.Core.Bool.{Bool, true, false, cond, ◌||◌, false≢true}
use mathlib.Core.List.{List, [], ◌∷◌, ◌++◌}
use lib.ListN.{length}
use lib.Dec.{ltb}
use native.Mathlib.Omega.{arith}
use borrow.Author.Tests.{ltb-true, ltb-false}
use Rattle.names.specs.Names.{same_bytes}
use Rattle.decimal.specs.Decimal.{decimal}
use Rattle.candidates.specs.Candidates.{tail_of, candidate, taken, free_from, behind, made_name}
use Rattle.spelling.proofs.Hashing.{same-list}
use Rattle.decimal.proofs.Digits.{decimal-one, decimal-some}

-- What is put behind tells the number.
tail-one : (m n : ℕ) → 1 ≤ m → 1 ≤ n → tail_of m ≡ tail_of n → m ≡ n
unfolding tail_of
tail-one m n p q e = go (ltb m 2) (ltb n 2) refl refl e
  where
    go : (a b : Bool) → ltb m 2 ≡ a → ltb n 2 ≡ b → cond a [] (decimal m) ≡ cond b [] (decimal n) → m ≡ n
    go true true x y z = let l = ltb-true m 2 x in let k = ltb-true n 2 y in omega arith
    go true false x y z = absurd (let k : 0 ≡ length (decimal n) = ap length z in omega (arith, decimal-some n))
    go false true x y z = absurd (let k : length (decimal m) ≡ 0 = ap length z in omega (arith, decimal-some m))
    go false false x y z = decimal-one m n z

cancel : (xs ys zs : List ℕ) → xs ++ ys ≡ xs ++ zs → ys ≡ zs
cancel [] ys zs e = e
cancel (x ∷ xs) ys zs e = cancel xs ys zs (cc)

pub candidate-one : (base : List ℕ) (m n : ℕ) → 1 ≤ m → 1 ≤ n → candidate base m ≡ candidate base n → m ≡ n
unfolding candidate
candidate-one base m n p q e = tail-one m n p q (cancel base (tail_of m) (tail_of n) (cc))

-- Pigeons: numbers 1, .., k that all give a taken name: k is at most the names that are taken, since each of these is given by one number at most.
module _ (base : List ℕ) where
  unfoldable hits : List ℕ → ℕ → ℕ
  hits t zero = 0
  hits t (suc k) = cond (same_bytes t (candidate base (suc k))) 1 0 + hits t k

  unfoldable total : List (List ℕ) → ℕ → ℕ
  total [] k = 0
  total (t ∷ ts) k = hits t k + total ts k

  unfoldable count_in : List (List ℕ) → List ℕ → ℕ
  count_in [] x = 0
  count_in (t ∷ ts) x = cond (same_bytes t x) 1 0 + count_in ts x

  total-suc : (ts : List (List ℕ)) (k : ℕ) → total ts (suc k) ≡ count_in ts (candidate base (suc k)) + total ts k
  unfolding total count_in hits
  total-suc [] k = refl
  total-suc (t ∷ ts) k = omega (arith, total-suc ts k)

  taken_counts : (ts : List (List ℕ)) (x : List ℕ) → taken ts x ≡ true → 1 ≤ count_in ts x
  unfolding taken count_in
  taken_counts [] x e = absurd (false≢true e)
  taken_counts (t ∷ ts) x e = go (taken_counts ts x) (same_bytes t x) e
    where
      go : (taken ts x ≡ true → 1 ≤ count_in ts x) → (b : Bool) → (b || taken ts x) ≡ true → 1 ≤ cond b 1 0 + count_in ts x
      go ih true h = omega arith
      go ih false h = omega (arith, ih h)

  all_count : (ts : List (List ℕ)) (k : ℕ) → ((j : ℕ) → 1 ≤ j → j ≤ k → taken ts (candidate base j) ≡ true) → k ≤ total ts k
  all_count ts zero h = omega arith
  all_count ts (suc k) h =
      omega (arith, total-suc ts k, taken_counts ts (candidate base (suc k)) (h (suc k) (omega arith) (omega arith)), all_count ts k (λ j a b. h j a (omega arith)))

  no_hits : (t : List ℕ) (k : ℕ) → ((j : ℕ) → 1 ≤ j → j ≤ k → same_bytes t (candidate base j) ≡ false) → hits t k ≡ 0
  unfolding hits
  no_hits t zero h = refl
  no_hits t (suc k) h = rw (h (suc k) (omega arith) (omega arith)) (omega (arith, no_hits t k (λ j a b. h j a (omega arith))))

  one_hit : (t : List ℕ) (k : ℕ) → hits t k ≤ 1
  unfolding hits
  one_hit t zero = omega arith
  one_hit t (suc k) = go (one_hit t k) (same_bytes t (candidate base (suc k))) refl
    where
      other : same_bytes t (candidate base (suc k)) ≡ true → (j : ℕ) → 1 ≤ j → j ≤ k → (b : Bool) → same_bytes t (candidate base j) ≡ b → b ≡ false
      other e j p q true h = absurd (let z : j ≡ suc k = candidate-one base j (suc k) p (omega arith) (sym (same-list t (candidate base j) h) ∙ same-list t (candidate base (suc k)) e) in omega arith)
      other e j p q false h = refl

      go : hits t k ≤ 1 → (b : Bool) → same_bytes t (candidate base (suc k)) ≡ b → cond b 1 0 + hits t k ≤ 1
      go ih true e = omega (arith, no_hits t k (λ j p q. other e j p q (same_bytes t (candidate base j)) refl))
      go ih false e = omega arith

  total-few : (ts : List (List ℕ)) (k : ℕ) → total ts k ≤ length ts
  unfolding total
  total-few [] k = omega arith
  total-few (t ∷ ts) k = omega (arith, one_hit t k, total-few ts k)

  pub pigeons : (ts : List (List ℕ)) (k : ℕ) → ((j : ℕ) → 1 ≤ j → j ≤ k → taken ts (candidate base j) ≡ true) → k ≤ length ts
  pigeons ts k h = omega (arith, all_count ts k h, total-few ts k)

-- The search.
module _ (ts : List (List ℕ)) (base : List ℕ) where
  from_low : (f n : ℕ) → n ≤ free_from ts base f n
  unfolding free_from
  from_low zero n = omega arith
  from_low (suc f) n = go (from_low f (suc n)) (taken ts (candidate base n))
    where
      go : suc n ≤ free_from ts base f (suc n) → (b : Bool) → n ≤ cond b (free_from ts base f (suc n)) n
      go ih true = omega arith
      go ih false = omega arith

  from-high : (f n : ℕ) → free_from ts base f n ≤ n + f
  unfolding free_from
  from-high zero n = omega arith
  from-high (suc f) n = go (from-high f (suc n)) (taken ts (candidate base n))
    where
      go : free_from ts base f (suc n) ≤ suc n + f → (b : Bool) → cond b (free_from ts base f (suc n)) n ≤ n + suc f
      go ih true = omega arith
      go ih false = omega arith

  -- every smaller one is taken
  smaller : (f n j : ℕ) → n ≤ j → j < free_from ts base f n → taken ts (candidate base j) ≡ true
  unfolding free_from
  smaller zero n j a b = absurd (omega arith)
  smaller (suc f) n j a b = go (smaller f (suc n) j) (taken ts (candidate base n)) refl (ltb n j) refl b
    where
      go : (suc n ≤ j → j < free_from ts base f (suc n) → taken ts (candidate base j) ≡ true) → (c : Bool) → taken ts (candidate base n) ≡ c → (l : Bool) → ltb n j ≡ l
          → j < cond c (free_from ts base f (suc n)) n → taken ts (candidate base j) ≡ true
      go ih true e true q l = let p = ltb-true n j q in ih (omega arith) l
      go ih true e false q l = let p = ltb-false n j q in let z : j ≡ n = omega arith in subst (λ (m : ℕ). taken ts (candidate base m) ≡ true) (sym z) e
      go ih false e v q l = absurd (omega arith)

  -- where it stopped before its fuel was used, it stopped at a free one
  stopped : (f n : ℕ) → free_from ts base f n < n + f → taken ts (candidate base (free_from ts base f n)) ≡ false
  unfolding free_from
  stopped zero n l = absurd (omega arith)
  stopped (suc f) n l = go (stopped f (suc n)) (taken ts (candidate base n)) refl l
    where
      go : (free_from ts base f (suc n) < suc n + f → taken ts (candidate base (free_from ts base f (suc n))) ≡ false) → (c : Bool) → taken ts (candidate base n) ≡ c
          → cond c (free_from ts base f (suc n)) n < n + suc f → taken ts (candidate base (cond c (free_from ts base f (suc n)) n)) ≡ false
      go ih true e l = ih (omega arith)
      go ih false e l = e

  -- the name with the number that `behind` gives is free
  pub frees : taken ts (made_name ts base) ≡ false
  unfolding behind
  frees = go (ltb (free_from ts base (length ts) 1) (1 + length ts)) refl
    where
      r : ℕ
      r = free_from ts base (length ts) 1

      last : (b : Bool) → taken ts (candidate base r) ≡ b → 1 + length ts ≤ r → b ≡ false
      last false e l = refl
      last true e l = absurd (omega (arith, pigeons base ts r (λ j p q. upto j p q (ltb j r) refl)))
        where
          upto : (j : ℕ) → 1 ≤ j → j ≤ r → (b : Bool) → ltb j r ≡ b → taken ts (candidate base j) ≡ true
          upto j p q true h = smaller (length ts) 1 j p (ltb-true j r h)
          upto j p q false h = let l = ltb-false j r h in let z : j ≡ r = omega arith in subst (λ (m : ℕ). taken ts (candidate base m) ≡ true) (sym z) e

      go : (b : Bool) → ltb r (1 + length ts) ≡ b → taken ts (candidate base r) ≡ false
      go true h = stopped (length ts) 1 (ltb-true r (1 + length ts) h)
      go false h = last (taken ts (candidate base r)) refl (ltb-false r (1 + length ts) h)

  -- "never more than names and bindings together plus one"
  pub bound : behind ts base ≤ 1 + length ts
  unfolding behind
  bound = from-high (length ts) 1

  pub at_least_one : 1 ≤ behind ts base
  unfolding behind
  at_least_one = from_low (length ts) 1

  -- "the smallest whole number .. that frees it": every smaller number, and the bare form (1), is taken
  pub smallest : (j : ℕ) → 1 ≤ j → j < behind ts base → taken ts (candidate base j) ≡ true
  unfolding behind
  smallest j p q = smaller (length ts) 1 j p q
