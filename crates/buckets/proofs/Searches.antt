-- The first and last of a list with one more at its end, and of a list with the first and last of another test. Assumes nothing.
use mathlib.Core.Path.{◌≡◌, refl, ap, sym, ◌∙◌}
use mathlib.Core.List.{List, [], ◌∷◌, ◌++◌}
use Prim.Native.Nat.{ℕ, zero, suc, ◌+◌, ◌-◌, ◌<◌, ◌≤◌}
use mathlib.Core.Bool.{Bool, true, false, cond}
use native.Mathlib.Omega.{arith}
use native.Mathlib.Nat.{add-zero}
use borrow.Author.Tests.{eqb-true, eqb-false, ne_eqb, eq-eqb}
use lib.Dec.{eqb}
use lib.ListN.{length, take, drop, get_or}
use Rattle.buckets.specs.Search.{first_where, last_where}

-- one step of the laws that say where what is found stands, and what holds of it
low_step : (x : Bool) (c m : ℕ) → (eqb m 0 ≡ false → c + 1 ≤ m) → eqb (cond x c m) 0 ≡ false → c ≤ cond x c m
low_step true c m h e = omega arith
low_step false c m h e = omega (arith, h e)

high-step : (x : Bool) (c m n : ℕ) → (eqb m 0 ≡ false → m < c + 1 + n) → eqb (cond x c m) 0 ≡ false → cond x c m < c + suc n
high-step true c m n h e = omega arith
high-step false c m n h e = omega (arith, h e)

in_step : (x y : Bool) (c m n : ℕ) → 1 ≤ c → (eqb m 0 ≡ false → (c + 1 ≤ m) × (m < c + 1 + n)) → eqb m 0 ≡ y → eqb (cond y (cond x c 0) m) 0 ≡ false
    → (c ≤ cond y (cond x c 0) m) × (cond y (cond x c 0) m < c + suc n)
in_step true true c m n l h q e = (omega arith, omega arith)
in_step false true c m n l h q e = absurd (let z : ◌≡◌ {A = ℕ} 0 1 = cc in omega arith)
in_step x false c m n l h q e = let k = h q in (omega arith, omega arith)

holds-step : {A : Type 0} (p : A → Bool) (c m : ℕ) (x : A) (xs : List A) (d : A) (y : Bool) → p x ≡ y → (eqb m 0 ≡ false → (c + 1 ≤ m) × (p (get_or xs (m - (c + 1)) d) ≡ true))
    → eqb (cond y c m) 0 ≡ false → p (get_or (x ∷ xs) (cond y c m - c) d) ≡ true
holds-step p c m x xs d true q h e = let z : c - c ≡ 0 = omega arith in rw z q
holds-step p c m x xs d false q h e = let k = h e in let s : m - c ≡ suc (m - (c + 1)) = omega arith in rw s k.1

module _ {A : Type 0} (p : A → Bool) where
  -- what is found first stands at or behind c
  pub first-low : (c : ℕ) (xs : List A) → eqb (first_where p c xs) 0 ≡ false → c ≤ first_where p c xs
  unfolding first_where
  first-low c [] e = absurd (let z : ◌≡◌ {A = ℕ} 0 1 = cc in omega arith)
  first-low c (x ∷ xs) e = low_step (p x) c (first_where p (c + 1) xs) (first-low (c + 1) xs) e

  -- and is one of them
  pub first-high : (c : ℕ) (xs : List A) → eqb (first_where p c xs) 0 ≡ false → first_where p c xs < c + length xs
  unfolding first_where
  first-high c [] e = absurd (let z : ◌≡◌ {A = ℕ} 0 1 = cc in omega arith)
  first-high c (x ∷ xs) e = high-step (p x) c (first_where p (c + 1) xs) (length xs) (first-high (c + 1) xs) e

  -- and the test holds of it
  pub first_holds : (c : ℕ) (xs : List A) (d : A) → eqb (first_where p c xs) 0 ≡ false → p (get_or xs (first_where p c xs - c) d) ≡ true
  unfolding first_where
  first_holds c [] d e = absurd (let z : ◌≡◌ {A = ℕ} 0 1 = cc in omega arith)
  first_holds c (x ∷ xs) d e = holds-step p c (first_where p (c + 1) xs) x xs d (p x) refl (λ q. (first-low (c + 1) xs q, first_holds (c + 1) xs d q)) e

  -- one more at the end
  pub first_snoc : (c : ℕ) (xs : List A) (r : A) → 1 ≤ c → first_where p c (xs ++ (r ∷ [])) ≡ cond (eqb (first_where p c xs) 0) (cond (p r) (c + length xs) 0) (first_where p c xs)
  unfolding first_where
  first_snoc c [] r l = ap (λ (m : ℕ). cond (p r) m 0) (sym (add-zero c))
  first_snoc c (x ∷ xs) r l =
      let q : c + 1 + length xs ≡ c + suc (length xs) = omega arith in
      ap (λ (m : ℕ). cond (p x) c m) (first_snoc (c + 1) xs r (omega arith)) ∙ go (p x) (first_where p (c + 1) xs) q
    where
      go : (y : Bool) (m : ℕ) → c + 1 + length xs ≡ c + suc (length xs)
          → cond y c (cond (eqb m 0) (cond (p r) (c + 1 + length xs) 0) m) ≡ cond (eqb (cond y c m) 0) (cond (p r) (c + suc (length xs)) 0) (cond y c m)
      go true m q = let n : eqb c 0 ≡ false = ne_eqb c 0 (λ w. omega arith) in rw n
      go false m q = ap (λ (e : ℕ). cond (eqb m 0) (cond (p r) e 0) m) q

  pub last_snoc : (c : ℕ) (xs : List A) (r : A) → 1 ≤ c → last_where p c (xs ++ (r ∷ [])) ≡ cond (p r) (c + length xs) (last_where p c xs)
  unfolding last_where
  last_snoc c [] r l = ap (λ (m : ℕ). cond (p r) m 0) (sym (add-zero c))
  last_snoc c (x ∷ xs) r l =
      let q : c + 1 + length xs ≡ c + suc (length xs) = omega arith in
      ap (λ (m : ℕ). cond (eqb m 0) (cond (p x) c 0) m) (last_snoc (c + 1) xs r (omega arith)) ∙ go (p r) (p x) (last_where p (c + 1) xs) q
    where
      go : (y z : Bool) (m : ℕ) → c + 1 + length xs ≡ c + suc (length xs)
          → cond (eqb (cond y (c + 1 + length xs) m) 0) (cond z c 0) (cond y (c + 1 + length xs) m) ≡ cond y (c + suc (length xs)) (cond (eqb m 0) (cond z c 0) m)
      go true z m q = let n : eqb (c + 1 + length xs) 0 ≡ false = ne_eqb (c + 1 + length xs) 0 (λ w. omega arith) in rw (n, q)
      go false z m q = refl

  -- what is found last is one of them
  pub last_in : (c : ℕ) (xs : List A) → 1 ≤ c → eqb (last_where p c xs) 0 ≡ false → (c ≤ last_where p c xs) × (last_where p c xs < c + length xs)
  unfolding last_where
  last_in c [] l e = absurd (let z : ◌≡◌ {A = ℕ} 0 1 = cc in omega arith)
  last_in c (x ∷ xs) l e = in_step (p x) (eqb (last_where p (c + 1) xs) 0) c (last_where p (c + 1) xs) (length xs) l (last_in (c + 1) xs (omega arith)) refl e

  -- there is a first exactly if there is a last
  pub none_alike : (c : ℕ) (xs : List A) → 1 ≤ c → eqb (first_where p c xs) 0 ≡ eqb (last_where p c xs) 0
  unfolding first_where last_where
  none_alike c [] l = refl
  none_alike c (x ∷ xs) l = go (p x) (first_where p (c + 1) xs) (last_where p (c + 1) xs) (none_alike (c + 1) xs (omega arith)) (eqb (last_where p (c + 1) xs) 0) refl
    where
      go : (z : Bool) (m n : ℕ) → eqb m 0 ≡ eqb n 0 → (y : Bool) → eqb n 0 ≡ y → eqb (cond z c m) 0 ≡ eqb (cond y (cond z c 0) n) 0
      go true m n q true e = refl
      go false m n q true e = q ∙ e
      go true m n q false e = ne_eqb c 0 (λ w. omega arith) ∙ sym e
      go false m n q false e = q

  -- what holds of one of them is found
  pub some-last : (c j : ℕ) (xs : List A) (d : A) → 1 ≤ c → j < length xs → p (get_or xs j d) ≡ true → eqb (last_where p c xs) 0 ≡ false
  unfolding last_where
  some-last c j [] d l h e = absurd (omega arith)
  some-last c zero (x ∷ xs) d l h e = rw e (go (eqb (last_where p (c + 1) xs) 0) refl)
    where
      go : (y : Bool) → eqb (last_where p (c + 1) xs) 0 ≡ y → eqb (cond y c (last_where p (c + 1) xs)) 0 ≡ false
      go true q = ne_eqb c 0 (λ w. omega arith)
      go false q = q
  some-last c (suc j) (x ∷ xs) d l h e = let k = some-last (c + 1) j xs d (omega arith) (omega arith) e in rw k k

  -- Of one of them: none is behind it exactly if it is the last.
  pub chain_end : (c j : ℕ) (xs : List A) (d : A) → 1 ≤ c → j < length xs → p (get_or xs j d) ≡ true
      → (first_where p (c + j + 1) (drop (suc j) xs) ≡ 0 → last_where p c xs ≡ c + j) × (last_where p c xs ≡ c + j → first_where p (c + j + 1) (drop (suc j) xs) ≡ 0)
  unfolding last_where
  chain_end c j [] d l h e = absurd (omega arith)
  chain_end c zero (x ∷ xs) d l h e =
      let q : c + 0 + 1 ≡ c + 1 = omega arith in
      let alike = none_alike (c + 1) xs (omega arith) in
      rw (e, q) ((λ z. stop (eqb (last_where p (c + 1) xs) 0) refl (sym alike ∙ eq-eqb _ _ z)), (λ z. start (eqb (last_where p (c + 1) xs) 0) refl alike z))
    where
      stop : (y : Bool) → eqb (last_where p (c + 1) xs) 0 ≡ y → eqb (last_where p (c + 1) xs) 0 ≡ true → cond y c (last_where p (c + 1) xs) ≡ c + 0
      stop true q z = sym (add-zero c)
      stop false q z = absurd (let w : ◌≡◌ {A = ℕ} 0 1 = cc in omega arith)

      start : (y : Bool) → eqb (last_where p (c + 1) xs) 0 ≡ y → eqb (first_where p (c + 1) xs) 0 ≡ eqb (last_where p (c + 1) xs) 0 → cond y c (last_where p (c + 1) xs) ≡ c + 0 → first_where p (c + 1) xs ≡ 0
      start true q a z = eqb-true _ _ (a ∙ q)
      start false q a z = absurd (let k = last_in (c + 1) xs (omega arith) q in omega arith)
  chain_end c (suc j) (x ∷ xs) d l h e =
      let k = some-last (c + 1) j xs d (omega arith) (omega arith) e in
      let q : c + suc j ≡ c + 1 + j = omega arith in
      rw (k, q) (chain_end (c + 1) j xs d (omega arith) (omega arith) e)

  -- a test that one element fails finds no more for it
  pub first-other : (c : ℕ) (xs : List A) (r : A) → 1 ≤ c → p r ≡ false → first_where p c (xs ++ (r ∷ [])) ≡ first_where p c xs
  first-other c xs r l e = first_snoc c xs r l ∙ rw e (go (eqb (first_where p c xs) 0) refl)
    where
      go : (y : Bool) → eqb (first_where p c xs) 0 ≡ y → cond y 0 (first_where p c xs) ≡ first_where p c xs
      go true q = sym (eqb-true _ _ q)
      go false q = refl

  pub last-other : (c : ℕ) (xs : List A) (r : A) → 1 ≤ c → p r ≡ false → last_where p c (xs ++ (r ∷ [])) ≡ last_where p c xs
  last-other c xs r l e = last_snoc c xs r l ∙ rw e

  -- the first one is the new one, where there was none
  pub first_new : (c : ℕ) (xs : List A) (r : A) → 1 ≤ c → p r ≡ true → first_where p c xs ≡ 0 → first_where p c (xs ++ (r ∷ [])) ≡ c + length xs
  first_new c xs r l e z = first_snoc c xs r l ∙ rw (z, e)

  -- and stays where there was one
  pub first-stays : (c : ℕ) (xs : List A) (r : A) → 1 ≤ c → eqb (first_where p c xs) 0 ≡ false → first_where p c (xs ++ (r ∷ [])) ≡ first_where p c xs
  first-stays c xs r l e = first_snoc c xs r l ∙ rw e

  pub last_new : (c : ℕ) (xs : List A) (r : A) → 1 ≤ c → p r ≡ true → last_where p c (xs ++ (r ∷ [])) ≡ c + length xs
  last_new c xs r l e = last_snoc c xs r l ∙ rw e

  -- of what is found last the test holds
  pub last-holds : (c : ℕ) (xs : List A) (d : A) → 1 ≤ c → eqb (last_where p c xs) 0 ≡ false → p (get_or xs (last_where p c xs - c) d) ≡ true
  unfolding last_where
  last-holds c [] d l e = absurd (let z : ◌≡◌ {A = ℕ} 0 1 = cc in omega arith)
  last-holds c (x ∷ xs) d l e = go (eqb (last_where p (c + 1) xs) 0) (p x) refl refl (last-holds (c + 1) xs d (omega arith)) e
    where
      go : (y z : Bool) → eqb (last_where p (c + 1) xs) 0 ≡ y → p x ≡ z → (eqb (last_where p (c + 1) xs) 0 ≡ false → p (get_or xs (last_where p (c + 1) xs - (c + 1)) d) ≡ true)
          → eqb (cond y (cond z c 0) (last_where p (c + 1) xs)) 0 ≡ false → p (get_or (x ∷ xs) (cond y (cond z c 0) (last_where p (c + 1) xs) - c) d) ≡ true
      go true true q r ih e = let z : c - c ≡ 0 = omega arith in rw z r
      go true false q r ih e = absurd (let z : ◌≡◌ {A = ℕ} 0 1 = cc in omega arith)
      go false z q r ih e =
          let k = last_in (c + 1) xs (omega arith) q in
          let s : last_where p (c + 1) xs - c ≡ suc (last_where p (c + 1) xs - (c + 1)) = omega arith in
          rw s (ih q)

-- the first of p, where it is before m, or is m, or is not there
abbrev split : {A : Type 0} → (A → Bool) → (c m : ℕ) → List A → A → ℕ
split p c m xs d = cond (eqb (first_where p c (take (m - c) xs)) 0) (cond (p (get_or xs (m - c) d)) m 0) (first_where p c (take (m - c) xs))

-- A test p that implies another, q.
module _ {A : Type 0} (p q : A → Bool) (within : (x : A) → q x ≡ false → p x ≡ false) where
  -- none of the one where there is none of the other
  pub none_within : (c : ℕ) (xs : List A) → 1 ≤ c → last_where q c xs ≡ 0 → first_where p c xs ≡ 0
  unfolding first_where last_where
  none_within c [] l z = refl
  none_within c (x ∷ xs) l z = go (eqb (last_where q (c + 1) xs) 0) refl (q x) refl z (none_within (c + 1) xs (omega arith))
    where
      go : (t : Bool) → eqb (last_where q (c + 1) xs) 0 ≡ t → (y : Bool) → q x ≡ y → cond t (cond y c 0) (last_where q (c + 1) xs) ≡ 0
          → (last_where q (c + 1) xs ≡ 0 → first_where p (c + 1) xs ≡ 0) → cond (p x) c (first_where p (c + 1) xs) ≡ 0
      go true e true y z ih = absurd (omega arith)
      go true e false y z ih = rw (within x y, ih (eqb-true _ _ e))
      go false e y yq z ih = absurd (eqb-false _ _ e z)

  -- Where the last of the other is at m: the first of the one is before it, or is it, or is not there.
  pub first-split : (c : ℕ) (xs : List A) (d : A) → 1 ≤ c → (m : ℕ) → m ≡ last_where q c xs → eqb m 0 ≡ false
      → first_where p c xs ≡ cond (eqb (first_where p c (take (m - c) xs)) 0) (cond (p (get_or xs (m - c) d)) m 0) (first_where p c (take (m - c) xs))
  unfolding first_where last_where
  first-split c [] d l m qm n = absurd (eqb-false m 0 n qm)
  first-split c (x ∷ xs) d l m qm n =
      go (eqb (last_where q (c + 1) xs) 0) refl qm (none_within (c + 1) xs (omega arith)) (first-split (c + 1) xs d (omega arith) m) (last_in q (c + 1) xs (omega arith))
    where
      here : m ≡ c → first_where p (c + 1) xs ≡ 0 → cond (p x) c (first_where p (c + 1) xs) ≡ split p c m (x ∷ xs) d
      here qc z = let s : m - c ≡ 0 = omega arith in rw (s, z, qc)

      deeper : (y : Bool) → p x ≡ y → c + 1 ≤ m → first_where p (c + 1) xs ≡ split p (c + 1) m xs d → cond (p x) c (first_where p (c + 1) xs) ≡ split p c m (x ∷ xs) d
      deeper true e lo ih = let s : m - c ≡ suc (m - (c + 1)) = omega arith in let z : eqb c 0 ≡ false = ne_eqb c 0 (λ w. omega arith) in rw (s, e, z)
      deeper false e lo ih = let s : m - c ≡ suc (m - (c + 1)) = omega arith in rw (s, e) ih

      mine : (y : Bool) → m ≡ cond y c 0 → m ≡ c
      mine true w = w
      mine false w = absurd (eqb-false m 0 n w)

      go : (t : Bool) → eqb (last_where q (c + 1) xs) 0 ≡ t → m ≡ cond t (cond (q x) c 0) (last_where q (c + 1) xs) → (last_where q (c + 1) xs ≡ 0 → first_where p (c + 1) xs ≡ 0)
          → (m ≡ last_where q (c + 1) xs → eqb m 0 ≡ false → first_where p (c + 1) xs ≡ split p (c + 1) m xs d)
          → (eqb (last_where q (c + 1) xs) 0 ≡ false → (c + 1 ≤ last_where q (c + 1) xs) × (last_where q (c + 1) xs < c + 1 + length xs))
          → cond (p x) c (first_where p (c + 1) xs) ≡ split p c m (x ∷ xs) d
      go true e e₁ none ih lo = here (mine (q x) e₁) (none (eqb-true _ _ e))
      go false e e₁ none ih lo = let k = lo e in deeper (p x) refl (omega arith) (ih e₁ n)
