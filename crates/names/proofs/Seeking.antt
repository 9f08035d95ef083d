-- A loop that looks for the first number of which a test holds. Assumes nothing.
use Rattle.std.specs.Prelude.{Option, Some, None, MatchOption}
use mathlib.Core.Path.{◌≡◌, refl, ap, sym, ◌∙◌}
use mathlib.Core.Bool.{Bool, true, false, cond}
use mathlib.Core.Logic.{⊎_elim}
use Prim.Native.Nat.{ℕ, zero, suc, ◌+◌, ◌<◌, ◌≤◌}
use native.Mathlib.Omega.{arith}
use native.Mathlib.Nat.{eq-or-lt_of_le}
use Rattle.names.specs.First.{first}

module _ (t : ℕ → Bool) (n o : ℕ) where
  -- the numbers from i on give the whole answer
  pub record Seek (i : ℕ) : Type 0 where
    pub since : o ≤ i
    pub fuel : ℕ
    pub left : i + fuel ≡ o + n
    pub same : first t n o ≡ first t fuel i

  pub seek-start : Seek o
  seek-start = record { since = omega arith; fuel = n; left = refl; same = refl }

  next-at : (i f : ℕ) (s : Seek i) → s.fuel ≡ f → i < o + n → t i ≡ false → Seek (i + 1)
  unfolding first
  next-at i zero s q h e = absurd (omega (arith, s.left))
  next-at i (suc f) s q h e = record { since = omega (arith, s.since); fuel = f; left = omega (arith, s.left); same = s.same ∙ ap (λ (x : ℕ). first t x i) q ∙ rw e }

  pub seek-next : (i : ℕ) → Seek i → i < o + n → t i ≡ false → Seek (i + 1)
  seek-next i s = next-at i s.fuel s refl

  found_at : (i f : ℕ) (s : Seek i) → s.fuel ≡ f → i < o + n → t i ≡ true → Some i ≡ first t n o
  unfolding first
  found_at i zero s q h e = absurd (omega (arith, s.left))
  found_at i (suc f) s q h e = sym (s.same ∙ ap (λ (x : ℕ). first t x i) q ∙ rw e)

  pub seek_found : (i : ℕ) → Seek i → i < o + n → t i ≡ true → Some i ≡ first t n o
  seek_found i s = found_at i s.fuel s refl

  pub seek-none : (i : ℕ) → Seek i → o + n ≤ i → None ≡ first t n o
  unfolding first
  seek-none i s h = let z : s.fuel ≡ 0 = omega (arith, s.left) in sym (s.same ∙ ap (λ (x : ℕ). first t x i) z)

-- what is found is one of the numbers
below_at : (t : ℕ → Bool) (f i k : ℕ) (b : Bool) → (first t f (i + 1) ≡ Some k → k < i + 1 + f) → cond b (Some i) (first t f (i + 1)) ≡ Some k → k < i + suc f
below_at t f i k true ih h = let q : i ≡ k = cc in omega arith
below_at t f i k false ih h = let l : k < i + 1 + f = ih h in omega arith

pub first_below : (t : ℕ → Bool) (f i k : ℕ) → first t f i ≡ Some k → k < i + f
unfolding first
first_below t zero i k h = absurd (let z : ◌≡◌ {A = ℕ} 0 1 = cc in omega arith)
first_below t (suc f) i k h = below_at t f i k (t i) (first_below t f (i + 1) k) h

-- where nothing is found, the test holds of none of them
none_cases : (t : ℕ → Bool) (f i : ℕ) (b : Bool) → t i ≡ b → cond b (Some i) (first t f (i + 1)) ≡ None → (t i ≡ false) × (first t f (i + 1) ≡ None)
none_cases t f i true q h = absurd (let z : ◌≡◌ {A = ℕ} 0 1 = cc in omega arith)
none_cases t f i false q h = (q, h)

pub first-none : (t : ℕ → Bool) (f i : ℕ) → first t f i ≡ None → (j : ℕ) → i ≤ j → j < i + f → t j ≡ false
unfolding first
first-none t zero i h j a b = absurd (omega arith)
first-none t (suc f) i h j a b =
    let r = none_cases t f i (t i) refl h in
    ⊎_elim (λ z. ap t (sym z) ∙ r.0) (λ z. first-none t f (i + 1) r.1 j (omega arith) (omega arith)) (eq-or-lt_of_le a)

-- and the other way
pub none_first : (t : ℕ → Bool) (f i : ℕ) → ((j : ℕ) → i ≤ j → j < i + f → t j ≡ false) → first t f i ≡ None
unfolding first
none_first t zero i h = refl
none_first t (suc f) i h = rw (h i (omega arith) (omega arith)) (none_first t f (i + 1) (λ j a b. h j (omega arith) (omega arith)))

found_from : (t : ℕ → Bool) (f i x : ℕ) → i ≤ x → x < i + f → t x ≡ true → ((k : ℕ) → i ≤ k → k < x → t k ≡ false) → Some x ≡ first t f i
unfolding first
found_from t zero i x a b e h = absurd (omega arith)
found_from t (suc f) i x a b e h =
    ⊎_elim (λ z. let e' : t i ≡ true = ap t z ∙ e in rw e' (ap (λ (k : ℕ). Some k) (sym z)))
    (λ z. rw (h i (omega arith) z) (found_from t f (i + 1) x (omega arith) (omega arith) e (λ k c d. h k (omega arith) d)))
    (eq-or-lt_of_le a)

-- a number of which the test holds, and of none before it; or of none at all: that is the answer
pub first_is : (t : ℕ → Bool) (f i e : ℕ) (r : Option ℕ) → e ≡ i + f
    → MatchOption r ((k : ℕ) → i ≤ k → k < e → t k ≡ false) (λ x. (i ≤ x) × (x < e) × (t x ≡ true) × ((k : ℕ) → i ≤ k → k < x → t k ≡ false)) → r ≡ first t f i
first_is t f i e None q h = sym (none_first t f i (λ k a b. h k a (omega arith)))
first_is t f i e (Some x) q h = found_from t f i x h.0 (omega arith) h.2 h.3
