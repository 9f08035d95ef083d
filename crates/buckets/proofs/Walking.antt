-- The loop along a bucket, and what it finds of a list that is filed. Assumes nothing.
use mathlib.Core.Path.{◌≡◌, refl, sym, subst, ◌∙◌}
use mathlib.Core.List.{List, [], ◌∷◌}
use Prim.Native.Nat.{ℕ, zero, suc, ◌-◌, ◌<◌, ◌≤◌}
use mathlib.Core.Bool.{Bool, true, false, cond}
use native.Mathlib.Omega.{arith}
use borrow.Author.Tests.{eqb-true, eqb-false, ne_eqb}
use lib.Dec.{eqb}
use lib.ListN.{length, get_or}
use Rattle.buckets.specs.Search.{first_where}
use Rattle.buckets.specs.Filed.{Filed}
use Rattle.buckets.specs.Along.{along, members, Each, Last}
use Rattle.buckets.proofs.Finding.{Finding, finding_start, finding_done, finding_low, finding_next, finding_less}

-- element e of a bucket, and those before it
along_some : (befores : List ℕ) (n e : ℕ) → (e ≡ 0 → ⊥) → e ≤ n → along befores n e ≡ e ∷ along befores (n - 1) (get_or befores e 0)
unfolding along
along_some befores zero e k l = absurd (k (omega arith))
along_some befores (suc n) e k l = let z : suc n - 1 ≡ n = omega arith in rw (ne_eqb e 0 k, z)

along_none : (befores : List ℕ) (n e : ℕ) → e ≡ 0 → along befores n e ≡ []
unfolding along
along_none befores zero e z = refl
along_none befores (suc n) e z = rw z

-- The loop at element e (0: none is left): what is found from here on, where `found` was found before, is what is found of all elements.
pub record Walking (Asks : ℕ → Type 0) (Answers : ℕ → Bool → Type 0) (befores all : List ℕ) (e found : ℕ) : Type 0 where
  pub left : ℕ
  pub enough : e ≤ left
  pub falls : Each (λ i. (i < length befores) × (get_or befores i 0 < i)) (along befores left e)
  pub asks : Each Asks (along befores left e)
  pub rest : (r : ℕ) → Last Answers (along befores left e) found r → Last Answers all 0 r

pub walking_start : {Asks : ℕ → Type 0} {Answers : ℕ → Bool → Type 0} (lasts befores : List ℕ) (h : ℕ) → Each (λ i. (i < length befores) × (get_or befores i 0 < i)) (members lasts befores h) → Each Asks (members lasts befores h)
    → Walking Asks Answers befores (members lasts befores h) (get_or lasts h 0) 0
walking_start lasts befores h f a = record { left = get_or lasts h 0; enough = omega arith; falls = f; asks = a; rest = λ r w. w }

module _ {Asks : ℕ → Type 0} {Answers : ℕ → Bool → Type 0} {befores all : List ℕ} {e found : ℕ} (W : Walking Asks Answers befores all e found) where
  -- it ends
  pub walking_done : e ≡ 0 → Last Answers all 0 found
  walking_done z = W.rest found (subst (λ (es : List ℕ). Last Answers es found found) (sym (along_none befores W.left e z)) refl)

  module _ (some : e ≡ 0 → ⊥) where
    -- element e may be looked at
    pub walking_falls : (e < length befores) × (get_or befores e 0 < e)
    walking_falls = (subst (Each (λ i. (i < length befores) × (get_or befores i 0 < i))) (along_some befores W.left e some W.enough) W.falls).0

    pub walking_asks : Asks e
    walking_asks = (subst (Each Asks) (along_some befores W.left e some W.enough) W.asks).0

    -- it goes on
    pub walking_next : (t : Bool) → Answers e t → (found₁ : ℕ) → found₁ ≡ cond t e found → Walking Asks Answers befores all (get_or befores e 0) found₁
    walking_next t p found₁ g =
        let q = along_some befores W.left e some W.enough in
        let n = W.enough in
        let l = walking_falls.1 in
        record {
          left = W.left - 1;
          enough = omega arith;
          falls = (subst (Each (λ i. (i < length befores) × (get_or befores i 0 < i))) q W.falls).1;
          asks = (subst (Each Asks) q W.asks).1;
          rest = λ r w. W.rest r (subst (λ (es : List ℕ). Last Answers es found r) (sym q) (t, p, subst (λ (m : ℕ). Last Answers (along befores (W.left - 1) (get_or befores e 0)) m r) g w));
        }

-- A list that is filed: lasts and befores are its tables.
module _ {A : Type 0} {in_bucket : ℕ → A → Bool} {d : A} {last before : ℕ → ℕ} {buckets : ℕ} {xs : List A} (F : Filed in_bucket d last before buckets xs) (h : ℕ) (low : h < buckets)
    (lasts befores : List ℕ) (at_last : get_or lasts h 0 ≡ last h) (at : (e : ℕ) → get_or befores e 0 ≡ before e) where
  -- what holds of each of its elements holds of each in the bucket
  each_from : (P : ℕ → Type 0) → ((e : ℕ) → 0 < e → e ≤ length xs → get_or befores e 0 < e → P e) → (n e found : ℕ) → Finding (in_bucket h) (in_bucket h) xs e found → Each P (along befores n e)
  unfolding along
  each_from P f zero e found W = tt
  each_from P f (suc n) e found W = go (eqb e 0) refl (λ found₁. each_from P f n (get_or befores e 0) found₁)
    where
      go : (t : Bool) → eqb e 0 ≡ t → ((found₁ : ℕ) → Finding (in_bucket h) (in_bucket h) xs (get_or befores e 0) found₁ → Each P (along befores n (get_or befores e 0))) → Each P (cond t [] (e ∷ along befores n (get_or befores e 0)))
      go true z more = tt
      go false z more =
          let some = eqb-false e 0 z in
          let its = in_bucket h (get_or xs (e - 1) d) in (
            f e (omega arith) (finding_low W) (finding_less F h W some (get_or befores e 0) (at e)),
            more (cond its e found) (finding_next F h W some (get_or befores e 0) (at e) (λ r q. q) its refl (cond its e found) refl),
          )

  pub each_member : (P : ℕ → Type 0) → ((e : ℕ) → 0 < e → e ≤ length xs → get_or befores e 0 < e → P e) → Each P (members lasts befores h)
  each_member P f = each_from P f (get_or lasts h 0) (get_or lasts h 0) 0 (finding_start F (in_bucket h) h low (get_or lasts h 0) at_last)

  -- the last of them that is wanted is the first of the list, as all that is wanted is in the bucket
  module _ (wanted : A → Bool) (out_of_it : (r : A) → in_bucket h r ≡ false → wanted r ≡ false) (Answers : ℕ → Bool → Type 0)
      (answered : (e : ℕ) (t : Bool) → 0 < e → e ≤ length xs → Answers e t → t ≡ wanted (get_or xs (e - 1) d)) where
    last-from : (n e found r : ℕ) → e ≤ n → Finding wanted (in_bucket h) xs e found
        → Last Answers (along befores n e) found r → (r ≡ first_where wanted 1 xs) × (r ≤ length xs)
    unfolding along
    last-from zero e found r l W q = let k = W.found_low in (q ∙ finding_done W out_of_it (omega arith), omega (arith, q))
    last-from (suc n) e found r l W q =
        go (eqb e 0) refl (λ found₁. last-from n (get_or befores e 0) found₁ r) q
      where
        go : (t : Bool) → eqb e 0 ≡ t
            → ((found₁ : ℕ) → get_or befores e 0 ≤ n → Finding wanted (in_bucket h) xs (get_or befores e 0) found₁ → Last Answers (along befores n (get_or befores e 0)) found₁ r → (r ≡ first_where wanted 1 xs) × (r ≤ length xs))
            → Last Answers (cond t [] (e ∷ along befores n (get_or befores e 0))) found r → (r ≡ first_where wanted 1 xs) × (r ≤ length xs)
        go true z more q = let k = W.found_low in (q ∙ finding_done W out_of_it (eqb-true e 0 z), omega (arith, q))
        go false z more q =
            let some = eqb-false e 0 z in
            let less = finding_less F h W some (get_or befores e 0) (at e) in
            more (cond q.0 e found) (omega arith) (finding_next F h W some (get_or befores e 0) (at e) out_of_it q.0 (answered e q.0 (omega arith) (finding_low W) q.1) (cond q.0 e found) refl) q.2

    pub last_member : (r : ℕ) → Last Answers (members lasts befores h) 0 r → (r ≡ first_where wanted 1 xs) × (r ≤ length xs)
    last_member r = last-from (get_or lasts h 0) (get_or lasts h 0) 0 r (omega arith) (finding_start F wanted h low (get_or lasts h 0) at_last)
