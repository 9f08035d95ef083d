-- The tables by buckets: none, an element more in its bucket, and elements that are in no bucket. Assumes nothing.
use mathlib.Core.Path.{◌≡◌, refl, ap, sym, subst, ◌∙◌}
use mathlib.Core.List.{List, [], ◌∷◌, ◌++◌}
use Prim.Native.Nat.{ℕ, zero, suc, ◌+◌, ◌-◌, ◌<◌, ◌≤◌}
use mathlib.Core.Bool.{Bool, true, false, cond, true≢false}
use native.Mathlib.Omega.{arith}
use borrow.Author.Tests.{eqb-true, eqb-false, ltb-true, ltb-false}
use lib.Dec.{eqb, ltb}
use lib.ListN.{length, take, get_or, length-append, get_or-append}
use lib.Seq.{get_or-append-add, take-append-le, take-append_seam}
use Rattle.buckets.specs.Search.{last_where}
use Rattle.buckets.specs.Filed.{Filed}
use Rattle.buckets.proofs.Searches.{last-other, last_new}

-- no elements: a table of zeros by bucket, and any table by element
pub filed_none : {A : Type 0} {in_bucket : ℕ → A → Bool} {d : A} {last before : ℕ → ℕ} {buckets : ℕ} → ((h : ℕ) → h < buckets → last h ≡ 0) → Filed in_bucket d last before buckets []
unfolding last_where
filed_none z = record { lasts = z; befores = λ h b p l e. absurd (omega arith) }

-- elements that are in no bucket
abbrev pub Outside : {A : Type 0} → (ℕ → A → Bool) → List A → Type 0
Outside in_bucket [] = Unit {0}
Outside in_bucket (r ∷ rs) = ((h : ℕ) → in_bucket h r ≡ false) × Outside in_bucket rs

module _ {A : Type 0} (in_bucket : ℕ → A → Bool) (d : A) (h : ℕ) where
  none_last : (c : ℕ) (rs : List A) → Outside in_bucket rs → last_where (in_bucket h) c rs ≡ 0
  unfolding last_where
  none_last c [] o = refl
  none_last c (r ∷ rs) o = rw (none_last (c + 1) rs o.1, o.0 h)

  last_more : (c : ℕ) (xs rs : List A) → Outside in_bucket rs → last_where (in_bucket h) c (xs ++ rs) ≡ last_where (in_bucket h) c xs
  unfolding last_where
  last_more c [] rs o = none_last c rs o
  last_more c (x ∷ xs) rs o = ap (λ (m : ℕ). cond (eqb m 0) (cond (in_bucket h x) c 0) m) (last_more (c + 1) xs rs o)

  -- past the old elements none is in a bucket
  none-past : (xs rs : List A) (j : ℕ) → Outside in_bucket rs → length xs ≤ j → j < length (xs ++ rs) → in_bucket h (get_or (xs ++ rs) j d) ≡ false
  none-past [] [] j o l k = absurd (omega arith)
  none-past [] (r ∷ rs) zero o l k = o.0 h
  none-past [] (r ∷ rs) (suc j) o l k = none-past [] rs j o.1 (omega arith) (omega arith)
  none-past (x ∷ xs) rs zero o l k = absurd (omega arith)
  none-past (x ∷ xs) rs (suc j) o l k = none-past xs rs j o (omega arith) (omega arith)

module _ {A : Type 0} {in_bucket : ℕ → A → Bool} {d : A} {last before : ℕ → ℕ} {buckets : ℕ} {xs : List A} (F : Filed in_bucket d last before buckets xs) where
  -- of an old element the table by element is right, however the list goes on
  old_before : (rs : List A) (h b : ℕ) → 0 < b → b ≤ length xs → in_bucket h (get_or (xs ++ rs) (b - 1) d) ≡ true → before b ≡ last_where (in_bucket h) 1 (take (b - 1) (xs ++ rs))
  old_before rs h b p l e =
      F.befores h b p l (sym (ap (in_bucket h) (get_or-append xs rs d (b - 1) (omega arith))) ∙ e)
      ∙ sym (ap (last_where (in_bucket h) 1) (take-append-le (b - 1) xs rs (omega arith)))

  -- elements that are in no bucket change nothing
  pub filed_more : (rs : List A) → Outside in_bucket rs → Filed in_bucket d last before buckets (xs ++ rs)
  filed_more rs o = record { lasts = λ h l. F.lasts h l ∙ sym (last_more in_bucket d h 1 xs rs o); befores = λ h b p l e. go h b p l e (ltb (length xs) b) refl }
    where
      go : (h b : ℕ) → 0 < b → b ≤ length (xs ++ rs) → in_bucket h (get_or (xs ++ rs) (b - 1) d) ≡ true → (t : Bool) → ltb (length xs) b ≡ t
          → before b ≡ last_where (in_bucket h) 1 (take (b - 1) (xs ++ rs))
      go h b p k e true z = let l = ltb-true (length xs) b z in absurd (true≢false (sym e ∙ none-past in_bucket d h xs rs (b - 1) o (omega arith) (omega arith)))
      go h b p k e false z = old_before rs h b p (ltb-false (length xs) b z) e

  -- One element more, r, number b, in its bucket h and in no other: it is the bucket's last, and the one before it is what was the last.
  module _ (r : A) (h b : ℕ) (count : length xs + 1 ≡ b) (hl : h < buckets) (mine : in_bucket h r ≡ true) (its : (g : ℕ) → in_bucket g r ≡ true → h ≡ g) (last' before' : ℕ → ℕ) (now : last' h ≡ b)
      (others : (g : ℕ) → g < buckets → (h ≡ g → ⊥) → last' g ≡ last g) (link : before' b ≡ last h) (old : (j : ℕ) → j ≤ length xs → before' j ≡ before j) where
    not_there : (g : ℕ) → (h ≡ g → ⊥) → in_bucket g r ≡ false
    not_there g n = go (in_bucket g r) refl
      where
        go : (t : Bool) → in_bucket g r ≡ t → t ≡ false
        go true z = absurd (n (its g z))
        go false z = refl

    new-last : (g : ℕ) → g < buckets → (t : Bool) → eqb h g ≡ t → last' g ≡ last_where (in_bucket g) 1 (xs ++ (r ∷ []))
    new-last g l true z =
        let n : b ≡ 1 + length xs = omega arith in
        subst (λ (k : ℕ). last' k ≡ last_where (in_bucket k) 1 (xs ++ (r ∷ []))) (eqb-true h g z) (now ∙ n ∙ sym (last_new (in_bucket h) 1 xs r (omega arith) mine))
    new-last g l false z = let n = eqb-false h g z in others g l n ∙ F.lasts g l ∙ sym (last-other (in_bucket g) 1 xs r (omega arith) (not_there g n))

    new-before : (g j : ℕ) → j ≡ b → in_bucket g (get_or (xs ++ (r ∷ [])) (j - 1) d) ≡ true → before' j ≡ last_where (in_bucket g) 1 (take (j - 1) (xs ++ (r ∷ [])))
    new-before g j q e =
        let s : j - 1 ≡ length xs = omega arith in
        let s₀ : j - 1 ≡ length xs + 0 = omega arith in
        let w : h ≡ g = its g (sym (ap (in_bucket g) (ap (λ (m : ℕ). get_or (xs ++ (r ∷ [])) m d) s₀ ∙ get_or-append-add xs (r ∷ []) 0 d)) ∙ e) in
        ap before' q ∙ link ∙ F.lasts h hl ∙ ap (λ (m : ℕ). last_where (in_bucket m) 1 xs) w
        ∙ sym (ap (last_where (in_bucket g) 1) (ap (λ (m : ℕ). take m (xs ++ (r ∷ []))) s ∙ take-append_seam xs (r ∷ [])))

    pub filed_new : Filed in_bucket d last' before' buckets (xs ++ (r ∷ []))
    filed_new = record { lasts = λ g l. new-last g l (eqb h g) refl; befores = λ g j p l e. go g j p l e (ltb (length xs) j) refl }
      where
        go : (g j : ℕ) → 0 < j → j ≤ length (xs ++ (r ∷ [])) → in_bucket g (get_or (xs ++ (r ∷ [])) (j - 1) d) ≡ true → (t : Bool) → ltb (length xs) j ≡ t
            → before' j ≡ last_where (in_bucket g) 1 (take (j - 1) (xs ++ (r ∷ [])))
        go g j p k e true z = let l = ltb-true (length xs) j z in new-before g j (omega (arith, length-append xs (r ∷ []))) e
        go g j p k e false z = let l = ltb-false (length xs) j z in old j l ∙ old_before (r ∷ []) g j p l e
