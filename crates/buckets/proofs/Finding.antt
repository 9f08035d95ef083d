-- An element, looked for along its bucket from the last to the first. Assumes nothing.
use mathlib.Core.Path.{◌≡◌, refl, ap, sym, ◌∙◌}
use mathlib.Core.List.{List}
use Prim.Native.Nat.{ℕ, ◌-◌, ◌<◌, ◌≤◌}
use mathlib.Core.Bool.{Bool, true, false, cond}
use native.Mathlib.Omega.{arith}
use borrow.Author.Tests.{eqb-true, ne_eqb}
use lib.Dec.{eqb}
use lib.ListN.{length, take, get_or}
use lib.Seq.{take-length, take-take, get_or-take, length-take-le}
use Rattle.buckets.specs.Search.{first_where, last_where}
use Rattle.buckets.specs.Filed.{Filed}
use Rattle.buckets.proofs.Searches.{last_in, last-holds, none_within, first-split}

-- The loop, at element b of the bucket (0: none is left): what is looked for is among the first `left` elements, or is what was found.
pub record Finding {A : Type 0} (wanted bucketed : A → Bool) (xs : List A) (b found : ℕ) : Type 0 where
  pub left : ℕ
  pub in_list : left ≤ length xs
  pub same : first_where wanted 1 xs ≡ cond (eqb (first_where wanted 1 (take left xs)) 0) found (first_where wanted 1 (take left xs))
  pub next : b ≡ last_where bucketed 1 (take left xs)
  pub found_low : found ≤ length xs

unless : (m : ℕ) → m ≡ cond (eqb m 0) 0 m
unless m = go (eqb m 0) refl
  where
    go : (t : Bool) → eqb m 0 ≡ t → m ≡ cond t 0 m
    go true z = eqb-true m 0 z
    go false z = refl

-- it begins at the bucket's last element, with nothing found
pub finding_start : {A : Type 0} {in_bucket : ℕ → A → Bool} {d : A} {last before : ℕ → ℕ} {buckets : ℕ} {xs : List A} (F : Filed in_bucket d last before buckets xs) (wanted : A → Bool) (h : ℕ) → h < buckets
    → (b : ℕ) → b ≡ last h → Finding wanted (in_bucket h) xs b 0
finding_start {A} {in_bucket} {d} {last} {before} {buckets} {xs} F wanted h l b e = record {
  left = length xs;
  in_list = omega arith;
  same = unless (first_where wanted 1 xs) ∙ sym (ap (λ (ys : List A). cond (eqb (first_where wanted 1 ys) 0) 0 (first_where wanted 1 ys)) (take-length xs));
  next = e ∙ F.lasts h l ∙ sym (ap (last_where (in_bucket h) 1) (take-length xs));
  found_low = omega arith;
}

module _ {A : Type 0} {wanted bucketed : A → Bool} {xs : List A} {b found : ℕ} (W : Finding wanted bucketed xs b found) where
  -- it ends at 0: what is wanted is in the bucket
  pub finding_done : ((r : A) → bucketed r ≡ false → wanted r ≡ false) → b ≡ 0 → found ≡ first_where wanted 1 xs
  finding_done out_of_it z =
      let n : first_where wanted 1 (take W.left xs) ≡ 0 = none_within wanted bucketed out_of_it 1 (take W.left xs) (omega arith) (sym W.next ∙ z) in
      sym (W.same ∙ rw n)

  within : eqb b 0 ≡ false → (1 ≤ b) × (b ≤ W.left)
  within z =
      let k = last_in bucketed 1 (take W.left xs) (omega arith) (sym (ap (λ (m : ℕ). eqb m 0) W.next) ∙ z) in
      (omega (arith, W.next), omega (arith, W.next, length-take-le W.left xs W.in_list))

  -- it is at an element, or at 0
  pub finding_low : b ≤ length xs
  finding_low = go (eqb b 0) refl
    where
      go : (t : Bool) → eqb b 0 ≡ t → b ≤ length xs
      go true z = let k = eqb-true b 0 z in omega arith
      go false z = let k = within z in omega (arith, W.in_list)

  its_bucket : (d : A) → eqb b 0 ≡ false → bucketed (get_or xs (b - 1) d) ≡ true
  its_bucket d z =
      let k = within z in
      sym (ap bucketed (get_or-take W.left xs (b - 1) d (omega arith)))
      ∙ ap (λ (m : ℕ). bucketed (get_or (take W.left xs) (m - 1) d)) W.next
      ∙ last-holds bucketed 1 (take W.left xs) d (omega arith) (sym (ap (λ (m : ℕ). eqb m 0) W.next) ∙ z)

  -- the first of what is left, by the element that the loop is at
  halves : ((r : A) → bucketed r ≡ false → wanted r ≡ false) → (d : A) → eqb b 0 ≡ false
      → first_where wanted 1 (take W.left xs) ≡ cond (eqb (first_where wanted 1 (take (b - 1) xs)) 0) (cond (wanted (get_or xs (b - 1) d)) b 0) (first_where wanted 1 (take (b - 1) xs))
  halves out_of_it d z =
      let k = within z in
      first-split wanted bucketed out_of_it 1 (take W.left xs) d (omega arith) b W.next z
      ∙ ap (λ (ys : List A). cond (eqb (first_where wanted 1 ys) 0) (cond (wanted (get_or (take W.left xs) (b - 1) d)) b 0) (first_where wanted 1 ys)) (take-take (b - 1) W.left xs (omega arith))
      ∙ ap (λ (r : A). cond (eqb (first_where wanted 1 (take (b - 1) xs)) 0) (cond (wanted r) b 0) (first_where wanted 1 (take (b - 1) xs))) (get_or-take W.left xs (b - 1) d (omega arith))

join : (m g found : ℕ) (t : Bool) → eqb m 0 ≡ false → (y : Bool) → eqb g 0 ≡ y → cond (eqb (cond y (cond t m 0) g) 0) found (cond y (cond t m 0) g) ≡ cond y (cond t m found) g
join m g found true e true z = rw e
join m g found false e true z = refl
join m g found t e false z = rw z

-- The loop at element b goes on to the one before it in its bucket, h.
module _ {A : Type 0} {in_bucket : ℕ → A → Bool} {d : A} {last before : ℕ → ℕ} {buckets : ℕ} {xs : List A} (F : Filed in_bucket d last before buckets xs) {wanted : A → Bool} (h : ℕ) {b found : ℕ}
    (W : Finding wanted (in_bucket h) xs b found) (some : b ≡ 0 → ⊥) (b₁ : ℕ) (e : b₁ ≡ before b) where
  nz : eqb b 0 ≡ false
  nz = ne_eqb b 0 some

  next₁ : b₁ ≡ last_where (in_bucket h) 1 (take (b - 1) xs)
  next₁ = let k = within W nz in e ∙ F.befores h b (omega arith) (omega (arith, W.in_list)) (its_bucket W d nz)

  -- the first of what is wanted among the elements before b
  abbrev F₀ : ℕ
  F₀ = first_where wanted 1 (take (b - 1) xs)

  pub finding_next : ((r : A) → in_bucket h r ≡ false → wanted r ≡ false) → (t : Bool) → t ≡ wanted (get_or xs (b - 1) d) → (found₁ : ℕ) → found₁ ≡ cond t b found → Finding wanted (in_bucket h) xs b₁ found₁
  finding_next out_of_it t tq found₁ g = record {
    left = b - 1;
    in_list = let k = within W nz in omega (arith, W.in_list);
    same = W.same ∙ ap (λ (m : ℕ). cond (eqb m 0) found m) (halves W out_of_it d nz) ∙ join b F₀ found (wanted (get_or xs (b - 1) d)) nz (eqb F₀ 0) refl
        ∙ sym (ap (λ (m : ℕ). cond (eqb F₀ 0) m F₀) (g ∙ ap (λ (y : Bool). cond y b found) tq));
    next = next₁;
    found_low = go t g;
  }
    where
      go : (y : Bool) → found₁ ≡ cond y b found → found₁ ≤ length xs
      go true w = let k = within W nz in omega (arith, W.in_list)
      go false w = omega (arith, W.found_low)

  -- the loop ends
  pub finding_less : b₁ < b
  finding_less = go (eqb b₁ 0) refl
    where
      go : (y : Bool) → eqb b₁ 0 ≡ y → b₁ < b
      go true z = let k = eqb-true b₁ 0 z in let w = within W nz in omega arith
      go false z =
          let k = last_in (in_bucket h) 1 (take (b - 1) xs) (omega arith) (sym (ap (λ (m : ℕ). eqb m 0) next₁) ∙ z) in
          let w = within W nz in
          omega (arith, next₁, W.in_list, length-take-le (b - 1) xs (omega (arith, W.in_list)))
