-- How far the numbers behind a bare name are known to be taken. Assumes nothing.
use Prim.Native.Nat.{ℕ, ◌+◌, ◌-◌, ◌≤◌, ◌<◌}
use mathlib.Core.Path.{◌≡◌, refl, ap, sym, subst, ◌∙◌}
use mathlib.Core.Bool.{Bool, true, false}
use mathlib.Core.List.{List, [], ◌∷◌, ◌++◌, append-nil}
use native.Mathlib.Omega.{arith}
use borrow.Author.Tests.{eqb-true, eqb-false, ltb-true, ltb-false}
use lib.Dec.{eqb, ltb}
use lib.ListN.{length, get_or, set, length-append, get_or-append}
use lib.Seq.{get_or-set_same, get_or-set_other}
use Rattle.candidates.specs.Candidates.{tail_of, candidate, taken, behind}
use Rattle.candidates.proofs.Laws.{smallest}
use Rattle.buckets.specs.Search.{first_where}
use Rattle.numbers.specs.Tables.{is_text, Seeking, Reached}
use Rattle.numbers.proofs.Searching.{taken_more, taken-last, not_found, found_is, seeking_from, seeking_done}

-- the bare name tells its base
bare-one : (b c : List ℕ) → candidate b 1 ≡ candidate c 1 → b ≡ c
unfolding candidate tail_of
bare-one b c e = sym (append-nil b) ∙ (let z : b ++ [] ≡ c ++ [] = cc in z) ∙ append-nil c

-- no entry
pub reached_none : (reached : List ℕ) → ((e : ℕ) → get_or reached e 0 ≡ 0) → Reached reached []
reached_none reached z = record { fresh = λ e l. z e; passed = λ e a b base q j c d. absurd (omega arith) }

module _ {reached : List ℕ} {xs : List (List ℕ)} (R : Reached reached xs) (r : List ℕ) where
  long : length (xs ++ (r ∷ [])) ≡ length xs + 1
  long = length-append xs (r ∷ [])

  -- an entry more
  pub reached_more : Reached reached (xs ++ (r ∷ []))
  reached_more = record {
    fresh = λ e l. R.fresh e (omega (arith, long));
    passed = λ e a b base q j c d. go e a base q j c d (ltb (length xs) e) refl;
  }
    where
      go : (e : ℕ) → 0 < e → (base : List ℕ) → get_or (xs ++ (r ∷ [])) (e - 1) [] ≡ candidate base 1 → (j : ℕ) → 1 ≤ j → j ≤ get_or reached e 0 → (t : Bool) → ltb (length xs) e ≡ t → taken (xs ++ (r ∷ [])) (candidate base j) ≡ true
      go e a base q j c d true z = absurd (omega (arith, R.fresh e (ltb-true _ _ z)))
      go e a base q j c d false z =
          let l = ltb-false _ _ z in
          taken_more xs (r ∷ []) (candidate base j) (R.passed e a l base (sym (get_or-append xs (r ∷ []) [] (e - 1) (omega arith)) ∙ q) j c d)

  -- an entry more, whose base has its bare name at e: the number n is the last that is known to be taken
  pub reached_at : (e : ℕ) (base : List ℕ) → 0 < e → e ≤ length xs → e < length reached → get_or xs (e - 1) [] ≡ candidate base 1 → (n : ℕ)
      → ((j : ℕ) → 1 ≤ j → j ≤ n → taken (xs ++ (r ∷ [])) (candidate base j) ≡ true) → Reached (set reached e n) (xs ++ (r ∷ []))
  reached_at e base a b lt q n h = record {
    fresh = λ i l. get_or-set_other reached e i n 0 (λ z. omega (arith, long)) ∙ R.fresh i (omega (arith, long));
    passed = λ i c d other w j u v. go i c d other w j u v (eqb i e) refl;
  }
    where
      go : (i : ℕ) → 0 < i → i ≤ length (xs ++ (r ∷ [])) → (other : List ℕ) → get_or (xs ++ (r ∷ [])) (i - 1) [] ≡ candidate other 1 → (j : ℕ) → 1 ≤ j → j ≤ get_or (set reached e n) i 0 → (t : Bool) → eqb i e ≡ t
          → taken (xs ++ (r ∷ [])) (candidate other j) ≡ true
      go i c d other w j u v true z =
          let k : i ≡ e = eqb-true i e z in
          let m : j ≤ n = omega (arith, v, ap (λ (y : ℕ). get_or (set reached e n) y 0) k ∙ get_or-set_same reached e n 0 lt) in
          let s : base ≡ other = bare-one base other (sym q ∙ sym (get_or-append xs (r ∷ []) [] (e - 1) (omega arith)) ∙ ap (λ (y : ℕ). get_or (xs ++ (r ∷ [])) (y - 1) []) (sym k) ∙ w) in
          subst (λ (y : List ℕ). taken (xs ++ (r ∷ [])) (candidate y j) ≡ true) s (h j u m)
      go i c d other w j u v false z =
          reached_more.passed i c d other w j u (omega (arith, v, get_or-set_other reached e i n 0 (λ y. eqb-false i e z y)))

-- the numbers up to the one that frees a base are taken once it is
pub upto-behind : (xs : List (List ℕ)) (base : List ℕ) (n : ℕ) → n ≡ behind xs base → (j : ℕ) → 1 ≤ j → j ≤ n → taken (xs ++ (candidate base n ∷ [])) (candidate base j) ≡ true
upto-behind xs base n q j a b = go (ltb j n) refl
  where
    go : (t : Bool) → ltb j n ≡ t → taken (xs ++ (candidate base n ∷ [])) (candidate base j) ≡ true
    go true e = taken_more xs (candidate base n ∷ []) (candidate base j) (smallest xs base j a (let l = ltb-true j n e in omega (arith, q)))
    go false e = let l = ltb-false j n e in let k : j ≡ n = omega arith in subst (λ (m : ℕ). taken (xs ++ (candidate base n ∷ [])) (candidate base m) ≡ true) (sym k) (taken-last xs (candidate base n))

-- The bare name of a base was looked for among the entries.
module _ {reached : List ℕ} {ts : List (List ℕ)} (R : Reached reached ts) (base : List ℕ) {bare : ℕ} (q : bare ≡ first_where (is_text (candidate base 1)) 1 ts) where
  -- it is free
  pub chosen_bare : bare ≡ 0 → 1 ≡ behind ts base
  chosen_bare z = seeking_done (seeking_from 0 (λ j a b. absurd (omega arith))) (not_found (candidate base 1) ts bare q z)

  module _ (some : bare ≡ 0 → ⊥) (low : bare ≤ length ts) where
    its-name : get_or ts (bare - 1) [] ≡ candidate base 1
    its-name = found_is (candidate base 1) ts bare q some

    -- it is taken: the search goes on where the last one ended
    pub seeks-on : Seeking ts base (get_or reached bare 0 + 1)
    seeks-on = seeking_from (get_or reached bare 0) (λ j a b. R.passed bare (omega arith) low base its-name j a b)

    pub chosen-later : bare < length reached → (n : ℕ) → n ≡ behind ts base → Reached (set reached bare n) (ts ++ (candidate base n ∷ []))
    chosen-later l n e = reached_at R (candidate base n) bare base (omega arith) low l its-name n (upto-behind ts base n e)
