-- The search for the number that frees a base. Assumes nothing.
use Prim.Native.Nat.{ℕ, ◌+◌, ◌-◌, ◌≤◌}
use mathlib.Core.Path.{◌≡◌, refl, ap, sym, subst, ◌∙◌}
use mathlib.Core.Bool.{Bool, true, false, cond, ◌||◌, not, true≢false, false≢true}
use mathlib.Core.List.{List, [], ◌∷◌, ◌++◌}
use native.Mathlib.Omega.{arith}
use borrow.Author.Tests.{ne_eqb, eq-eqb, ltb-true, ltb-false}
use lib.Dec.{eqb, ltb}
use lib.ListN.{get_or}
use Rattle.names.specs.Names.{same_bytes}
use Rattle.buckets.specs.Search.{first_where}
use Rattle.buckets.proofs.Searches.{first_holds}
use Rattle.candidates.specs.Candidates.{candidate, taken, behind}
use Rattle.numbers.specs.Tables.{is_text, Seeking}
use Rattle.candidates.proofs.Laws.{frees, smallest, pigeons, at_least_one}
use Rattle.spelling.proofs.Hashing.{same-list, same_self}

-- what is taken is found, and what is found is taken
pub taken_found : (x : List ℕ) (c : ℕ) (ts : List (List ℕ)) → 1 ≤ c → taken ts x ≡ not (eqb (first_where (is_text x) c ts) 0)
unfolding taken first_where
taken_found x c [] l = refl
taken_found x c (t ∷ ts) l = go (same_bytes t x) (taken_found x (c + 1) ts (omega arith))
  where
    go : (b : Bool) → taken ts x ≡ not (eqb (first_where (is_text x) (c + 1) ts) 0) → (b || taken ts x) ≡ not (eqb (cond b c (first_where (is_text x) (c + 1) ts)) 0)
    go true ih = sym (ap not (ne_eqb c 0 (λ z. omega arith)))
    go false ih = ih

pub not_found : (x : List ℕ) (ts : List (List ℕ)) (r : ℕ) → r ≡ first_where (is_text x) 1 ts → r ≡ 0 → taken ts x ≡ false
not_found x ts r q z = taken_found x 1 ts (omega arith) ∙ ap not (eq-eqb (first_where (is_text x) 1 ts) 0 (sym q ∙ z))

pub is_found : (x : List ℕ) (ts : List (List ℕ)) (r : ℕ) → r ≡ first_where (is_text x) 1 ts → (r ≡ 0 → ⊥) → taken ts x ≡ true
is_found x ts r q n = taken_found x 1 ts (omega arith) ∙ ap not (ne_eqb (first_where (is_text x) 1 ts) 0 (λ z. n (q ∙ z)))

-- what was found at r is x
pub found_is : (x : List ℕ) (ts : List (List ℕ)) (r : ℕ) → r ≡ first_where (is_text x) 1 ts → (r ≡ 0 → ⊥) → get_or ts (r - 1) [] ≡ x
found_is x ts r q n =
    same-list (get_or ts (r - 1) []) x
    (ap (λ (m : ℕ). same_bytes (get_or ts (m - 1) []) x) q ∙ first_holds (is_text x) 1 ts [] (ne_eqb (first_where (is_text x) 1 ts) 0 (λ z. n (q ∙ z))))

-- more entries take no less
pub taken_more : (ts rs : List (List ℕ)) (x : List ℕ) → taken ts x ≡ true → taken (ts ++ rs) x ≡ true
unfolding taken
taken_more [] rs x h = absurd (false≢true h)
taken_more (t ∷ ts) rs x h = go (same_bytes t x) h (taken_more ts rs x)
  where
    go : (b : Bool) → (b || taken ts x) ≡ true → (taken ts x ≡ true → taken (ts ++ rs) x ≡ true) → (b || taken (ts ++ rs) x) ≡ true
    go true h ih = refl
    go false h ih = ih h

pub taken-last : (ts : List (List ℕ)) (x : List ℕ) → taken (ts ++ (x ∷ [])) x ≡ true
unfolding taken
taken-last [] x = rw (same_self x)
taken-last (t ∷ ts) x = go (same_bytes t x) (taken-last ts x)
  where
    go : (b : Bool) → taken (ts ++ (x ∷ [])) x ≡ true → (b || taken (ts ++ (x ∷ [])) x) ≡ true
    go true ih = refl
    go false ih = ih

-- The search, from number to number.
module _ {ts : List (List ℕ)} {base : List ℕ} where
  pub seeking_from : (g : ℕ) → ((j : ℕ) → 1 ≤ j → j ≤ g → taken ts (candidate base j) ≡ true) → Seeking ts base (g + 1)
  seeking_from g h = record { low = omega arith; high = omega (arith, pigeons base ts g h); before = λ j a b. h j a (omega arith) }

  pub seeking_next : {n : ℕ} → Seeking ts base n → taken ts (candidate base n) ≡ true → Seeking ts base (n + 1)
  seeking_next {n} s t = seeking_from n upto
    where
      upto : (j : ℕ) → 1 ≤ j → j ≤ n → taken ts (candidate base j) ≡ true
      upto j a b = go (ltb j n) refl
        where
          go : (x : Bool) → ltb j n ≡ x → taken ts (candidate base j) ≡ true
          go true e = s.before j a (ltb-true j n e)
          go false e = let l = ltb-false j n e in let q : j ≡ n = omega arith in subst (λ (m : ℕ). taken ts (candidate base m) ≡ true) (sym q) t

  pub seeking_done : {n : ℕ} → Seeking ts base n → taken ts (candidate base n) ≡ false → n ≡ behind ts base
  seeking_done {n} s f = go (ltb n (behind ts base)) refl (ltb (behind ts base) n) refl
    where
      go : (x : Bool) → ltb n (behind ts base) ≡ x → (y : Bool) → ltb (behind ts base) n ≡ y → n ≡ behind ts base
      go true e y d = absurd (true≢false (sym (smallest ts base n s.low (ltb-true _ _ e)) ∙ f))
      go false e true d = absurd (true≢false (sym (s.before (behind ts base) (at_least_one ts base) (ltb-true _ _ d)) ∙ frees ts base))
      go false e false d = let a = ltb-false n (behind ts base) e in let b = ltb-false (behind ts base) n d in omega arith
