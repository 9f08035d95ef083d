-- What stores keep: a capture more, a chained binding more. Assumes nothing.
use mathlib.Core.Path.{◌≡◌, refl, ap, sym, ◌∙◌}
use mathlib.Core.List.{List, [], ◌∷◌, ◌++◌}
use Prim.Native.Nat.{ℕ, zero, suc, ◌+◌, ◌*◌, ◌-◌, ◌<◌, ◌≤◌}
use mathlib.Core.Logic.{◌⊎◌, inl, inr}
use mathlib.Core.Bool.{Bool, true, false, and-false}
use native.Mathlib.Omega.{arith}
use borrow.Author.Tests.{eq-eqb, ltb-true, ltb-false}
use lib.Dec.{eqb, ltb}
use lib.ListN.{length, drop, get_or, get_or-append}
use lib.Seq.{drop-append-le}
use Rattle.steps.specs.Bindings.{Binding, Binding.bind}
use Rattle.buckets.specs.Search.{first_where, last_where}
use Rattle.bindings.specs.Search.{capture_of, is_accessor, is_param, of_class}
use Rattle.bindings.specs.Store.{bind_at, binds, first_table, last_table, Bare, Store}
use Rattle.buckets.proofs.Searches.{first-other, last-other, first_new, last_new}
use Rattle.bindings.proofs.Arrays.{binds-length, binds-at}

-- where the tables of firsts and of lasts stand in the array
pub first_range : (s : Bool) (cap g : ℕ) → g < cap → (6 * cap ≤ first_table s cap g) × (first_table s cap g < 10 * cap)
first_range true cap g h = (omega arith, omega arith)
first_range false cap g h = (omega arith, omega arith)

pub last-range : (s : Bool) (cap g : ℕ) → g < cap → (7 * cap ≤ last_table s cap g) × (last_table s cap g < 10 * cap)
last-range true cap g h = (omega arith, omega arith)
last-range false cap g h = (omega arith, omega arith)

pub bare_snoc : (bs : List Binding) (u x f : ℕ) → Bare bs → (u ≤ 2 → x ≡ 0) → Bare (bs ++ (bind u x f ∷ []))
bare_snoc [] u x f h k = (k, tt)
bare_snoc (bind u' x' f' ∷ bs) u x f h k = (h.0, bare_snoc bs u x f h.1 k)

-- behind binding b of the old list, one more at the end
pub drop_snoc : (M : List ℕ) (cap count b : ℕ) (r : Binding) → b ≤ count → drop b (binds M cap count ++ (r ∷ [])) ≡ drop b (binds M cap count) ++ (r ∷ [])
drop_snoc M cap count b r h = drop-append-le b (binds M cap count) (r ∷ []) (omega (arith, binds-length M cap 1 count))

-- nothing is behind the new one
pub drop-none : (M : List ℕ) (cap count : ℕ) (r : Binding) → drop (count + 1) (binds M cap count ++ (r ∷ [])) ≡ []
drop-none M cap count r =
    let l : count ≡ length (binds M cap count) = sym (binds-length M cap 1 count) in
    go (binds M cap count) count l
  where
    go : (bs : List Binding) (n : ℕ) → n ≡ length bs → drop (n + 1) (bs ++ (r ∷ [])) ≡ []
    go [] zero q = refl
    go [] (suc n) q = absurd (omega arith)
    go (b ∷ bs) zero q = absurd (omega arith)
    go (b ∷ bs) (suc n) q = let e : suc n + 1 ≡ suc (n + 1) = omega arith in ap (λ (k : ℕ). drop k ((b ∷ bs) ++ (r ∷ []))) e ∙ go bs n (omega arith)

-- the one at the end
at_end : (xs : List Binding) (r : Binding) (n : ℕ) → length xs ≡ n → get_or (xs ++ (r ∷ [])) n (bind 0 0 0) ≡ r
at_end [] r zero h = refl
at_end [] r (suc n) h = absurd (omega arith)
at_end (y ∷ ys) r zero h = absurd (omega arith)
at_end (y ∷ ys) r (suc n) h = at_end ys r n (omega arith)

-- which tests hold of a capture, and of a chained binding
pub capture_class : (param : Bool) (g u x f : ℕ) → is_accessor u ≡ false → is_param u ≡ false → of_class param g (bind u x f) ≡ false
unfolding of_class
capture_class true g u x f a p = rw p (and-false (eqb f g))
capture_class false g u x f a p = rw a (and-false (eqb f g))

pub capture_other : (v g u x f : ℕ) → eqb u v ≡ false → capture_of v g (bind u x f) ≡ false
unfolding capture_of
capture_other v g u x f e = rw e

pub capture_frame : (v g u x f : ℕ) → eqb f g ≡ false → capture_of v g (bind u x f) ≡ false
unfolding capture_of
capture_frame v g u x f e = rw e (and-false (eqb u v))

pub capture_same : (u f x : ℕ) → capture_of u f (bind u x f) ≡ true
unfolding capture_of
capture_same u f x = rw (eq-eqb u u refl, eq-eqb f f refl)

-- A record is written at count + 1 and some words behind the records are stored: what the old tables say of the new list.
module _ (M M' : List ℕ) (cap count u x f : ℕ) (S : Store M cap count) (low : count + 1 < cap) (now : binds M' cap (count + 1) ≡ binds M cap count ++ (bind u x f ∷ [])) where
  abbrev pub r : Binding
  r = bind u x f

  abbrev pub bs : List Binding
  bs = binds M cap count

  len : length bs ≡ count
  len = binds-length M cap 1 count

  -- a first that is not touched
  pub first-kept : (p : Binding → Bool) (i : ℕ) → get_or M' i 0 ≡ get_or M i 0 → get_or M i 0 ≡ first_where p 1 bs → p r ≡ false → get_or M' i 0 ≡ first_where p 1 (binds M' cap (count + 1))
  first-kept p i e q n = e ∙ q ∙ sym (ap (first_where p 1) now ∙ first-other p 1 bs r (omega arith) n)

  pub last-kept : (p : Binding → Bool) (i : ℕ) → get_or M' i 0 ≡ get_or M i 0 → get_or M i 0 ≡ last_where p 1 bs → p r ≡ false → get_or M' i 0 ≡ last_where p 1 (binds M' cap (count + 1))
  last-kept p i e q n = e ∙ q ∙ sym (ap (last_where p 1) now ∙ last-other p 1 bs r (omega arith) n)

  -- a first that is set, as there was none
  pub first-set : (p : Binding → Bool) (i : ℕ) → get_or M' i 0 ≡ count + 1 → first_where p 1 bs ≡ 0 → p r ≡ true → get_or M' i 0 ≡ first_where p 1 (binds M' cap (count + 1))
  first-set p i e z y = e ∙ sym (ap (first_where p 1) now ∙ first_new p 1 bs r (omega arith) y z ∙ omega (arith, len))

  pub last_set : (p : Binding → Bool) (i : ℕ) → get_or M' i 0 ≡ count + 1 → p r ≡ true → get_or M' i 0 ≡ last_where p 1 (binds M' cap (count + 1))
  last_set p i e y = e ∙ sym (ap (last_where p 1) now ∙ last_new p 1 bs r (omega arith) y ∙ omega (arith, len))

  -- what stands behind an old binding
  pub behind : (p : Binding → Bool) (b : ℕ) → b ≤ count → first_where p (b + 1) (drop b (binds M' cap (count + 1))) ≡ first_where p (b + 1) (drop b bs ++ (r ∷ []))
  behind p b l = ap (λ (k : List Binding). first_where p (b + 1) (drop b k)) now ∙ ap (first_where p (b + 1)) (drop_snoc M cap count b r l)

  -- binding b of the new array, of the old one
  pub old_bind : (b : ℕ) → 0 < b → b ≤ count → bind_at M' cap b ≡ bind_at M cap b
  old_bind b h l =
      let d : Binding = bind 0 0 0 in
      let q : 1 + (b - 1) ≡ b = omega arith in
      sym (binds-at M' cap 1 (count + 1) (b - 1) d (omega arith) ∙ ap (bind_at M' cap) q)
      ∙ ap (λ (k : List Binding). get_or k (b - 1) d) now
      ∙ get_or-append bs (r ∷ []) d (b - 1) (omega (arith, len))
      ∙ binds-at M cap 1 count (b - 1) d (omega arith) ∙ ap (bind_at M cap) q

  pub new_bind : bind_at M' cap (count + 1) ≡ r
  new_bind =
      let d : Binding = bind 0 0 0 in
      let q : 1 + count ≡ count + 1 = omega arith in
      sym (binds-at M' cap 1 (count + 1) count d (omega arith) ∙ ap (bind_at M' cap) q)
      ∙ ap (λ (k : List Binding). get_or k count d) now ∙ at_end bs r count len

pub le_cases : (b n : ℕ) → b ≤ n + 1 → (b ≤ n) ⊎ (b ≡ n + 1)
le_cases b n h = go (ltb n b) refl
  where
    go : (t : Bool) → ltb n b ≡ t → (b ≤ n) ⊎ (b ≡ n + 1)
    go true q = let l = ltb-true n b q in inr (omega arith)
    go false q = inl (ltb-false n b q)
