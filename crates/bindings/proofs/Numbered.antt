-- The tables of captures hold the numbers of the steps, whatever the names. Assumes nothing.
use mathlib.Core.Path.{◌≡◌, refl, ap, sym, ◌∙◌}
use mathlib.Core.List.{List, [], ◌∷◌, ◌++◌}
use Prim.Native.Nat.{ℕ, ◌+◌, ◌*◌, ◌<◌, ◌≤◌}
use mathlib.Core.Bool.{Bool, true, false, cond, ◌&&◌}
use native.Mathlib.Omega.{arith}
use borrow.Author.Tests.{eqb-true}
use lib.Dec.{eqb}
use lib.ListN.{length, get_or}
use Rattle.steps.specs.Bindings.{Binding, Binding.bind, is, number_from, number, note}
use Rattle.steps.specs.Naming.{Names, same_as}
use Rattle.steps.proofs.Acceptance.{same-zero}
use Rattle.buckets.specs.Search.{first_where, last_where}
use Rattle.bindings.specs.Search.{capture_of, note_capture}
use Rattle.bindings.specs.Store.{binds, binds_from, Bare, Store, first_table, last_table}

-- a number is where the first such binding stands
pub number_where : (N : Names) (u f x c : ℕ) (bs : List Binding) → number_from N u f x c bs ≡ first_where (is N u f x) c bs
unfolding number_from first_where
number_where N u f x c [] = refl
number_where N u f x c (b ∷ bs) = ap (λ (m : ℕ). cond (is N u f x b) c m) (number_where N u f x (c + 1) bs)

module _ (N : Names) (u f : ℕ) (low : u ≤ 2) where
  -- a capture has no property, so it is told by its use and frame alone
  capture_is : (u' x' f' : ℕ) → (u' ≤ 2 → x' ≡ 0) → is N u f 0 (bind u' x' f') ≡ capture_of u f (bind u' x' f')
  unfolding is capture_of
  capture_is u' x' f' h = go (eqb u' u) (eqb f' f) refl
    where
      go : (y z : Bool) → eqb u' u ≡ y → (y && z && same_as N x' 0) ≡ (y && z)
      go false z q = refl
      go true false q = refl
      go true true q = let e = eqb-true u' u q in ap (λ (x : ℕ). same_as N x 0) (h (omega arith)) ∙ same-zero N

  first-bare : (c : ℕ) (bs : List Binding) → Bare bs → first_where (is N u f 0) c bs ≡ first_where (capture_of u f) c bs
  unfolding first_where
  first-bare c [] b = refl
  first-bare c (bind u' x' f' ∷ bs) b = rw (capture_is u' x' f' b.0, first-bare (c + 1) bs b.1)

  pub number_capture : (bs : List Binding) → Bare bs → number N bs u f 0 ≡ first_where (capture_of u f) 1 bs
  unfolding number
  number_capture bs b = number_where N u f 0 1 bs ∙ first-bare 1 bs b

  -- what `Frame::capture` notes is what the steps note
  pub note-capture : (bs : List Binding) → Bare bs → note_capture u f bs ≡ note N u f 0 bs
  unfolding note_capture note
  note-capture bs b = ap (λ (m : ℕ). cond (eqb m 0) (bs ++ (bind u 0 f ∷ [])) bs) (sym (number_capture bs b))

-- the numbers of a frame's captures, read from the tables
module _ (N : Names) (M : List ℕ) (cap count : ℕ) (S : Store M cap count) (f : ℕ) (h : f < cap) where
  pub this_number : get_or M (4 * cap + f) 0 ≡ number N (binds M cap count) 1 f 0
  this_number = S.this f h ∙ sym (number_capture N 1 f (omega arith) (binds M cap count) S.bare)

  pub arguments_number : get_or M (5 * cap + f) 0 ≡ number N (binds M cap count) 2 f 0
  arguments_number = S.arguments f h ∙ sym (number_capture N 2 f (omega arith) (binds M cap count) S.bare)

-- an array of zeros holds no binding
pub no_bindings : (M : List ℕ) (cap : ℕ) → length M ≡ 12 * cap → 0 < cap → ((i : ℕ) → get_or M i 0 ≡ 0) → Store M cap 0
unfolding binds_from first_where last_where
no_bindings M cap l c z = record {
  long = l;
  room = c;
  bare = tt;
  this = λ f h. z (4 * cap + f);
  arguments = λ f h. z (5 * cap + f);
  firsts = λ p f h. z (first_table p cap f);
  lasts = λ p f h. z (last_table p cap f);
  nexts = λ p f b o h q. absurd (omega arith);
  fresh = λ b o h. z (3 * cap + b);
}
