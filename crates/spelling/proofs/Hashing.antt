-- The number of a name's bytes. Assumes nothing.
use mathlib.Core.Path.{◌≡◌, refl, ap, sym, ◌∙◌}
use mathlib.Core.Bool.{true, false≢true}
use mathlib.Core.List.{List, [], ◌∷◌}
use Prim.Native.Nat.{ℕ, ◌+◌, ◌*◌, ◌%◌, ◌≤◌, ◌<◌}
use native.Mathlib.Omega.{arith}
use native.Mathlib.Numerals.{add-one}
use lib.Dec.{eqb}
use lib.ListN.{length, drop, get_or}
use lib.Seq.{drop-cons}
use borrow.Author.Tests.{eqb-true, eq-eqb}
use Rattle.names.specs.Names.{bytes_of, same_bytes, same_name}
use Rattle.names.proofs.Bools.{and_left, and_right, and_both}
use Rattle.spelling.specs.Hash.{hash_from, hash_of}
use Rattle.names.proofs.Laying.{drop_all}

-- The loop, at byte i, with the number h of those before it.
pub record Hashing (xs : List ℕ) (h i : ℕ) : Type 0 where
  pub low : i ≤ length xs
  pub small : h < 4294967296
  pub same : hash_from h (drop i xs) ≡ hash_of xs

module _ {xs : List ℕ} {h i : ℕ} (H : Hashing xs h i) where
  pub hashed_byte : i < length xs → (b h₁ : ℕ) → b ≡ get_or xs i 0 → h₁ ≡ (31 * h + b) % 4294967296 → h₁ < 4294967296 → Hashing xs h₁ (i + 1)
  unfolding hash_from
  hashed_byte l b h₁ qb qh s = record {
    low = omega arith;
    small = s;
    same = rw (qh, qb, add-one i) (sym (ap (hash_from h) (drop-cons xs i 0 l)) ∙ H.same);
  }

  pub hashed_all : length xs ≤ i → h ≡ hash_of xs
  unfolding hash_from
  hashed_all l = sym (ap (hash_from h) (drop_all i xs (omega (arith, H.low)))) ∙ H.same

-- names that are the same have the same bytes
pub same-list : (xs ys : List ℕ) → same_bytes xs ys ≡ true → xs ≡ ys
unfolding same_bytes
same-list [] [] h = refl
same-list [] (y ∷ ys) h = absurd (false≢true h)
same-list (x ∷ xs) [] h = absurd (false≢true h)
same-list (x ∷ xs) (y ∷ ys) h = rw (eqb-true x y (and_left (eqb x y) (same_bytes xs ys) h), same-list xs ys (and_right (eqb x y) (same_bytes xs ys) h))

-- and bytes are the same as themselves
pub same_self : (xs : List ℕ) → same_bytes xs xs ≡ true
unfolding same_bytes
same_self [] = refl
same_self (x ∷ xs) = and_both (eq-eqb x x refl) (same_self xs)

pub same-bytes_of : (names text : List ℕ) (j k : ℕ) → same_name names text j k ≡ true → bytes_of names text j ≡ bytes_of names text k
unfolding same_name
same-bytes_of names text j k h = same-list (bytes_of names text j) (bytes_of names text k) h
