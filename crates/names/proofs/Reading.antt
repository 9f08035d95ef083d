-- A loop over the sequences of a text. Assumes nothing.
use mathlib.Core.Path.{◌≡◌, refl, ap, sym, subst, ◌∙◌}
use mathlib.Core.Bool.{true, false}
use mathlib.Core.List.{List}
use Prim.Native.Nat.{ℕ, zero, suc, ◌+◌, ◌<◌, ◌≤◌}
use native.Mathlib.Omega.{arith}
use borrow.Author.Tests.{lt-ltb, le-ltb, eq-eqb, ne_eqb}
use lib.ListN.{length}
use Rattle.names.specs.Utf8.{seq_at, utf8_from, utf8}

module _ (s : List ℕ) where
  pub record Reading (i : ℕ) : Type 0 where
    pub fuel : ℕ
    pub room : length s ≤ i + fuel
    pub same : utf8 s ≡ utf8_from fuel s i

  pub read_start : Reading 0
  unfolding utf8
  read_start = record { fuel = length s; room = omega arith; same = refl }

  next-at : (i f w : ℕ) (r : Reading i) → r.fuel ≡ f → i < length s → w ≡ seq_at s i → (w ≡ 0 → ⊥) → Reading (i + w)
  unfolding utf8_from
  next-at i zero w r q h e z = absurd (omega (arith, r.room))
  next-at i (suc f) w r q h e z =
      subst (λ (x : ℕ). Reading (i + x)) (sym e)
      (record { fuel = f; room = omega (arith, r.room, z'); same = r.same ∙ ap (λ (x : ℕ). utf8_from x s i) q ∙ rw (lt-ltb i (length s) h, ne_eqb (seq_at s i) 0 z') })
    where
      z' : seq_at s i ≡ 0 → ⊥
      z' y = z (e ∙ y)

  pub read_next : (i w : ℕ) → Reading i → i < length s → w ≡ seq_at s i → (w ≡ 0 → ⊥) → Reading (i + w)
  read_next i w r = next-at i r.fuel w r refl

  bad-at : (i f w : ℕ) (r : Reading i) → r.fuel ≡ f → i < length s → w ≡ seq_at s i → w ≡ 0 → false ≡ utf8 s
  unfolding utf8_from
  bad-at i zero w r q h e z = absurd (omega (arith, r.room))
  bad-at i (suc f) w r q h e z = sym (r.same ∙ ap (λ (x : ℕ). utf8_from x s i) q ∙ rw (lt-ltb i (length s) h, eq-eqb (seq_at s i) 0 (sym e ∙ z)))

  pub read_bad : (i w : ℕ) → Reading i → i < length s → w ≡ seq_at s i → w ≡ 0 → false ≡ utf8 s
  read_bad i w r = bad-at i r.fuel w r refl

  end-at : (i f : ℕ) → length s ≤ i → utf8_from f s i ≡ true
  unfolding utf8_from
  end-at i zero h = refl
  end-at i (suc f) h = rw (le-ltb i (length s) h)

  pub read_end : (i : ℕ) → Reading i → length s ≤ i → true ≡ utf8 s
  read_end i r h = sym (r.same ∙ end-at i r.fuel h)
