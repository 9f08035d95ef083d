-- What is written of a made name, and the bindings gone through for 11 and 10. Assumes nothing.
use Prim.Native.Nat.{ℕ, zero, suc, ◌+◌, ◌-◌, ◌≤◌, ◌<◌}
use mathlib.Core.Path.{◌≡◌, refl, ap, sym, subst, ◌∙◌}
use mathlib.Core.Bool.{Bool, true, false}
use mathlib.Core.List.{List, [], ◌∷◌, ◌++◌, append-nil}
use native.Mathlib.Omega.{arith}
use borrow.Author.Tests.{lt-ltb, le-ltb, eqb-true, eqb-false}
use lib.Dec.{eqb}
use lib.ListN.{length, take, drop}
use lib.Seq.{take_at, take_all}
use Rattle.std.specs.Prelude.{Result, Ok, Err, IsOk, is_ok}
use Rattle.decimal.specs.Decimal.{decimal, Wrote}
use Rattle.decimal.proofs.Writing.{then}
use Rattle.base_text.specs.Bindings.{records_in}
use Rattle.base_text.specs.Refusals.{unless, count_of, front_of, fault_of, base_text, text_answer, Told}
use Rattle.base_text.specs.declared.Refusal.{Refusal}
use Rattle.base_text.proofs.Checking.{fronted}
use Rattle.base_text.proofs.Meaning.{told-written, told_refused}
use Rattle.base_text.proofs.Short.{text_short}
use Rattle.candidates.specs.Candidates.{tail_of, candidate}
use Rattle.candidates.specs.Faults.{fault_from, first_fault, Sound}

-- the count of a list is a small number
pub few-records : (bindings names text : List ℕ) → front_of bindings names text ≡ Ok tt → records_in bindings ≤ 65535
few-records bindings names text f = let s = (fronted bindings names text f).sizes.records in omega arith

-- what an answer tells of the fault
abbrev refusal_in : Result ℕ Refusal → Result (Unit {0}) Refusal
refusal_in (Ok n) = Ok tt
refusal_in (Err f) = Err f

-- one binding's base text, in room enough
module _ (b : ℕ) (bindings names text : List ℕ) (front : front_of bindings names text ≡ Ok tt) where
  abbrev base : List ℕ
  base = base_text b bindings names text

  module _ (fault : fault_of b bindings names text ≡ Ok tt) (room : ℕ) (r : Result ℕ Refusal) (before after : List ℕ) (lent : 272 ≤ room) (told : Told r (text_answer b bindings names text room) base before after) where
    is-written : r ≡ Ok (length base)
    is-written = told-written b bindings names text room told fault (omega (arith, text_short b bindings names text front fault))

    pub accepted : IsOk r
    accepted = ap is_ok is-written

    counted : (n : ℕ) → r ≡ Ok n → n ≡ length base
    counted n e = let q : Ok n ≡ Ok (length base) = sym e ∙ is-written in ap count_of q

    pub front_is : (n : ℕ) → r ≡ Ok n → (take n after ≡ base) × (length (take n after) ≤ 270)
    front_is n e =
        let c = counted n e in
        let w : after ≡ base ++ drop n before =
        told.bytes ∙ ap (λ (s : Result ℕ Refusal). take (count_of s) base ++ drop (count_of s) before) e ∙ ap (λ (l : List ℕ). l ++ drop n before) (take_all n base (omega arith)) in
        let f : take n after ≡ base = ap (take n) w ∙ take_at base (drop n before) n (sym c) in
        (f, omega (arith, ap length f, text_short b bindings names text front fault))

    pub long : (n : ℕ) → r ≡ Ok n → n ≡ length (take n after)
    long n e = counted n e ∙ sym (ap length (front_is n e).0)

-- a made name, piece by piece
pub bare-name : {o o₁ o₂ base part : List ℕ} {at i j n : ℕ} → n < 2 → (part ≡ base) × (length part ≤ 270) → Wrote o at (0x5F ∷ []) i o₁ → Wrote o₁ i part j o₂ → (Wrote o at (candidate base n) j o₂) × (j ≤ at + 281)
unfolding candidate tail_of
bare-name {o} {o₁} {o₂} {base} {part} {at} {i} {j} {n} l s w v =
    let q : part ≡ base ++ [] = s.0 ∙ sym (append-nil base) in
    (rw (lt-ltb n 2 l) (then w (subst (λ (x : List ℕ). Wrote o₁ i x j o₂) q v)), omega (arith, w.next, v.next, s.1))

pub numbered_name : {o o₁ o₂ o₃ base part : List ℕ} {at i j r n : ℕ} → 2 ≤ n → (part ≡ base) × (length part ≤ 270) → Wrote o at (0x5F ∷ []) i o₁ → Wrote o₁ i part j o₂ → (Wrote o₂ j (decimal n) r o₃) → r ≤ j + 10
    → (Wrote o at (candidate base n) r o₃) × (r ≤ at + 281)
unfolding candidate tail_of
numbered_name {o} {o₁} {o₂} {o₃} {base} {part} {at} {i} {j} {r} {n} l s w v u k =
    (rw (le-ltb n 2 l) (then w (then (subst (λ (x : List ℕ). Wrote o₁ i x j o₂) s.0 v) u)), omega (arith, w.next, v.next, s.1, k))

-- The loop over the bindings, at binding b.
pub record Testing (bindings names text : List ℕ) (b : ℕ) : Type 0 where
  pub low : 1 ≤ b
  pub high : b ≤ records_in bindings + 1
  pub same : first_fault bindings names text ≡ fault_from bindings names text b (records_in bindings + 1 - b)

module _ {bindings names text : List ℕ} where
  pub testing_start : Testing bindings names text 1
  testing_start = let z : records_in bindings + 1 - 1 ≡ records_in bindings = omega arith in record { low = omega arith; high = omega arith; same = rw z }

  module _ {b : ℕ} (t : Testing bindings names text b) where
    pub testing-done : records_in bindings < b → Ok tt ≡ first_fault bindings names text
    unfolding fault_from
    testing-done l = let h = t.high in let z : records_in bindings + 1 - b ≡ 0 = omega arith in sym (t.same ∙ rw z)

    one : b ≤ records_in bindings → first_fault bindings names text ≡ unless (fault_of b bindings names text) (fault_from bindings names text (b + 1) (records_in bindings + 1 - (b + 1)))
    unfolding fault_from
    one l = let z : records_in bindings + 1 - b ≡ suc (records_in bindings + 1 - (b + 1)) = omega arith in t.same ∙ rw z

    pub testing-next : b ≤ records_in bindings → fault_of b bindings names text ≡ Ok tt → Testing bindings names text (b + 1)
    testing-next l f = record { low = omega arith; high = omega arith; same = one l ∙ rw f }

    pub testing-fault : (f : Refusal) → b ≤ records_in bindings → fault_of b bindings names text ≡ Err f → Err f ≡ first_fault bindings names text
    testing-fault f l e = sym (one l ∙ rw e)

-- the answer of one binding in room enough tells its fault
module _ (b : ℕ) (bindings names text : List ℕ) (front : front_of bindings names text ≡ Ok tt) (room : ℕ) (lent : 272 ≤ room) (r : Result ℕ Refusal) (w before after : List ℕ)
    (told : Told r (text_answer b bindings names text room) w before after) where
  fault-told : fault_of b bindings names text ≡ refusal_in r
  fault-told = go (fault_of b bindings names text) refl
    where
      go : (t : Result (Unit {0}) Refusal) → fault_of b bindings names text ≡ t → t ≡ refusal_in r
      go (Ok passed) e = sym (ap refusal_in (told-written b bindings names text room told e (omega (arith, text_short b bindings names text front e))))
      go (Err f) e = sym (ap refusal_in (told_refused b bindings names text room told e))

  pub told-fault : (f : Refusal) → r ≡ Err f → fault_of b bindings names text ≡ Err f
  told-fault f e = fault-told ∙ ap refusal_in e

  pub told-passed : (n : ℕ) → r ≡ Ok n → fault_of b bindings names text ≡ Ok tt
  told-passed n e = fault-told ∙ ap refusal_in e

-- what 11 and 10 leave of each binding
module _ (bindings names text : List ℕ) where
  none_from : (b n j : ℕ) → fault_from bindings names text b n ≡ Ok tt → b ≤ j → j < b + n → fault_of j bindings names text ≡ Ok tt
  unfolding fault_from
  none_from b zero j e l k = absurd (omega arith)
  none_from b (suc n) j e l k = go (fault_of b bindings names text) refl e (λ z q. none_from (b + 1) n j z q (omega arith)) (eqb b j) refl
    where
      go : (t : Result (Unit {0}) Refusal) → fault_of b bindings names text ≡ t → unless t (fault_from bindings names text (b + 1) n) ≡ Ok tt
          → (fault_from bindings names text (b + 1) n ≡ Ok tt → b + 1 ≤ j → fault_of j bindings names text ≡ Ok tt) → (x : Bool) → eqb b j ≡ x → fault_of j bindings names text ≡ Ok tt
      go (Err f) q z ih x y = cc
      go (Ok passed) q z ih true y = subst (λ (m : ℕ). fault_of m bindings names text ≡ Ok tt) (eqb-true b j y) q
      go (Ok passed) q z ih false y = let n = eqb-false b j y in ih z (ne-above n)
        where
          ne-above : (b ≡ j → ⊥) → b + 1 ≤ j
          ne-above n = omega arith

  pub sound-at : Sound bindings names text → (b : ℕ) → 0 < b → b ≤ records_in bindings → fault_of b bindings names text ≡ Ok tt
  sound-at s b p l = none_from 1 (records_in bindings) b s.faults (omega arith) (omega arith)
