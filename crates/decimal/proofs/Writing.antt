-- Laws of writing bytes where there may be no room: one after another, at the front, digit by digit. Assumes nothing.
use mathlib.Core.Path.{◌≡◌, refl, sym, ap, ◌∙◌}
use mathlib.Core.List.{List, [], ◌∷◌, ◌++◌}
use Prim.Native.Nat.{ℕ, ◌+◌, ◌/◌, ◌%◌, ◌≤◌, ◌<◌}
use native.Mathlib.Omega.{arith}
use native.Mathlib.Numerals.{add-one}
use lib.ListN.{length, take, drop, get_or, length-append}
use lib.Seq.{sets, sets-eq, set_out, take-suc, take_all}
use Rattle.names.proofs.Storing.{sets-append}
use Rattle.decimal.specs.Decimal.{decimal, Wrote}
use Rattle.decimal.proofs.Digits.{decimal-small, decimal-more, decimal-short, decimal-some}

-- two functions that write, one after the other, write both
pub then : {l m o xs ys : List ℕ} {i j k : ℕ} → Wrote l i xs j m → Wrote m j ys k o → Wrote l i (xs ++ ys) k o
then {l} {m} {o} {xs} {ys} {i} {j} {k} a b = record {
  next = omega (arith, a.next, b.next, length-append xs ys);
  wrote = b.wrote ∙ ap (λ (n : ℕ). sets m n ys) a.next ∙ ap (λ (n : List ℕ). sets n (i + length xs) ys) a.wrote ∙ sym (sets-append xs ys l i);
}

-- what is stored at the front, where it fits; for any other place it is sets-eq of lib.Seq
pub sets-front : (bs o : List ℕ) → length bs ≤ length o → sets o 0 bs ≡ bs ++ drop (length bs) o
sets-front bs o h =
    let z : 0 + length bs ≡ length bs = omega arith in
    rw z at (sets-eq bs o 0 (omega arith))

-- a byte that does not fit
pub none : (l : List ℕ) (i b : ℕ) → length l ≤ i → Wrote l i (b ∷ []) (i + 1) l
none l i b h = record { next = refl; wrote = sym (set_out l i b h) }

-- a number of one digit, and one of more
pub wrote_small : (l o : List ℕ) (i r n d : ℕ) → n < 10 → d ≡ n → Wrote l i ((48 + d) ∷ []) r o → Wrote l i (decimal n) r o
wrote_small l o i r n d h e w = rw (decimal-small n h) (rw e at w)

pub wrote_more : (l m o : List ℕ) (i j r n d : ℕ) → 10 ≤ n → d ≡ n % 10 → Wrote l i (decimal (n / 10)) j m → Wrote m j ((48 + d) ∷ []) r o → Wrote l i (decimal n) r o
wrote_more l m o i j r n d h e a b = rw (decimal-more n h) (then a (rw e at b))

-- a number that was written took one byte at least, and ten at most
pub sized : {l o : List ℕ} {i r n : ℕ} → n < 4294967296 → Wrote l i (decimal n) r o → (Wrote l i (decimal n) r o) × (r ≤ i + 10) × (i < r)
sized {n = n} h w = (w, omega (arith, w.next, decimal-short n h), omega (arith, w.next, decimal-some n))

-- The loop over some bytes.
pub nothing : (l s : List ℕ) {i : ℕ} → Wrote l i (take 0 s) i l
nothing l s = record { next = omega arith; wrote = refl }

pub one_more : (l m o s : List ℕ) (i k j r : ℕ) → k < length s → Wrote l i (take k s) j m → Wrote m j (get_or s k 0 ∷ []) r o → Wrote l i (take (k + 1) s) r o
one_more l m o s i k j r h a b = rw (add-one, take-suc s k 0 h) (then a b)

pub all_of : (l m s : List ℕ) (i k j : ℕ) → k ≤ length s → length s ≤ k → Wrote l i (take k s) j m → Wrote l i s j m
all_of l m s i k j h g a = rw (take_all k s g) at a
