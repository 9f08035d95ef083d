-- A number once given stays, and is a place of the list. Assumes nothing.
use mathlib.Core.Path.{◌≡◌, refl}
use mathlib.Core.List.{List, [], ◌∷◌, ◌++◌}
use Prim.Native.Nat.{ℕ, zero, suc, ◌+◌, ◌≤◌, ◌<◌}
use mathlib.Core.Bool.{Bool, true, false, cond, true≢false}
use lib.Dec.{eqb}
use lib.ListN.{length}
use native.Mathlib.Omega.{arith}
use Rattle.steps.specs.Naming.{Names, same_as}
use Rattle.steps.specs.Bindings.{Binding, Binding.bind, is, number_from, number, note}
use Rattle.steps.proofs.Credit.{eqb_yes, eqb-eq}

-- A number once given stays: later bindings stand behind.
step : (x : Bool) (c m m' : ℕ) → (1 ≤ m → m' ≡ m) → 1 ≤ cond x c m → cond x c m' ≡ cond x c m
step true c m m' h l = refl
step false c m m' h l = h l

from-stays : (N : Names) (u f x c : ℕ) (bs cs : List Binding) → 1 ≤ number_from N u f x c bs → number_from N u f x c (bs ++ cs) ≡ number_from N u f x c bs
unfolding number_from
from-stays N u f x c [] cs h = absurd (omega arith)
from-stays N u f x c (b ∷ bs) cs h = step (is N u f x b) c _ _ (from-stays N u f x (c + 1) bs cs) h

pub number-stays : (N : Names) (u f x : ℕ) (bs cs : List Binding) → 1 ≤ number N bs u f x → number N (bs ++ cs) u f x ≡ number N bs u f x
unfolding number
number-stays N u f x bs cs h = from-stays N u f x 1 bs cs h

-- It is at most the length, so a place of the list.
bound : (x : Bool) (c m n : ℕ) → 1 ≤ c → (1 ≤ m → m < c + 1 + n) → 1 ≤ cond x c m → cond x c m < c + suc n
bound true c m n k h l = omega arith
bound false c m n k h l = omega (arith, h l)

from_low : (N : Names) (u f x c : ℕ) (bs : List Binding) → 1 ≤ c → 1 ≤ number_from N u f x c bs → number_from N u f x c bs < c + length bs
unfolding number_from
from_low N u f x c [] k h = absurd (omega arith)
from_low N u f x c (b ∷ bs) k h = bound (is N u f x b) c _ (length bs) k (from_low N u f x (c + 1) bs (omega arith)) h

positive : (m : ℕ) → eqb m 0 ≡ false → 1 ≤ m
positive zero e = absurd (true≢false e)
positive (suc m) e = omega arith

pub number-low : (N : Names) (u f x : ℕ) (bs : List Binding) → number N bs u f x ≤ length bs
unfolding number
number-low N u f x bs = go (eqb (number_from N u f x 1 bs) 0) refl
  where
    go : (y : Bool) → eqb (number_from N u f x 1 bs) 0 ≡ y → number_from N u f x 1 bs ≤ length bs
    go true e = omega (arith, eqb-eq (number_from N u f x 1 bs) 0 e)
    go false e = omega (arith, from_low N u f x 1 bs (omega arith) (positive (number_from N u f x 1 bs) e))

-- What is noted has a number.
last : (N : Names) (u f x c : ℕ) (bs : List Binding) → same_as N x x ≡ true → 1 ≤ c → 1 ≤ number_from N u f x c (bs ++ (bind u x f ∷ []))
unfolding number_from is
last N u f x c [] s k = rw (eqb_yes u, eqb_yes f, s) k
last N u f x c (b ∷ bs) s k = go (is N u f x b) (last N u f x (c + 1) bs s (omega arith))
  where
    go : (y : Bool) {m : ℕ} → 1 ≤ m → 1 ≤ cond y c m
    go true h = k
    go false h = h

pub noted : (N : Names) (u f x : ℕ) (bs : List Binding) → same_as N x x ≡ true → 1 ≤ number N (note N u f x bs) u f x
unfolding note number
noted N u f x bs s = go (eqb (number_from N u f x 1 bs) 0) refl
  where
    go : (y : Bool) → eqb (number_from N u f x 1 bs) 0 ≡ y → 1 ≤ number_from N u f x 1 (cond y (bs ++ (bind u x f ∷ [])) bs)
    go true e = last N u f x 1 bs s (omega arith)
    go false e = positive (number_from N u f x 1 bs) e
