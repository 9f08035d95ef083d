-- The children of a row, by hopping over ends. Assumes nothing.
use Rattle.std.specs.Prelude.{Some, None}
use mathlib.Core.Path.{◌≡◌, refl, ap, sym}
use mathlib.Core.Bool.{Bool, true, false, cond}
use mathlib.Core.List.{List, [], ◌∷◌}
use Prim.Native.Nat.{ℕ, zero, suc, ◌+◌, ◌<◌, ◌≤◌}
use native.Mathlib.Omega.{arith}
use borrow.Author.Tests.{lt-ltb, le-ltb, ltb-true, leb-true}
use lib.Dec.{ltb}
use Rattle.names.specs.Words.{end_at}
use Rattle.forest.specs.Faults.{end_good, kids, faulty_kid}
use Rattle.names.proofs.Bools.{and_left, and_right}

pub good-past : (ws : List ℕ) (c e : ℕ) → end_good ws c e ≡ true → c < end_at ws c
good-past ws c e g = ltb-true _ _ (and_left _ _ g)

pub good-within : (ws : List ℕ) (c e : ℕ) → end_good ws c e ≡ true → end_at ws c ≤ e
good-within ws c e g = leb-true _ _ (and_right (ltb c (end_at ws c)) _ g)

pub kids-good : (ws : List ℕ) (f c e : ℕ) → c < e → end_good ws c e ≡ true → kids ws (suc f) c e ≡ c ∷ kids ws f (end_at ws c) e
unfolding kids
kids-good ws f c e h g = rw (lt-ltb c e h, g)

pub kids-bad : (ws : List ℕ) (f c e : ℕ) → c < e → end_good ws c e ≡ false → kids ws (suc f) c e ≡ c ∷ []
unfolding kids
kids-bad ws f c e h g = rw (lt-ltb c e h, g)

pub kids_done : (ws : List ℕ) (f c e : ℕ) → e ≤ c → kids ws f c e ≡ []
unfolding kids
kids_done ws zero c e h = refl
kids_done ws (suc f) c e h = rw (le-ltb c e h)

-- the same of the one whose `end` is at fault
pub faulty-good : (ws : List ℕ) (f c e : ℕ) → c < e → end_good ws c e ≡ true → faulty_kid ws (suc f) c e ≡ faulty_kid ws f (end_at ws c) e
unfolding faulty_kid
faulty-good ws f c e h g = rw (lt-ltb c e h, g)

pub faulty-bad : (ws : List ℕ) (f c e : ℕ) → c < e → end_good ws c e ≡ false → faulty_kid ws (suc f) c e ≡ Some c
unfolding faulty_kid
faulty-bad ws f c e h g = rw (lt-ltb c e h, g)

pub faulty_done : (ws : List ℕ) (f c e : ℕ) → e ≤ c → faulty_kid ws f c e ≡ None
unfolding faulty_kid
faulty_done ws zero c e h = refl
faulty_done ws (suc f) c e h = rw (le-ltb c e h)

-- more fuel than rows changes nothing
same-kids : (b g : Bool) (c : ℕ) (K L : List ℕ) → (b ≡ true → g ≡ true → K ≡ L) → cond b (cond g (c ∷ K) (c ∷ [])) [] ≡ cond b (cond g (c ∷ L) (c ∷ [])) []
same-kids false g c K L h = refl
same-kids true false c K L h = refl
same-kids true true c K L h = ap (λ (x : List ℕ). c ∷ x) (h refl refl)

pub kids-fuel : (ws : List ℕ) (f g c e : ℕ) → e ≤ c + f → e ≤ c + g → kids ws f c e ≡ kids ws g c e
unfolding kids
kids-fuel ws zero g c e p q = sym (kids_done ws g c e (omega arith))
kids-fuel ws (suc f) zero c e p q = kids_done ws (suc f) c e (omega arith)
kids-fuel ws (suc f) (suc g) c e p q =
    same-kids (ltb c e) (end_good ws c e) c (kids ws f (end_at ws c) e) (kids ws g (end_at ws c) e)
    (λ h d. let past : c < end_at ws c = good-past ws c e d in kids-fuel ws f g (end_at ws c) e (omega arith) (omega arith))
