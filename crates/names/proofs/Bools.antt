-- Tests and numbers. Assumes nothing.
use mathlib.Core.Path.{◌≡◌, refl}
use mathlib.Core.Bool.{Bool, true, false, cond, ◌&&◌, ◌||◌}
use mathlib.Core.Logic.{◌⊎◌, inl, inr}
use Prim.Native.Nat.{ℕ, ◌<◌, ◌≤◌}
use borrow.Author.Tests.{ltb-true, ltb-false}
use lib.Dec.{ltb}

pub and_left : (a b : Bool) → (a && b) ≡ true → a ≡ true
and_left true b h = refl
and_left false b h = h

pub and_right : (a b : Bool) → (a && b) ≡ true → b ≡ true
and_right true b h = h
and_right false true h = refl
and_right false false h = h

-- both of two tests hold
pub and_parts : (a b : Bool) → (a && b) ≡ true → (a ≡ true) × (b ≡ true)
and_parts a b h = (and_left a b h, and_right a b h)

-- neither of two tests holds
pub or_left : (a b : Bool) → (a || b) ≡ false → a ≡ false
or_left true b h = h
or_left false b h = refl

pub or_right : (a b : Bool) → (a || b) ≡ false → b ≡ false
or_right false b h = h
or_right true false h = refl
or_right true true h = h

pub neither : (a b : Bool) → (a || b) ≡ false → (a ≡ false) × (b ≡ false)
neither a b h = (or_left a b h, or_right a b h)

pub and_both : {a b : Bool} → a ≡ true → b ≡ true → (a && b) ≡ true
and_both {a} {b} p q = rw (p, q)

-- one of two tests holds
pub or-true : (a : Bool) → (a || true) ≡ true
or-true true = refl
or-true false = refl

pub or_cases : (a b : Bool) → (a || b) ≡ true → (a ≡ true) ⊎ (b ≡ true)
or_cases true b h = inl refl
or_cases false b h = inr h

-- what follows from each of two tests, where one of them holds
pub either : (C : Type 0) (a b : Bool) → (a || b) ≡ true → (a ≡ true → C) → (b ≡ true → C) → C
either C true b h f g = f refl
either C false b h f g = g h

-- what holds of both holds of the one that a test picks
pub pick : {A : Type 0} (P : A → Type 0) (x : Bool) (s t : A) → P s → P t → P (cond x s t)
pick P true s t h k = h
pick P false s t h k = k

pub cond-le : (x : Bool) (a b m : ℕ) → a ≤ m → b ≤ m → cond x a b ≤ m
cond-le true a b m h k = h
cond-le false a b m h k = k

lt-or : (a b : ℕ) (t : Bool) → ltb a b ≡ t → (a < b) ⊎ (b ≤ a)
lt-or a b true q = inl (ltb-true a b q)
lt-or a b false q = inr (ltb-false a b q)

pub lt_or_ge : (a b : ℕ) → (a < b) ⊎ (b ≤ a)
lt_or_ge a b = lt-or a b (ltb a b) refl
