-- Captures and accessors by the numbers of their uses. Assumes nothing.
use mathlib.Core.Path.{◌≡◌, refl, subst, ◌∙◌}
use mathlib.Core.Bool.{Bool, true, false, cond, ◌||◌}
use mathlib.Core.List.{List, [], ◌∷◌, ◌++◌}
use Prim.Native.Nat.{ℕ, ◌+◌, ◌*◌, ◌<◌, ◌≤◌}
use native.Mathlib.Omega.{arith}
use lib.Dec.{eqb}
use lib.ListN.{get_or}
use denote.Enum.Bare.{sameb}
use Rattle.uses.specs.Uses.{capture_number, access_number}
use Rattle.uses.specs.declared.Capture.{Capture}
use Rattle.uses.specs.declared.Capture.TheVariants.{This, Arguments}
use Rattle.uses.specs.declared.Access.{Access}
use Rattle.uses.specs.declared.Access.TheVariants.{Get, Set}
use Rattle.uses.specs.contracts.Capture.{the_type as capture_type}
use Rattle.uses.specs.contracts.Access.{the_type as access_type}
use Rattle.steps.specs.Bindings.{Binding, Binding.bind}
use Rattle.bindings.specs.Search.{is_accessor, is_param, one_param, params_for}
use Rattle.bindings.specs.Store.{capture_at}
use Rattle.bindings.specs.Post.{Kept}

pub capture-some : (u : Capture) → 0 < capture_number u
capture-some This = omega arith
capture-some Arguments = omega arith

pub capture_low : (u : Capture) → capture_number u ≤ 2
capture_low This = omega arith
capture_low Arguments = omega arith

pub capture_this : (u : Capture) → sameb capture_type u This ≡ eqb (capture_number u) 1
capture_this This = refl
capture_this Arguments = refl

-- a capture that is asked for by any number is that of the number's Capture
pub captured_by : (M : List ℕ) (c n f : ℕ) → capture_at M c (cond (eqb n 1) 1 2) f ≡ capture_at M c n f
captured_by M c n f = go (eqb n 1)
  where
    go : (b : Bool) → get_or M (cond (eqb (cond b 1 2) 1) (4 * c + f) (5 * c + f)) 0 ≡ get_or M (cond b (4 * c + f) (5 * c + f)) 0
    go true = refl
    go false = refl

-- the table of a capture, by the test of the code
pub in_table : (u : Capture) (x y : ℕ) {b : Bool} {r : ℕ} → b ≡ sameb capture_type u This → r ≡ cond b x y → r ≡ cond (eqb (capture_number u) 1) x y
in_table u x y {b} {r} e q = subst (λ (t : Bool). r ≡ cond t x y) (e ∙ capture_this u) q

-- a binding by the number of its use
pub noted : {M : List ℕ} {cap count n m : ℕ} (before : List Binding) (x f : ℕ) → n ≡ m → Kept M cap (before ++ (bind n x f ∷ [])) count → Kept M cap (before ++ (bind m x f ∷ [])) count
noted before x f q k = rw (← q) k

-- and a parameter that is wanted by a test
pub wanted_by : {M : List ℕ} {cap count : ℕ} {t y : Bool} (before : List Binding) (f : ℕ) → t ≡ y → Kept M cap (before ++ one_param t 6 f) count → Kept M cap (before ++ one_param y 6 f) count
wanted_by before f q k = rw (← q) k

-- the table that a binding is chained in, by the test of the code
pub its_table : (x y : Bool) {param : Bool} → param ≡ x → (x || y) ≡ true → cond param x y ≡ true
its_table true y e h = rw e
its_table false y e h = rw e h

-- the test of the code for an accessor that sets
pub is-set : (u : Access) → sameb access_type u Set ≡ eqb (access_number u) 4
is-set Get = refl
is-set Set = refl

-- the parameters of an accessor that is read as any number are those of the number's Access, get where it has none
pub params_by : (n x f : ℕ) → params_for (cond (eqb n 4) 4 3) x f ≡ params_for n x f
params_by n x f = go (eqb n 4)
  where
    go : (y : Bool) → one_param (eqb x 0) 5 f ++ one_param (eqb (cond y 4 3) 4) 6 f ≡ one_param (eqb x 0) 5 f ++ one_param y 6 f
    go true = refl
    go false = refl

pub is-access : (u : Access) → is_accessor (access_number u) ≡ true
is-access Get = refl
is-access Set = refl

-- so it is chained
pub access-chained : (u : Access) → (is_param (access_number u) || is_accessor (access_number u)) ≡ true
access-chained Get = refl
access-chained Set = refl
