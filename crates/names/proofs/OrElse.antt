-- What one test found, or else another. Assumes nothing.
use Rattle.std.specs.Prelude.{Option, Some, None}
use mathlib.Core.Path.{◌≡◌, refl}
use mathlib.Core.Bool.{Bool, true, false, cond}
use Rattle.names.specs.Answered.{or_else}

pub or_none : {A : Type 0} (x : Option A) → or_else x None ≡ x
or_none (Some found) = refl
or_none None = refl

pub or_assoc : {A : Type 0} (x y z : Option A) → or_else (or_else x y) z ≡ or_else x (or_else y z)
or_assoc None y z = refl
or_assoc (Some found) y z = refl

-- of a row's, what is inside it, what stands after it, and the rest
pub or_tree : {A : Type 0} (x y z w : Option A) → or_else x (or_else y (or_else z w)) ≡ or_else (or_else x (or_else y z)) w
or_tree (Some found) y z w = refl
or_tree None (Some found) z w = refl
or_tree None None z w = refl

-- one test's
pub or_test : {A : Type 0} (b : Bool) (x : A) (other : Option A) → or_else (cond b (Some x) None) other ≡ cond b (Some x) other
or_test true x other = refl
or_test false x other = refl
