-- What is searched for among the bindings: captures, accessors and their parameters, by tests. Assumes nothing.
use Rattle.std.specs.Prelude.{List, [], ◌∷◌, ◌++◌, ℕ, Bool, cond, ◌&&◌, ◌||◌, eqb}
use Rattle.buckets.specs.Search.{first_where}
use Rattle.steps.specs.Bindings.{Binding, Binding.bind}

-- a capture of use u (1 this, 2 arguments) and frame f
unfoldable pub capture_of : (u f : ℕ) → Binding → Bool
capture_of u f (bind u' x' f') = eqb u' u && eqb f' f

-- the accessors of frame f (uses 3 and 4), and their parameters (5 and 6)
abbrev pub is_accessor : ℕ → Bool
is_accessor u = eqb u 3 || eqb u 4

abbrev pub is_param : ℕ → Bool
is_param u = eqb u 5 || eqb u 6

unfoldable pub of_class : (param : Bool) (f : ℕ) → Binding → Bool
of_class param f (bind u x f') = eqb f' f && cond param (is_param u) (is_accessor u)

-- "captures .. when first met on the walk": a capture of use u and frame f, where there is none yet
unfoldable pub note_capture : (u f : ℕ) → List Binding → List Binding
note_capture u f bs = cond (eqb (first_where (capture_of u f) 1 bs) 0) (bs ++ (bind u 0 f ∷ [])) bs

-- one parameter of an accessor, where it is wanted
abbrev pub one_param : (wanted : Bool) (u f : ℕ) → List Binding
one_param wanted u f = cond wanted (bind u 0 f ∷ []) []

-- the parameters of an accessor of use u and property x: prop if computed, then value if set
abbrev pub params_for : (u x f : ℕ) → List Binding
params_for u x f = one_param (eqb x 0) 5 f ++ one_param (eqb u 4) 6 f
