-- The bindings in the first ten tables of a local array, of cap entries each (behind them two more, Filed.antt): the record's three words and the next of its chain, by binding number; the capture of `this` and of `arguments`,
-- the first and last accessor and the first and last parameter, by frame. So that no number is searched for in the whole list. Assumes nothing.
use Rattle.std.specs.Prelude.{◌≡◌, List, [], ◌∷◌, ℕ, zero, suc, ◌+◌, ◌*◌, ◌≤◌, ◌<◌, Bool, true, cond, get_or, length, drop, set, eqb}
use Rattle.std.specs.Coded.{×_prop, →_prop, Unit-prop}
use Rattle.std.proofs.Math.Nat.{ℕ_set}
use Rattle.steps.specs.Bindings.{Binding, Binding.bind}
use Rattle.buckets.specs.Search.{first_where, last_where}
use Rattle.bindings.specs.Search.{capture_of, of_class}

abbrev pub use_at : List ℕ → (cap b : ℕ) → ℕ
use_at M cap b = get_or M b 0

abbrev pub property_at : List ℕ → (cap b : ℕ) → ℕ
property_at M cap b = get_or M (cap + b) 0

abbrev pub frame_at : List ℕ → (cap b : ℕ) → ℕ
frame_at M cap b = get_or M (2 * cap + b) 0

-- binding b, from 1
abbrev pub bind_at : List ℕ → (cap b : ℕ) → Binding
bind_at M cap b = bind (use_at M cap b) (property_at M cap b) (frame_at M cap b)

-- n bindings from number b on
unfoldable pub binds_from : List ℕ → (cap b n : ℕ) → List Binding
binds_from M cap b zero = []
binds_from M cap b (suc n) = bind_at M cap b ∷ binds_from M cap (b + 1) n

abbrev pub binds : List ℕ → (cap count : ℕ) → List Binding
binds M cap count = binds_from M cap 1 count

-- where the first and the last of a frame's accessors, or parameters, stand in the array
abbrev pub first_table : (param : Bool) (cap f : ℕ) → ℕ
first_table param cap f = cond param (8 * cap + f) (6 * cap + f)

abbrev pub last_table : (param : Bool) (cap f : ℕ) → ℕ
last_table param cap f = cond param (9 * cap + f) (7 * cap + f)

-- where a frame's capture of use u stands: `this` (1) or `arguments` (2)
abbrev pub capture_table : (cap u f : ℕ) → ℕ
capture_table cap u f = cond (eqb u 1) (4 * cap + f) (5 * cap + f)

-- what stands there: a frame's captures, its first accessor or parameter, and the next of a chain; 0 is none
abbrev pub this_at : List ℕ → (cap f : ℕ) → ℕ
this_at M cap f = get_or M (4 * cap + f) 0

abbrev pub arguments_at : List ℕ → (cap f : ℕ) → ℕ
arguments_at M cap f = get_or M (5 * cap + f) 0

abbrev pub capture_at : List ℕ → (cap u f : ℕ) → ℕ
capture_at M cap u f = get_or M (capture_table cap u f) 0

abbrev pub first_at : List ℕ → (param : Bool) (cap f : ℕ) → ℕ
first_at M param cap f = get_or M (first_table param cap f) 0

abbrev pub next_at : List ℕ → (cap b : ℕ) → ℕ
next_at M cap b = get_or M (3 * cap + b) 0

-- captures have no property
abbrev pub Bare : List Binding → Type 0
Bare [] = Unit {0}
Bare (bind u x f ∷ bs) = ((u ≤ 2) → x ≡ 0) × Bare bs

-- that is a fact with one proof at most
pub Bare-prop : (bs : List Binding) → IsProp (Bare bs)
Bare-prop [] = Unit-prop
Bare-prop (bind u x f ∷ bs) = ×_prop (→_prop (ℕ_set _ _)) (Bare-prop bs)

-- the array holds these count bindings, and its tables are right
pub record Store (M : List ℕ) (cap count : ℕ) : Type 0 where
  pub long : length M ≡ 12 * cap
  pub room : count < cap
  pub bare : Bare (binds M cap count)
  pub this : (f : ℕ) → f < cap → get_or M (4 * cap + f) 0 ≡ first_where (capture_of 1 f) 1 (binds M cap count)
  pub arguments : (f : ℕ) → f < cap → get_or M (5 * cap + f) 0 ≡ first_where (capture_of 2 f) 1 (binds M cap count)
  pub firsts : (param : Bool) (f : ℕ) → f < cap → get_or M (first_table param cap f) 0 ≡ first_where (of_class param f) 1 (binds M cap count)
  pub lasts : (param : Bool) (f : ℕ) → f < cap → get_or M (last_table param cap f) 0 ≡ last_where (of_class param f) 1 (binds M cap count)
  pub nexts : (param : Bool) (f b : ℕ) → 0 < b → b ≤ count → of_class param f (bind_at M cap b) ≡ true → get_or M (3 * cap + b) 0 ≡ first_where (of_class param f) (b + 1) (drop b (binds M cap count))
  pub fresh : (b : ℕ) → count < b → b < cap → get_or M (3 * cap + b) 0 ≡ 0

-- a record written at number b
abbrev pub pushed : List ℕ → (cap b u x f : ℕ) → List ℕ
pushed M cap b u x f = set (set (set M b u) (cap + b) x) (2 * cap + b) f

-- a capture of use u at frame f: its record, and its number in the table of that use (this 4, arguments 5)
abbrev pub captured : List ℕ → (cap b u f : ℕ) → List ℕ
captured M cap b u f = set (pushed M cap b u 0 f) (capture_table cap u f) b

-- where the number of a binding is stored that is put behind the last of its chain: the last one's next, or the first where there is none
abbrev pub link_table : (param : Bool) (cap f last : ℕ) → ℕ
link_table param cap f last = cond (eqb last 0) (first_table param cap f) (3 * cap + last)

-- binding b put behind the last of its chain
abbrev pub chained : List ℕ → (cap : ℕ) (param : Bool) (f b : ℕ) → List ℕ
chained M cap param f b = set (set M (link_table param cap f (get_or M (last_table param cap f) 0)) b) (last_table param cap f) b
