-- Module 9, the bindings: "Bindings are numbered as the Rust makes them: captures and accessors when first met on the walk, prop and value as the frame closes.
-- Record: use (1 this, 2 arguments, 3 get, 4 set, 5 prop, 6 value), property name number or 0 (of the first use; 0 for prop and value), frame's input row". Assumes nothing.
use Rattle.std.specs.Prelude.{List, [], ◌∷◌, ◌++◌, ℕ, ◌+◌, Bool, cond, ◌&&◌, ◌||◌, eqb}
use Rattle.grammar.specs.Kinds.{Program, Body, StaticBlock}
use Rattle.steps.specs.Slots.{body_of, late_body}
use Rattle.steps.specs.Naming.{Names, same_as}
use Rattle.steps.specs.Acts.{Ctx, Op, Op.row, Op.drop, Op.name, Op.call}

-- use, property, frame
pub data Binding : Type 0 where
  bind : (u x f : ℕ) → Binding

-- Module 4, "One accessor per frame, get or set, and property; all computed ones share." The same for captures, which have no property.
unfoldable pub is : Names → ℕ → ℕ → ℕ → Binding → Bool
is N u f x (bind u' x' f') = eqb u' u && eqb f' f && same_as N x' x

-- the number of the first binding so described, counted from c; 0: none
unfoldable pub number_from : Names → ℕ → ℕ → ℕ → ℕ → List Binding → ℕ
number_from N u f x c [] = 0
number_from N u f x c (b ∷ bs) = cond (is N u f x b) c (number_from N u f x (c + 1) bs)

unfoldable pub number : Names → List Binding → ℕ → ℕ → ℕ → ℕ
number N bs u f x = number_from N u f x 1 bs

-- "when first met on the walk"
unfoldable pub note : Names → ℕ → ℕ → ℕ → List Binding → List Binding
note N u f x bs = cond (eqb (number N bs u f x) 0) (bs ++ (bind u x f ∷ [])) bs

-- Does a row close a frame: Program, StaticBlock, a Function's Body. The frame is its inside's this_frame.
unfoldable pub closes : ℕ → ℕ → Bool
closes sl k = eqb k Program || eqb k StaticBlock || eqb k Body && (eqb sl body_of || eqb sl late_body)

-- prop and value of each accessor of the frame, by first use: prop if computed, then value if set
unfoldable pub params_of : ℕ → List Binding → List Binding
params_of f [] = []
params_of f (bind u x f' ∷ bs) =
    cond (eqb f' f && (eqb u 3 || eqb u 4))
    (cond (eqb x 0) (bind 5 0 f ∷ []) [] ++ (cond (eqb u 4) (bind 6 0 f ∷ []) [] ++ params_of f bs))
    (params_of f bs)

-- "prop and value as the frame closes"
unfoldable pub closed : Bool → ℕ → List Binding → List Binding
closed y f bs = cond y (bs ++ params_of f bs) bs

-- what a row meets before its children
unfoldable pub meet : Names → Op → List Binding → List Binding
meet N (row k a n) bs = bs
meet N drop bs = bs
meet N (name u f) bs = note N u f 0 bs
meet N (call u f x t) bs = note N u f x bs

-- and after them: the new This of `super.m(a)`, "met after k, going through module 3"
unfoldable pub leave : Names → Ctx → Op → List Binding → List Binding
leave N c (row k a n) bs = bs
leave N c drop bs = bs
leave N c (name u f) bs = bs
leave N c (call u f x t) bs = cond (t && c.takes_this) (note N 1 c.this_at 0 bs) bs
