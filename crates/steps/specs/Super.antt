-- Module 4, Super: where it is rewritten, and the frame of its accessor. Assumes nothing.
use Rattle.std.specs.Prelude.{List, [], ◌∷◌, ℕ, Bool, false, cond, ◌&&◌, ◌||◌, eqb}
use Rattle.grammar.specs.Kinds.{Super, Member, Computed}
use Rattle.forest.specs.Forest.{Rows, Rows.none, Rows.node}
use Rattle.steps.specs.Mode.{Switches, async_only, moved_function, moved_arrow}
use Rattle.steps.specs.Paths.{Step, Step.along, Step.in_params, Step.in_body, Step.in_arrow, Step.in_value, Step.in_static}

-- "Outward: a method-like Function decides by whether it is moved; in AsyncOnly a moved Arrow says yes; all else goes on; Program says no."
-- (`super_needs_transform_stack` of the Rust)
unfoldable pub super_yes : Switches → List Step → Bool
super_yes w [] = false
super_yes w (along ∷ p) = super_yes w p
super_yes w (in_params r a m ∷ p) = cond m (moved_function w a) (super_yes w p)
super_yes w (in_body r a m ∷ p) = cond m (moved_function w a) (super_yes w p)
super_yes w (in_arrow a ∷ p) = async_only w && moved_arrow w a || super_yes w p
super_yes w (in_value r ∷ p) = super_yes w p
super_yes w (in_static r ∷ p) = super_yes w p

-- "The frame is the nearest method-like Function or StaticBlock."
unfoldable pub super_frame : List Step → ℕ
super_frame [] = 0
super_frame (along ∷ p) = super_frame p
super_frame (in_params r a m ∷ p) = cond m r (super_frame p)
super_frame (in_body r a m ∷ p) = cond m r (super_frame p)
super_frame (in_arrow a ∷ p) = super_frame p
super_frame (in_value r ∷ p) = super_frame p
super_frame (in_static r ∷ p) = r

-- the first of some rows is Super
unfoldable pub first_super : Rows → Bool
first_super none = false
first_super (node k a n i s) = eqb k Super

-- it is `super.p` or `super[k]`
unfoldable pub first_access : Rows → Bool
first_access none = false
first_access (node k a n i s) = (eqb k Member || eqb k Computed) && first_super i

-- its name, and its children
unfoldable pub first_name : Rows → ℕ
first_name none = 0
first_name (node k a n i s) = n

unfoldable pub first_inside : Rows → Rows
first_inside none = none
first_inside (node k a n i s) = i
