-- Module 3, Ancestor rule: `get_scope_id_from_this_affected_block` and `get_this_identifier` of the Rust. Assumes nothing.
use Rattle.std.specs.Prelude.{List, [], ◌∷◌, ℕ, Bool, true, false, cond, not, ◌&&◌}
use Rattle.steps.specs.Mode.{Switches, async_only, moved_function, moved_arrow}
use Rattle.steps.specs.Paths.{Step, Step.along, Step.in_params, Step.in_body, Step.in_arrow, Step.in_value, Step.in_static}

-- "From a This outward: Program, a Function's Params, a Field's value, a StaticBlock: stays. Body of a Function: captured if moved and method-like, else stays.
-- Arrow, params or body: in AsyncOnly and not moved, go on; else captured."
unfoldable pub captured : Switches → List Step → Bool
captured w [] = false
captured w (along ∷ p) = captured w p
captured w (in_params r a m ∷ p) = false
captured w (in_body r a m ∷ p) = moved_function w a && m
captured w (in_arrow a ∷ p) = cond (async_only w && not (moved_arrow w a)) (captured w p) true
captured w (in_value r ∷ p) = false
captured w (in_static r ∷ p) = false

-- "Its frame is the nearest Function, StaticBlock or Program, Fields skipped."
unfoldable pub this_frame : List Step → ℕ
this_frame [] = 0
this_frame (along ∷ p) = this_frame p
this_frame (in_params r a m ∷ p) = r
this_frame (in_body r a m ∷ p) = r
this_frame (in_arrow a ∷ p) = this_frame p
this_frame (in_value r ∷ p) = this_frame p
this_frame (in_static r ∷ p) = r
