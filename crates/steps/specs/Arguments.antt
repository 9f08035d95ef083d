-- Module 5, Arguments. Assumes nothing.
use Rattle.std.specs.Prelude.{List, [], ◌∷◌, ℕ, Bool, false, ◌&&◌, ◌||◌}
use Rattle.steps.specs.Mode.{Switches, moved_function, moved_arrow}
use Rattle.steps.specs.Paths.{Step, Step.along, Step.in_params, Step.in_body, Step.in_arrow, Step.in_value, Step.in_static}

-- "From an Ident `arguments` outward: a moved Arrow says yes; a Function's Body says yes if moved and method-like, else no; all else goes on; Program says no."
-- (`arguments_needs_transform_stack` of the Rust) That it is asked in AsyncOnly only is said where an Ident is met.
unfoldable pub arguments_yes : Switches → List Step → Bool
arguments_yes w [] = false
arguments_yes w (along ∷ p) = arguments_yes w p
arguments_yes w (in_params r a m ∷ p) = arguments_yes w p
arguments_yes w (in_body r a m ∷ p) = moved_function w a && m
arguments_yes w (in_arrow a ∷ p) = moved_arrow w a || arguments_yes w p
arguments_yes w (in_value r ∷ p) = arguments_yes w p
arguments_yes w (in_static r ∷ p) = arguments_yes w p

-- "Frame: nearest Function or Program."
unfoldable pub arguments_frame : List Step → ℕ
arguments_frame [] = 0
arguments_frame (along ∷ p) = arguments_frame p
arguments_frame (in_params r a m ∷ p) = r
arguments_frame (in_body r a m ∷ p) = r
arguments_frame (in_arrow a ∷ p) = arguments_frame p
arguments_frame (in_value r ∷ p) = arguments_frame p
arguments_frame (in_static r ∷ p) = arguments_frame p
