-- What each way out of the maker of names answers. Assumes nothing.
use Prim.Native.Nat.{ℕ}
use mathlib.Core.Path.{◌≡◌, refl, ◌∙◌}
use mathlib.Core.List.{List}
use lib.ListN.{length}
use Rattle.base_text.specs.Refusals.{front_of}
use Rattle.std.specs.Prelude.{Result, Ok, Err}
use Rattle.base_text.specs.declared.Refusal.{Refusal}
use Rattle.candidates.specs.MadeNames.{made_names}
use Rattle.candidates.specs.Faults.{first_fault}
use Rattle.made_names.specs.Naming.{fitted, named, Makes}
use Rattle.made_names.specs.declared.Made.{Made}

module _ (bindings names text pairs out : List ℕ) where
  abbrev expected : Result Made Refusal
  expected = named bindings names text (length pairs) (length out)

  abbrev made : List (List ℕ)
  made = made_names bindings names text

  -- 1 and 4
  pub told-front : (f : Refusal) → front_of bindings names text ≡ Err f → Makes (Err f) expected made pairs pairs out out
  unfolding named
  told-front f e = record { right = rw e; pairs_left = refl; text_left = refl }

  -- 11 and 10
  pub told-fault : (f : Refusal) → front_of bindings names text ≡ Ok tt → first_fault bindings names text ≡ Err f → Makes (Err f) expected made pairs pairs out out
  unfolding named
  told-fault f p e = record { right = rw (p, e); pairs_left = refl; text_left = refl }

  -- 9, or the names
  pub told_rest : (r : Result Made Refusal) (pairs' out' : List ℕ) → front_of bindings names text ≡ Ok tt → first_fault bindings names text ≡ Ok tt → Makes r (fitted (length pairs) (length out) made) made pairs pairs' out out'
      → Makes r expected made pairs pairs' out out'
  unfolding named
  told_rest r pairs' out' p e m = record { right = m.right ∙ rw (p, e); pairs_left = m.pairs_left; text_left = m.text_left }
