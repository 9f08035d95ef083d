-- `bindings::view::Bindings::is_it` meets its contract. Assumes nothing.
use mathlib.Core.Path.{◌∙◌}
use Rattle.steps.specs.Naming.{same_as}
use Rattle.bindings.proofs.Finding.{other_frame, other_use, same_frame_use}
use Rattle.bindings.proofs.view.Bindings.is_it.Goals as goal

pub returns-then-self-b : goal.returns-then-self-b
returns-then-self-b c = other_frame _ _ _ _ _ _ _ (λ z. c.if-self-b.true z)

pub returns-then-self-b-2 : goal.returns-then-self-b-2
returns-then-self-b-2 c = rw (← c.access_word.ensures) (other_use _ _ _ _ _ _ _ (λ z. c.if-self-b-2.true z))

pub returns : goal.returns
unfolding same_as
returns c =
    rw (← c.access_word.ensures) (c.same_name.ensures ∙ same_frame_use _ _ _ _ _ _ _ c.if-self-b.false c.if-self-b-2.false)
