-- `base_text::base_text` meets its contract. Assumes nothing.
use mathlib.Core.Path.{◌≡◌, sym, ◌∙◌}
use Rattle.std.specs.Prelude.{Err}
use native.Mathlib.Omega.{arith}
use Rattle.base_text.proofs.Telling.{told-front, told-spelled}
use Rattle.base_text.proofs.base_text.Goals as goal

pub returns-in_err-front : goal.returns-in_err-front
returns-in_err-front c =
    let e : c.from_residual.result ≡ Err c.in_err-front.field-0.0 = grind arith in
    rw e (told-front _ _ _ _ _ _ (sym c.front.ensures ∙ c.in_err-front.was))

pub text_of-requires : goal.text_of-requires
text_of-requires c = sym c.front.ensures ∙ c.in_ok-front.was

pub returns : goal.returns
returns c = told-spelled _ _ _ _ _ _ _ (sym c.front.ensures ∙ c.in_ok-front.was) c.text_of.ensures
