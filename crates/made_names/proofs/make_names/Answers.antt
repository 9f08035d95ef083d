-- `made_names::make_names` meets its contract. Assumes nothing.
use mathlib.Core.Path.{◌≡◌, sym, ◌∙◌}
use native.Mathlib.Omega.{arith}
use Rattle.std.specs.Prelude.{Err}
use Rattle.made_names.proofs.Answering.{told-front, told-fault, told_rest}
use Rattle.made_names.proofs.make_names.Goals as goal

pub returns-in_err-front : goal.returns-in_err-front
returns-in_err-front c =
    let e : c.from_residual.result ≡ Err c.in_err-front.field-0.0 = grind arith in
    rw e (told-front _ _ _ _ _ _ (sym c.front.ensures ∙ c.in_err-front.was))

pub first_fault-requires : goal.first_fault-requires
first_fault-requires c = sym c.front.ensures ∙ c.in_ok-front.was

pub returns-in_err-first_fault : goal.returns-in_err-first_fault
returns-in_err-first_fault c =
    let e : c.from_residual-in_err-first_fault.result ≡ Err c.in_err-first_fault.field-0.0 = grind arith in
    rw e (told-fault _ _ _ _ _ _ (sym c.front.ensures ∙ c.in_ok-front.was) (sym c.first_fault.ensures ∙ c.in_err-first_fault.was))

pub returns : goal.returns
returns c = told_rest _ _ _ _ _ _ _ _ (sym c.front.ensures ∙ c.in_ok-front.was) (sym c.first_fault.ensures ∙ c.in_ok-first_fault.was) c.over.ensures
