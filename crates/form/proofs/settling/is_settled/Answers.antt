-- `form::settling::is_settled` meets its contract. Assumes nothing.
use mathlib.Core.Path.{refl}
use native.Mathlib.Omega.{arith}
use borrow.Author.Tests.{ne_eqb}
use Rattle.form.specs.Form.{settled}
use Rattle.form.proofs.settling.is_settled.Goals as goal

pub returns-in-0 : goal.returns-in-0
unfolding settled
returns-in-0 c = rw c.in-0.is refl

pub returns-in-4 : goal.returns-in-4
unfolding settled
returns-in-4 c = rw c.in-4.is refl

pub returns-in_default : goal.returns-in_default
unfolding settled
returns-in_default c = rw (ne_eqb c.args.part 0 (λ e. omega arith), ne_eqb c.args.part 4 (λ e. omega arith)) refl
