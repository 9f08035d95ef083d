-- `emit_plan::plans::is_steady` meets its contract. Assumes nothing.
use mathlib.Core.Path.{sym, subst, ◌∙◌}
use Prim.Native.Nat.{ℕ}
use Rattle.steps.proofs.Credit.{eqb-eq}
use Rattle.passes.specs.View.{state_number}
use Rattle.passes.specs.declared.states.State.TheVariants.{Copy, Visit, List}
use Rattle.passes.proofs.Numbers.{state_same, state_told}
use Rattle.emit_plan.specs.Unchanged.{Steady}
use Rattle.emit_plan.proofs.Unchanged.{steady-copy, steady_of}
use Rattle.emit_plan.proofs.plans.is_steady.Goals as goal

pub returns-then-eq : goal.returns-then-eq
returns-then-eq c = λ h. subst (λ (s : ℕ). Steady s c.args.kind) (sym (eqb-eq _ _ (state_told c.args.state Copy c.eq.ensures c.if-eq.true))) (steady-copy c.args.kind)

pub returns : goal.returns
returns c = λ h. steady_of (state_number c.args.state) c.args.kind (rw (← c.changes_state.ensures, ← (c.eq-2.ensures ∙ state_same c.args.state Visit), ← (c.eq-3.ensures ∙ state_same c.args.state List)) h)
