-- `base_text::bindings::Binding::read` meets its contract. Assumes nothing.
use mathlib.Core.Path.{◌∙◌}
use borrow.Author.Tests.{eq-eqb, ne_eqb, lt-ltb, le-ltb}
use Rattle.base_text.specs.Bindings.{binding_ok}
use Rattle.base_text.proofs.bindings.Binding.read.Goals.{then-number-eq0-via-then-number-eq0, then-number-eq0-via-else-number-eq0+then-bindings-number}
use Rattle.base_text.proofs.bindings.Binding.read.Goals as goal

pub returns-then-number-eq0 : goal.returns-then-number-eq0
unfolding binding_ok
returns-then-number-eq0 c = elim c.then-number-eq0.branch [
  | then-number-eq0-via-then-number-eq0 w ↦ record { told = rw (eq-eqb _ _ w.if-number-eq0.true); holds = λ b e. cc }
  | then-number-eq0-via-else-number-eq0+then-bindings-number w ↦ record { told = rw (ne_eqb _ _ w.if-number-eq0.false, lt-ltb _ _ w.if-bindings-number.true); holds = λ b e. cc }
]

pub returns : goal.returns
unfolding binding_ok
returns c =
    record {
      told = c.new.ensures.told ∙ rw (ne_eqb _ _ c.if-number-eq0.false, le-ltb _ _ c.if-bindings-number.false, c.cell.ensures.0, c.cell-2.ensures.0, c.cell-3.ensures.0);
      holds = λ b e. let h = c.new.ensures.holds b e in (h.0 ∙ c.cell.ensures.0, rw (← c.cell-2.ensures.0) h.1);
    }
