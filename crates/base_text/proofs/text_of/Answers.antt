-- `base_text::text_of` meets its contract. Assumes nothing.
use mathlib.Core.Path.{◌≡◌, ap, sym, ◌∙◌}
use native.Mathlib.Omega.{arith}
use Rattle.std.specs.Prelude.{Some, None, Err, is_some}
use Rattle.base_text.specs.Bindings.{property_number}
use Rattle.base_text.specs.declared.Refusal.TheVariants.{BadBinding}
use Rattle.base_text.proofs.Checking.{fronted, bound, property-ok}
use Rattle.base_text.proofs.Telling.{told_binding, told_text}
use Rattle.base_text.proofs.text_of.Goals as goal

pub read-requires : goal.read-requires
read-requires c = (fronted _ _ _ c.requires).sizes.records

pub returns-in_err-binding : goal.returns-in_err-binding
returns-in_err-binding c =
    let none : c.read.result ≡ None = grind arith in
    let e : c.from_residual.result ≡ Err (BadBinding c.args.number) = grind arith in
    rw e (told_binding _ _ _ _ _ (sym c.read.ensures.told ∙ ap is_some none))

pub spell-requires : goal.spell-requires
spell-requires c =
    let a = c.args in
    let some : c.read.result ≡ Some c.in_ok-binding.binding = grind arith in
    let t = fronted _ _ _ c.requires in
    let b = bound _ _ _ (sym c.read.ensures.told ∙ ap is_some some) in
    (t.sizes.few, rw (c.read.ensures.holds _ some).1 (property-ok a.script.names.now a.script.text.now (property_number a.script.bindings.now a.number) t.named b.property))

pub returns : goal.returns
returns c =
    let some : c.read.result ≡ Some c.in_ok-binding.binding = grind arith in
    let h = c.read.ensures.holds _ some in
    told_text _ _ _ _ _ _ _ _ _ (sym c.read.ensures.told ∙ ap is_some some) h.0 h.1 c.spell.ensures
