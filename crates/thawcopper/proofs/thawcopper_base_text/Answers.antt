-- `thawcopper::thawcopper_base_text` meets its contract. Assumes nothing.
use Prim.Native.Nat.{ℕ}
use mathlib.Core.Path.{ap, ◌∙◌}
use mathlib.Core.List.{◌++◌}
use lib.ListN.{take, drop}
use Rattle.base_text.specs.Refusals.{count_of, base_text}
use Rattle.std.specs.Prelude.{Result}
use Rattle.base_text.specs.declared.Refusal.{Refusal}
use Rattle.thawcopper.proofs.thawcopper_base_text.Goals as goal

pub returns : goal.returns
returns c =
    let a = c.args in
    let told = c.base_text.ensures in
    record {
      told = rw (← told.right) c.from.ensures;
      written = told.bytes ∙ ap (λ (s : Result ℕ Refusal). take (count_of s) (base_text a.number a.bindings.now a.names.now a.text.now) ++ drop (count_of s) a.out.now) told.right;
    }
