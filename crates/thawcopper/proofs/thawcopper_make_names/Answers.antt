-- `thawcopper::thawcopper_make_names` meets its contract. Assumes nothing.
use Prim.Native.Nat.{◌*◌}
use mathlib.Core.Path.{ap, ◌∙◌}
use mathlib.Core.List.{◌++◌}
use lib.ListN.{take, drop}
use Rattle.names.specs.Bytes.{bytes_of}
use Rattle.names.specs.Laid.{joined, pairs_from}
use Rattle.candidates.specs.MadeNames.{made_names}
use Rattle.made_names.specs.Naming.{pair_count, byte_count}
use Rattle.std.specs.Prelude.{Result}
use Rattle.base_text.specs.declared.Refusal.{Refusal}
use Rattle.made_names.specs.declared.Made.{Made}
use Rattle.thawcopper.proofs.thawcopper_make_names.Goals as goal

pub returns : goal.returns
returns c =
    let a = c.args in
    let made = made_names a.bindings.now a.names.now a.text.now in
    let told = c.make_names.ensures in
    record {
      told = rw (← told.right) c.from.ensures;
      pairs_written = told.pairs_left ∙ ap (λ (s : Result Made Refusal). take (8 * pair_count s) (bytes_of (pairs_from 0 made)) ++ drop (8 * pair_count s) a.out_pairs.now) told.right;
      text_written = told.text_left ∙ ap (λ (s : Result Made Refusal). take (byte_count s) (joined made) ++ drop (byte_count s) a.out_text.now) told.right;
    }
