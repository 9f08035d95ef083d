-- `made_names::sizes::over` meets its contract. Assumes nothing.
use native.Mathlib.Omega.{arith}
use Prim.Native.Nat.{◌+◌}
use Rattle.names.specs.Words.{names_in}
use Rattle.base_text.specs.Bindings.{records_in}
use Rattle.numbers.proofs.Looking.{few-entries}
use Rattle.made_names.proofs.sizes.over.Goals as goal

pub below-requires-in_default-clause-bindings_bound : goal.below-requires-in_default-clause-bindings_bound
below-requires-in_default-clause-bindings_bound c =
    let s = c.args.checked.script in
    let f = few-entries c.args.checked.sound (names_in s.names.now + records_in s.bindings.now) (omega arith) in
    omega arith
