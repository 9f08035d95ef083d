-- `numbers::bucket` meets its contract. Assumes nothing.
use mathlib.Core.Path.{ap}
use Prim.Native.Nat.{ℕ, ◌%◌}
use native.Mathlib.Nat.{mod-lt}
use Rattle.numbers.proofs.bucket.Goals as goal

pub returns : goal.returns
returns c = (ap (λ (n : ℕ). n % c.args.buckets) c.hash_bytes.ensures.0, mod-lt c.hash_bytes.result c.requires)
