-- Tables of zeros have no entry. Assumes nothing.
use Prim.Native.Nat.{ℕ, ◌+◌, ◌<◌}
use mathlib.Core.List.{List}
use native.Mathlib.Omega.{arith}
use lib.ListN.{replicate, length-replicate}
use Rattle.names.specs.Words.{names_in}
use Rattle.names.proofs.Zeros.{zeros}
use Rattle.base_text.specs.Bindings.{records_in}
use Rattle.numbers.specs.Tables.{Empty}

pub no_entries : (bindings names : List ℕ) (buckets room : ℕ) → 0 < buckets → names_in names + records_in bindings < room → Empty bindings names (replicate buckets 0) (replicate room 0) (replicate room 0) (replicate room 0)
no_entries bindings names buckets room s l = record {
  some = omega (arith, length-replicate {A = ℕ} buckets 0);
  befores_long = omega (arith, length-replicate {A = ℕ} room 0);
  reached_long = omega (arith, length-replicate {A = ℕ} room 0);
  numbers_long = omega (arith, length-replicate {A = ℕ} room 0);
  no_lasts = zeros buckets;
  none_reached = zeros room;
}
