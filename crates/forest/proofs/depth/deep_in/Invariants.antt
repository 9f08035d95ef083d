-- `forest::depth::deep_in` meets its contract. Assumes nothing.
use Prim.Native.Nat.{ℕ}
use mathlib.Core.Path.{◌≡◌}
use lib.Dec.{ltb}
use lib.ListN.{length, get_or}
use Rattle.names.specs.Words.{words}
use Rattle.forest.specs.Told.{told_by, deeper, depth_at}
use Rattle.names.proofs.Seeking.{Seek}
use Rattle.forest.proofs.depth.deep_in.Given as goal

abbrev pub invariant-loop-i : goal.invariant-loop-i
invariant-loop-i l = Seek (λ j. ltb l.most (depth_at (words l.rows.bytes.now) j)) l.rows.count 0 l.i × ((length l.depth ≡ length l.initial.depth) × ((j : ℕ) → get_or l.depth j 0 ≡ told_by (words l.rows.bytes.now) deeper 0 l.i j))
