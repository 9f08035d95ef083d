-- `refusals::firsts::super_over` meets its contract. Assumes nothing.
use mathlib.Core.Path.{◌≡◌}
use Prim.Native.Nat.{ℕ}
use lib.ListN.{length, get_or}
use Rattle.forest.specs.Told.{told_by}
use Rattle.names.proofs.Seeking.{Seek}
use Rattle.names.specs.Words.{words, kind_at}
use Rattle.refusals.specs.Standing.{super_bad}
use Rattle.refusals.proofs.Stands.{told_from, stand_of}
use Rattle.refusals.proofs.firsts.super_over.Given as goal

abbrev pub invariant-loop-i : goal.invariant-loop-i
invariant-loop-i l =
    Seek (λ j. super_bad (stand_of (words l.table.rows.now) j) (kind_at (words l.table.rows.now) j)) l.table.count 0 l.i
    × ((length l.stands ≡ length l.initial.stands) × ((j : ℕ) → get_or l.stands j 0 ≡ told_by (words l.table.rows.now) (told_from (words l.table.rows.now)) 0 l.i j))
