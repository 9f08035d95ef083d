-- `forest::told::tell` meets its contract. Assumes nothing.
use mathlib.Core.Path.{◌≡◌}
use Prim.Native.Nat.{◌-◌, ◌≤◌}
use lib.ListN.{length}
use Rattle.names.specs.Words.{words}
use Rattle.forest.specs.Told.{first_then}
use Rattle.forest.proofs.Telling.{Telling}
use Rattle.forest.proofs.told.tell.Given as goal

abbrev pub invariant-loop-row : goal.invariant-loop-row
invariant-loop-row g l =
    Telling (words l.s) (first_then l.fn.one l.fn.more) l.e (length l.initial.told) l.c0 l.initial.told l.told l.children.next l.count
    × ((l.count ≤ l.children.next) × ((first_then l.fn.one l.fn.more l.count l.children.next ≡ l.value) × ((l.children.rows.now ≡ l.s) × (l.children.end ≡ l.e))))

abbrev pub decreases-loop-row : goal.decreases-loop-row
decreases-loop-row g l = l.children.end - l.children.next
