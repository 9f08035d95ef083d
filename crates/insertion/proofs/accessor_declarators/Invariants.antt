-- `insertion::accessor_declarators` meets its contract. Assumes nothing.
use Prim.Native.Nat.{◌+◌, ◌-◌}
use mathlib.Core.Bool.{cond}
use mathlib.Core.Path.{◌≡◌}
use lib.Dec.{eqb}
use Rattle.insertion.proofs.Declaring.{Going}
use Rattle.insertion.proofs.accessor_declarators.Given as goal

abbrev pub invariant-loop-b : goal.invariant-loop-b
invariant-loop-b l =
    Going l.initial.w.rows.now l.initial.w.at l.all.made.now l.all.cap l.all.count l.frame.row l.w.rows.now l.w.at l.b l.p
    × (l.w.rows.ghost_name ≡ l.initial.w.rows.ghost_name)

abbrev pub decreases-loop-b : goal.decreases-loop-b
decreases-loop-b l = cond (eqb l.b 0) 0 (l.all.count + 1 - l.b)
