-- The act of a row as both walks meet it. Assumes nothing.
use mathlib.Core.Path.{◌≡◌, subst}
use mathlib.Core.Bool.{Bool}
use Prim.Native.Nat.{ℕ}
use Rattle.forest.specs.Forest.{Rows}
use Rattle.steps.specs.Mode.{Switches}
use Rattle.steps.specs.Naming.{Names}
use Rattle.steps.specs.Acts.{act}
use Rattle.steps.specs.Context.{Spot, late_c, act_c}
use Rattle.plan.specs.Taking.{Takes}
use Rattle.acts.specs.declared.act.Act.{Act as Acted}
use Rattle.plan.specs.declared.place.Place.{Place}

-- an act made with what `is_late` says
pub acted_late : (N : Names) (w : Switches) (q : Spot) (o k a n : ℕ) (i : Rows) {l : Bool} {r : Acted Place} → l ≡ late_c N w q o k a i → Takes w q.ctx (act N w l q.ctx q.slot o k a n i) r → Takes w q.ctx (act_c N w q o k a n i) r
unfolding act_c
acted_late N w q o k a n i {l} {r} e d = subst (λ (l : Bool). Takes w q.ctx (act N w l q.ctx q.slot o k a n i) r) e d
