-- The walk of a whole table, from Program and from no binding. Assumes nothing.
use mathlib.Core.Path.{◌≡◌, ap, sym, subst, ◌∙◌}
use mathlib.Core.List.{List, []}
use Prim.Native.Nat.{ℕ, ◌<◌}
use lib.ListN.{length}
use Rattle.names.specs.Words.{rows_in}
use Rattle.forest.specs.Forest.{table}
use Rattle.steps.specs.Mode.{Switches}
use Rattle.steps.specs.Naming.{Names}
use Rattle.steps.specs.Slots.{free}
use Rattle.steps.specs.Bindings.{Binding}
use Rattle.steps.specs.Context.{Spot, spot, start, collect_c, made_c}
use Rattle.bindings.specs.Store.{binds, binds_from}
use Rattle.bindings.specs.Post.{Kept}
use Rattle.bindings.specs.Filed.{Filed}
use Rattle.plan.specs.Frames.{FramesBelow}
use Rattle.collect.specs.Collecting.{Collects, Starts}

-- no binding is in the array yet
pub no_binds : {names text I : List ℕ} {cap : ℕ} (M : List ℕ) → Filed names text I cap [] → Filed names text I cap (binds M cap 0)
unfolding binds_from
no_binds M F = F

module _ (N : Names) (w : Switches) (rows : List ℕ) {M : List ℕ} {cap : ℕ} (P : Starts (rows_in rows) M cap (made_c N w (table rows))) {s : Spot} (p : s ≡ spot start free) where
  abbrev walk : List Binding
  walk = collect_c N w s s 0 (table rows) (binds M cap 0)

  walk_is : walk ≡ made_c N w (table rows)
  unfolding made_c binds_from
  walk_is = ap (λ (z : Spot). collect_c N w z z 0 (table rows) []) p

  frames : FramesBelow cap s.ctx
  frames = let h = P.store.room in subst (λ (z : Spot). FramesBelow cap z.ctx) (sym p) (record { this = h; super = h; arguments = h })

  pub program_collects : Collects (rows_in rows) M cap 0 s s walk
  program_collects = record { store = P.store; cap_low = P.cap_low; rows_low = P.rows_low; one-low = frames; more-low = frames; room = subst (λ (l : List Binding). length l < cap) (sym walk_is) P.room }

  pub program_kept : {M' : List ℕ} {count : ℕ} → Kept M' cap walk count → Kept M' cap (made_c N w (table rows)) count
  program_kept k = record { store = k.store; list = k.list ∙ walk_is }
