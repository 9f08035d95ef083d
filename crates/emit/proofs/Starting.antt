-- The walk of a whole table, from Program. Assumes nothing.
use mathlib.Core.Path.{◌≡◌, ap, sym, subst}
use mathlib.Core.List.{List}
use native.Mathlib.Omega.{arith}
use Prim.Native.Nat.{ℕ, ◌+◌, ◌<◌, ◌^◌}
use Rattle.names.specs.Words.{rows_in}
use Rattle.forest.specs.Forest.{size, table}
use Rattle.spelling.specs.Spelling.{GivenNames}
use Rattle.steps.specs.Outcome.{names_of}
use Rattle.steps.specs.Slots.{free}
use Rattle.steps.specs.AfterSuper.{copy}
use Rattle.steps.specs.Context.{Spot, spot, start}
use Rattle.steps.specs.Fused.{emit_s}
use Rattle.acts.specs.View.{switches_of}
use Rattle.plan.specs.Ranged.{Ranged}
use Rattle.plan.specs.Frames.{FramesBelow}
use Rattle.emit_plan.specs.declared.Walk.{Walk}
use Rattle.emit_plan.specs.Plans.{list_of, listed, emitted, Holds, ListPre}

module _ (rows names text : List ℕ) (v : Walk) {s : Spot} (p : s ≡ spot start free) where
  pub program_rows : emitted rows names text v ≡ listed rows names text v 0 copy s s 0 (rows_in rows)
  program_rows = ap (λ (z : Spot). emit_s (names_of names text) (switches_of v.switches) (list_of v) 0 copy z z 0 (table rows)) (sym p)

  pub program_room : size (emitted rows names text v) < 2 ^ 32 → 0 + size (listed rows names text v 0 copy s s 0 (rows_in rows)) < 2 ^ 32
  program_room h = let z = ap size program_rows in omega arith

  pub program_pre : Ranged rows 0 (rows_in rows) → GivenNames names text → Holds names text v (rows_in rows) → ListPre rows names text v 0 s s 0 (rows_in rows)
  program_pre r g h =
      let f : FramesBelow v.bindings.cap s.ctx = let z = v.bindings.store.room in subst (λ (z : Spot). FramesBelow v.bindings.cap z.ctx) (sym p) (record { this = omega arith; super = omega arith; arguments = omega arith }) in
      record { range = r; named = g; holds = h; bound = omega arith; first = f; later = f }
