-- The steps as a whole: switches, names and a forest to a forest and a list of records. Assumes nothing.
use Rattle.std.specs.Prelude.{List, [], cond, ◌||◌}
use Rattle.forest.specs.Forest.{Rows}
use Rattle.steps.specs.Mode.{Switches, enabled, async_only}
use Rattle.steps.specs.Naming.{Names}
use Rattle.steps.specs.Bindings.{Binding}
use Rattle.steps.specs.Walk.{collect, emit, outside}

pub record Result : Type 0 where
  pub rows : Rows
  pub bindings : List Binding

-- the bindings of a table
unfoldable pub made : Names → Switches → Rows → List Binding
made N w t = collect N w outside outside 0 t []

-- "Else Disabled: rows copied, no bindings."
unfoldable pub steps : Names → Switches → Rows → Result
steps N w t =
    cond (enabled w || async_only w)
    (record { rows = emit N w (made N w t) outside outside 0 t; bindings = made N w t })
    (record { rows = t; bindings = [] })
