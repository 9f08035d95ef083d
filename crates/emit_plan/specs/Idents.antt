-- The Ident of a captured `this`, from the bindings' array. Assumes nothing.
use Rattle.std.specs.Prelude.{ℕ, Bool, cond, List}
use Rattle.grammar.specs.Kinds.{Ident, This}
use Rattle.forest.specs.Forest.{Rows, Rows.none, Rows.node}
use Rattle.bindings.specs.Store.{this_at}
use Rattle.plan.specs.declared.place.Place.{Place}
use Rattle.plan.specs.Placing.{place_of}
use Rattle.emit_plan.specs.declared.Walk.{Walk}

-- the This of a place: captured in frame f where it takes one
unfoldable pub this_row : List ℕ → (cap : ℕ) (takes : Bool) (f : ℕ) → Rows
this_row M cap takes f = cond takes (node Ident 1 (this_at M cap f) none none) (node This 0 0 none none)

-- the same of a place of the walk
abbrev pub this_in : Walk → Place → Rows
this_in v q = this_row v.bindings.made.now v.bindings.cap (place_of q).ctx.takes_this (place_of q).ctx.this_at
