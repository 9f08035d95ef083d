-- What is written for a row, by the plan that was made for it outside the walk, and what the walkers know. Assumes nothing.
use Rattle.std.specs.Prelude.{ℕ, ◌+◌, ◌≤◌, ◌≡◌, true, false, List, eqb}
use Rattle.names.specs.Words.{words, rows_in, kind_at, attr_at, name_at, end_at}
use Rattle.forest.specs.Forest.{Rows, Rows.none, rows_at, table}
use Rattle.spelling.specs.Spelling.{GivenNames}
use Rattle.steps.specs.Naming.{Names}
use Rattle.steps.specs.Outcome.{names_of}
use Rattle.steps.specs.Slots.{free, wrapped}
use Rattle.steps.specs.Super.{first_super}
use Rattle.steps.specs.AfterSuper.{super_call, copy}
use Rattle.steps.specs.ArrowToFunction.{dress}
use Rattle.steps.specs.Acts.{Op.row}
use Rattle.steps.specs.Bindings.{Binding, number, closes}
use Rattle.steps.specs.Context.{Spot, spot, start, act_c}
use Rattle.steps.specs.Fused.{pass_of, top_s, build_s, emit_s}
use Rattle.bindings.specs.Store.{binds}
use Rattle.bindings.specs.Filed.{Filed, behind}
use Rattle.passes.specs.View.{slot_number, state_number, op_of, in_sequence, is_behind, Says}
use Rattle.below.specs.Below.{children}
use Rattle.passes.specs.declared.Pass.{Pass}
use Rattle.acts.specs.View.{switches_of}
use Rattle.acts.specs.declared.act.Act.{Act}
use Rattle.plan.specs.declared.place.Place.{Place}
use Rattle.plan.specs.Placing.{place_of}
use Rattle.plan.specs.Taking.{Takes}
use Rattle.plan.specs.Ranged.{Ranged}
use Rattle.plan.specs.Frames.{FramesBelow, OpLow}
use Rattle.emit_plan.specs.declared.Walk.{Walk}
use Rattle.emit_plan.specs.declared.Siblings.{Siblings}
use Rattle.emit_plan.specs.declared.Plan.{Plan}
use Rattle.emit_plan.specs.Walkers.{is_statement, is_row}

-- the bindings of the walk
abbrev pub list_of : Walk → List Binding
list_of v = binds v.bindings.made.now v.bindings.cap v.bindings.count

module _ (rows names text : List ℕ) (v : Walk) where
  -- what some rows become: the first at q, the later ones at q', in state sc where binding b is assigned
  abbrev pub listed : (b sc : ℕ) (q q' : Spot) (i e : ℕ) → Rows
  listed b sc q q' i e = emit_s (names_of names text) (switches_of v.switches) (list_of v) b sc q q' i (rows_at (words rows) i e)

  -- what the whole table becomes
  abbrev pub emitted : Rows
  emitted = emit_s (names_of names text) (switches_of v.switches) (list_of v) 0 copy (spot start free) (spot start free) 0 (table rows)

  -- what a row's children become
  abbrev pub inside : Siblings → Rows
  inside n = listed n.bind (state_number n.state) (place_of n.one) (place_of n.more) n.from n.end

  -- .. with the Var that goes first where a row of kind k in that slot closes a frame
  abbrev pub topped : (sl k : ℕ) → Siblings → Rows
  topped sl k n = top_s (names_of names text) (list_of v) sl k (place_of n.more).ctx.this_at (inside n)

  -- what the row becomes, before the rows s
  abbrev pub built : Plan → Rows → Rows
  built p = build_s (names_of names text) (list_of v) (place_of p.spot).ctx p.bind (in_sequence p.assigned) (is_behind p.assigned) (op_of p.op) (topped (slot_number p.slot) p.head.kind p.inner)

  -- and in the Body and Return of an expression body
  abbrev pub dressed : Plan → Rows
  dressed p = dress (slot_number p.slot) (built p) none

-- the walk has the bindings of a table of n rows, its accessors by buckets
pub record Holds (names text : List ℕ) (v : Walk) (n : ℕ) : Type 0 where
  pub filed : Filed names text (behind v.bindings.cap v.bindings.made.now) v.bindings.cap (list_of v)
  pub rows_low : n ≤ v.bindings.cap

-- what a walker of a list needs
pub record ListPre (rows names text : List ℕ) (v : Walk) (b : ℕ) (q q' : Spot) (i e : ℕ) : Type 0 where
  pub range : Ranged rows i e
  pub named : GivenNames names text
  pub holds : Holds names text v (rows_in rows)
  pub bound : b ≤ 16384
  pub first : FramesBelow v.bindings.cap q.ctx
  pub later : FramesBelow v.bindings.cap q'.ctx

-- .. for the children of a row
abbrev pub InnerPre : (rows names text : List ℕ) → Walk → Siblings → Type 0
InnerPre rows names text v n = ListPre rows names text v n.bind (place_of n.one) (place_of n.more) n.from n.end

-- what a kind says of its plan: the cases that need not be written
pub record Formed (p : Plan) : Type 0 where
  pub statement : is_statement p.head.kind ≡ true → (op_of p.op ≡ row p.head.kind p.head.attr p.head.name) × ((in_sequence p.assigned ≡ false) × (closes (slot_number p.slot) p.head.kind ≡ false))
  pub other : is_statement p.head.kind ≡ false → is_behind p.assigned ≡ false
  pub dressing : eqb (slot_number p.slot) wrapped ≡ true → is_behind p.assigned ≡ false
  pub met : in_sequence p.assigned ≡ true → (op_of p.op ≡ row p.head.kind p.head.attr p.head.name) × (closes (slot_number p.slot) p.head.kind ≡ false)
  pub rowless : is_row (op_of p.op) ≡ false → closes (slot_number p.slot) p.head.kind ≡ false

-- what the walkers of a row need
pub record RowPre (rows names text : List ℕ) (v : Walk) (p : Plan) : Type 0 where
  pub inner : InnerPre rows names text v p.inner
  pub here : FramesBelow v.bindings.cap (place_of p.spot).ctx
  pub bound : p.bind ≤ 16384
  pub low : OpLow v.bindings.cap (op_of p.op)
  pub formed : Formed p

-- the parts of a plan that were decided: its act, and what module 7 says
abbrev pub act_in : Plan → Act Place
act_in p = record { op = p.op; one = p.inner.one; more = p.inner.more }

abbrev pub pass_in : Plan → Pass
pass_in p = record { assigned = p.assigned; scan = p.inner.state; next = p.next; bind = p.inner.bind }

-- the frame inside the row
abbrev pub frame_in : Plan → ℕ
frame_in p = (place_of p.inner.more).ctx.this_at

-- the plan p of row i, at q in state sc where binding b is assigned, is that of the steps
pub record Planned (N : Names) (ws : List ℕ) (v : Walk) (b sc : ℕ) (q : Spot) (i : ℕ) (p : Plan) : Type 0 where
  pub from : p.inner.from ≡ i + 1
  pub end : p.inner.end ≡ end_at ws i
  pub spot : place_of p.spot ≡ q
  pub slot : slot_number p.slot ≡ q.slot
  pub bind : p.bind ≡ b
  pub kind : p.head.kind ≡ kind_at ws i
  pub attr : p.head.attr ≡ attr_at ws i
  pub name : p.head.name ≡ name_at ws i
  pub does : Takes (switches_of v.switches) q.ctx (act_c N (switches_of v.switches) q i (kind_at ws i) (attr_at ws i) (name_at ws i) (children ws i)) (act_in p)
  pub says : Says (pass_in p) (pass_of b sc q.slot (kind_at ws i) (number N (list_of v) 1 (frame_in p) 0) (first_super (children ws i)) (super_call (children ws i)) (op_of p.op))

-- The same of the table that the walk has.
module _ (v : Walk) where
  -- what the whole table becomes, what a row's children become, the same with a frame's Var, and what a row becomes
  abbrev pub emitted_of : Rows
  emitted_of = emitted v.rows.now v.names.pairs.now v.names.text.now v

  abbrev pub inside_of : Siblings → Rows
  inside_of = inside v.rows.now v.names.pairs.now v.names.text.now v

  abbrev pub topped_of : (sl k : ℕ) → Siblings → Rows
  topped_of = topped v.rows.now v.names.pairs.now v.names.text.now v

  abbrev pub built_of : Plan → Rows → Rows
  built_of = built v.rows.now v.names.pairs.now v.names.text.now v

  abbrev pub dressed_of : Plan → Rows
  dressed_of = dressed v.rows.now v.names.pairs.now v.names.text.now v

  -- the number of an accessor of that use, frame and property
  abbrev pub accessor_of : (u f x : ℕ) → ℕ
  accessor_of = number (names_of v.names.pairs.now v.names.text.now) (list_of v)

  abbrev pub HoldsOf : Type 0
  HoldsOf = Holds v.names.pairs.now v.names.text.now v (rows_in v.rows.now)

  abbrev pub InnerPreOf : Siblings → Type 0
  InnerPreOf = InnerPre v.rows.now v.names.pairs.now v.names.text.now v

  abbrev pub RowPreOf : Plan → Type 0
  RowPreOf = RowPre v.rows.now v.names.pairs.now v.names.text.now v

  abbrev pub PlannedOf : (b sc : ℕ) (q : Spot) (i : ℕ) → Plan → Type 0
  PlannedOf = Planned (names_of v.names.pairs.now v.names.text.now) (words v.rows.now) v
