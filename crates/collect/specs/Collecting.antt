-- What the first walk needs to know of a row's act and of the array that holds the bindings. Assumes nothing.
use Rattle.std.specs.Prelude.{Bool, false, cond, ◌&&◌, List, ◌≡◌, ℕ, ◌+◌, ◌≤◌, ◌<◌, length}
use Rattle.names.specs.Words.{words, rows_in, kind_at, attr_at, name_at, end_at}
use Rattle.below.specs.Below.{At, children}
use Rattle.steps.specs.Mode.{Switches}
use Rattle.steps.specs.Naming.{Names}
use Rattle.steps.specs.Acts.{Ctx, Op, Op.row, Op.drop, Op.name, Op.call, Act}
use Rattle.steps.specs.Bindings.{Binding, closes, closed, meet, leave}
use Rattle.bindings.specs.Search.{note_capture}
use Rattle.bindings.specs.Store.{Store}
use Rattle.passes.specs.View.{op_of}
use Rattle.passes.specs.declared.Becomes.{Becomes}
use Rattle.steps.specs.Context.{Spot, enter, into, act_c, collect_c}
use Rattle.plan.specs.Frames.{FramesBelow, OpLow}
use Rattle.forest.specs.Forest.{rows_at}
use Rattle.spelling.specs.declared.Names.{Names as Given}
use Rattle.acts.specs.View.{switches_of}
use Rattle.acts.specs.declared.switches.Switches.{Switches as Lent}
use Rattle.plan.specs.Placing.{place_of}
use Rattle.plan.specs.declared.place.Place.{Place}
use Rattle.bindings.specs.Making.{named_of}

-- the array holds count bindings, and has room for the list bs that the act makes of them
pub record Meets (M : List ℕ) (cap count : ℕ) (op : Becomes) (bs : List Binding) : Type 0 where
  pub store : Store M cap count
  pub cap_low : cap ≤ 16384
  pub room : length bs < cap
  pub low : OpLow cap (op_of op)

-- it becomes `get().call(this, ..)`
unfoldable pub is_called : Op → Bool
is_called (row k a n) = false
is_called drop = false
is_called (name u f) = false
is_called (call u f x t) = t

-- the steps' `leave`, whose capture needs no name
unfoldable pub leave_capture : Ctx → Op → List Binding → List Binding
leave_capture c op bs = cond (is_called op && c.takes_this) (note_capture 1 c.this_at bs) bs

-- what is left to do after a row's children asks: frames that have a place in the tables, and room for the list bs that it gives
pub record Finishes (M : List ℕ) (cap count this frame : ℕ) (bs : List Binding) : Type 0 where
  pub store : Store M cap count
  pub cap_low : cap ≤ 16384
  pub this_low : this < cap
  pub frame_low : frame < cap
  pub room : length bs < cap

-- what the walk asks: the array holds count bindings, the n rows and the frames of both places have a place in the tables, and there is room for the list bs that it gives
pub record Collects (n : ℕ) (M : List ℕ) (cap count : ℕ) (one more : Spot) (bs : List Binding) : Type 0 where
  pub store : Store M cap count
  pub cap_low : cap ≤ 16384
  pub rows_low : n ≤ cap
  pub one-low : FramesBelow cap one.ctx
  pub more-low : FramesBelow cap more.ctx
  pub room : length bs < cap

-- what row i of a table and its children make of the list bs
abbrev pub row_c : Names → Switches → Spot → (ws : List ℕ) (i : ℕ) → List Binding → List Binding
row_c N w q ws i bs =
    let A : Act = act_c N w q i (kind_at ws i) (attr_at ws i) (name_at ws i) (children ws i) in
    closed (closes q.slot (kind_at ws i)) (enter w A.more.step q.ctx).this_at
    (leave N q.ctx A.op (collect_c N w (into w q A.one) (into w q A.more) (i + 1) (children ws i) (meet N A.op bs)))

-- the same of the code's names, switches and place, and what the rows from i to e make of it, the first at one and the later ones at more
abbrev pub row_of : Given → Lent → Place → (rows : List ℕ) (i : ℕ) → List Binding → List Binding
row_of n w q rows i bs = row_c (named_of n) (switches_of w) (place_of q) (words rows) i bs

abbrev pub rows_of : Given → Lent → (one more : Place) (rows : List ℕ) (i e : ℕ) → List Binding → List Binding
rows_of n w one more rows i e bs = collect_c (named_of n) (switches_of w) (place_of one) (place_of more) i (rows_at (words rows) i e) bs

-- what the walk asks for one row: that it is one, where it ends, and for its list bs the same as for a list of rows
pub record RowCollects (rows M : List ℕ) (cap count : ℕ) (q : Spot) (i stop : ℕ) (bs : List Binding) : Type 0 where
  pub at : At rows (rows_in rows) i
  pub stops : stop ≡ end_at (words rows) i
  pub store : Store M cap count
  pub cap_low : cap ≤ 16384
  pub rows_low : rows_in rows ≤ cap
  pub low : FramesBelow cap q.ctx
  pub room : length bs < cap

-- what it asks for a whole table of n rows, and an array that holds no binding
pub record Starts (n : ℕ) (M : List ℕ) (cap : ℕ) (bs : List Binding) : Type 0 where
  pub store : Store M cap 0
  pub cap_low : cap ≤ 16384
  pub rows_low : n ≤ cap
  pub room : length bs < cap
