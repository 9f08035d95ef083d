-- The rows that are written as they are. Assumes nothing.
use Rattle.std.specs.Prelude.{◌≡◌, Bool, false, cond, List, ℕ, ◌+◌, eqb}
use Rattle.names.specs.Words.{kind_at, attr_at, name_at, end_at}
use Rattle.steps.specs.Mode.{Switches}
use Rattle.steps.specs.Slots.{free}
use Rattle.steps.specs.AfterSuper.{list, visit, super_call}
use Rattle.steps.specs.Acts.{Op.row}
use Rattle.steps.specs.Context.{Spot, spot}
use Rattle.steps.specs.Fused.{met_of, direct_of, scan_of, next_of}
use Rattle.emit_plan.specs.declared.Head.{Head}
use Rattle.passes.specs.View.{state_number}
use Rattle.below.specs.Below.{children}
use Rattle.plan.specs.Placing.{place_of}
use Rattle.plan.specs.Staying.{Stays}
use Rattle.emit_plan.specs.declared.Siblings.{Siblings}

-- the state inside a row that module 7 leaves alone: a statement list's rows are visited
abbrev pub inside_state : ℕ → ℕ
inside_state sc = cond (eqb sc list) visit sc

-- module 7 leaves a row of kind k alone in state sc, but for a direct `super(..)`
pub record Steady (sc k : ℕ) : Type 0 where
  pub met : (sup : Bool) → met_of sc k sup ≡ false
  pub scan : (a n : ℕ) → scan_of sc false false (row k a n) ≡ inside_state sc
  pub next : next_of sc false ≡ sc

-- row i at q in state sc is written as it is, and its children stand in its place and the state inside it
pub record Unchanged (w : Switches) (q : Spot) (sc : ℕ) (ws : List ℕ) (i : ℕ) : Type 0 where
  pub steady : Steady sc (kind_at ws i)
  pub first : direct_of sc (kind_at ws i) (super_call (children ws i)) ≡ false
  pub stays : Stays w q (kind_at ws i) (attr_at ws i)

-- the words of row i
pub record WordsOf (ws : List ℕ) (i : ℕ) (h : Head) : Type 0 where
  pub kind : h.kind ≡ kind_at ws i
  pub attr : h.attr ≡ attr_at ws i
  pub name : h.name ≡ name_at ws i

-- the children of row i, in the context of its place and in the state inside it, where b is assigned
pub record Along (ws : List ℕ) (b sc : ℕ) (q : Spot) (i : ℕ) (n : Siblings) : Type 0 where
  pub from : n.from ≡ i + 1
  pub end : n.end ≡ end_at ws i
  pub bind : n.bind ≡ b
  pub state : state_number n.state ≡ inside_state sc
  pub one : place_of n.one ≡ spot q.ctx free
  pub more : place_of n.more ≡ spot q.ctx free
