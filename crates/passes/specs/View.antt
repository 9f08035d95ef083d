-- The code's values as those of the steps. Assumes nothing.
use Rattle.std.specs.Prelude.{ℕ, ◌+◌, ◌≡◌, Bool, true, false, cond, ltb}
use Rattle.steps.specs.Slots.{free, of_method, body_of, late_body, wrapped, of_target, callee, dropped}
use Rattle.steps.specs.Acts.{Op, Op.row, Op.drop, Op.name, Op.call}
use Rattle.steps.specs.AfterSuper.{list, visit, copy, direct, once, heritage, members}
use Rattle.steps.specs.Fused.{Pass}
use Rattle.uses.specs.Uses.{capture_number, access_number}
use Rattle.passes.specs.declared.slots.Slot.{Slot}
use Rattle.passes.specs.declared.slots.Slot.TheVariants as slot
use Rattle.passes.specs.declared.states.State.{State}
use Rattle.passes.specs.declared.states.State.TheVariants as state
use Rattle.passes.specs.declared.Becomes.{Becomes}
use Rattle.passes.specs.declared.Becomes.TheVariants as becomes
use Rattle.passes.specs.declared.Assigned.{Assigned}
use Rattle.passes.specs.declared.Assigned.TheVariants as assignments
use Rattle.passes.specs.declared.Pass as answer

-- a slot by its number
abbrev pub slot_number : Slot → ℕ
slot_number slot.Free = free
slot_number slot.OfMethod = of_method
slot_number slot.BodyOf = body_of
slot_number slot.LateBody = late_body
slot_number slot.Wrapped = wrapped
slot_number slot.OfTarget = of_target
slot_number slot.Callee = callee
slot_number slot.Dropped = dropped

-- what a number says: a slot of the list, or that no step asks
abbrev pub slotted : ℕ → ℕ
slotted n = cond (ltb n 8) n free

-- a state of module 7 by its number; 7 and what is above it are none of the list's
abbrev pub state_number : State → ℕ
state_number state.List = list
state_number state.Visit = visit
state_number state.Copy = copy
state_number state.Direct = direct
state_number state.Once = once
state_number state.Heritage = heritage
state_number state.Members = members
state_number (state.Unlisted above) = 7 + above

-- a number as a state: itself where it is one of the list, and 7 for all above
abbrev pub stated : ℕ → ℕ
stated n = cond (ltb n 7) n 7

-- what becomes of a row
unfoldable pub op_of : Becomes → Op
op_of (becomes.Row k a n) = row k a n
op_of becomes.Drop = drop
op_of (becomes.Name u f) = name (capture_number u) f
op_of (becomes.Call u f x t) = call (access_number u) f x t

-- the row becomes a Sequence of itself and the assignment
abbrev pub in_sequence : Assigned → Bool
in_sequence assignments.Nowhere = false
in_sequence assignments.InSequence = true
in_sequence assignments.Behind = false

-- the assignment goes behind the row
abbrev pub is_behind : Assigned → Bool
is_behind assignments.Nowhere = false
is_behind assignments.InSequence = false
is_behind assignments.Behind = true

-- what module 7 says of a row, part by part
pub record Says (r : answer.Pass) (p : Pass) : Type 0 where
  pub met : in_sequence r.assigned ≡ p.met
  pub first : is_behind r.assigned ≡ p.first
  pub scan : state_number r.scan ≡ p.scan
  pub next : state_number r.next ≡ p.next
  pub bind : r.bind ≡ p.bind
