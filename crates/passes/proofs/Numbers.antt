-- Slots and states by their numbers: two are the same where their numbers are. Assumes nothing.
use Prim.Native.Nat.{ℕ, zero, suc, ◌+◌, ◌<◌}
use native.Mathlib.Omega.{arith}
use mathlib.Core.Path.{◌≡◌, refl, sym, ap, ◌∙◌}
use mathlib.Core.Bool.{Bool, false}
use borrow.Author.Tests.{ne_eqb}
use lib.Dec.{eqb}
use denote.Enum.Declared.{tag_of}
use denote.Enum.Bare.{sameb, false_same}
use Rattle.passes.specs.contracts.slots.Slot.{the_type as slot_type}
use Rattle.passes.specs.contracts.states.StatePartialEq.TheImpl as states
use Rattle.passes.specs.declared.slots.Slot.{Slot}
use Rattle.passes.specs.declared.slots.Slot.TheVariants.{Free, OfMethod, BodyOf, LateBody, Wrapped, OfTarget, Callee, Dropped}
use Rattle.passes.specs.declared.states.State.{State}
use Rattle.passes.specs.declared.states.State.TheVariants.{List, Visit, Copy, Direct, Once, Heritage, Members, Unlisted}
use Rattle.passes.specs.View.{slot_number, state_number}

-- the number of `s as usize`
pub slot_tag : (s : Slot) → tag_of slot_type s ≡ slot_number s
slot_tag Free = refl
slot_tag OfMethod = refl
slot_tag BodyOf = refl
slot_tag LateBody = refl
slot_tag Wrapped = refl
slot_tag OfTarget = refl
slot_tag Callee = refl
slot_tag Dropped = refl

-- .. is below 8
pub slot_low : (s : Slot) → slot_number s < 8
slot_low Free = omega arith
slot_low OfMethod = omega arith
slot_low BodyOf = omega arith
slot_low LateBody = omega arith
slot_low Wrapped = omega arith
slot_low OfTarget = omega arith
slot_low Callee = omega arith
slot_low Dropped = omega arith

-- the slot of a number below 8
unfoldable pub slot_of : ℕ → Slot
slot_of zero = Free
slot_of (suc zero) = OfMethod
slot_of (suc (suc zero)) = BodyOf
slot_of (suc (suc (suc zero))) = LateBody
slot_of (suc (suc (suc (suc zero)))) = Wrapped
slot_of (suc (suc (suc (suc (suc zero))))) = OfTarget
slot_of (suc (suc (suc (suc (suc (suc zero)))))) = Callee
slot_of (suc (suc (suc (suc (suc (suc (suc n))))))) = Dropped

pub slot_back : (n : ℕ) → n < 8 → slot_number (slot_of n) ≡ n
unfolding slot_of
slot_back zero h = refl
slot_back (suc zero) h = refl
slot_back (suc (suc zero)) h = refl
slot_back (suc (suc (suc zero))) h = refl
slot_back (suc (suc (suc (suc zero)))) h = refl
slot_back (suc (suc (suc (suc (suc zero))))) h = refl
slot_back (suc (suc (suc (suc (suc (suc zero)))))) h = refl
slot_back (suc (suc (suc (suc (suc (suc (suc n))))))) h = omega arith

-- the state of a number
state_of : ℕ → State
state_of zero = List
state_of (suc zero) = Visit
state_of (suc (suc zero)) = Copy
state_of (suc (suc (suc zero))) = Direct
state_of (suc (suc (suc (suc zero)))) = Once
state_of (suc (suc (suc (suc (suc zero))))) = Heritage
state_of (suc (suc (suc (suc (suc (suc zero)))))) = Members
state_of (suc (suc (suc (suc (suc (suc (suc above))))))) = Unlisted above

state_back : (s : State) → state_of (state_number s) ≡ s
unfolding state_of
state_back List = refl
state_back Visit = refl
state_back Copy = refl
state_back Direct = refl
state_back Once = refl
state_back Heritage = refl
state_back Members = refl
state_back (Unlisted above) = let e : 7 + above ≡ suc (suc (suc (suc (suc (suc (suc above)))))) = omega arith in rw e

-- what `a == b` says
pub slot_same : (a b : Slot) → sameb slot_type a b ≡ eqb (slot_number a) (slot_number b)
slot_same a b = rw (slot_tag a, slot_tag b)

-- by the second of two states
at_each : (P : State → Type 0) → P List → P Visit → P Copy → P Direct → P Once → P Heritage → P Members → ((above : ℕ) → P (Unlisted above)) → (s : State) → P s
at_each P a b c d e f g h List = a
at_each P a b c d e f g h Visit = b
at_each P a b c d e f g h Copy = c
at_each P a b c d e f g h Direct = d
at_each P a b c d e f g h Once = e
at_each P a b c d e f g h Heritage = f
at_each P a b c d e f g h Members = g
at_each P a b c d e f g h (Unlisted above) = h above

-- one of the list is no number of 7 and above
below : (c above : ℕ) → c < 7 → false ≡ eqb c (7 + above)
below c above h = sym (ne_eqb c (7 + above) (λ e. omega arith))

beyond : (above c : ℕ) → c < 7 → false ≡ eqb (7 + above) c
beyond above c h = sym (ne_eqb (7 + above) c (λ e. omega arith))

pub state_same : (a b : State) → states.ghosts.eq a b ≡ eqb (state_number a) (state_number b)
state_same List = at_each (λ b. states.ghosts.eq List b ≡ eqb 0 (state_number b)) refl refl refl refl refl refl refl (λ k. below 0 k (omega arith))
state_same Visit = at_each (λ b. states.ghosts.eq Visit b ≡ eqb 1 (state_number b)) refl refl refl refl refl refl refl (λ k. below 1 k (omega arith))
state_same Copy = at_each (λ b. states.ghosts.eq Copy b ≡ eqb 2 (state_number b)) refl refl refl refl refl refl refl (λ k. below 2 k (omega arith))
state_same Direct = at_each (λ b. states.ghosts.eq Direct b ≡ eqb 3 (state_number b)) refl refl refl refl refl refl refl (λ k. below 3 k (omega arith))
state_same Once = at_each (λ b. states.ghosts.eq Once b ≡ eqb 4 (state_number b)) refl refl refl refl refl refl refl (λ k. below 4 k (omega arith))
state_same Heritage = at_each (λ b. states.ghosts.eq Heritage b ≡ eqb 5 (state_number b)) refl refl refl refl refl refl refl (λ k. below 5 k (omega arith))
state_same Members = at_each (λ b. states.ghosts.eq Members b ≡ eqb 6 (state_number b)) refl refl refl refl refl refl refl (λ k. below 6 k (omega arith))
state_same (Unlisted above) =
    let far = beyond above in
    at_each (λ b. states.ghosts.eq (Unlisted above) b ≡ eqb (7 + above) (state_number b)) (far 0 (omega arith)) (far 1 (omega arith)) (far 2 (omega arith)) (far 3 (omega arith)) (far 4 (omega arith)) (far 5 (omega arith))
    (far 6 (omega arith)) (λ k. grind arith)

-- what the arm after `b` says
pub not_slot : (a b : Slot) → (a ≡ b → ⊥) → eqb (slot_number a) (slot_number b) ≡ false
not_slot a b f = sym (slot_same a b) ∙ false_same slot_type tt a b f

pub not_state : (a b : State) → (a ≡ b → ⊥) → eqb (state_number a) (state_number b) ≡ false
not_state a b f = ne_eqb (state_number a) (state_number b) (λ e. f (sym (state_back a) ∙ ap state_of e ∙ state_back b))

-- .. and the test of a branch that it decides
pub slot_told : (a b : Slot) {r t : Bool} → r ≡ sameb slot_type a b → r ≡ t → eqb (slot_number a) (slot_number b) ≡ t
slot_told a b e p = sym (e ∙ slot_same a b) ∙ p

pub state_told : (a b : State) {r t : Bool} → r ≡ states.ghosts.eq a b → r ≡ t → eqb (state_number a) (state_number b) ≡ t
state_told a b e p = sym (e ∙ state_same a b) ∙ p
