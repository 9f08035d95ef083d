-- What the code says of a slot or a state it says of each number that stands for it, those of no list too: nothing is lost by the narrower types. Assumes nothing.
use native.Mathlib.Omega.{arith}
use mathlib.Core.Path.{◌≡◌, refl, sym, ◌∙◌}
use mathlib.Core.Bool.{Bool, true, false, cond, ◌&&◌, ◌||◌}
use Prim.Native.Nat.{ℕ, ◌<◌}
use borrow.Author.Tests.{ne_eqb, ltb-false, lt-ltb}
use lib.Dec.{eqb, ltb}
use Rattle.grammar.specs.Kinds.{Block, Body, Class, Field, Function, Method, StaticBlock}
use Rattle.steps.specs.Mode.{bit}
use Rattle.steps.specs.Slots.{body_of, late_body, wrapped}
use Rattle.steps.specs.AfterSuper.{list, visit, copy, direct, once, heritage, members}
use Rattle.steps.specs.Acts.{Op, Op.row, Op.drop, Op.name, Op.call}
use Rattle.steps.specs.Bindings.{closes}
use Rattle.steps.specs.Fused.{Pass, met_of, direct_of, within, own, scan_of, next_of, anew, pass_of}
use Rattle.passes.specs.View.{slotted, stated}

-- a number and its slot are the same to a test for a slot
pub same-slot : (n c : ℕ) → 0 < c → c < 8 → eqb (slotted n) c ≡ eqb n c
same-slot n c some low = go (ltb n 8) refl
  where
    go : (b : Bool) → ltb n 8 ≡ b → eqb (cond b n 0) c ≡ eqb n c
    go true q = refl
    go false q = let l = ltb-false _ _ q in ne_eqb 0 c (λ e. omega arith) ∙ sym (ne_eqb n c (λ e. omega arith))

-- a number below 8 is a slot's own
pub own_slot : (n : ℕ) → n < 8 → slotted n ≡ n
own_slot n low = rw (lt-ltb n 8 low)

-- a number and its state are the same to a test for a state
pub same-state : (n c : ℕ) → c < 7 → eqb (stated n) c ≡ eqb n c
same-state n c low = go (ltb n 7) refl
  where
    go : (b : Bool) → ltb n 7 ≡ b → eqb (cond b n 7) c ≡ eqb n c
    go true q = refl
    go false q = let l = ltb-false _ _ q in ne_eqb 7 c (λ e. omega arith) ∙ sym (ne_eqb n c (λ e. omega arith))

pub closes_slotted : (n k : ℕ) → closes (slotted n) k ≡ closes n k
unfolding closes
closes_slotted n k = rw (same-slot n body_of (omega arith) (omega arith), same-slot n late_body (omega arith) (omega arith))

pub pass_slotted : (b sc n k m : ℕ) (sup called : Bool) (op : Op) → pass_of b sc (slotted n) k m sup called op ≡ pass_of b sc n k m sup called op
unfolding pass_of own anew
pass_slotted b sc n k m sup called op = rw (same-slot n wrapped (omega arith) (omega arith), closes_slotted n k, same-slot n late_body (omega arith) (omega arith))

-- what is said of a row in a list of a state, by its number: the states that follow stand for their numbers
abbrev pub stated_pass : Pass → Pass
stated_pass p = record { met = p.met; first = p.first; scan = stated p.scan; next = stated p.next; bind = p.bind }

-- a number that says a state says it again
low : (x : Bool) (a b : ℕ) → stated a ≡ a → stated b ≡ b → stated (cond x a b) ≡ cond x a b
low true a b p q = p
low false a b p q = q

-- either of two numbers, by the states that they say
apart : (x : Bool) (a b : ℕ) → cond x (stated a) (stated b) ≡ stated (cond x a b)
apart true a b = refl
apart false a b = refl

within-stated : (n : ℕ) → within (stated n) ≡ stated (within n)
unfolding within
within-stated n = rw (same-state n copy (omega arith), same-state n members (omega arith)) (sym (low (eqb n copy || eqb n members) copy visit refl refl))

own-stated : (sl n : ℕ) → own sl (stated n) ≡ stated (own sl n)
unfolding own
own-stated sl n = rw (within-stated n) (apart (eqb sl wrapped) (within n) n)

met-stated : (n k : ℕ) (sup : Bool) → met_of (stated n) k sup ≡ met_of n k sup
unfolding met_of
met-stated n k sup = rw (same-state n visit (omega arith), same-state n once (omega arith), same-state n heritage (omega arith))

direct-stated : (n k : ℕ) (called : Bool) → direct_of (stated n) k called ≡ direct_of n k called
unfolding direct_of
direct-stated n k called = rw (same-state n list (omega arith))

-- the states of a row's children, by what is asked of it
abbrev inner : (copied at_direct first member keyed block function class set : Bool) → ℕ
inner copied at_direct first member keyed block function class set =
    cond copied copy (cond at_direct visit (cond first direct (cond member (cond keyed once copy) (cond block list (cond function copy (cond class (cond set heritage members) visit))))))

inner-low : (copied at_direct first member keyed block function class set : Bool) → stated (inner copied at_direct first member keyed block function class set) ≡ inner copied at_direct first member keyed block function class set
inner-low true d f m y b g c s = refl
inner-low false true f m y b g c s = refl
inner-low false false true m y b g c s = refl
inner-low false false false true true b g c s = refl
inner-low false false false true false b g c s = refl
inner-low false false false false y true g c s = refl
inner-low false false false false y false true c s = refl
inner-low false false false false y false false true true = refl
inner-low false false false false y false false true false = refl
inner-low false false false false y false false false s = refl

scan-stated : (n : ℕ) (met first : Bool) (op : Op) → scan_of (stated n) met first op ≡ stated (scan_of n met first op)
unfolding scan_of
scan-stated n met first (row k a x) =
    rw (same-state n copy (omega arith), same-state n direct (omega arith), same-state n members (omega arith))
    (sym (inner-low (eqb n copy || met) (eqb n direct) first (eqb n members) ((eqb k Method || eqb k Field) && bit 1 a) (eqb k Block || eqb k Body) (eqb k Function || eqb k StaticBlock) (eqb k Class) (bit 1 a)))
scan-stated n met first drop = refl
scan-stated n met first (name u f) = refl
scan-stated n met first (call u f x t) = within-stated n

next-stated : (n : ℕ) (first : Bool) → next_of (stated n) first ≡ stated (next_of n first)
unfolding next_of
next-stated n first =
    rw (same-state n heritage (omega arith), same-state n once (omega arith), same-state n direct (omega arith))
    (go (eqb n heritage) (eqb n once || eqb n direct || first))
  where
    go : (h x : Bool) → cond h members (cond x copy (stated n)) ≡ stated (cond h members (cond x copy n))
    go true x = refl
    go false true = refl
    go false false = refl

pub pass_stated : (b n sl k m : ℕ) (sup called : Bool) (op : Op) → pass_of b (stated n) sl k m sup called op ≡ stated_pass (pass_of b n sl k m sup called op)
unfolding pass_of
pass_stated b n sl k m sup called op =
    rw (
      own-stated sl n,
      met-stated (own sl n) k sup,
      direct-stated (own sl n) k called,
      next-stated n (direct_of (own sl n) k called),
      scan-stated (own sl n) (met_of (own sl n) k sup) (direct_of (own sl n) k called) op,
      apart (anew sl k m) list (scan_of (own sl n) (met_of (own sl n) k sup) (direct_of (own sl n) k called) op),
    )
