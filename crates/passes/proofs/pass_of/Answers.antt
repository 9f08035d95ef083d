-- `passes::pass_of` meets its contract. Assumes nothing.
use mathlib.Core.Path.{◌≡◌, refl}
use mathlib.Core.Bool.{Bool, true, false, cond, ◌&&◌, false≢true}
use Prim.Native.Nat.{ℕ}
use lib.Dec.{eqb}
use Rattle.grammar.specs.Codes.{kind_number}
use Rattle.steps.specs.Slots.{late_body, wrapped}
use Rattle.steps.specs.Acts.{Op, Op.row, Op.drop, Op.name, Op.call}
use Rattle.steps.specs.Bindings.{closes}
use Rattle.steps.specs.AfterSuper.{copy}
use Rattle.steps.specs.Fused.{met_of, direct_of, within, own, scan_of, next_of, anew, pass_of}
use Rattle.steps.proofs.Credit.{eqb-eq}
use Rattle.passes.specs.declared.slots.Slot.TheVariants.{LateBody}
use Rattle.passes.specs.declared.states.State.TheVariants.{Copy}
use Rattle.passes.specs.View.{slot_number, state_number}
use Rattle.passes.proofs.Numbers.{slot_told, state_told}
use borrow.Author.Tests.{not-true}
use Rattle.passes.proofs.pass_of.Goals as goal

both : (x y : Bool) → (x && y) ≡ true → (x ≡ true) × (y ≡ true)
both true y e = (refl, e)
both false y e = absurd (false≢true e)

neither : (x y : Bool) → (x && y && false) ≡ false
neither true true = refl
neither true false = refl
neither false y = refl

nor : (x : Bool) → (x && false) ≡ false
nor true = refl
nor false = refl

-- in a list that is not visited: the state of a row in any slot,

own-copy : (sl : ℕ) → own sl copy ≡ copy
unfolding own within
own-copy sl = go (eqb sl wrapped)
  where
    go : (x : Bool) → cond x copy copy ≡ copy
    go true = refl
    go false = refl

-- no call is met, and no statement is a direct one,

met-copy : (k : ℕ) (sup : Bool) → met_of copy k sup ≡ false
unfolding met_of
met-copy k sup = neither (eqb k 14) sup

direct-copy : (k : ℕ) (called : Bool) → direct_of copy k called ≡ false
unfolding direct_of
direct-copy k called = neither (eqb k 1) called

-- the children are not visited,

scan-copy : (op : Op) → scan_of copy false false op ≡ copy
unfolding scan_of within
scan-copy (row k a n) = refl
scan-copy drop = refl
scan-copy (name u f) = refl
scan-copy (call u f x t) = refl

-- nor the rows after it,

next-copy : next_of copy false ≡ copy
unfolding next_of
next-copy = refl

-- and only a late Body starts anew

anew-copy : (sl k m : ℕ) → eqb sl late_body ≡ false → anew sl k m ≡ false
unfolding anew
anew-copy sl k m e = rw e (nor (closes sl k))

pub returns-then-eq : goal.returns-then-eq
unfolding pass_of
returns-then-eq c =
    let t = both _ _ c.if-eq.true in
    let s : state_number c.args.state ≡ copy = eqb-eq _ _ (state_told _ Copy c.eq.ensures t.0) in
    let a = anew-copy (slot_number c.args.slot) (kind_number c.args.kind) c.args.m (slot_told _ LateBody c.eq-2.ensures (not-true _ t.1)) in
    record {
      met = rw (s, own-copy, met-copy);
      first = rw (s, own-copy, direct-copy);
      scan = rw (s, a, own-copy, met-copy, direct-copy, scan-copy);
      next = rw (s, own-copy, direct-copy, next-copy);
      bind = rw a;
    }

pub returns-then-anew : goal.returns-then-anew
unfolding pass_of
returns-then-anew c =
    record {
      met = rw (c.assigned_of-assigned.ensures.met, c.own-here.ensures);
      first = rw (c.assigned_of-assigned.ensures.first, c.own-here.ensures);
      scan = rw (← c.anew.ensures, c.if-anew.true);
      next = rw (c.next_of-next.ensures, c.assigned_of-assigned.ensures.first, c.own-here.ensures);
      bind = rw (← c.anew.ensures, c.if-anew.true);
    }

pub returns : goal.returns
unfolding pass_of
returns c =
    record {
      met = rw (c.assigned_of-assigned.ensures.met, c.own-here.ensures);
      first = rw (c.assigned_of-assigned.ensures.first, c.own-here.ensures);
      scan = rw (← c.anew.ensures, c.if-anew.false, c.scan_of.ensures, c.assigned_of-assigned.ensures.met, c.assigned_of-assigned.ensures.first, c.own-here.ensures);
      next = rw (c.next_of-next.ensures, c.assigned_of-assigned.ensures.first, c.own-here.ensures);
      bind = rw (← c.anew.ensures, c.if-anew.false);
    }
