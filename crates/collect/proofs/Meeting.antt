-- What a row meets, by what becomes of it. Assumes nothing.
use mathlib.Core.Path.{◌≡◌, ap, sym, subst, ◌∙◌}
use mathlib.Core.Bool.{Bool, true, false, cond, not, ◌&&◌}
use mathlib.Core.List.{List}
use Prim.Native.Nat.{ℕ, ◌<◌, ◌≤◌}
use lib.ListN.{length}
use Rattle.steps.specs.Naming.{Names}
use Rattle.steps.specs.Acts.{Ctx, Op}
use Rattle.steps.specs.Bindings.{Binding, meet, note}
use Rattle.bindings.specs.Search.{is_accessor, note_capture}
use Rattle.bindings.specs.Store.{binds}
use Rattle.bindings.specs.Post.{Kept, Asked}
use Rattle.bindings.specs.Filed.{Filed, behind}
use Rattle.bindings.proofs.Filing.{filed_capture}
use Rattle.bindings.proofs.Numbered.{note-capture}
use Rattle.uses.specs.Uses.{capture_number, access_number}
use Rattle.uses.specs.declared.Capture.{Capture}
use Rattle.uses.specs.declared.Access.{Access}
use Rattle.passes.specs.View.{op_of}
use Rattle.passes.specs.declared.Becomes.{Becomes}
use Rattle.passes.specs.declared.Becomes.TheVariants as becomes
use Rattle.plan.specs.Frames.{OpLow}
use Rattle.collect.specs.Collecting.{Meets, is_called, leave_capture}

-- the same bindings, as another list has them
pub filed_as : {names text I : List ℕ} {cap : ℕ} {bs ds : List Binding} → Filed names text I cap bs → bs ≡ ds → Filed names text I cap ds
filed_as {names} {text} {I} {cap} F e = subst (Filed names text I cap) e F

-- .. which the array holds, under another name of its size
pub filed_now : {names text M : List ℕ} {cap cap' count : ℕ} {bs : List Binding} → Filed names text (behind cap' M) cap' bs → Kept M cap bs count → cap' ≡ cap → Filed names text (behind cap' M) cap' (binds M cap' count)
filed_now {names} {text} {M} {cap} {cap'} {count} F K e = filed_as F (sym (ap (λ (m : ℕ). binds M m count) e ∙ K.list))

-- .. and as it stands there, likewise
pub filed_at : {names text : List ℕ} {cap cap' : ℕ} (M : List ℕ) (count : ℕ) → cap' ≡ cap → Filed names text (behind cap' M) cap' (binds M cap' count) → Filed names text (behind cap M) cap (binds M cap count)
filed_at {names} {text} {cap} {cap'} M count e = subst (λ (m : ℕ). Filed names text (behind m M) m (binds M m count)) e

-- .. which are those of a list
pub filed_then : {names text M : List ℕ} {cap cap' count : ℕ} {bs : List Binding} → Filed names text (behind cap' M) cap' (binds M cap' count) → Kept M cap bs count → cap' ≡ cap → Filed names text (behind cap M) cap bs
filed_then F K e = filed_as (filed_at _ _ e F) K.list

module _ (N : Names) (M : List ℕ) (cap count : ℕ) (op : Becomes) where
  abbrev met : List Binding
  met = meet N (op_of op) (binds M cap count)

  pub row_meets : (k a n : ℕ) → op ≡ becomes.Row k a n → Meets M cap count op met → Kept M cap met count
  unfolding meet op_of
  row_meets k a n q m = record { store = m.store; list = sym (ap (λ (o : Becomes). meet N (op_of o) (binds M cap count)) q) }

  pub drop_meets : op ≡ becomes.Drop → Meets M cap count op met → Kept M cap met count
  unfolding meet op_of
  drop_meets q m = record { store = m.store; list = sym (ap (λ (o : Becomes). meet N (op_of o) (binds M cap count)) q) }

  module _ (v : Capture) (f : ℕ) (q : op ≡ becomes.Name v f) (m : Meets M cap count op met) where
    name-low : (0 < capture_number v) × ((capture_number v ≤ 2) × (f < cap))
    unfolding op_of
    name-low = subst (λ (o : Becomes). OpLow cap (op_of o)) q m.low

    name-is : note_capture (capture_number v) f (binds M cap count) ≡ met
    unfolding meet op_of
    name-is = note-capture N (capture_number v) f name-low.1.0 (binds M cap count) m.store.bare ∙ sym (ap (λ (o : Becomes). meet N (op_of o) (binds M cap count)) q)

    pub name-asks : Asked M cap f count (note_capture (capture_number v) f (binds M cap count))
    name-asks = record { store = m.store; row_low = name-low.1.1; cap_low = m.cap_low; room = subst (λ (l : List Binding). length l < cap) (sym name-is) m.room }

    pub name-filed : (I : List ℕ) {cap' : ℕ} → cap' ≡ cap → Filed N.pairs N.text (behind cap M) cap (binds M cap count) → I ≡ behind cap M → Filed N.pairs N.text I cap' met
    name-filed I e F h =
        subst (λ (m : ℕ). Filed N.pairs N.text I m met) (sym e) (subst (λ (I : List ℕ). Filed N.pairs N.text I cap met) (sym h)
        (subst (λ (l : List Binding). Filed N.pairs N.text (behind cap M) cap l) name-is (filed_capture (capture_number v) f name-low.1.0 F)))

    pub name_meets : (M' : List ℕ) (count' : ℕ) → Kept M' cap (note_capture (capture_number v) f (binds M cap count)) count' → Kept M' cap met count'
    name_meets M' count' k = subst (λ (l : List Binding). Kept M' cap l count') name-is k

  module _ (v : Access) (f x : ℕ) (t : Bool) (q : op ≡ becomes.Call v f x t) (m : Meets M cap count op met) where
    call-low : (is_accessor (access_number v) ≡ true) × ((f < cap) × (x < 4294967296))
    unfolding op_of
    call-low = subst (λ (o : Becomes). OpLow cap (op_of o)) q m.low

    call-is : note N (access_number v) f x (binds M cap count) ≡ met
    unfolding meet op_of
    call-is = sym (ap (λ (o : Becomes). meet N (op_of o) (binds M cap count)) q)

    pub property-small : x < 4294967296
    property-small = call-low.1.1

    pub call_asks : Asked M cap f count (note N (access_number v) f x (binds M cap count))
    call_asks = record { store = m.store; row_low = call-low.1.0; cap_low = m.cap_low; room = subst (λ (l : List Binding). length l < cap) (sym call-is) m.room }

    pub call-meets : (M' : List ℕ) (count' : ℕ) → Kept M' cap (note N (access_number v) f x (binds M cap count)) count' → Kept M' cap met count'
    call-meets M' count' k = subst (λ (l : List Binding). Kept M' cap l count') call-is k

-- the new This, captured or not
module _ (c : Ctx) (op : Op) (bs : List Binding) (r : Bool) (q : r ≡ is_called op) where
  picks : (y : Bool) → (r && c.takes_this) ≡ y → leave_capture c op bs ≡ cond y (note_capture 1 c.this_at bs) bs
  unfolding leave_capture
  picks y e = ap (λ (x : Bool). cond (x && c.takes_this) (note_capture 1 c.this_at bs) bs) (sym q) ∙ ap (λ (x : Bool). cond x (note_capture 1 c.this_at bs) bs) e

  flipped : (x y : Bool) → not x ≡ y → x ≡ not y
  flipped true y e = ap not e
  flipped false y e = ap not e

  pub leave_none : not (r && c.takes_this) ≡ true → leave_capture c op bs ≡ bs
  leave_none e = picks false (flipped (r && c.takes_this) true e)

  pub leave-some : not (r && c.takes_this) ≡ false → leave_capture c op bs ≡ note_capture 1 c.this_at bs
  leave-some e = picks true (flipped (r && c.takes_this) false e)
