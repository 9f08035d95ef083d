-- A row that is written as it is has a plan, though none is made for it. Assumes nothing.
use mathlib.Core.Path.{◌≡◌, refl, sym, subst}
use mathlib.Core.Bool.{Bool, true, false, not, ◌&&◌, ◌||◌, and-false}
use mathlib.Core.List.{List}
use Prim.Native.Nat.{ℕ, ◌≤◌}
use lib.Dec.{eqb}
use Rattle.names.specs.Words.{words, kind_at, attr_at, name_at}
use Rattle.forest.specs.Forest.{Rows.none, Rows.node}
use Rattle.forest.proofs.Walking.{rows_none}
use Rattle.steps.specs.Mode.{Switches}
use Rattle.steps.specs.Naming.{Names}
use Rattle.steps.specs.Outcome.{names_of}
use Rattle.steps.specs.AfterSuper.{super_call}
use Rattle.steps.specs.ArrowToFunction.{dress}
use Rattle.steps.specs.Context.{Spot, enter}
use Rattle.steps.proofs.Credit.{eqb-eq}
use Rattle.steps.specs.Walk.{build}
use Rattle.steps.specs.Fused.{met_of, direct_of, own, scan_of, next_of, anew, pass_of, top_s, build_s, emit_s}
use Rattle.below.specs.Below.{children}
use Rattle.passes.specs.View.{state_number, op_of}
use Rattle.passes.specs.declared.Assigned.TheVariants as assignments
use Rattle.passes.specs.declared.states.State.{State}
use Rattle.passes.proofs.Numbers.{slot_of, slot_back}
use Rattle.plan.proofs.Placing.{place_slot}
use Rattle.passes.specs.declared.Becomes.TheVariants as becomes
use Rattle.acts.specs.View.{switches_of}
use Rattle.plan.specs.Placing.{place_of}
use Rattle.plan.specs.declared.place.Place.{Place}
use Rattle.emit_plan.specs.declared.Head.{Head}
use Rattle.plan.specs.Staying.{Stays}
use Rattle.emit_plan.specs.declared.Walk.{Walk}
use Rattle.emit_plan.specs.declared.Siblings.{Siblings}
use Rattle.emit_plan.specs.declared.Plan.{Plan}
use Rattle.emit_plan.specs.Plans.{inside, dressed, Planned}
use Rattle.emit_plan.specs.Unchanged.{Steady, Unchanged, WordsOf, Along}
use Rattle.names.proofs.Bools.{and_parts, neither}
use borrow.Author.Tests.{not-true}

-- where nothing is visited
pub steady-copy : (k : ℕ) → Steady 2 k
unfolding met_of direct_of scan_of next_of
steady-copy k = record { met = λ s. and-false (eqb k 14 && s); scan = λ a n. refl; next = refl }

-- where rows are visited, and in a statement list, a row that does not change how
module _ (k : ℕ) (e : (eqb k 23 || eqb k 14 || eqb k 5 || eqb k 19 || eqb k 17 || eqb k 20) ≡ false) where
  five : ((eqb k 23 || eqb k 14 || eqb k 5 || eqb k 19 || eqb k 17) ≡ false) × (eqb k 20 ≡ false)
  five = neither (eqb k 23 || eqb k 14 || eqb k 5 || eqb k 19 || eqb k 17) (eqb k 20) e

  four : ((eqb k 23 || eqb k 14 || eqb k 5 || eqb k 19) ≡ false) × (eqb k 17 ≡ false)
  four = neither (eqb k 23 || eqb k 14 || eqb k 5 || eqb k 19) (eqb k 17) five.0

  three : ((eqb k 23 || eqb k 14 || eqb k 5) ≡ false) × (eqb k 19 ≡ false)
  three = neither (eqb k 23 || eqb k 14 || eqb k 5) (eqb k 19) four.0

  two : ((eqb k 23 || eqb k 14) ≡ false) × (eqb k 5 ≡ false)
  two = neither (eqb k 23 || eqb k 14) (eqb k 5) three.0

  one : (eqb k 23 ≡ false) × (eqb k 14 ≡ false)
  one = neither (eqb k 23) (eqb k 14) two.0

  steady-visit : Steady 1 k
  unfolding met_of scan_of next_of
  steady-visit = record { met = λ s. rw one.1; scan = λ x n. rw (two.1, three.1, four.1, one.0, five.1); next = refl }

  steady-list : Steady 0 k
  unfolding met_of scan_of next_of
  steady-list = record { met = λ s. rw one.1; scan = λ x n. rw (two.1, three.1, four.1, one.0, five.1); next = refl }

pub steady_of : (sc k : ℕ) → ((eqb sc 1 || eqb sc 0) && not (eqb k 23 || eqb k 14 || eqb k 5 || eqb k 19 || eqb k 17 || eqb k 20)) ≡ true → Steady sc k
steady_of sc k h = go (eqb sc 1) refl p.0
  where
    p : ((eqb sc 1 || eqb sc 0) ≡ true) × (not (eqb k 23 || eqb k 14 || eqb k 5 || eqb k 19 || eqb k 17 || eqb k 20) ≡ true)
    p = and_parts (eqb sc 1 || eqb sc 0) (not (eqb k 23 || eqb k 14 || eqb k 5 || eqb k 19 || eqb k 17 || eqb k 20)) h

    else : (eqb k 23 || eqb k 14 || eqb k 5 || eqb k 19 || eqb k 17 || eqb k 20) ≡ false
    else = not-true _ p.1

    go : (x : Bool) → eqb sc 1 ≡ x → (x || eqb sc 0) ≡ true → Steady sc k
    go true e g = subst (λ (s : ℕ). Steady s k) (sym (eqb-eq sc 1 e)) (steady-visit k else)
    go false e g = subst (λ (s : ℕ). Steady s k) (sym (eqb-eq sc 0 g)) (steady-list k else)

pub unchanged_at : {w : Switches} {q : Spot} {sc : ℕ} {ws : List ℕ} {i k a : ℕ} → k ≡ kind_at ws i → a ≡ attr_at ws i → Steady sc k → direct_of sc k (super_call (children ws i)) ≡ false → Stays w q k a → Unchanged w q sc ws i
unchanged_at {w} {q} {sc} {ws} {i} {k} {a} ek ea S D T = record {
  first = subst (λ (x : ℕ). direct_of sc x (super_call (children ws i)) ≡ false) ek D;
  steady = subst (Steady sc) ek S;
  stays = subst (λ (x : ℕ). Stays w q (kind_at ws i) x) ea (subst (λ (x : ℕ). Stays w q x a) ek T);
}

module _ (rows names text : List ℕ) (v : Walk) (b : ℕ) (st : State) (q : Place) (i : ℕ) (h : Head) (n : Siblings)
    (U : Unchanged (switches_of v.switches) (place_of q) (state_number st) (words rows) i) (H : WordsOf (words rows) i h) (E : Along (words rows) b (state_number st) (place_of q) i n) where
  abbrev ws : List ℕ
  ws = words rows

  abbrev N : Names
  N = names_of names text

  abbrev w : Switches
  w = switches_of v.switches

  abbrev pub plan : Plan
  plan = record { inner = n; spot = q; slot = slot_of (place_of q).slot; bind = b; head = h; op = becomes.Row h.kind h.attr h.name; assigned = assignments.Nowhere; next = st }

  pub planned : Planned N ws v b (state_number st) (place_of q) i plan
  unfolding pass_of own anew op_of enter
  planned = record {
    from = E.from;
    end = E.end;
    spot = refl;
    slot = slot_back _ (place_slot q);
    bind = refl;
    kind = H.kind;
    attr = H.attr;
    name = H.name;
    does = record {
      becomes = rw (U.stays.acted N i (name_at ws i) (children ws i), H.kind, H.attr, H.name) refl;
      first = rw (U.stays.acted N i (name_at ws i) (children ws i)) E.one;
      later = rw (U.stays.acted N i (name_at ws i) (children ws i)) E.more;
    };
    says = record {
      met = rw U.stays.bare (sym (U.steady.met _));
      first = rw U.stays.bare (sym U.first);
      scan = rw (U.stays.bare, U.stays.unclosed, U.steady.met _, U.first, H.kind, U.steady.scan h.attr h.name) E.state;
      next = rw (U.stays.bare, U.first) (sym U.steady.next);
      bind = rw U.stays.unclosed E.bind;
    };
  }

  -- it says that the row is written as it is
  pub unchanged_rows : dressed rows names text v plan ≡ node h.kind h.attr h.name (inside rows names text v n) none
  unfolding dress build_s build top_s op_of
  unchanged_rows = rw (slot_back _ (place_slot q), U.stays.bare, H.kind, U.stays.unclosed) refl

-- a row without children
pub no_children : (rows names text : List ℕ) (v : Walk) (n : Siblings) → n.end ≤ n.from → inside rows names text v n ≡ none
unfolding emit_s
no_children rows names text v n h = rw (rows_none (words rows) n.from n.end h) refl
