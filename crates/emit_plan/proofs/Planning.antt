-- A plan that was made by the code is that of the steps, and what the walkers may know of it. Assumes nothing.
use mathlib.Core.Path.{◌≡◌, refl, ap, sym, subst, ◌∙◌}
use mathlib.Core.Bool.{Bool, true, false, cond}
use mathlib.Core.List.{List}
use Prim.Native.Nat.{ℕ, ◌+◌, ◌≤◌, ◌<◌}
use native.Mathlib.Omega.{arith}
use lib.Dec.{eqb}
use Rattle.names.specs.Words.{words, rows_in, kind_at, attr_at, name_at, end_at}
use Rattle.forest.specs.Nested.{Range}
use Rattle.forest.proofs.Walking.{inner}
use Rattle.spelling.specs.Spelling.{GivenNames}
use Rattle.steps.specs.Mode.{Switches}
use Rattle.steps.specs.Naming.{Names}
use Rattle.steps.specs.Outcome.{names_of}
use Rattle.steps.specs.Slots.{wrapped}
use Rattle.steps.specs.Super.{first_super}
use Rattle.steps.specs.AfterSuper.{super_call}
use Rattle.steps.specs.Acts.{Op.row, Act}
use Rattle.steps.specs.Bindings.{number, closes}
use Rattle.steps.specs.Context.{Spot, act_c, late_c}
use Rattle.steps.specs.Fused.{pass_of, met_of, direct_of, own, anew}
use Rattle.steps.proofs.Numbering.{number-low}
use Rattle.bindings.specs.Store.{this_at}
use Rattle.bindings.proofs.Arrays.{binds-length}
use Rattle.bindings.proofs.Numbered.{this_number}
use Rattle.passes.specs.declared.Pass.{Pass as Passed}
use Rattle.plan.specs.declared.place.Place.{Place}
use Rattle.passes.specs.declared.slots.Slot.{Slot}
use Rattle.passes.specs.View.{slot_number, op_of, in_sequence, is_behind, Says}
use Rattle.below.specs.Below.{At, children}
use Rattle.acts.specs.View.{switches_of}
use Rattle.plan.specs.Placing.{place_of}
use Rattle.plan.specs.Taking.{Takes, ActLow}
use Rattle.plan.specs.Frames.{FramesBelow, Small}
use Rattle.plan.proofs.Frames.{row_act_low}
use Rattle.emit_plan.specs.declared.Walk.{Walk}
use Rattle.emit_plan.specs.declared.Plan.{Plan}
use Rattle.emit_plan.specs.Walkers.{is_statement, is_row}
use Rattle.emit_plan.specs.Plans.{list_of, Holds, Formed, RowPre, Planned, act_in, frame_in}
use Rattle.emit_plan.proofs.Formed.{statement_op, met_op, rowless_open, statement_met, statement_open, met_open, other-first, dressed_first}
use Rattle.acts.specs.declared.act.Act.{Act as Acted}

module _ (rows names text : List ℕ) (v : Walk) (b sc : ℕ) (q : Spot) (i : ℕ) (p : Plan) where
  abbrev ws : List ℕ
  ws = words rows

  abbrev N : Names
  N = names_of names text

  module _ (P : Planned N ws v b sc q i p) where
    abbrev w : Switches
    w = switches_of v.switches

    abbrev A : Act
    A = act_c N w q i (kind_at ws i) (attr_at ws i) (name_at ws i) (children ws i)

    slot_is : slot_number p.slot ≡ q.slot
    slot_is = P.slot

    met-is : in_sequence p.assigned ≡ met_of (own q.slot sc) (kind_at ws i) (first_super (children ws i))
    unfolding pass_of
    met-is = P.says.met

    first-is : is_behind p.assigned ≡ direct_of (own q.slot sc) (kind_at ws i) (super_call (children ws i))
    unfolding pass_of
    first-is = P.says.first

    words_are : row (kind_at ws i) (attr_at ws i) (name_at ws i) ≡ row p.head.kind p.head.attr p.head.name
    words_are = rw (P.kind, P.attr, P.name) refl

    closes-is : closes (slot_number p.slot) p.head.kind ≡ closes q.slot (kind_at ws i)
    closes-is = rw (slot_is, P.kind) refl

    statement-is : is_statement p.head.kind ≡ is_statement (kind_at ws i)
    statement-is = ap is_statement P.kind

    abbrev late : Bool
    late = late_c N w q i (kind_at ws i) (attr_at ws i) (children ws i)

    pub formed : Formed p
    unfolding act_c
    formed = record {
      statement = λ h.
          let s : is_statement (kind_at ws i) ≡ true = sym statement-is ∙ h in (
            P.does.becomes ∙ statement_op N w late q.ctx q.slot i (attr_at ws i) (name_at ws i) (children ws i) (kind_at ws i) s ∙ words_are,
            (met-is ∙ statement_met (kind_at ws i) (own q.slot sc) (first_super (children ws i)) s, closes-is ∙ statement_open (kind_at ws i) q.slot s),
          );
      other = λ h. first-is ∙ other-first (kind_at ws i) (own q.slot sc) (super_call (children ws i)) (sym statement-is ∙ h);
      dressing = λ h. first-is ∙ dressed_first (kind_at ws i) q.slot sc (super_call (children ws i)) (sym (ap (λ (s : ℕ). eqb s wrapped) slot_is) ∙ h);
      met = λ h.
          let m : met_of (own q.slot sc) (kind_at ws i) (first_super (children ws i)) ≡ true = sym met-is ∙ h in (
            P.does.becomes ∙ met_op N w late q.ctx q.slot i (attr_at ws i) (name_at ws i) (children ws i) (kind_at ws i) (own q.slot sc) (first_super (children ws i)) m ∙ words_are,
            closes-is ∙ met_open (kind_at ws i) q.slot (own q.slot sc) (first_super (children ws i)) m,
          );
      rowless = λ h. closes-is ∙ rowless_open N w late q.ctx q.slot i (attr_at ws i) (name_at ws i) (children ws i) (kind_at ws i) (sym (ap is_row P.does.becomes) ∙ h);
    }

    cond-low : (y : Bool) (x z m : ℕ) → x ≤ m → z ≤ m → cond y x z ≤ m
    cond-low true x z m h k = h
    cond-low false x z m h k = k

    -- what the walkers of the row need
    pub row-pre : At rows (rows_in rows) i → GivenNames names text → Holds names text v (rows_in rows) → FramesBelow v.bindings.cap q.ctx → b ≤ 16384
        → Small ws i → number N (list_of v) 1 (frame_in p) 0 ≤ 16384 → RowPre rows names text v p
    unfolding pass_of
    row-pre g names-given holds low bound small few =
        let L : ActLow v.bindings.cap (act_in p) = row_act_low N w q ws i v.bindings.cap (let r = g.row in let h = holds.rows_low in omega arith) low small (act_in p) P.does in
        record {
          inner = record {
            range = record {
              bytes = g.bytes;
              few = g.few;
              nested = g.nested;
              range = subst (λ (x : ℕ). Range ws (rows_in rows) x p.inner.end) (sym P.from) (subst (Range ws (rows_in rows) (i + 1)) (sym P.end) (inner ws
                  (rows_in rows) g.nested i g.row));
            };
            named = names-given;
            holds = holds;
            bound = subst (λ (x : ℕ). x ≤ 16384) (sym P.says.bind) (cond-low (anew q.slot (kind_at ws i) (number N (list_of v) 1 (frame_in p) 0)) _ b 16384 few bound);
            first = L.one;
            later = L.more;
          };
          here = subst (λ (s : Spot). FramesBelow v.bindings.cap s.ctx) (sym P.spot) low;
          bound = subst (λ (x : ℕ). x ≤ 16384) (sym P.bind) bound;
          low = L.op;
          formed = formed;
        }

-- the plan, by the values that the code has
module _ (rows names text : List ℕ) (v : Walk) (b sc : ℕ) (q : Place) (i : ℕ) (sl : Slot) (k a n e m : ℕ) (sup called : Bool) (A : Acted Place) (s : Passed) where
  abbrev it : Plan
  it = record {
    inner = record { from = i + 1; end = e; bind = s.bind; state = s.scan; one = A.one; more = A.more };
    spot = q;
    slot = sl;
    bind = b;
    head = record { kind = k; attr = a; name = n };
    op = A.op;
    assigned = s.assigned;
    next = s.next;
  }

  pub plan_is : At rows (rows_in rows) i → GivenNames names text → Holds names text v (rows_in rows) → FramesBelow v.bindings.cap (place_of q).ctx → b ≤ 16384
      → slot_number sl ≡ (place_of q).slot → k ≡ kind_at (words rows) i → a ≡ attr_at (words rows) i → n ≡ name_at (words rows) i → e ≡ end_at (words rows) i
      → Takes (switches_of v.switches) (place_of q).ctx (act_c (names_of names text) (switches_of v.switches) (place_of q) i (kind_at (words rows) i) (attr_at (words rows) i) (name_at (words rows) i) (children (words rows) i)) A
      → Small (words rows) i → (place_of A.more).ctx.this_at < v.bindings.cap → m ≡ this_at v.bindings.made.now v.bindings.cap (place_of A.more).ctx.this_at
      → sup ≡ first_super (children (words rows) i) → called ≡ super_call (children (words rows) i) → Says s (pass_of b sc (slot_number sl) k m sup called (op_of A.op))
      → Planned (names_of names text) (words rows) v b sc (place_of q) i it × RowPre rows names text v it
  plan_is g names-given holds low bound hsl hk ha hn he D small fr hm hs hc S =
      let number_is : m ≡ number (names_of names text) (list_of v) 1 (place_of A.more).ctx.this_at 0 = hm ∙ this_number (names_of names text) v.bindings.made.now v.bindings.cap v.bindings.count v.bindings.store (place_of A.more).ctx.this_at fr in
      let P : Planned (names_of names text) (words rows) v b sc (place_of q) i it = record {
        from = refl;
        end = he;
        spot = refl;
        slot = hsl;
        bind = refl;
        kind = hk;
        attr = ha;
        name = hn;
        does = D;
        says = subst (λ (x : ℕ). Says s (pass_of b sc (place_of q).slot (kind_at (words rows) i) x (first_super (children (words rows) i)) (super_call (children (words rows) i)) (op_of A.op))) number_is
            (subst (λ (x : ℕ). Says s (pass_of b sc (place_of q).slot x m (first_super (children (words rows) i)) (super_call (children (words rows) i)) (op_of A.op))) hk
            (subst (λ (y : Bool). Says s (pass_of b sc (place_of q).slot k m y (super_call (children (words rows) i)) (op_of A.op))) hs
            (subst (λ (y : Bool). Says s (pass_of b sc (place_of q).slot k m sup y (op_of A.op))) hc (subst (λ (x : ℕ). Says s (pass_of b sc x k m sup called (op_of A.op))) hsl S))));
      } in (
        P,
        row-pre rows names text v b sc (place_of q) i it P g names-given holds low bound small
            (let c = v.bindings.small in let r = v.bindings.store.room in omega (arith, number-low (names_of names text) 1 (place_of A.more).ctx.this_at 0 (list_of v), binds-length v.bindings.made.now v.bindings.cap 1 v.bindings.count)),
      )
