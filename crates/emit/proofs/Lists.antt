-- A list of siblings, row by row: what a plan says is written, then what is left. Assumes nothing.
use mathlib.Core.Path.{◌≡◌, refl, ap, sym, subst, ◌∙◌}
use mathlib.Core.Bool.{Bool, true, false, cond}
use mathlib.Core.List.{List}
use Prim.Native.Nat.{ℕ, ◌+◌, ◌*◌, ◌-◌, ◌≤◌, ◌<◌, ◌^◌}
use native.Mathlib.Omega.{arith}
use lib.Dec.{eqb}
use Rattle.grammar.specs.Kinds.{ExprStmt, Body, Return}
use Rattle.names.specs.Words.{words, rows_in, kind_at, attr_at, name_at, end_at}
use Rattle.forest.specs.Forest.{Rows, Rows.none, Rows.node, size, rows_at}
use Rattle.forest.specs.Nested.{Nested, Range}
use Rattle.forest.proofs.Walking.{rows_none, inner, later, rows_step}
use Rattle.steps.specs.Mode.{Switches}
use Rattle.steps.specs.Naming.{Names}
use Rattle.steps.specs.Outcome.{names_of}
use Rattle.steps.specs.Joining.{join}
use Rattle.steps.specs.Slots.{wrapped}
use Rattle.steps.specs.Super.{first_super}
use Rattle.steps.specs.ArrowToFunction.{dress}
use Rattle.steps.specs.AfterSuper.{assignment, super_call}
use Rattle.steps.specs.Acts.{Ctx, Op, Op.row, Op.drop, Op.name, Op.call, Act}
use Rattle.steps.specs.Bindings.{Binding, number}
use Rattle.steps.specs.Context.{Spot, spot, enter, into, act_c}
use Rattle.steps.specs.Walk.{build}
use Rattle.steps.specs.Fused.{Pass, pass_of, top_s, build_s, emit_s}
use Rattle.below.specs.Below.{children}
use Rattle.passes.specs.View.{slot_number, state_number, op_of, in_sequence, is_behind}
use Rattle.acts.specs.View.{switches_of}
use Rattle.plan.specs.Placing.{place_of}
use Rattle.output.specs.Output.{Done}
use Rattle.output.proofs.Loops.{Left, turn, room_left, none_left}
use Rattle.plan.specs.Frames.{FramesBelow}
use Rattle.plan.proofs.Leaving.{rows_size}
use Rattle.emit_plan.specs.declared.Walk.{Walk}
use Rattle.emit_plan.specs.declared.Plan.{Plan}
use Rattle.emit_plan.specs.Plans.{list_of, listed, inside, dressed, Planned, frame_in}

join-assoc : (f g h : Rows) → join (join f g) h ≡ join f (join g h)
unfolding join
join-assoc none g h = refl
join-assoc (node k a n i s) g h = ap (node k a n i) (join-assoc s g h)

-- what a row becomes stands beside what the rows after it become
module _ (N : Names) (bs : List Binding) (c : Ctx) (b : ℕ) where
  build-join : (x : Op) (i s t : Rows) → build N bs c x i (join s t) ≡ join (build N bs c x i s) t
  unfolding build join
  build-join (row k a n) i s t = refl
  build-join drop i s t = sym (join-assoc i s t)
  build-join (name u f) i s t = refl
  build-join (call u f x true) i s t = ap (node 12 1 0 (node 14 0 0 (node 11 1 (number N bs u f x) none i) none)) (go c.takes_this)
    where
      go : (y : Bool) → cond y (node 11 1 (number N bs 1 c.this_at 0) none (join s t)) (node 9 0 0 none (join s t)) ≡ join (cond y (node 11 1 (number N bs 1 c.this_at 0) none s) (node 9 0 0 none s)) t
      go true = refl
      go false = refl
  build-join (call u f x false) i s t = refl

  built_join : (met first : Bool) (x : Op) (i s : Rows) → build_s N bs c b met first x i s ≡ join (build_s N bs c b met first x i none) s
  unfolding build_s join
  built_join true first x i s = refl
  built_join false true x i s = build-join x i (node ExprStmt 0 0 (assignment b) none) s
  built_join false false x i s = build-join x i none s

  dressed_join : (sl : ℕ) (met first : Bool) (x : Op) (i s : Rows) → dress sl (build_s N bs c b met first x i) s ≡ join (dress sl (build_s N bs c b met first x i) none) s
  unfolding dress join
  dressed_join sl met first x i s = go (eqb sl wrapped)
    where
      go : (y : Bool) → cond y (node Body 0 0 (node Return 0 0 (build_s N bs c b met first x i none) none) s) (build_s N bs c b met first x i s)
          ≡ join (cond y (node Body 0 0 (node Return 0 0 (build_s N bs c b met first x i none) none) none) (build_s N bs c b met first x i none)) s
      go true = refl
      go false = built_join met first x i s

module _ (rows names text : List ℕ) (v : Walk) (good : Nested (words rows) (rows_in rows)) where
  abbrev ws : List ℕ
  ws = words rows

  abbrev N : Names
  N = names_of names text

  abbrev w : Switches
  w = switches_of v.switches

  abbrev bs : List Binding
  bs = list_of v

  -- what is written for a row, by its parts
  abbrev row_s : (q : Spot) (b k r : ℕ) (met first : Bool) (x : Op) → Rows → Rows
  row_s q b k r met first x i = dress q.slot (build_s N bs q.ctx b met first x (top_s N bs q.slot k r i)) none

  module _ (b sc : ℕ) (q q' : Spot) (i e : ℕ) (R : Range ws (rows_in rows) i e) (lt : i < e) (p : Plan) (P : Planned N ws v b sc q i p) where
    abbrev A : Act
    A = act_c N w q i (kind_at ws i) (attr_at ws i) (name_at ws i) (children ws i)

    abbrev r : ℕ
    r = (enter w A.more.step q.ctx).this_at

    abbrev S : Pass
    S = pass_of b sc q.slot (kind_at ws i) (number N bs 1 r 0) (first_super (children ws i)) (super_call (children ws i)) A.op

    abbrev S' : Pass
    S' = pass_of b sc q.slot (kind_at ws i) (number N bs 1 (frame_in p) 0) (first_super (children ws i)) (super_call (children ws i)) (op_of p.op)

    low : i < rows_in rows
    low = let h = R.within in omega arith

    frame_is : frame_in p ≡ r
    frame_is = ap (λ (s : Spot). s.ctx.this_at) P.does.later

    same-pass : S' ≡ S
    same-pass = rw (frame_is, P.does.becomes) refl

    -- the row as the steps have it
    stepped : listed rows names text v b sc q q' i e
        ≡ join (row_s q b (kind_at ws i) r S.met S.first A.op (emit_s N w bs S.bind S.scan (into w q A.one) (into w q A.more) (i + 1) (children ws i)))
        (emit_s N w bs b S.next q' q' (end_at ws i) (rows_at ws (end_at ws i) e))
    unfolding emit_s
    stepped =
        ap (emit_s N w bs b sc q q' i) (rows_step ws (rows_in rows) good i e R lt)
        ∙ dressed_join N bs q.ctx b q.slot S.met S.first A.op _ _
        ∙ ap (λ (m : ℕ). join (row_s q b (kind_at ws i) r S.met S.first A.op (emit_s N w bs S.bind S.scan (into w q A.one) (into w q A.more) (i + 1) (children ws i))) (emit_s N w bs b S.next q' q' m (rows_at ws (end_at ws i) e)))
        (rows_size ws (rows_in rows) good (i + 1) (end_at ws i) (inner ws (rows_in rows) good i low))

    inside_is : inside rows names text v p.inner ≡ emit_s N w bs S.bind S.scan (into w q A.one) (into w q A.more) (i + 1) (children ws i)
    inside_is = rw (P.says.bind, P.says.scan, same-pass, P.does.first, P.does.later, P.from, P.end) refl

    dressed-from : (f : Rows) → row_s (spot (place_of p.spot).ctx (slot_number p.slot)) p.bind p.head.kind (frame_in p) (in_sequence p.assigned) (is_behind p.assigned) (op_of p.op) f ≡ row_s q b (kind_at ws i) r S.met S.first A.op f
    dressed-from f =
        rw (P.bind, P.kind, frame_is, P.says.met, P.says.first, same-pass, P.does.becomes, P.slot)
        (ap (λ (s : Spot). row_s (spot s.ctx q.slot) b (kind_at ws i) r S.met S.first A.op f) P.spot)

    dressed_is : dressed rows names text v p ≡ row_s q b (kind_at ws i) r S.met S.first A.op (inside rows names text v p.inner)
    dressed_is = dressed-from (inside rows names text v p.inner)

    pub plan-step : listed rows names text v b sc q q' i e ≡ join (dressed rows names text v p) (listed rows names text v b (state_number p.next) q' q' p.inner.end e)
    plan-step =
        stepped
        ∙ ap (λ (t : Rows). join t (emit_s N w bs b S.next q' q' (end_at ws i) (rows_at ws (end_at ws i) e))) (sym (dressed_is ∙ ap (row_s q b (kind_at ws i) r S.met S.first A.op) inside_is))
        ∙ ap (λ (m : ℕ). join (dressed rows names text v p) (emit_s N w bs b m q' q' (end_at ws i) (rows_at ws (end_at ws i) e))) (sym (P.says.next ∙ ap (λ (s : Pass). s.next) same-pass))
        ∙ ap (λ (m : ℕ). join (dressed rows names text v p) (emit_s N w bs b (state_number p.next) q' q' m (rows_at ws m e))) (sym P.end)

-- the walk of a list: what is left gives what there was to do
pub record Turning (rows names text : List ℕ) (v : Walk) (b sc₀ : ℕ) (q₀ more : Spot) (from e : ℕ) (out₀ : List ℕ) (at i : ℕ) (q : Spot) (sc : ℕ) (out : List ℕ) (next : ℕ) : Type 0 where
  pub left : Left out₀ at (listed rows names text v b sc₀ q₀ more from e) out next (listed rows names text v b sc q more i e)
  pub range : Range (words rows) (rows_in rows) i e
  pub start : from ≤ i
  pub low : FramesBelow v.bindings.cap q.ctx

module _ {rows names text : List ℕ} {v : Walk} {b sc₀ : ℕ} {q₀ more : Spot} {from e : ℕ} {out₀ : List ℕ} {at i : ℕ} {q : Spot} {sc : ℕ} {out : List ℕ} {next : ℕ}
    (T : Turning rows names text v b sc₀ q₀ more from e out₀ at i q sc out next) (good : Nested (words rows) (rows_in rows)) where
  module _ (lt : i < e) {p : Plan} (P : Planned (names_of names text) (words rows) v b sc q i p) where
    abbrev all : Rows
    all = listed rows names text v b sc₀ q₀ more from e

    below : i < rows_in rows
    below = let h = T.range.within in omega arith

    ahead : i < p.inner.end
    ahead = subst (λ (x : ℕ). i < x) (sym P.end) (good.ahead i below)

    up : p.inner.end ≤ e
    up = subst (λ (x : ℕ). x ≤ e) (sym P.end) (T.range.closed i (omega arith) lt)

    -- what the walker of the row needs
    pub row_room : at + size all < 2 ^ 32 → next + size (dressed rows names text v p) < 2 ^ 32
    row_room h = omega (arith, room_left (dressed rows names text v p) (listed rows names text v b (state_number p.next) more more p.inner.end e) T.left (plan-step rows names text v good b sc q more i e T.range lt p P) h)

    pub row-fewer : (k t : ℕ) → k < 8 → 8 * (e - from) ≡ t → 8 * (p.inner.end - p.inner.from) + k < t
    row-fewer k t h m = let a = ahead in let u = up in let s = T.start in let r = P.from in omega arith

    pub turn_on : FramesBelow v.bindings.cap more.ctx → {out' : List ℕ} {r : ℕ} → Done out next (dressed rows names text v p) r out'
        → Turning rows names text v b sc₀ q₀ more from e out₀ at p.inner.end more (state_number p.next) out' r
    turn_on m {out'} {r} d = record {
      left = turn T.left (plan-step rows names text v good b sc q more i e T.range lt p P) d;
      range = subst (λ (x : ℕ). Range (words rows) (rows_in rows) x e) (sym P.end) (later (words rows) (rows_in rows) good i e T.range lt);
      start = let a = ahead in let s = T.start in omega arith;
      low = m;
    }

  pub turned : e ≤ i → Done out₀ at (listed rows names text v b sc₀ q₀ more from e) next out
  unfolding emit_s
  turned h = none_left T.left (ap (emit_s (names_of names text) (switches_of v.switches) (list_of v) b sc q more i) (rows_none (words rows) i e h))
