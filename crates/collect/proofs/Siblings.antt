-- The walk of a list of siblings, row by row. Assumes nothing.
use mathlib.Core.Path.{◌≡◌, refl, ap, sym, subst, ◌∙◌}
use mathlib.Core.Bool.{Bool, true, false, cond, ◌&&◌}
use mathlib.Core.List.{List}
use Prim.Native.Nat.{ℕ, ◌+◌, ◌<◌, ◌≤◌}
use native.Mathlib.Omega.{arith}
use lib.ListN.{length}
use Rattle.names.specs.Words.{words, rows_in, kind_at, attr_at, name_at, end_at}
use Rattle.forest.specs.Forest.{Rows, rows_at}
use Rattle.forest.specs.Nested.{Nested, Range}
use Rattle.forest.proofs.Walking.{rows_none, inner, later, rows_step}
use Rattle.steps.specs.Mode.{Switches}
use Rattle.steps.specs.Naming.{Names}
use Rattle.steps.specs.Acts.{Ctx, Act, Op, Op.row, Op.drop, Op.name, Op.call}
use Rattle.steps.specs.Bindings.{Binding, closes, closed, meet, leave}
use Rattle.steps.specs.Slots.{free}
use Rattle.steps.specs.Context.{Spot, spot, enter, into, act_c, collect_c}
use Rattle.steps.proofs.Records.{collect_grows, leave_grows, closed_grows}
use Rattle.below.specs.Below.{children}
use Rattle.bindings.specs.Search.{note_capture}
use Rattle.bindings.specs.Store.{Store, Bare, binds}
use Rattle.bindings.specs.Post.{Kept}
use Rattle.bindings.specs.Filed.{Filed, behind}
use Rattle.bindings.proofs.Filing.{filed_capture, filed_closed}
use Rattle.bindings.proofs.Numbered.{note-capture}
use Rattle.passes.specs.View.{op_of}
use Rattle.plan.specs.Placing.{place_of}
use Rattle.plan.specs.Taking.{Takes, ActLow}
use Rattle.plan.specs.Frames.{FramesBelow, Small}
use Rattle.plan.proofs.Frames.{row_act_low}
use Rattle.plan.proofs.Leaving.{rows_size}
use Rattle.plan.specs.Staying.{Stays}
use Rattle.collect.specs.Collecting.{Meets, Finishes, RowCollects, Collects, is_called, leave_capture, row_c}
use Rattle.collect.proofs.Finishing.{shorter}
use Rattle.acts.specs.declared.act.Act.{Act as Acted}
use Rattle.plan.specs.declared.place.Place.{Place}

-- the code's `leave` is the steps'
leave_same : (N : Names) (c : Ctx) (op : Op) (bs : List Binding) → Bare bs → leave_capture c op bs ≡ leave N c op bs
unfolding leave_capture is_called leave
leave_same N c (row k a n) bs b = refl
leave_same N c drop bs b = refl
leave_same N c (name u f) bs b = refl
leave_same N c (call u f x t) bs b = ap (λ (l : List Binding). cond (t && c.takes_this) l bs) (note-capture N 1 c.this_at (omega arith) bs b)

-- .. and puts no accessor in
filed_left : {names text I : List ℕ} {cap : ℕ} {bs : List Binding} (c : Ctx) (op : Op) → Filed names text I cap bs → Filed names text I cap (leave_capture c op bs)
unfolding leave_capture
filed_left {names} {text} {I} {cap} {bs} c op F = go (is_called op && c.takes_this)
  where
    go : (t : Bool) → Filed names text I cap (cond t (note_capture 1 c.this_at bs) bs)
    go true = filed_capture 1 c.this_at (omega arith) F
    go false = F

-- .. and neither does a frame that closes: what stands behind the tables is right for the list then, under another name of the size
pub filed_finished : {names text I : List ℕ} {cap cap' : ℕ} {bs : List Binding} (M : List ℕ) (b : Bool) (f : ℕ) (c : Ctx) (op : Op)
    → cap' ≡ cap → Filed names text (behind cap M) cap bs → I ≡ behind cap M → Filed names text I cap' (closed b f (leave_capture c op bs))
filed_finished {names} {text} {I} {cap} {cap'} {bs} M b f c op e F h =
    subst (λ (m : ℕ). Filed names text I m (closed b f (leave_capture c op bs))) (sym e)
    (subst (λ (X : List ℕ). Filed names text X cap (closed b f (leave_capture c op bs))) (sym h) (filed_closed b f (filed_left c op F)))

-- one row: what it meets, its children, and what is left to do after them
module _ (N : Names) (w : Switches) {rows : List ℕ} {cap : ℕ} {M : List ℕ} {i stop : ℕ} {q : Spot} {count : ℕ}
    (P : RowCollects rows M cap count q i stop (row_c N w q (words rows) i (binds M cap count))) where
  abbrev ws : List ℕ
  ws = words rows

  abbrev after : List Binding
  after = row_c N w q ws i (binds M cap count)

  -- a row that stays is passed
  module _ {k a : ℕ} (ek : k ≡ kind_at ws i) (ea : a ≡ attr_at ws i) (S₀ : Stays w q k a) {along : Spot} (ez : along ≡ spot q.ctx free) where
    S : Stays w q (kind_at ws i) (attr_at ws i)
    S = subst (λ (a : ℕ). Stays w q (kind_at ws i) a) ea (subst (λ (k : ℕ). Stays w q k a) ek S₀)

    abbrev passed : List Binding
    passed = collect_c N w along along (i + 1) (rows_at ws (i + 1) stop) (binds M cap count)

    passed-same : passed ≡ after
    unfolding closed meet leave enter
    passed-same = rw (ez, P.stops, S.acted N i (name_at ws i) (children ws i), S.unclosed) refl

    along-low : FramesBelow cap along.ctx
    along-low = subst (λ (s : Spot). FramesBelow cap s.ctx) (sym ez) P.low

    pub passed-collects : Collects (rows_in rows) M cap count along along passed
    passed-collects = record {
      store = P.store;
      cap_low = P.cap_low;
      rows_low = P.rows_low;
      one-low = along-low;
      more-low = along-low;
      room = subst (λ (l : List Binding). length l < cap) (sym passed-same) P.room;
    }

    pub passed-kept : {M' : List ℕ} {r : ℕ} → Kept M' cap passed r → Kept M' cap after r
    passed-kept k = record { store = k.store; list = k.list ∙ passed-same }

    -- .. and one without children adds nothing
    pub passed-leaf : stop ≤ i + 1 → Kept M cap after count
    unfolding collect_c
    passed-leaf h = record { store = P.store; list = ap (λ (f : Rows). collect_c N w along along (i + 1) f (binds M cap count)) (sym (rows_none ws (i + 1) stop h)) ∙ passed-same }

  module _ {r : Acted Place} (d : Takes w q.ctx (act_c N w q i (kind_at ws i) (attr_at ws i) (name_at ws i) (children ws i)) r) (small : Small ws i) where
    abbrev A : Act
    A = act_c N w q i (kind_at ws i) (attr_at ws i) (name_at ws i) (children ws i)

    abbrev met : List Binding
    met = meet N A.op (binds M cap count)

    abbrev inside : List Binding
    inside = collect_c N w (into w q A.one) (into w q A.more) (i + 1) (children ws i) met

    -- room for the whole is room for each of its parts
    inside-room : length inside < cap
    inside-room = shorter inside _ cap (leave_grows N q.ctx A.op inside) (shorter _ after cap (closed_grows _ _ _) P.room)

    met-room : length met < cap
    met-room = shorter met inside cap (collect_grows N w (children ws i) _ _ (i + 1) met) inside-room

    act-is-low : ActLow cap r
    act-is-low = row_act_low N w q ws i cap (let h = P.at.row in let g = P.rows_low in omega arith) P.low small r d

    abbrev met-code : List Binding
    met-code = meet N (op_of r.op) (binds M cap count)

    met-same : met-code ≡ met
    met-same = ap (λ (o : Op). meet N o (binds M cap count)) d.becomes

    pub row-meets-it : Meets M cap count r.op met-code
    row-meets-it = record { store = P.store; cap_low = P.cap_low; room = subst (λ (l : List Binding). length l < cap) (sym met-same) met-room; low = act-is-low.op }

    -- the maker has its size still, under another name
    module _ {M₁ : List ℕ} {l₁ : ℕ} (k₁ : Kept M₁ cap met-code l₁) {x : ℕ} (y : x ≡ end_at ws i) {cap₁ : ℕ} (e₁ : cap₁ ≡ cap) where
      abbrev inside-code : List Binding
      inside-code = collect_c N w (place_of r.one) (place_of r.more) (i + 1) (rows_at ws (i + 1) x) (binds M₁ cap₁ l₁)

      inside-same : inside-code ≡ inside
      inside-same =
          ap (λ (m : ℕ). collect_c N w (place_of r.one) (place_of r.more) (i + 1) (rows_at ws (i + 1) x) (binds M₁ m l₁)) e₁
          ∙ ap (λ (s : Spot). collect_c N w s (place_of r.more) (i + 1) (rows_at ws (i + 1) x) (binds M₁ cap l₁)) d.first
          ∙ ap (λ (s : Spot). collect_c N w (into w q A.one) s (i + 1) (rows_at ws (i + 1) x) (binds M₁ cap l₁)) d.later
          ∙ ap (λ (m : ℕ). collect_c N w (into w q A.one) (into w q A.more) (i + 1) (rows_at ws (i + 1) m) (binds M₁ cap l₁)) y
          ∙ ap (collect_c N w (into w q A.one) (into w q A.more) (i + 1) (children ws i)) (k₁.list ∙ met-same)

      pub children-collect : Collects (rows_in rows) M₁ cap₁ l₁ (place_of r.one) (place_of r.more) inside-code
      children-collect = subst (λ (m : ℕ). Collects (rows_in rows) M₁ m l₁ (place_of r.one) (place_of r.more) inside-code) (sym e₁)
          (record {
            store = k₁.store;
            cap_low = P.cap_low;
            rows_low = P.rows_low;
            one-low = act-is-low.one;
            more-low = act-is-low.more;
            room = subst (λ (l : List Binding). length l < cap) (sym inside-same) inside-room;
          })

      module _ {M₂ : List ℕ} {l₂ : ℕ} (k₂ : Kept M₂ cap₁ inside-code l₂) {cap₂ : ℕ} (e₂ : cap₂ ≡ cap₁)
          {k : ℕ} (z : k ≡ kind_at ws i) {b : Bool} {sl : ℕ} (v : b ≡ closes sl k) (vs : sl ≡ q.slot) {cx : Ctx} (xs : cx ≡ q.ctx) {f : ℕ} (fs : f ≡ (place_of r.more).ctx.this_at) where
        abbrev after-code : List Binding
        after-code = closed b f (leave_capture cx (op_of r.op) (binds M₂ cap₂ l₂))

        after_same : after-code ≡ after
        after_same =
            ap (λ (m : ℕ). closed b f (leave_capture cx (op_of r.op) (binds M₂ m l₂))) e₂
            ∙ ap (λ (m : ℕ). closed b m (leave_capture cx (op_of r.op) (binds M₂ cap₁ l₂))) fs
            ∙ ap (λ (c : Ctx). closed b (place_of r.more).ctx.this_at (leave_capture c (op_of r.op) (binds M₂ cap₁ l₂))) xs
            ∙ ap (λ (u : Bool). closed u (place_of r.more).ctx.this_at (leave_capture q.ctx (op_of r.op) (binds M₂ cap₁ l₂))) (v ∙ ap (λ (m : ℕ). closes m k) vs ∙ ap (closes q.slot) z)
            ∙ ap (λ (s : Spot). closed (closes q.slot (kind_at ws i)) s.ctx.this_at (leave_capture q.ctx (op_of r.op) (binds M₂ cap₁ l₂))) d.later
            ∙ ap (closed (closes q.slot (kind_at ws i)) (enter w A.more.step q.ctx).this_at)
            (leave_same N q.ctx (op_of r.op) (binds M₂ cap₁ l₂) k₂.store.bare
            ∙ ap (λ (o : Op). leave N q.ctx o (binds M₂ cap₁ l₂)) d.becomes
            ∙ ap (leave N q.ctx A.op) (k₂.list ∙ inside-same))

        same-cap : cap₂ ≡ cap
        same-cap = e₂ ∙ e₁

        pub row-finishes : Finishes M₂ cap₂ l₂ cx.this_at f after-code
        row-finishes = subst (λ (m : ℕ). Finishes M₂ m l₂ cx.this_at f after-code) (sym same-cap)
            (record {
              store = subst (λ (m : ℕ). Store M₂ m l₂) e₁ k₂.store;
              cap_low = P.cap_low;
              this_low = subst (λ (c : Ctx). c.this_at < cap) (sym xs) P.low.this;
              frame_low = subst (λ (m : ℕ). m < cap) (sym fs) act-is-low.more.this;
              room = subst (λ (l : List Binding). length l < cap) (sym after_same) P.room;
            })

        pub row_kept : {M₃ : List ℕ} {l₃ : ℕ} → Kept M₃ cap₂ after-code l₃ → Kept M₃ cap after l₃
        row_kept {M₃} {l₃} k = subst (λ (m : ℕ). Kept M₃ m after l₃) same-cap (record { store = k.store; list = k.list ∙ after_same })

-- what is left from row i on, made of the bindings now in the array, is what the whole makes
pub record Walking (N : Names) (w : Switches) (ws : List ℕ) (n : ℕ) (more : Spot) (whole : List Binding) (from e cap : ℕ) (M : List ℕ) (i : ℕ) (q : Spot) (count : ℕ) : Type 0 where
  pub same : collect_c N w q more i (rows_at ws i e) (binds M cap count) ≡ whole
  pub range : Range ws n i e
  pub start : from ≤ i
  pub store : Store M cap count
  pub filed : Filed N.pairs N.text (behind cap M) cap (binds M cap count)
  pub low : FramesBelow cap q.ctx

-- both, where the array's size has another name
pub collects_at : {n : ℕ} {M : List ℕ} {cap cap' count : ℕ} {q q' : Spot} {bs : List Binding} → cap ≡ cap' → Collects n M cap count q q' bs → Collects n M cap' count q q' bs
collects_at {n} {M} {cap} {cap'} {count} {q} {q'} {bs} e = subst (λ (m : ℕ). Collects n M m count q q' bs) e

pub walking_at : {N : Names} {w : Switches} {ws : List ℕ} {n : ℕ} {more : Spot} {whole : List Binding} {from e cap cap' : ℕ} {M : List ℕ} {i : ℕ} {q : Spot} {count : ℕ}
    → cap ≡ cap' → Walking N w ws n more whole from e cap M i q count → Walking N w ws n more whole from e cap' M i q count
walking_at {N} {w} {ws} {n} {more} {whole} {from} {e} {cap} {cap'} {M} {i} {q} {count} h = subst (λ (m : ℕ). Walking N w ws n more whole from e m M i q count) h

-- nothing is left
pub walked : {N : Names} {w : Switches} {ws : List ℕ} {n : ℕ} {more : Spot} {whole : List Binding} {from e cap : ℕ} {M : List ℕ} {i : ℕ} {q : Spot} {count : ℕ}
    → Walking N w ws n more whole from e cap M i q count → e ≤ i → Kept M cap whole count
unfolding collect_c
walked {N} {w} {ws} {n} {more} {whole} {from} {e} {cap} {M} {i} {q} {count} W h =
    record { store = W.store; list = ap (λ (f : Rows). collect_c N w q more i f (binds M cap count)) (sym (rows_none ws i e h)) ∙ W.same }

-- one row of the list
module _ {N : Names} {w : Switches} {ws : List ℕ} {n : ℕ} {more : Spot} {whole : List Binding} {from e cap : ℕ} {M : List ℕ} {i : ℕ} {q : Spot} {count : ℕ}
    (good : Nested ws n) (W : Walking N w ws n more whole from e cap M i q count) (lt : i < e)
    {M₀ : List ℕ} {count₀ : ℕ} {q₀ : Spot} (P : Collects n M₀ cap count₀ q₀ more whole) where
  abbrev here : List Binding
  here = row_c N w q ws i (binds M cap count)

  pub low_row : i < n
  low_row = let h = W.range.within in omega arith

  step : collect_c N w q more i (rows_at ws i e) (binds M cap count) ≡ collect_c N w more more (end_at ws i) (rows_at ws (end_at ws i) e) here
  unfolding collect_c
  step =
      ap (λ (f : Rows). collect_c N w q more i f (binds M cap count)) (rows_step ws n good i e W.range lt)
      ∙ ap (λ (m : ℕ). collect_c N w more more m (rows_at ws (end_at ws i) e) here) (rows_size ws n good (i + 1) (end_at ws i) (inner ws n good i low_row))

  pub here-room : length here < cap
  here-room = shorter here _ cap (collect_grows N w (rows_at ws (end_at ws i) e) more more (end_at ws i) here) (subst (λ (l : List Binding). length l < cap) (sym W.same ∙ step) P.room)

  pub walks_on : {x : ℕ} → x ≡ end_at ws i → {M₃ : List ℕ} {l₃ : ℕ} → Kept M₃ cap here l₃ → Filed N.pairs N.text (behind cap M₃) cap (binds M₃ cap l₃) → Walking N w ws n more whole from e cap M₃ x more l₃
  walks_on {x} y {M₃} {l₃} k₃ F₃ = record {
    same = ap (λ (m : ℕ). collect_c N w more more m (rows_at ws m e) (binds M₃ cap l₃)) y
        ∙ ap (collect_c N w more more (end_at ws i) (rows_at ws (end_at ws i) e)) k₃.list ∙ sym step ∙ W.same;
    range = subst (λ (m : ℕ). Range ws n m e) (sym y) (later ws n good i e W.range lt);
    start = let a = good.ahead i low_row in let s = W.start in omega arith;
    store = k₃.store;
    filed = F₃;
    low = P.more-low;
  }
