-- What a plan's row becomes, case by case, as the walkers write it. Assumes nothing.
use mathlib.Core.Path.{◌≡◌, refl, ap, sym, ◌∙◌}
use mathlib.Core.Bool.{Bool, true, false, cond, not, ◌&&◌, true≢false}
use mathlib.Core.List.{List}
use mathlib.Core.Logic.{◌⊎◌, inl, inr}
use Prim.Native.Nat.{ℕ, ◌+◌, ◌<◌, ◌≤◌}
use native.Mathlib.Omega.{arith}
use lib.Dec.{eqb}
use borrow.Author.Tests.{eqb-true, eqb-false, not-false, not-true}
use Rattle.grammar.specs.Codes.{listed}
use Rattle.grammar.proofs.Listed.{test_listed}
use Rattle.grammar.specs.Kinds.{Program, ExprStmt, This, Ident, Member, Call, Sequence}
use Rattle.forest.specs.Forest.{Rows, Rows.none, Rows.node, size}
use Rattle.steps.specs.Naming.{Names}
use Rattle.steps.specs.Outcome.{names_of}
use Rattle.steps.specs.Joining.{join}
use Rattle.steps.specs.Slots.{wrapped, late_body}
use Rattle.steps.specs.ArrowToFunction.{dress}
use Rattle.steps.specs.Acts.{Op, Op.row, Op.drop, Op.name, Op.call}
use Rattle.steps.specs.AfterSuper.{assignment}
use Rattle.steps.specs.Bindings.{number, closes}
use Rattle.steps.specs.TopInsertion.{var_first}
use Rattle.steps.specs.Walk.{build}
use Rattle.steps.specs.Fused.{top_s, build_s, declared}
use Rattle.bindings.specs.Store.{Store, capture_at}
use Rattle.bindings.specs.declared.view.Bindings.{Bindings}
use Rattle.bindings.proofs.Captures.{table_is}
use Rattle.bindings.proofs.Numbered.{number_capture, this_number}
use Rattle.insertion.specs.Declarations.{frame_decls}
use Rattle.insertion.proofs.Tops.{frame-decls}
use Rattle.passes.proofs.Kinded.{closes_listed}
use Rattle.passes.specs.View.{slot_number, op_of, in_sequence, is_behind}
use Rattle.output.specs.Output.{Done}
use Rattle.output.proofs.Writing.{size-one, size-leaf, size_node}
use Rattle.inserted.proofs.Shapes.{size-assignment}
use Rattle.plan.specs.Placing.{place_of}
use Rattle.uses.specs.declared.Access.{Access}
use Rattle.emit_plan.specs.declared.Inner.{Inner}
use Rattle.emit_plan.specs.Inside.{rows_of, called_with, assignment_if}
use Rattle.emit_plan.specs.declared.Walk.{Walk}
use Rattle.emit_plan.specs.declared.Siblings.{Siblings}
use Rattle.emit_plan.specs.declared.Plan.{Plan}
use Rattle.emit_plan.specs.Walkers.{is_statement, is_function, is_row}
use Rattle.emit_plan.specs.Idents.{this_row}
use Rattle.emit_plan.specs.Top.{top_rows}
use Rattle.emit_plan.specs.Plans.{list_of, inside, topped, built, dressed, Formed}
use Rattle.emit_plan.proofs.Formed.{function_open}
use Rattle.steps.proofs.Sizes.{size-join}

pub join-none : (f : Rows) → join f none ≡ f
unfolding join
join-none none = refl
join-none (node k a n i s) = ap (node k a n i) (join-none s)

first-join : (d t : Rows) → var_first d t ≡ join (var_first d none) t
unfolding var_first join
first-join none t = refl
first-join (node k a n i s) t = refl

one_or_two : (u : ℕ) → 0 < u → u ≤ 2 → (u ≡ 1) ⊎ (u ≡ 2)
one_or_two u h k = go (eqb u 1) refl
  where
    go : (y : Bool) → eqb u 1 ≡ y → (u ≡ 1) ⊎ (u ≡ 2)
    go true e = inl (eqb-true u 1 e)
    go false e = let n = eqb-false u 1 e in inr (omega arith)

this_size : (M : List ℕ) (cap : ℕ) (y : Bool) (f : ℕ) → size (this_row M cap y f) ≡ 1
unfolding this_row size
this_size M cap true f = refl
this_size M cap false f = refl

nothing-first : (t : Rows) → join none t ≡ t
unfolding join
nothing-first t = refl

-- what stands inside of a row of kind k in that slot
module _ (rows names text : List ℕ) (v : Walk) (sl k : ℕ) (n : Siblings) where
  abbrev N : Names
  N = names_of names text

  abbrev inn : Rows
  inn = inside rows names text v n

  -- a row that closes no frame
  open_topped : closes sl k ≡ false → topped rows names text v sl k n ≡ inn
  unfolding top_s
  open_topped h = rw h refl

  pub kept_inside : is_function k ≡ false → topped rows names text v sl k n ≡ inn
  kept_inside h = open_topped (function_open k sl h)

  -- the Var goes first
  pub top-join : Store v.bindings.made.now v.bindings.cap v.bindings.count → (place_of n.more).ctx.this_at < v.bindings.cap → topped rows names text v sl k n ≡ join (top_rows v.bindings sl k (place_of n.more).ctx.this_at) inn
  unfolding top_s
  top-join S h = go (closes sl k)
    where
      go : (y : Bool) → cond y (var_first (declared N (list_of v) (place_of n.more).ctx.this_at (eqb k Program) (eqb sl late_body)) inn) inn
          ≡ join (cond y (var_first (frame_decls v.bindings.made.now v.bindings.cap v.bindings.count (place_of n.more).ctx.this_at (eqb k Program) (eqb sl late_body)) none) none) inn
      go true = ap (λ (d : Rows). var_first d inn) (frame-decls N v.bindings.made.now v.bindings.cap v.bindings.count (place_of n.more).ctx.this_at (eqb k Program) (eqb sl late_body) S h) ∙ first-join _ inn
      go false = sym (nothing-first inn)

  pub top-size : Store v.bindings.made.now v.bindings.cap v.bindings.count → (place_of n.more).ctx.this_at < v.bindings.cap → size (topped rows names text v sl k n) ≡ size (top_rows v.bindings sl k (place_of n.more).ctx.this_at) + size inn
  top-size S h = ap size (top-join S h) ∙ size-join _ inn

-- the Var by the kind of the row, whose word may be none of the list
pub top_told : (b : Bindings) (sl k r k' r' : ℕ) → k' ≡ listed k → r' ≡ r → top_rows b sl k' r' ≡ top_rows b sl k r
top_told b sl k r k' r' p q = rw (p, q, closes_listed sl k, test_listed k Program refl)

module _ (rows names text : List ℕ) (v : Walk) (p : Plan) where
  abbrev NN : Names
  NN = names_of names text

  abbrev I : Rows
  I = inside rows names text v p.inner

  abbrev T : Rows
  T = topped rows names text v (slot_number p.slot) p.head.kind p.inner

  closed-not : closes (slot_number p.slot) p.head.kind ≡ false → T ≡ I
  closed-not h = open_topped rows names text v (slot_number p.slot) p.head.kind p.inner h

  module _ (F : Formed p) where
    abbrev row_of : Rows → Rows → Rows
    row_of i s = node p.head.kind p.head.attr p.head.name i s

    -- a statement
    pub statement-rows : is_statement p.head.kind ≡ true → eqb (slot_number p.slot) wrapped ≡ false → dressed rows names text v p ≡ row_of I (assignment_if (is_behind p.assigned) p.bind)
    unfolding dress build_s build
    statement-rows h w =
        let f = F.statement h in
        rw (w, f.1.0, f.0) (ap (λ (t : Rows). row_of t (assignment_if (is_behind p.assigned) p.bind)) (closed-not f.1.1))

    pub statement-size : is_statement p.head.kind ≡ true → eqb (slot_number p.slot) wrapped ≡ false → size (dressed rows names text v p) ≡ 1 + size I + size (assignment_if (is_behind p.assigned) p.bind)
    statement-size h w = ap size (statement-rows h w) ∙ size_node p.head.kind p.head.attr p.head.name I (assignment_if (is_behind p.assigned) p.bind)

    -- a called Super
    pub sequence-rows : in_sequence p.assigned ≡ true → is_behind p.assigned ≡ false → built rows names text v p none ≡ node Sequence 0 0 (row_of I (assignment p.bind)) none
    unfolding build_s build
    sequence-rows h g =
        let f = F.met h in
        rw (h, f.0) (ap (λ (t : Rows). node Sequence 0 0 (row_of t (assignment p.bind)) none) (closed-not f.1))

    module _ (m : in_sequence p.assigned ≡ false) (g : is_behind p.assigned ≡ false) where
      pub row-rows : (k a n : ℕ) → op_of p.op ≡ row k a n → built rows names text v p none ≡ node k a n T none
      unfolding build_s build
      row-rows k a n h = rw (m, g, h) refl

      rowless-topped : (x : Op) → op_of p.op ≡ x → is_row x ≡ false → T ≡ I
      rowless-topped x h e = closed-not (F.rowless (ap is_row h ∙ e))

      pub drop-rows : op_of p.op ≡ drop → built rows names text v p none ≡ I
      unfolding build_s build is_row
      drop-rows h = rw (m, g, h) (join-none T ∙ rowless-topped drop h refl)

      pub name-rows : (u f : ℕ) → op_of p.op ≡ name u f → built rows names text v p none ≡ node Ident 1 (number NN (list_of v) u f 0) none none
      unfolding build_s build
      name-rows u f h = rw (m, g, h) refl

      pub call_rows : (u f x : ℕ) → op_of p.op ≡ call u f x false → built rows names text v p none ≡ node Call 0 0 (node Ident 1 (number NN (list_of v) u f x) none I) none
      unfolding build_s build is_row
      call_rows u f x h = rw (m, g, h) (ap (λ (t : Rows). node Call 0 0 (node Ident 1 (number NN (list_of v) u f x) none t) none) (rowless-topped (call u f x false) h refl))

      -- a captured `this` or `arguments`
      pub captured-rows : (u f : ℕ) → op_of p.op ≡ name u f → Store v.bindings.made.now v.bindings.cap v.bindings.count → 0 < u → u ≤ 2 → f < v.bindings.cap
          → built rows names text v p none ≡ node Ident 1 (capture_at v.bindings.made.now v.bindings.cap u f) none none
      captured-rows u f h S some few low =
          name-rows u f h
          ∙ ap (λ (b : ℕ). node Ident 1 b none none) (number_capture NN u f few (list_of v) S.bare ∙ sym (table_is v.bindings.made.now v.bindings.cap v.bindings.count u f S low (one_or_two u some few)))

      -- `get().call(this, ..)`
      pub called-rows : (u f x : ℕ) → op_of p.op ≡ call u f x true → Store v.bindings.made.now v.bindings.cap v.bindings.count → (place_of p.spot).ctx.this_at < v.bindings.cap
          → built rows names text v p none ≡ node Member 1 0 (node Call 0 0 (node Ident 1 (number NN (list_of v) u f x) none I) none) (this_row v.bindings.made.now v.bindings.cap (place_of p.spot).ctx.takes_this (place_of p.spot).ctx.this_at)
      unfolding build_s build is_row this_row
      called-rows u f x h S low =
          rw (m, g, h)
          (ap (λ (t : Rows). node Member 1 0 (node Call 0 0 (node Ident 1 (number NN (list_of v) u f x) none t) none) (cond (place_of p.spot).ctx.takes_this (node Ident 1 (number NN (list_of v) 1
          (place_of p.spot).ctx.this_at 0) none none) (node This 0 0 none none))) (rowless-topped (call u f x true) h refl)
          ∙ ap (λ (b : ℕ). node Member 1 0 (node Call 0 0 (node Ident 1 (number NN (list_of v) u f x) none I) none) (cond (place_of p.spot).ctx.takes_this (node Ident 1 b none none) (node This 0 0 none none))) (sym
          (this_number NN v.bindings.made.now v.bindings.cap v.bindings.count S (place_of p.spot).ctx.this_at low)))

      pub row-size : (k a n : ℕ) → op_of p.op ≡ row k a n → size (built rows names text v p none) ≡ 1 + size T
      row-size k a n h = ap size (row-rows k a n h) ∙ size-one k a n T

      pub drop-size : op_of p.op ≡ drop → size (built rows names text v p none) ≡ size I
      drop-size h = ap size (drop-rows h)

      pub name-size : (u f : ℕ) → op_of p.op ≡ name u f → size (built rows names text v p none) ≡ 1
      unfolding size
      name-size u f h = ap size (name-rows u f h)

      pub call-size : (u f x : ℕ) → op_of p.op ≡ call u f x false → size (built rows names text v p none) ≡ 2 + size I
      unfolding size
      call-size u f x h = let z = ap size (call_rows u f x h) in omega arith

      pub called-size : (u f x : ℕ) → op_of p.op ≡ call u f x true → Store v.bindings.made.now v.bindings.cap v.bindings.count → (place_of p.spot).ctx.this_at < v.bindings.cap → size (built rows names text v p none) ≡ 4 + size I
      unfolding size
      called-size u f x h S low =
          let z = ap size (called-rows u f x h S low) in
          omega (arith, this_size v.bindings.made.now v.bindings.cap (place_of p.spot).ctx.takes_this (place_of p.spot).ctx.this_at)

    pub sequence-size : in_sequence p.assigned ≡ true → is_behind p.assigned ≡ false → size (built rows names text v p none) ≡ 6 + size I
    unfolding size
    sequence-size h g = let z = ap size (sequence-rows h g) in omega (arith, size-assignment p.bind)

    -- which walker a row of a list goes to
    pub expression-first : {b : Bool} → b ≡ eqb (slot_number p.slot) wrapped → (r : Bool) → r ≡ is_statement p.head.kind → (r && not b) ≡ false → is_behind p.assigned ≡ false
    expression-first {b} t true e h = F.dressing (sym t ∙ not-false b h)
    expression-first t false e h = F.other (sym e)

-- a statement that is no wrapped body
pub statement_test : (k s : ℕ) {b : Bool} → b ≡ eqb s wrapped → (r : Bool) → r ≡ is_statement k → (r && not b) ≡ true → (is_statement k ≡ true) × (eqb s wrapped ≡ false)
statement_test k s {b} t true e h = (sym e, sym t ∙ not-true b h)
statement_test k s t false e h = absurd (true≢false (sym h))

-- the row after one with nothing inside
pub leaf-next : {o o' : List ℕ} {at k a n r : ℕ} → Done o at (node k a n none none) r o' → r ≡ at + 1
leaf-next {o} {o'} {at} {k} {a} {n} {r} d = omega (arith, size-leaf k a n, d.next)

-- what stands inside in the Call of an accessor
pub called_size_of : (n : Inner) (u : Access) (f x : ℕ) → size (called_with n u f x) ≡ 2 + size (rows_of n)
unfolding size
called_size_of n u f x = omega arith

-- the assignment as a statement
pub assignment_if_size : (b : ℕ) {first : Bool} → first ≡ true → size (assignment_if first b) ≡ 5
assignment_if_size b e = let z = ap (λ (y : Bool). size (assignment_if y b)) e in omega (arith, size-one ExprStmt 0 0 (assignment b), size-assignment b)

pub as_called : {o : Op} {u f x : ℕ} {t s : Bool} → o ≡ call u f x t → t ≡ s → o ≡ call u f x s
as_called {o} {u} {f} {x} {t} {s} h e = h ∙ ap (call u f x) e
