-- The walkers of `emit::walkers` meet their contracts. Assumes nothing.
use mathlib.Core.Path.{ap, sym, subst, ◌∙◌}
use mathlib.Core.Bool.{Bool}
use native.Mathlib.Omega.{arith}
use Rattle.forest.specs.Forest.{Rows, Rows.none, Rows.node}
use Rattle.passes.specs.declared.Becomes.{Becomes}
use Rattle.passes.specs.declared.slots.Slot.TheVariants.{Wrapped}
use Rattle.passes.proofs.Numbers.{slot_same}
use Rattle.passes.specs.View.{slot_number, op_of}
use Rattle.plan.specs.Frames.{OpLow}
use Rattle.output.proofs.Writing.{then, beside, named, size-one, size_as}
use Rattle.output.proofs.Held.{put_around}
use Rattle.inserted.proofs.Shapes.{size-assignment}
use Rattle.emit_plan.specs.Idents.{this_row}
use Rattle.emit_plan.specs.Inside.{rows_of, assignment_if}
use Rattle.emit_plan.proofs.Written.{top_told, top-join, statement-rows, statement-size, assignment_if_size, sequence-rows, sequence-size, row-rows, row-size}
use Rattle.emit_plan.proofs.Written.{drop-rows, drop-size, name-size, captured-rows, call_rows, call-size, called_size_of, called-rows, called-size, leaf-next, as_called, expression-first, statement_test}
use Rattle.emit_plan.proofs.Unchanged.{planned, unchanged_rows, no_children}
use Rattle.emit.proofs.Dressing.{body-room, inner_room, dressed_written}
use Rattle.emit.proofs.Topped.{kept_rows, kept_size, topped_size}
use Rattle.emit.proofs.Lists.{row_room, row-fewer, turn_on, turned}
use Prim.Native.Nat.{ℕ, ◌<◌}
use Rattle.emit.proofs.walkers.+walk_rows.Goals as goal

pub around-returns-then-inner-clause-rows : goal.around-returns-then-inner-clause-rows
around-returns-then-inner-clause-rows t c =
    let v = c.args.inner.walk.now in
    rw (no_children v.rows.now v.names.pairs.now v.names.text.now v c.args.inner.siblings c.if-inner.true) c.leaf.ensures.row

pub around-returns-clause-rows : goal.around-returns-clause-rows
around-returns-clause-rows t c = put_around c.append.ensures.row c.list.ensures.rows c.close.ensures.end

pub expression-open_body-requires : goal.expression-open_body-requires
expression-open_body-requires t c =
    let v = c.args.walk.now in
    body-room v.rows.now v.names.pairs.now v.names.text.now v c.args.plan _ (c.eq-wraps.ensures ∙ slot_same c.args.plan.slot Wrapped) c.args.w.now.at c.requires.rows_bound

pub expression-undressed-requires : goal.expression-undressed-requires
expression-undressed-requires t c = let v = c.args.walk.now in (
  let m = c.decreases in omega arith,
  (
    c.requires.row_pre,
    (
      c.requires.first_value,
      inner_room v.rows.now v.names.pairs.now v.names.text.now v c.args.plan _ (c.eq-wraps.ensures ∙ slot_same c.args.plan.slot Wrapped) c.args.w.now.at c.requires.rows_bound
          c.open_body.ensures.next,
    ),
  ),
)

pub expression-close_body-requires : goal.expression-close_body-requires
expression-close_body-requires t c =
    let v = c.args.walk.now in
    let q = c.eq-wraps.ensures ∙ slot_same c.args.plan.slot Wrapped in
    let a = inner_room v.rows.now v.names.pairs.now v.names.text.now v c.args.plan _ q c.args.w.now.at c.requires.rows_bound c.open_body.ensures.next in
    λ h. (body-room v.rows.now v.names.pairs.now v.names.text.now v c.args.plan _ q c.args.w.now.at c.requires.rows_bound h, omega (arith, c.undressed.ensures.rows.next))

pub expression-returns-clause-rows : goal.expression-returns-clause-rows
expression-returns-clause-rows t c =
    let v = c.args.walk.now in
    let d = dressed_written v.rows.now v.names.pairs.now v.names.text.now v c.args.plan _ (c.eq-wraps.ensures ∙ slot_same c.args.plan.slot Wrapped) c.open_body.ensures.next
    c.open_body.ensures.rows c.undressed.ensures.rows c.close_body.ensures.rows in
    record { next = c.close_body.ensures.next ∙ d.next; wrote = d.wrote }

pub undressed-sequence-requires : goal.undressed-sequence-requires
undressed-sequence-requires t c = let v = c.args.walk.now in (
  let m = c.decreases in omega arith,
  (
    c.requires.row_pre.bound,
    let h0 = sequence-size v.rows.now v.names.pairs.now v.names.text.now v c.args.plan c.requires.row_pre.formed (sym c.in_sequence.ensures ∙ c.if-in_sequence.true)
        c.requires.first_value in let h1 = c.requires.rows_bound in omega arith,
  ),
)

pub undressed-returns-then-in_sequence-clause-rows : goal.undressed-returns-then-in_sequence-clause-rows
undressed-returns-then-in_sequence-clause-rows t c =
    let v = c.args.walk.now in
    named (sequence-rows v.rows.now v.names.pairs.now v.names.text.now v c.args.plan c.requires.row_pre.formed (sym c.in_sequence.ensures ∙ c.if-in_sequence.true)
    c.requires.first_value) c.sequence.ensures.rows

pub undressed-overflow_cast-head : goal.undressed-overflow_cast-head
unfolding op_of
undressed-overflow_cast-head t c = let h = (subst (λ (o : Becomes). OpLow c.args.walk.now.bindings.cap (op_of o)) c.in-Row.is c.requires.row_pre.low).0 in omega arith

pub undressed-overflow_cast-head-in-Row : goal.undressed-overflow_cast-head-in-Row
unfolding op_of
undressed-overflow_cast-head-in-Row t c = let h = (subst (λ (o : Becomes). OpLow c.args.walk.now.bindings.cap (op_of o)) c.in-Row.is c.requires.row_pre.low).1.0 in omega arith

pub undressed-overflow_cast-head-in-Row-2 : goal.undressed-overflow_cast-head-in-Row-2
unfolding op_of
undressed-overflow_cast-head-in-Row-2 t c = let h = (subst (λ (o : Becomes). OpLow c.args.walk.now.bindings.cap (op_of o)) c.in-Row.is c.requires.row_pre.low).1.1 in omega arith

pub undressed-kept-requires : goal.undressed-kept-requires
unfolding op_of
undressed-kept-requires t c = let v = c.args.walk.now in (
  let m = c.decreases in omega arith,
  let h0 = row-size v.rows.now v.names.pairs.now v.names.text.now v c.args.plan c.requires.row_pre.formed (sym c.in_sequence.ensures ∙ c.if-in_sequence.false)
      c.requires.first_value _ _ _ (ap op_of c.in-Row.is) in let h1 = c.requires.rows_bound in omega arith,
)

pub undressed-list-requires : goal.undressed-list-requires
unfolding op_of
undressed-list-requires t c = let v = c.args.walk.now in (
  let m = c.decreases in omega arith,
  let h0 = drop-size v.rows.now v.names.pairs.now v.names.text.now v c.args.plan c.requires.row_pre.formed (sym c.in_sequence.ensures ∙ c.if-in_sequence.false)
      c.requires.first_value (ap op_of c.in-Drop.is) in let h1 = c.requires.rows_bound in omega arith,
)

pub undressed-captured_identifier-requires : goal.undressed-captured_identifier-requires
unfolding op_of
undressed-captured_identifier-requires t c =
    let v = c.args.walk.now in
    let h0 = name-size v.rows.now v.names.pairs.now v.names.text.now v c.args.plan c.requires.row_pre.formed
    (sym c.in_sequence.ensures ∙ c.if-in_sequence.false) c.requires.first_value _ _ (ap op_of c.in-Name.is) in
    let h1 = c.requires.rows_bound in
    let h2 = (subst (λ (o : Becomes). OpLow v.bindings.cap (op_of o)) c.in-Name.is c.requires.row_pre.low).1.1 in omega arith

pub undressed-transform_call_expression_for_super-requires : goal.undressed-transform_call_expression_for_super-requires
unfolding op_of
undressed-transform_call_expression_for_super-requires t c = let v = c.args.walk.now in (
  let m = c.decreases in omega arith,
  (
    (
      c.requires.row_pre.here.this,
      (subst (λ (o : Becomes). OpLow v.bindings.cap
          (op_of o)) c.in-Call.is c.requires.row_pre.low).1.0,
    ),
    let h0 = called-size v.rows.now v.names.pairs.now v.names.text.now v c.args.plan c.requires.row_pre.formed (sym c.in_sequence.ensures ∙ c.if-in_sequence.false)
        c.requires.first_value _ _ _ (as_called (ap op_of c.in-Call.is) c.if-called.true) v.bindings.store c.requires.row_pre.here.this in let
        h1 = c.requires.rows_bound in omega arith,
  ),
)

pub undressed-returns-then-called-clause-rows : goal.undressed-returns-then-called-clause-rows
unfolding op_of
undressed-returns-then-called-clause-rows t c =
    let v = c.args.walk.now in
    named (called-rows v.rows.now v.names.pairs.now v.names.text.now v c.args.plan c.requires.row_pre.formed (sym c.in_sequence.ensures ∙ c.if-in_sequence.false)
    c.requires.first_value _ _ _ (as_called (ap op_of c.in-Call.is) c.if-called.true) v.bindings.store c.requires.row_pre.here.this)
    c.transform_call_expression_for_super.ensures.rows

pub undressed-transform_member_expression_for_super-requires : goal.undressed-transform_member_expression_for_super-requires
unfolding op_of
undressed-transform_member_expression_for_super-requires t c = let v = c.args.walk.now in (
  let m = c.decreases in omega arith,
  (
    (subst (λ (o : Becomes). OpLow v.bindings.cap
        (op_of o)) c.in-Call.is c.requires.row_pre.low).1.0,
    let h0 = call-size v.rows.now v.names.pairs.now v.names.text.now v c.args.plan c.requires.row_pre.formed (sym c.in_sequence.ensures ∙ c.if-in_sequence.false)
        c.requires.first_value _ _ _ (as_called (ap op_of c.in-Call.is) c.if-called.false) in let h1 = c.requires.rows_bound in omega arith,
  ),
)

pub undressed-returns-in-Row-clause-rows : goal.undressed-returns-in-Row-clause-rows
unfolding op_of
undressed-returns-in-Row-clause-rows t c =
    let v = c.args.walk.now in
    named (row-rows v.rows.now v.names.pairs.now v.names.text.now v c.args.plan c.requires.row_pre.formed (sym c.in_sequence.ensures ∙ c.if-in_sequence.false)
    c.requires.first_value _ _ _ (ap op_of c.in-Row.is)) c.kept.ensures.rows

pub undressed-returns-in-Drop-clause-rows : goal.undressed-returns-in-Drop-clause-rows
unfolding op_of
undressed-returns-in-Drop-clause-rows t c =
    let v = c.args.walk.now in
    named (drop-rows v.rows.now v.names.pairs.now v.names.text.now v c.args.plan c.requires.row_pre.formed (sym c.in_sequence.ensures ∙ c.if-in_sequence.false)
    c.requires.first_value (ap op_of c.in-Drop.is)) c.list.ensures.rows

pub undressed-returns-in-Name-clause-rows : goal.undressed-returns-in-Name-clause-rows
unfolding op_of
undressed-returns-in-Name-clause-rows t c =
    let v = c.args.walk.now in
    let low = subst (λ (o : Becomes). OpLow v.bindings.cap (op_of o)) c.in-Name.is c.requires.row_pre.low in
    named (captured-rows v.rows.now v.names.pairs.now v.names.text.now v c.args.plan c.requires.row_pre.formed (sym c.in_sequence.ensures ∙ c.if-in_sequence.false)
    c.requires.first_value _ _ (ap op_of c.in-Name.is) v.bindings.store low.0 low.1.0 low.1.1) c.captured_identifier.ensures.rows

pub undressed-returns-else-called-clause-rows : goal.undressed-returns-else-called-clause-rows
unfolding op_of
undressed-returns-else-called-clause-rows t c =
    let v = c.args.walk.now in
    named (call_rows v.rows.now v.names.pairs.now v.names.text.now v c.args.plan c.requires.row_pre.formed (sym c.in_sequence.ensures ∙ c.if-in_sequence.false)
    c.requires.first_value _ _ _ (as_called (ap op_of c.in-Call.is) c.if-called.false)) c.transform_member_expression_for_super.ensures.rows

pub function-invariant_of-frame : goal.function-invariant_of-frame
function-invariant_of-frame t c =
    let v = c.args.inner.walk.now in record { low = subst (λ (f : ℕ). f < v.bindings.cap) (sym c.this_at.ensures.value) c.args.inner.known.later.this }

pub function-insert_at_the_top-requires : goal.function-insert_at_the_top-requires
function-insert_at_the_top-requires t c =
    let h0 = topped_size c.args.inner (slot_number c.args.slot) c.args.kind _ _ c.from.ensures c.this_at.ensures.value in
    let h1 = c.requires in let h2 = c.append.ensures.next in omega arith

pub function-list-requires : goal.function-list-requires
function-list-requires t c = (
  let m = c.decreases in omega arith,
  let h0 = topped_size c.args.inner (slot_number c.args.slot) c.args.kind _ _ c.from.ensures c.this_at.ensures.value in
      let h1 = c.requires in let h2 = c.append.ensures.next in let h3 = c.insert_at_the_top.ensures.rows.next in omega arith,
)

pub function-close-requires : goal.function-close-requires
function-close-requires t c =
    let h0 = topped_size c.args.inner (slot_number c.args.slot) c.args.kind _ _ c.from.ensures c.this_at.ensures.value in
    let h1 = c.requires in
    let h2 = c.append.ensures.next in
    let h3 = c.insert_at_the_top.ensures.rows.next in let h4 = c.list.ensures.rows.next in (omega arith, omega arith)

pub function-returns-clause-rows : goal.function-returns-clause-rows
function-returns-clause-rows t c =
    let n = c.args.inner in
    let v = n.walk.now in
    named (ap (λ (t : Rows). node c.args.head.kind c.args.head.attr c.args.head.name t none)
    (top-join v.rows.now v.names.pairs.now v.names.text.now v (slot_number c.args.slot) c.args.kind n.siblings v.bindings.store n.known.later.this))
    (put_around c.append.ensures.row (then (named (sym (top_told v.bindings (slot_number c.args.slot) c.args.kind _ _ _ c.from.ensures
    c.this_at.ensures.value)) c.insert_at_the_top.ensures.rows) c.list.ensures.rows) c.close.ensures.end)

pub kept-class-requires : goal.kept-class-requires
kept-class-requires t c = (
  let m = c.decreases in omega arith,
  let h0 = kept_size c.args.inner (slot_number c.args.slot) c.args.kind (sym c.is_function.ensures ∙ c.if-is_function.false) in
      let h1 = c.requires in omega arith,
)

pub kept-returns-then-is_class-clause-rows : goal.kept-returns-then-is_class-clause-rows
kept-returns-then-is_class-clause-rows t c =
    named (kept_rows c.args.inner (slot_number c.args.slot) c.args.kind c.args.head (sym c.is_function.ensures ∙ c.if-is_function.false)) c.class.ensures.rows

pub kept-around-requires : goal.kept-around-requires
kept-around-requires t c = (
  let m = c.decreases in omega arith,
  let h0 = kept_size c.args.inner (slot_number c.args.slot) c.args.kind (sym c.is_function.ensures ∙ c.if-is_function.false) in
      let h1 = c.requires in omega arith,
)

pub kept-returns-clause-rows : goal.kept-returns-clause-rows
kept-returns-clause-rows t c =
    named (kept_rows c.args.inner (slot_number c.args.slot) c.args.kind c.args.head (sym c.is_function.ensures ∙ c.if-is_function.false)) c.around.ensures.rows

pub list-around-requires : goal.list-around-requires
list-around-requires t c =
    let v = c.args.inner.walk.now in
    let s = c.args.inner.siblings in
    let k = c.args.inner.known in
    let stays = c.stays_at.ensures c.if-stays_at.true in
    let p = planned v.rows.now v.names.pairs.now v.names.text.now v s.bind c.loop-i.state c.loop-i.q c.loop-i.i
    c.head_at-head.result c.along.result stays c.head_at-head.ensures c.along.ensures in (
      row-fewer c.loop-i.invariant.0 k.range.nested c.loop-i-test.true p 1 _ (omega arith) c.decreases,
      let r = row_room c.loop-i.invariant.0 k.range.nested c.loop-i-test.true p c.requires in let z = size_as
          (unchanged_rows v.rows.now v.names.pairs.now v.names.text.now v s.bind c.loop-i.state c.loop-i.q c.loop-i.i
          c.head_at-head.result c.along.result stays c.head_at-head.ensures c.along.ensures) in omega arith,
    )

pub list-statement-requires : goal.list-statement-requires
list-statement-requires t c =
    let v = c.args.inner.walk.now in
    let k = c.args.inner.known in
    let p = c.plan_at-plan.ensures.planned in
    let pre = c.plan_at-plan.ensures.row_pre in
    let test = statement_test c.plan_at-plan.result.head.kind _ (c.eq.ensures ∙ slot_same c.plan_at-plan.result.slot Wrapped)
    c.is_statement-statement_kind.result c.is_statement-statement_kind.ensures c.if-statement_kind-eq.true in (
      row-fewer c.loop-i.invariant.0 k.range.nested c.loop-i-test.true p 2 _ (omega arith) c.decreases,
      (
        pre.bound,
        let r = row_room c.loop-i.invariant.0 k.range.nested c.loop-i-test.true p c.requires in let z = statement-size
            v.rows.now v.names.pairs.now v.names.text.now v c.plan_at-plan.result pre.formed test.0 test.1 in omega arith,
      ),
    )

pub list-expression-requires : goal.list-expression-requires
list-expression-requires t c =
    let v = c.args.inner.walk.now in
    let k = c.args.inner.known in
    let p = c.plan_at-plan.ensures.planned in
    let pre = c.plan_at-plan.ensures.row_pre in (
      row-fewer c.loop-i.invariant.0 k.range.nested c.loop-i-test.true p 5 _ (omega arith) c.decreases,
      (
        pre,
        (
          expression-first v.rows.now v.names.pairs.now v.names.text.now v c.plan_at-plan.result pre.formed (c.eq.ensures ∙ slot_same
              c.plan_at-plan.result.slot Wrapped) c.is_statement-statement_kind.result c.is_statement-statement_kind.ensures c.if-statement_kind-eq.false,
          row_room c.loop-i.invariant.0 k.range.nested c.loop-i-test.true p c.requires,
        ),
      ),
    )

pub list-loop-i-preserved-then-stays_at : goal.list-loop-i-preserved-then-stays_at
list-loop-i-preserved-then-stays_at t c =
    let v = c.args.inner.walk.now in
    let s = c.args.inner.siblings in
    let k = c.args.inner.known in
    let stays = c.stays_at.ensures c.if-stays_at.true in
    let p = planned v.rows.now v.names.pairs.now v.names.text.now v s.bind c.loop-i.state c.loop-i.q c.loop-i.i
    c.head_at-head.result c.along.result stays c.head_at-head.ensures c.along.ensures in (
      turn_on c.loop-i.invariant.0 k.range.nested c.loop-i-test.true p k.later (named
          (unchanged_rows v.rows.now v.names.pairs.now v.names.text.now v s.bind c.loop-i.state c.loop-i.q c.loop-i.i
          c.head_at-head.result c.along.result stays c.head_at-head.ensures c.along.ensures) c.around.ensures.rows),
      c.around.ensures.same_reference ∙ c.loop-i.invariant.1,
    )

pub list-loop-i-preserved-then-statement_kind-eq : goal.list-loop-i-preserved-then-statement_kind-eq
list-loop-i-preserved-then-statement_kind-eq t c =
    let v = c.args.inner.walk.now in
    let k = c.args.inner.known in
    let test = statement_test c.plan_at-plan.result.head.kind _ (c.eq.ensures ∙ slot_same c.plan_at-plan.result.slot Wrapped)
    c.is_statement-statement_kind.result c.is_statement-statement_kind.ensures c.if-statement_kind-eq.true in (
      turn_on c.loop-i.invariant.0 k.range.nested c.loop-i-test.true c.plan_at-plan.ensures.planned k.later (named
          (statement-rows v.rows.now v.names.pairs.now v.names.text.now v c.plan_at-plan.result c.plan_at-plan.ensures.row_pre.formed test.0 test.1) c.statement.ensures.rows),
      c.statement.ensures.same_reference ∙ c.loop-i.invariant.1,
    )

pub list-loop-i-preserved : goal.list-loop-i-preserved
list-loop-i-preserved t c =
    let k = c.args.inner.known in (
      turn_on c.loop-i.invariant.0 k.range.nested c.loop-i-test.true c.plan_at-plan.ensures.planned k.later c.expression.ensures.rows,
      c.expression.ensures.same_reference ∙ c.loop-i.invariant.1,
    )

pub list-returns-clause-rows : goal.list-returns-clause-rows
list-returns-clause-rows t c = turned c.loop-i.invariant.0 c.args.inner.known.range.nested c.loop-i-test.false

pub sequence-assignment-requires : goal.sequence-assignment-requires
sequence-assignment-requires t c =
    let h0 = c.requires.rows_bound in
    let h1 = c.append.ensures.next in
    let h2 = c.around.ensures.rows.next in
    let h3 = size-one c.args.head.kind c.args.head.attr c.args.head.name (rows_of c.args.inner) in
    omega arith

pub sequence-close-requires : goal.sequence-close-requires
sequence-close-requires t c =
    let h0 = c.requires.rows_bound in
    let h1 = c.append.ensures.next in
    let h2 = c.around.ensures.rows.next in
    let h3 = size-one c.args.head.kind c.args.head.attr c.args.head.name (rows_of c.args.inner) in
    let h4 = c.assignment.ensures.rows.next in
    let h5 = size-assignment c.args.b in (omega arith, omega arith)

pub sequence-returns-clause-rows : goal.sequence-returns-clause-rows
sequence-returns-clause-rows t c = put_around c.append.ensures.row (beside c.around.ensures.rows c.assignment.ensures.rows) c.close.ensures.end

pub statement-append-requires : goal.statement-append-requires
statement-append-requires t c =
    let h0 = assignment_if_size c.args.b (sym c.is_behind.ensures ∙ c.if-not-is_behind.false) in
    let h1 = c.requires.rows_bound in
    let h2 = c.around.ensures.rows.next in
    let h3 = size-one c.args.head.kind c.args.head.attr c.args.head.name (rows_of c.args.inner) in
    omega arith

pub statement-assignment-requires : goal.statement-assignment-requires
statement-assignment-requires t c =
    let h0 = assignment_if_size c.args.b (sym c.is_behind.ensures ∙ c.if-not-is_behind.false) in
    let h1 = c.requires.rows_bound in
    let h2 = c.around.ensures.rows.next in
    let h3 = size-one c.args.head.kind c.args.head.attr c.args.head.name (rows_of c.args.inner) in
    let h4 = c.append.ensures.next in omega arith

pub statement-close-requires : goal.statement-close-requires
statement-close-requires t c =
    let h0 = assignment_if_size c.args.b (sym c.is_behind.ensures ∙ c.if-not-is_behind.false) in
    let h1 = c.requires.rows_bound in
    let h2 = c.around.ensures.rows.next in
    let h3 = size-one c.args.head.kind c.args.head.attr c.args.head.name (rows_of c.args.inner) in
    let h4 = c.append.ensures.next in
    let h5 = c.assignment.ensures.rows.next in
    let h6 = size-assignment c.args.b in (omega arith, omega arith)

pub statement-returns-clause-rows : goal.statement-returns-clause-rows
statement-returns-clause-rows t c =
    named (ap (λ (y : Bool). node c.args.head.kind c.args.head.attr c.args.head.name (rows_of c.args.inner) (assignment_if y c.args.b))
    (sym c.is_behind.ensures ∙ c.if-not-is_behind.false)) (beside c.around.ensures.rows (put_around c.append.ensures.row c.assignment.ensures.rows c.close.ensures.end))

pub transform_call_expression_for_super-close-requires : goal.transform_call_expression_for_super-close-requires
transform_call_expression_for_super-close-requires t c =
    let h0 = c.requires.rows_bound in
    let h1 = c.append.ensures.next in
    let h2 = c.transform_member_expression_for_super.ensures.rows.next in
    let h3 = called_size_of c.args.inner c.args.usage c.args.frame c.args.property in
    (omega arith, omega arith)

pub transform_call_expression_for_super-get_this_identifier-requires : goal.transform_call_expression_for_super-get_this_identifier-requires
transform_call_expression_for_super-get_this_identifier-requires t c =
    let h0 = c.requires.rows_bound in
    let h1 = c.append.ensures.next in
    let h2 = c.transform_member_expression_for_super.ensures.rows.next in
    let h3 = called_size_of c.args.inner c.args.usage c.args.frame c.args.property in
    let h4 = c.close.ensures.next in
    let h5 = subst (λ (f : ℕ). f < c.args.inner.walk.now.bindings.cap) (sym c.this_at.ensures.value) c.requires.frames_low.0 in
    omega arith

pub transform_call_expression_for_super-returns-clause-rows : goal.transform_call_expression_for_super-returns-clause-rows
transform_call_expression_for_super-returns-clause-rows t c =
    let v = c.args.inner.walk.now in
    beside (put_around c.append.ensures.row c.transform_member_expression_for_super.ensures.rows c.close.ensures.end) (named (ap (this_row v.bindings.made.now v.bindings.cap _)
    (sym c.this_at.ensures.value) ∙ ap (λ (b : Bool). this_row v.bindings.made.now v.bindings.cap b c.this_at.result) (sym c.takes_this.ensures)) c.get_this_identifier.ensures.rows)

pub transform_member_expression_for_super-list-requires : goal.transform_member_expression_for_super-list-requires
transform_member_expression_for_super-list-requires t c = (
  let m = c.decreases in omega arith,
  let h0 = c.requires.rows_bound in let h1 = c.append.ensures.next in let h2 = leaf-next c.accessor_identifier.ensures.rows in omega arith,
)

pub transform_member_expression_for_super-close-requires : goal.transform_member_expression_for_super-close-requires
transform_member_expression_for_super-close-requires t c =
    let h0 = c.requires.rows_bound in
    let h1 = c.append.ensures.next in
    let h2 = leaf-next c.accessor_identifier.ensures.rows in
    let h3 = c.list.ensures.rows.next in (omega arith, omega arith)

pub transform_member_expression_for_super-returns-clause-rows : goal.transform_member_expression_for_super-returns-clause-rows
transform_member_expression_for_super-returns-clause-rows t c = put_around c.append.ensures.row (beside c.accessor_identifier.ensures.rows c.list.ensures.rows) c.close.ensures.end
