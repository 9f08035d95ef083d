-- `collect::collect` and `collect::collect_row` meet their contracts. Assumes nothing.
use mathlib.Core.Path.{refl, ap, sym, subst, ◌∙◌}
use native.Mathlib.Omega.{arith}
use Rattle.names.specs.Words.{words, rows_in, kind_at, attr_at, name_at}
use Rattle.forest.specs.Nested.{Range}
use Rattle.forest.proofs.Walking.{inner}
use Rattle.steps.specs.Outcome.{names_of}
use Rattle.steps.specs.Bindings.{closes}
use Rattle.steps.specs.Context.{Spot}
use Rattle.below.specs.Below.{children}
use Rattle.passes.proofs.Kinded.{closes_listed}
use Rattle.acts.specs.View.{switches_of}
use Rattle.plan.specs.Placing.{place_of}
use Rattle.plan.proofs.Acted.{acted_late}
use Rattle.plan.proofs.Leaving.{children_fewer, later_fewer}
use Rattle.collect.proofs.Meeting.{filed_now, filed_at}
use Rattle.collect.proofs.Siblings.{collects_at, walking_at, walked, filed_finished, low_row, here-room, walks_on, passed-leaf, passed-collects, passed-kept, row-meets-it, children-collect, row-finishes, row_kept}
use Prim.Native.Nat.{◌+◌, ◌-◌}
use Rattle.collect.proofs.+collect_rows.Goals as goal

pub collect-loop-i-init : goal.collect-loop-i-init
collect-loop-i-init t c = (record { same = refl; range = c.requires.ranged.range; start = omega arith; store = c.requires.collects.store; filed = c.requires.filed; low = c.requires.collects.one-low }, (refl, refl))

pub collect-end_at-stop-requires : goal.collect-end_at-stop-requires
collect-end_at-stop-requires t c = let b = c.requires.ranged.bytes in let r = c.loop-i.invariant.0.range.within in let l = c.loop-i-test.true in omega arith

pub collect-collect_row-requires : goal.collect-collect_row-requires
collect-collect_row-requires t c = (
  let m = c.decreases in let f = children_fewer (words c.args.rows.now)
      (rows_in c.args.rows.now) c.requires.ranged.nested c.loop-i.i c.args.end c.loop-i.invariant.0.range c.loop-i-test.true c.end_at-stop.result
      c.end_at-stop.ensures.0 c.args.from (c.args.end - c.args.from) c.loop-i.invariant.0.start refl in omega arith,
  (
    record {
      at = record {
        bytes = c.requires.ranged.bytes;
        few = c.requires.ranged.few;
        nested = c.requires.ranged.nested;
        row = low_row c.requires.ranged.nested c.loop-i.invariant.0 c.loop-i-test.true (collects_at (sym c.loop-i.invariant.1.0) c.requires.collects);
      };
      stops = c.end_at-stop.ensures.0;
      store = c.loop-i.invariant.0.store;
      cap_low = (collects_at (sym c.loop-i.invariant.1.0) c.requires.collects).cap_low;
      rows_low = (collects_at (sym c.loop-i.invariant.1.0) c.requires.collects).rows_low;
      low = c.loop-i.invariant.0.low;
      room = here-room c.requires.ranged.nested c.loop-i.invariant.0 c.loop-i-test.true (collects_at (sym c.loop-i.invariant.1.0) c.requires.collects);
    },
    c.loop-i.invariant.0.filed,
  ),
)

pub collect-loop-i-smaller : goal.collect-loop-i-smaller
collect-loop-i-smaller t c =
    later_fewer (words c.args.rows.now) (rows_in c.args.rows.now) c.requires.ranged.nested c.loop-i.i c.args.end c.loop-i.invariant.0.range c.loop-i-test.true
    c.end_at-stop.result c.end_at-stop.ensures.0

pub collect-loop-i-preserved : goal.collect-loop-i-preserved
collect-loop-i-preserved t c =
    let row = c.collect_row.ensures in
    let W = c.loop-i.invariant in (
      walking_at (sym row.cap_value)
          (walks_on c.requires.ranged.nested W.0 c.loop-i-test.true (collects_at (sym W.1.0) c.requires.collects) c.end_at-stop.ensures.0 row.kept (filed_at _ _ row.cap_value row.filed_2)),
      (row.cap_value ∙ W.1.0, row.same_reference ∙ W.1.1),
    )

pub collect-returns : goal.collect-returns
collect-returns t c =
    let W = walking_at c.loop-i.invariant.1.0 c.loop-i.invariant.0 in
    record {
      same_reference = c.loop-i.invariant.1.1;
      cap_value = c.loop-i.invariant.1.0;
      kept = walked W c.loop-i-test.false;
      filed_2 = c.loop-i.invariant.0.filed;
    }

pub collect_row-overflow_add-from : goal.collect_row-overflow_add-from
collect_row-overflow_add-from t c = let r = c.requires.row_collects.at.row in let f = c.requires.row_collects.at.few in omega arith

pub collect_row-kind_at-kind-requires : goal.collect_row-kind_at-kind-requires
collect_row-kind_at-kind-requires t c = let r = c.requires.row_collects.at.row in let b = c.requires.row_collects.at.bytes in omega arith

pub collect_row-attr_at-requires : goal.collect_row-attr_at-requires
collect_row-attr_at-requires t c = let r = c.requires.row_collects.at.row in let b = c.requires.row_collects.at.bytes in omega arith

pub collect_row-returns-then-stop-from : goal.collect_row-returns-then-stop-from
collect_row-returns-then-stop-from t c =
    record {
      same_reference = refl;
      cap_value = refl;
      kept = passed-leaf (names_of c.args.names.now.pairs.now c.args.names.now.text.now)
          (switches_of c.args.switches) c.requires.row_collects c.kind_at-kind.ensures.0 c.attr_at.ensures.0
          (c.stays.ensures c.if-stays.true) refl c.if-stop-from.true;
      filed_2 = c.requires.filed;
    }

pub collect_row-collect-requires : goal.collect_row-collect-requires
collect_row-collect-requires t c = (
  let m = c.decreases in omega arith,
  (
    record {
      bytes = c.requires.row_collects.at.bytes;
      few = c.requires.row_collects.at.few;
      nested = c.requires.row_collects.at.nested;
      range = subst (Range (words c.args.rows.now) (rows_in c.args.rows.now) (c.args.i + 1))
          (sym c.requires.row_collects.stops) (inner (words c.args.rows.now)
          (rows_in c.args.rows.now) c.requires.row_collects.at.nested c.args.i c.requires.row_collects.at.row);
    },
    (
      passed-collects
          (names_of c.args.names.now.pairs.now c.args.names.now.text.now) (switches_of c.args.switches) c.requires.row_collects c.kind_at-kind.ensures.0 c.attr_at.ensures.0
          (c.stays.ensures c.if-stays.true) c.inside-along.ensures,
      c.requires.filed,
    ),
  ),
)

pub collect_row-returns-then-stays : goal.collect_row-returns-then-stays
collect_row-returns-then-stays t c =
    record {
      same_reference = c.collect.ensures.same_reference;
      cap_value = c.collect.ensures.cap_value;
      kept = passed-kept (names_of c.args.names.now.pairs.now c.args.names.now.text.now)
          (switches_of c.args.switches) c.requires.row_collects c.kind_at-kind.ensures.0 c.attr_at.ensures.0
          (c.stays.ensures c.if-stays.true) c.inside-along.ensures c.collect.ensures.kept;
      filed_2 = c.collect.ensures.filed_2;
    }

pub collect_row-invariant_of-node : goal.collect_row-invariant_of-node
collect_row-invariant_of-node t c = record { known = c.requires.row_collects.at }

pub collect_row-meet-requires : goal.collect_row-meet-requires
collect_row-meet-requires t c =
    let d = acted_late (names_of c.args.names.now.pairs.now c.args.names.now.text.now) (switches_of c.args.switches) (place_of c.args.q) c.args.i (kind_at
    (words c.args.rows.now) c.args.i) (attr_at (words c.args.rows.now) c.args.i) (name_at (words c.args.rows.now) c.args.i) (children
    (words c.args.rows.now) c.args.i) c.is_late-late.ensures c.act_at-act.ensures.takes in
    record {
      meets = row-meets-it (names_of c.args.names.now.pairs.now c.args.names.now.text.now) (switches_of c.args.switches) c.requires.row_collects d c.act_at-act.ensures.small;
      filed = c.requires.filed;
    }

pub collect_row-collect-requires-2 : goal.collect_row-collect-requires-2
collect_row-collect-requires-2 t c =
    let d = acted_late (names_of c.args.names.now.pairs.now c.args.names.now.text.now) (switches_of c.args.switches) (place_of c.args.q) c.args.i (kind_at
    (words c.args.rows.now) c.args.i) (attr_at (words c.args.rows.now) c.args.i) (name_at (words c.args.rows.now) c.args.i) (children
    (words c.args.rows.now) c.args.i) c.is_late-late.ensures c.act_at-act.ensures.takes in (
      let m = c.decreases in omega arith,
      (
        record {
          bytes = c.requires.row_collects.at.bytes;
          few = c.requires.row_collects.at.few;
          nested = c.requires.row_collects.at.nested;
          range = subst (Range (words c.args.rows.now) (rows_in c.args.rows.now) (c.args.i + 1))
              (sym c.requires.row_collects.stops) (inner (words c.args.rows.now)
              (rows_in c.args.rows.now) c.requires.row_collects.at.nested c.args.i c.requires.row_collects.at.row);
        },
        (
          children-collect
              (names_of c.args.names.now.pairs.now c.args.names.now.text.now)
              (switches_of c.args.switches) c.requires.row_collects d c.act_at-act.ensures.small c.meet.ensures.kept c.requires.row_collects.stops c.meet.ensures.cap_value,
          c.meet.ensures.filed_2,
        ),
      ),
    )

pub collect_row-finish-requires : goal.collect_row-finish-requires
collect_row-finish-requires t c =
    let d = acted_late (names_of c.args.names.now.pairs.now c.args.names.now.text.now) (switches_of c.args.switches) (place_of c.args.q) c.args.i (kind_at
    (words c.args.rows.now) c.args.i) (attr_at (words c.args.rows.now) c.args.i) (name_at (words c.args.rows.now) c.args.i) (children
    (words c.args.rows.now) c.args.i) c.is_late-late.ensures c.act_at-act.ensures.takes in
    row-finishes (names_of c.args.names.now.pairs.now c.args.names.now.text.now)
    (switches_of c.args.switches) c.requires.row_collects d c.act_at-act.ensures.small c.meet.ensures.kept c.requires.row_collects.stops c.meet.ensures.cap_value
    c.collect-2.ensures.kept c.collect-2.ensures.cap_value c.kind_at-kind.ensures.0 (c.closes-closing.ensures ∙ ap (closes _) c.from.ensures ∙ closes_listed _ _) c.slot.ensures (ap (λ
    (s : Spot). s.ctx) c.spot-spot.ensures.result_value) c.this_at-frame.ensures.value

pub collect_row-returns : goal.collect_row-returns
collect_row-returns t c =
    let d = acted_late (names_of c.args.names.now.pairs.now c.args.names.now.text.now) (switches_of c.args.switches) (place_of c.args.q) c.args.i (kind_at
    (words c.args.rows.now) c.args.i) (attr_at (words c.args.rows.now) c.args.i) (name_at (words c.args.rows.now) c.args.i) (children
    (words c.args.rows.now) c.args.i) c.is_late-late.ensures c.act_at-act.ensures.takes in
    record {
      same_reference = c.finish.ensures.same_reference ∙ c.collect-2.ensures.same_reference ∙ c.meet.ensures.same_reference;
      cap_value = c.finish.ensures.cap_value ∙ c.collect-2.ensures.cap_value ∙ c.meet.ensures.cap_value;
      kept = row_kept (names_of c.args.names.now.pairs.now c.args.names.now.text.now)
          (switches_of c.args.switches) c.requires.row_collects d c.act_at-act.ensures.small c.meet.ensures.kept c.requires.row_collects.stops c.meet.ensures.cap_value
          c.collect-2.ensures.kept c.collect-2.ensures.cap_value c.kind_at-kind.ensures.0 (c.closes-closing.ensures ∙ ap (closes _) c.from.ensures ∙ closes_listed _ _) c.slot.ensures (ap (λ
          (s : Spot). s.ctx) c.spot-spot.ensures.result_value) c.this_at-frame.ensures.value c.finish.ensures.kept;
      filed_2 = filed_now (filed_finished _ _ _ _ _ c.finish.ensures.cap_value c.collect-2.ensures.filed_2 c.finish.ensures.made_unchanged) c.finish.ensures.kept c.finish.ensures.cap_value;
    }
