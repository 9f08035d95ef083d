-- `plan::late::function_leaves` meets its contract. Assumes nothing.
use mathlib.Core.Path.{ap, sym, subst, ◌∙◌}
use Prim.Native.Nat.{◌+◌}
use native.Mathlib.Omega.{arith}
use Rattle.names.specs.Words.{words, rows_in}
use Rattle.forest.specs.Nested.{Range}
use Rattle.forest.proofs.Walking.{inner}
use Rattle.steps.specs.Outcome.{names_of}
use Rattle.steps.specs.Slots.{free}
use Rattle.steps.specs.Acts.{Ctx}
use Rattle.steps.specs.Context.{spot}
use Rattle.passes.specs.declared.slots.Slot.TheVariants.{OfMethod}
use Rattle.passes.proofs.Numbers.{slot_same}
use Rattle.acts.specs.View.{switches_of}
use Rattle.plan.proofs.Frames.{params_below, body_below}
use Rattle.plan.proofs.Leaving.{leaves-from}
use Rattle.plan.proofs.late.function_leaves.Goals as goal

pub end_at-stop-requires : goal.end_at-stop-requires
end_at-stop-requires c = let b = c.args.node.known.bytes in let r = c.args.node.known.row in omega arith

pub placed-requires : goal.placed-requires
placed-requires c =
    params_below (switches_of c.args.switches) c.args.node.at c.args.attr _ c.in_params.ensures (let r = c.args.node.known.row in let f = c.args.node.known.few in omega arith) c.spot-spot.ensures.frames_below

pub placed-requires-2 : goal.placed-requires-2
placed-requires-2 c =
    body_below (switches_of c.args.switches) c.args.node.at c.args.attr _ c.in_body.ensures (let r = c.args.node.known.row in let f = c.args.node.known.few in omega arith) c.spot-spot.ensures.frames_below

pub overflow_add-i : goal.overflow_add-i
overflow_add-i c = let f = c.args.node.known.few in let r = c.args.node.known.row in omega arith

pub leaves-requires : goal.leaves-requires
leaves-requires c =
    let a = c.args in
    let r = c.args.node.known in
    let ws = words a.node.rows.now in
    record {
      bytes = r.bytes;
      few = r.few;
      nested = r.nested;
      range = subst (Range ws (rows_in a.node.rows.now) (a.node.at + 1)) (sym c.end_at-stop.ensures.0) (inner ws (rows_in a.node.rows.now) r.nested a.node.at r.row);
    }

pub returns : goal.returns
returns c =
    leaves-from (names_of c.args.names.now.pairs.now c.args.names.now.text.now) (switches_of c.args.switches) (words c.args.node.rows.now) c.args.node.at c.args.attr c.spot-spot.ensures.result_value (c.eq-method.ensures ∙ slot_same
    c.spot-spot.result.slot OfMethod) (c.placed.ensures ∙ ap (λ (x : Ctx). spot x free) c.in_params.ensures) (c.placed-2.ensures ∙ ap (λ (x : Ctx). spot x free) c.in_body.ensures) c.end_at-stop.ensures.0 c.leaves.ensures
