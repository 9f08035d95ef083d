-- `plan::often::function_act` meets its contract. Assumes nothing.
use mathlib.Core.List.{[]}
use Rattle.forest.specs.Forest.{Rows.none}
use Rattle.steps.specs.Outcome.{names_of}
use Rattle.passes.specs.View.{slot_number}
use Rattle.acts.specs.View.{switches_of, context_of}
use Rattle.plan.proofs.Frames.{placeable, handed}
use Rattle.plan.proofs.Taking.{function-does, takes_at}
use Rattle.plan.proofs.often.function_act.Goals as goal

pub hand_on-requires : goal.hand_on-requires
hand_on-requires c =
    let a = c.args in
    let w = switches_of a.switches in
    placeable (names_of [] []) w a.late (context_of c.spot-spot.result.context) (slot_number c.spot-spot.result.slot) a.at a.row.kind a.row.attr a.row.name none
    (function-does (names_of [] []) w a.late (context_of c.spot-spot.result.context) (slot_number c.spot-spot.result.slot) a.at a.row.kind a.row.attr a.row.name none c.requires.0 (c.on_function.ensures
    (names_of [] []) none)) c.requires.1 c.spot-spot.ensures.frames_below

pub returns : goal.returns
returns c =
    λ N i. takes_at N (switches_of c.args.switches) c.args.late c.args.at c.args.row.kind c.args.row.attr c.args.row.name i c.spot-spot.ensures.result_value
    (handed N (switches_of c.args.switches) c.args.late (context_of c.spot-spot.result.context) (slot_number c.spot-spot.result.slot) c.args.at c.args.row.kind c.args.row.attr c.args.row.name i
    (function-does N (switches_of c.args.switches) c.args.late (context_of c.spot-spot.result.context) (slot_number c.spot-spot.result.slot) c.args.at c.args.row.kind c.args.row.attr c.args.row.name i
    c.requires.0 (c.on_function.ensures N i)) c.hand_on.ensures)
