-- `plan::often::arrow_act` meets its contract. Assumes nothing.
use mathlib.Core.List.{[]}
use Rattle.forest.specs.Forest.{Rows.none}
use Rattle.steps.specs.Outcome.{names_of}
use Rattle.passes.specs.View.{slot_number}
use Rattle.acts.specs.View.{switches_of, context_of}
use Rattle.plan.proofs.Frames.{placeable, handed}
use Rattle.plan.proofs.Taking.{arrow-does, takes_at}
use Rattle.plan.proofs.often.arrow_act.Goals as goal

pub hand_on-requires : goal.hand_on-requires
hand_on-requires c =
    let a = c.args in
    let w = switches_of a.switches in
    placeable (names_of [] []) w a.late (context_of c.spot-spot.result.context) (slot_number c.spot-spot.result.slot) a.at a.row.kind a.row.attr a.row.name none
    (arrow-does (names_of [] []) w a.late (context_of c.spot-spot.result.context) (slot_number c.spot-spot.result.slot) a.at a.row.kind a.row.attr a.row.name none c.requires.0 (c.on_arrow.ensures
    (names_of [] []) a.late a.at none)) c.requires.1 c.spot-spot.ensures.frames_below

pub returns : goal.returns
returns c =
    let a = c.args in
    let w = switches_of a.switches in
    λ N i. takes_at N w a.late a.at a.row.kind a.row.attr a.row.name i c.spot-spot.ensures.result_value
    (handed N w a.late (context_of c.spot-spot.result.context) (slot_number c.spot-spot.result.slot) a.at a.row.kind a.row.attr a.row.name i
    (arrow-does N w a.late (context_of c.spot-spot.result.context) (slot_number c.spot-spot.result.slot) a.at a.row.kind a.row.attr a.row.name i c.requires.0 (c.on_arrow.ensures N a.late a.at i)) c.hand_on.ensures)
