-- `plan::any_act` meets its contract. Assumes nothing.
use Rattle.names.specs.Words.{words}
use Rattle.steps.specs.Outcome.{names_of}
use Rattle.steps.specs.Naming.{named_arguments}
use Rattle.below.specs.Below.{children}
use Rattle.passes.specs.View.{slot_number}
use Rattle.acts.specs.View.{switches_of, context_of}
use Rattle.plan.proofs.Frames.{placeable, handed}
use Rattle.plan.proofs.Taking.{takes_at}
use native.Mathlib.Omega.{arith}
use Rattle.plan.proofs.any_act.Goals as goal

pub hand_on-requires : goal.hand_on-requires
unfolding named_arguments
hand_on-requires c =
    let a = c.args in
    let ns = names_of a.names.now.pairs.now a.names.now.text.now in
    let ws = words a.node.rows.now in
    placeable ns (switches_of a.switches) a.late (context_of c.spot-spot.result.context) (slot_number c.spot-spot.result.slot) a.node.at a.row.kind a.row.attr a.row.name (children ws a.node.at)
    (c.decide.ensures ns (children ws a.node.at) c.look-below.ensures.asked c.named_arguments-arguments.ensures) (let r = c.args.node.known.row in let f = c.args.node.known.few in omega arith) c.spot-spot.ensures.frames_below

pub returns : goal.returns
unfolding named_arguments
returns c =
    let a = c.args in
    let w = switches_of a.switches in
    let ns = names_of a.names.now.pairs.now a.names.now.text.now in
    let ws = words a.node.rows.now in
    takes_at ns w a.late a.node.at a.row.kind a.row.attr a.row.name (children ws a.node.at) c.spot-spot.ensures.result_value
    (handed ns w a.late (context_of c.spot-spot.result.context) (slot_number c.spot-spot.result.slot) a.node.at a.row.kind a.row.attr a.row.name (children ws a.node.at)
    (c.decide.ensures ns (children ws a.node.at) c.look-below.ensures.asked c.named_arguments-arguments.ensures) c.hand_on.ensures)
