-- `plan::place::placed` meets its contract. Assumes nothing.
use Rattle.passes.specs.View.{slot_number}
use Rattle.passes.proofs.Numbers.{slot_tag, slot_low}
use Rattle.acts.specs.View.{context_of}
use Rattle.plan.proofs.Placing.{place-back}
use Rattle.plan.proofs.place.placed.Goals as goal

pub returns : goal.returns
returns c =
    let slot = c.args.spot.slot in
    rw (slot_tag slot) (place-back (context_of c.args.spot.context) (slot_number slot) c.bit-takes_this.result c.bit-takes_super.result c.bit-takes_arguments.result c.requires (slot_low slot) c.bit-takes_this.ensures.value
    c.bit-takes_super.ensures.value c.bit-takes_arguments.ensures.value)
