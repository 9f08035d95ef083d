-- `bindings::file` meets its contract. Assumes nothing.
use Rattle.bindings.proofs.Filing.{filed_parts}
use Rattle.bindings.proofs.file.Goals as goal

pub returns : goal.returns
returns c =
    let ten = c.split_at_mut-behind in
    let two = c.split_at_mut-lasts in
    filed_parts ten.result.0.now two.result.0.now two.result.1.now c.args.cap c.args.h c.args.b ten.ensures.front_len two.ensures.front_len c.requires.1.1.0
    ten.ensures.value two.ensures.value c.file.ensures.last c.file.ensures.before
