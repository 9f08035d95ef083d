-- `bindings::add_one` meets its contract. Assumes nothing.
use Rattle.uses.specs.Uses.{use_number}
use Rattle.bindings.proofs.Closing.{one-room, one_kept, one_none}
use Rattle.bindings.proofs.add_one.Goals as goal

pub add-requires-clause-room : goal.add-requires-clause-room
add-requires-clause-room c = one-room c.args.made.now c.args.cap c.args.count c.args.wanted (use_number c.args.usage) c.args.f c.requires.asked c.if-wanted.true

pub returns-then-wanted-clause-kept : goal.returns-then-wanted-clause-kept
returns-then-wanted-clause-kept c = one_kept c.args.made.now c.args.cap c.args.count c.args.wanted (use_number c.args.usage) c.args.f c.requires.asked _ _ c.if-wanted.true c.add.ensures.kept

pub returns-clause-kept : goal.returns-clause-kept
returns-clause-kept c = one_none c.args.made.now c.args.cap c.args.count c.args.wanted (use_number c.args.usage) c.args.f c.requires.asked c.if-wanted.false
