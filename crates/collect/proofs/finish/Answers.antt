-- `collect::finish` meets its contract. Assumes nothing.
use mathlib.Core.Path.{ap, ◌∙◌}
use mathlib.Core.Bool.{not}
use Rattle.passes.specs.View.{op_of}
use Rattle.acts.specs.View.{context_of}
use Rattle.collect.proofs.Finishing.{leave-asks, stays_open, close-asks, is-closed}
use Rattle.collect.proofs.finish.Goals as goal

pub leave-requires : goal.leave-requires
leave-requires c = leave-asks c.args.maker.now.made.now c.args.maker.now.cap c.args.maker.now.count (context_of c.args.context) (op_of c.args.op) c.args.closing c.args.frame c.requires

pub returns-else-closing : goal.returns-else-closing
returns-else-closing c =
    record {
      same_reference = c.leave.ensures.same_reference;
      cap_value = c.leave.ensures.cap_value;
      kept = stays_open c.args.maker.now.made.now c.args.maker.now.cap c.args.maker.now.count (context_of c.args.context)
          (op_of c.args.op) c.args.closing c.args.frame c.requires _ _ c.leave.ensures.kept (ap not c.if-closing.false);
      made_unchanged = c.leave.ensures.made_unchanged;
    }

pub close-requires : goal.close-requires
close-requires c =
    close-asks c.args.maker.now.made.now c.args.maker.now.cap c.args.maker.now.count (context_of c.args.context)
    (op_of c.args.op) c.args.closing c.args.frame c.requires _ _ c.leave.ensures.kept (ap not c.if-closing.true) c.leave.ensures.cap_value

pub returns-then-closing : goal.returns-then-closing
returns-then-closing c =
    record {
      same_reference = c.close.ensures.same_reference ∙ c.leave.ensures.same_reference;
      cap_value = c.close.ensures.cap_value ∙ c.leave.ensures.cap_value;
      kept = is-closed c.args.maker.now.made.now c.args.maker.now.cap c.args.maker.now.count (context_of c.args.context)
          (op_of c.args.op) c.args.closing c.args.frame c.requires _ _ c.leave.ensures.kept (ap not c.if-closing.true) c.leave.ensures.cap_value _ _ c.close.ensures.kept;
      made_unchanged = c.close.ensures.made_unchanged ∙ c.leave.ensures.made_unchanged;
    }
