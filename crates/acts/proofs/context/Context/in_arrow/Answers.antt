-- `acts::context::Context::in_arrow` meets its contract. Assumes nothing.
use Rattle.acts.specs.View.{switches_of, context_of}
use Rattle.acts.proofs.Entering.{arrow_inside}
use Rattle.acts.proofs.context.Context.in_arrow.Goals as goal

pub returns : goal.returns
returns c = arrow_inside (switches_of c.args.switches) c.args.attr (context_of c.args.self) c.is_async_only-only.result c.moves_arrow-moved.result c.is_async_only-only.ensures c.moves_arrow-moved.ensures
