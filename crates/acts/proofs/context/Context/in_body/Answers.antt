-- `acts::context::Context::in_body` meets its contract. Assumes nothing.
use Rattle.acts.specs.View.{switches_of, context_of}
use Rattle.acts.proofs.Entering.{method-body, other-body}
use Rattle.acts.proofs.context.Context.in_body.Goals as goal

pub returns-then-method : goal.returns-then-method
returns-then-method c = method-body (switches_of c.args.switches) c.args.row c.args.attr (context_of c.args.self) c.args.method c.moves_function-moved.result c.if-method.true c.moves_function-moved.ensures

pub returns : goal.returns
returns c = other-body (switches_of c.args.switches) c.args.row c.args.attr (context_of c.args.self) c.args.method c.if-method.false
