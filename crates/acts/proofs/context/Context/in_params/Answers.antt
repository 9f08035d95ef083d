-- `acts::context::Context::in_params` meets its contract. Assumes nothing.
use Rattle.acts.specs.View.{switches_of, context_of}
use Rattle.acts.proofs.Entering.{method-params, other-params}
use Rattle.acts.proofs.context.Context.in_params.Goals as goal

pub returns-then-method : goal.returns-then-method
returns-then-method c = method-params (switches_of c.args.switches) c.args.row c.args.attr (context_of c.args.self) c.args.method c.moves_function.result c.if-method.true c.moves_function.ensures

pub returns : goal.returns
returns c = other-params (switches_of c.args.switches) c.args.row c.args.attr (context_of c.args.self) c.args.method c.if-method.false
