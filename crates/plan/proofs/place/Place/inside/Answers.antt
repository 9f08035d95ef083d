-- `plan::place::Place::inside` meets its contract. Assumes nothing.
use Rattle.plan.proofs.Placing.{inside_back}
use Rattle.plan.proofs.place.Place.inside.Goals as goal

pub returns : goal.returns
returns c = inside_back c.args.self
