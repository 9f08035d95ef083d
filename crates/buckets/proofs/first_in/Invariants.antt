-- `buckets::first_in` meets its contract. Assumes nothing.
use Rattle.buckets.specs.Along.{members}
use Rattle.buckets.proofs.Walking.{Walking}
use Rattle.buckets.proofs.first_in.Given as goal

abbrev pub invariant-loop-e : goal.invariant-loop-e
invariant-loop-e g l = Walking (λ e. goal.F-pre g l.is_it e) (λ e t. goal.F-post g l.is_it e t) l.befores (members l.lasts l.befores l.h) l.e l.found

abbrev pub decreases-loop-e : goal.decreases-loop-e
decreases-loop-e g l = l.e
