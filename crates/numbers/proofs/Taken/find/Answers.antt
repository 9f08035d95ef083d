-- `numbers::Taken::find` meets its contract. Assumes nothing.
use native.Mathlib.Omega.{arith}
use Rattle.std.proofs.Common.{rules}
use Rattle.numbers.proofs.Looking.{in_bucket_each, first_found}
use Rattle.numbers.proofs.Taken.find.Goals as goal

pub first_in-requires-clause-falls : goal.first_in-requires-clause-falls
first_in-requires-clause-falls c =
    let S = c.args.self.now.stored in
    in_bucket_each S c.args.x.now c.bucket-h.result c.bucket-h.ensures.0 c.bucket-h.ensures.1 _ (λ e n l k. (omega (arith, S.befores_long, S.few), k))

pub first_in-requires-clause-callable : goal.first_in-requires-clause-callable
first_in-requires-clause-callable c =
    in_bucket_each c.args.self.now.stored c.args.x.now c.bucket-h.result c.bucket-h.ensures.0 c.bucket-h.ensures.1 _ (λ e n l k. search rules)

pub returns : goal.returns
returns c =
    first_found c.args.self.now.stored c.args.x.now c.bucket-h.result c.bucket-h.ensures.0 c.bucket-h.ensures.1 _ (λ e t n l a. search rules) c.first_in.result c.first_in.ensures
