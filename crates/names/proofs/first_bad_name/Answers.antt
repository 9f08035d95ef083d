-- `names::first_bad_name` meets its contract. Assumes nothing.
use Rattle.std.proofs.Common.{◌≡◌, true, false, ◌/◌, ◌+◌, length, arith, rules}
use Rattle.std.proofs.lemmas.Iterator.{first_from_Range}
use Rattle.names.specs.Names.{bad_name, first_bad_name}
use Rattle.names.proofs.Seeking.{first_is}
use Rattle.names.proofs.first_bad_name.Goals as goal

pub returns : goal.returns
unfolding first_bad_name
returns c =
    let bad = bad_name c.args.names.now c.args.text.now in
    let count = length c.args.names.now / 8 in
    first_is bad count 1 (count + 1) c.find.result (omega arith)
    (first_from_Range _ _ _ _ (λ k. bad k ≡ true) (λ k. bad k ≡ false) c.find.ensures.ran (λ x q h. grind arith) (λ x q h. (search rules, grind arith)))
