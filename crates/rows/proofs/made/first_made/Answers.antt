-- `rows::made::first_made` meets its contract. Assumes nothing.
use Rattle.std.proofs.Common.{◌≡◌, ℕ, true, false, arith, rules}
use Rattle.std.proofs.lemmas.Iterator.{first_from_Range}
use Rattle.names.specs.Words.{words, kind_at, attr_at}
use Rattle.grammar.specs.Grammar.{made_row}
use Rattle.rows.specs.Refusals.{first_made}
use Rattle.names.proofs.Seeking.{first_is}
use Rattle.rows.proofs.made.first_made.Goals as goal

pub returns : goal.returns
unfolding first_made
returns c =
    let ws = words c.args.rows.now.bytes.now in
    let made = λ (i : ℕ). made_row (kind_at ws i) (attr_at ws i) in
    first_is made c.args.rows.now.count 0 c.args.rows.now.count c.find.result (omega arith)
    (first_from_Range _ _ _ _ (λ i. made i ≡ true) (λ i. made i ≡ false) c.find.ensures.ran (λ x q h. grind arith) (λ x q h. (search rules, grind arith)))
