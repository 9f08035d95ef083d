-- `refusals::firsts::first_arguments` meets its contract. Assumes nothing.
use Rattle.std.proofs.Common.{◌≡◌, ℕ, true, false, arith, rules, ◌∙◌}
use Rattle.std.proofs.lemmas.Iterator.{first_from_Range}
use Rattle.names.specs.Words.{words, kind_at, name_at}
use Rattle.names.proofs.Seeking.{first_is}
use Rattle.refusals.specs.Refused.{binds_arguments}
use Rattle.refusals.proofs.Turning.{eight_rows}
use Rattle.refusals.proofs.firsts.first_arguments.Goals as goal

pub returns : goal.returns
returns c =
    let v = c.args.names.now in
    let ws = words c.args.table.now.rows.now in
    let binds = λ (i : ℕ). binds_arguments v.pairs.now v.text.now (kind_at ws i) (name_at ws i) in
    first_is binds c.args.table.now.count 0 c.args.table.now.count c.find.result (omega arith)
    (first_from_Range _ _ _ _ (λ i. binds i ≡ true) (λ i. binds i ≡ false) c.find.ensures.ran (λ x q h. grind arith) (λ x q h. (search rules, grind arith)))
    ∙ eight_rows _ _ _ _ c.args.table.now.known
