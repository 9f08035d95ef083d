-- `walks::keeps_arrows` meets its contract. Assumes nothing.
use Rattle.std.proofs.Common.{rules, tests, refl, sym, ◌∙◌}
use Rattle.std.proofs.lemmas.Iterator.{YieldsList-from_range}
use Rattle.std.proofs.lemmas.Iterator.Search.{all_from_yields_List}
use Rattle.acts.specs.View.{switches_of}
use native.Mathlib.Omega.{arith}
use Rattle.names.specs.Words.{words, rows_in}
use Rattle.walks.proofs.Quiet.{stays, all_kept}
use Rattle.walks.proofs.Readying.{given-rows}
use Rattle.walks.proofs.keeps_arrows.Goals as goal

pub returns : goal.returns
returns c =
    let t = c.args.table.now in
    let rows = t.rows.now in
    let n = rows_in rows in
    let range = YieldsList-from_range 0 n n refl (omega arith) in
    let all = all_from_yields_List (stays c.is_enabled-enabled.result (words rows)) _ _ _ c.all.ensures.ran range (λ x b q k. search (rules, tests)) in
    λ e. all_kept (switches_of t.switches) _ _ c.is_enabled-enabled.ensures (given-rows _ _ _ _ t.accepted) (sym all ∙ e)
