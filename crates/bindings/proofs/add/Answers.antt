-- `bindings::add` meets its contract. Assumes nothing.
use Prim.Native.Nat.{ℕ, ◌+◌, ◌<◌}
use mathlib.Core.Path.{ap, sym, subst, ◌∙◌}
use mathlib.Core.List.{List, [], ◌∷◌, ◌++◌}
use lib.ListN.{get_or}
use Rattle.uses.specs.Uses.{use_number}
use Rattle.steps.specs.Bindings.{Binding.bind}
use Rattle.bindings.specs.Store.{binds, last_table, pushed, chained}
use Rattle.bindings.specs.Post.{Kept}
use Rattle.bindings.specs.Filed.{behind}
use Rattle.bindings.proofs.Chains.{add_low, added}
use Rattle.bindings.proofs.Uses.{its_table}
use Rattle.bindings.proofs.Filing.{pushed-behind, chained-behind}
use Rattle.bindings.proofs.add.Goals as goal

pub chain-requires-clause-f_bound : goal.chain-requires-clause-f_bound
chain-requires-clause-f_bound c =
    let a = c.args in
    let R = c.requires.room in
    subst (λ (l : List ℕ). get_or l (last_table c.is_param-param.result a.cap a.f) 0 < a.cap) (sym c.push.ensures)
    (add_low a.made.now a.cap a.count (use_number a.usage) a.x a.f R.store R.more R.row_low c.is_param-param.result (its_table _ _ c.is_param-param.ensures c.requires.chained))

pub returns-clause-kept : goal.returns-clause-kept
returns-clause-kept c =
    let a = c.args in
    let R = c.requires.room in
    let put = c.chain.ensures ∙ ap (λ (l : List ℕ). chained l a.cap c.is_param-param.result a.f (a.count + 1)) c.push.ensures in
    subst (λ (l : List ℕ). Kept l a.cap (binds a.made.now a.cap a.count ++ (bind (use_number a.usage) a.x a.f ∷ [])) (a.count + 1))
    (sym put) (added a.made.now a.cap a.count (use_number a.usage) a.x a.f R.store R.more R.row_low c.is_param-param.result (its_table _ _ c.is_param-param.ensures c.requires.chained))

pub returns-clause-made_unchanged : goal.returns-clause-made_unchanged
returns-clause-made_unchanged c =
    let a = c.args in
    let R = c.requires.room in
    let put = c.chain.ensures ∙ ap (λ (l : List ℕ). chained l a.cap c.is_param-param.result a.f (a.count + 1)) c.push.ensures in
    let low = add_low a.made.now a.cap a.count (use_number a.usage) a.x a.f R.store R.more R.row_low c.is_param-param.result (its_table _ _ c.is_param-param.ensures c.requires.chained) in
    ap (behind a.cap) put
    ∙ chained-behind (pushed a.made.now a.cap (a.count + 1) (use_number a.usage) a.x a.f) a.cap c.is_param-param.result a.f (a.count + 1) R.row_low low
    ∙ pushed-behind a.made.now a.cap (a.count + 1) (use_number a.usage) a.x a.f R.more
