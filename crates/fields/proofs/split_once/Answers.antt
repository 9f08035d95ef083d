-- `fields::split_once` meets its contract. Assumes nothing.
use Rattle.std.proofs.Common.{rules, tests, ℕ, eqb}
use Rattle.std.proofs.lemmas.Iterator.{YieldsList-from_slice}
use Rattle.std.proofs.lemmas.Iterator.Search.{position_from_yields_List}
use Rattle.fields.proofs.Splitting.{parted, unparted}
use Rattle.fields.proofs.split_once.Goals as goal

pub returns-in_err-i : goal.returns-in_err-i
returns-in_err-i c =
    let e = position_from_yields_List (λ (x : ℕ). eqb x c.args.b) _ _ c.position.result c.position.ensures.ran (YieldsList-from_slice c.args.s.now cc) (λ x r q k. search (rules, tests)) in
    rw c.from_residual.ensures (unparted c.args.b c.args.s.now e c.in_err-i.was)

pub returns : goal.returns
returns c =
    let e = position_from_yields_List (λ (x : ℕ). eqb x c.args.b) _ _ c.position.result c.position.ensures.ran (YieldsList-from_slice c.args.s.now cc) (λ x r q k. search (rules, tests)) in
    parted c.args.b c.args.s.now e _ c.in_ok-i.was
