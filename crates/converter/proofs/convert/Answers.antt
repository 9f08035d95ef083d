-- `converter::convert` meets its contract. Assumes nothing.
use mathlib.Core.Path.{sym}
use Rattle.acts.specs.View.{switches_of}
use Rattle.refusals.proofs.Giving.{given}
use Rattle.refusals.proofs.Turning.{accepted}
use Rattle.answer.proofs.Answering.{unsound_as, turned_as}
use Rattle.answer.proofs.Callers.{checked_as, accepted_either, answers_either}
use Rattle.answer.proofs.Owning.{promised}
use Rattle.converter.proofs.convert.Goals as goal

pub returns-in_err-check : goal.returns-in_err-check
returns-in_err-check c =
    let q = checked_as c.args.tablet _ _ _ _ _ _ c.limits_for-limits.ensures.0 c.limits_for-limits.ensures.1 c.in_err-check.ensures in
    promised _ _ _ _ _ _ _ _ _ _ _ _ _ (unsound_as _ _ _ _ _ _ _ _ _ q c.from_residual.result c.from_residual.ensures.1)

pub refusal-requires : goal.refusal-requires
refusal-requires c = (given _ _ _ _ _ (sym c.in_ok-check.ensures)).0

pub invariant_of-names : goal.invariant_of-names
invariant_of-names c = record { given = (given _ _ _ _ _ (sym c.in_ok-check.ensures)).1 }

pub returns-in_err-refusal : goal.returns-in_err-refusal
returns-in_err-refusal c =
    let q = checked_as c.args.tablet _ _ _ _ _ _ c.limits_for-limits.ensures.0 c.limits_for-limits.ensures.1 c.in_ok-check.ensures in
    promised _ _ _ _ _ _ _ _ _ _ _ _ _
    (turned_as _ _ _ _ _ _ _ _ (sym q) _ (c.in_err-refusal.ensures (switches_of c.args.switches) c.converter.ensures.mode) c.from_residual-in_err-refusal.result c.from_residual-in_err-refusal.ensures.1)

pub invariant_of-table : goal.invariant_of-table
invariant_of-table c =
    let q = checked_as c.args.tablet _ _ _ _ _ _ c.limits_for-limits.ensures.0 c.limits_for-limits.ensures.1 c.in_ok-check.ensures in
    record { accepted = accepted_either c.args.tablet _ _ _ _ (accepted _ _ _ _ _ _ (sym q) (sym (c.in_ok-refusal.ensures (switches_of c.args.switches) c.converter.ensures.mode))) }

pub returns : goal.returns
returns c =
    let q = checked_as c.args.tablet _ _ _ _ _ _ c.limits_for-limits.ensures.0 c.limits_for-limits.ensures.1 c.in_ok-check.ensures in
    promised _ _ _ _ _ _ _ _ _ _ _ _ _ (answers_either c.args.tablet _ _ _ _ (sym q) _ _ _ _ _ _ _ _ c.result.ensures)
