-- `converter::result::result` meets its contract. Assumes nothing.
use native.Mathlib.Omega.{arith}
use Rattle.steps.specs.Outcome.{names_of}
use Rattle.forest.specs.Forest.{table}
use Rattle.acts.specs.View.{switches_of}
use Rattle.walks.proofs.Readying.{flags, steps-off, given-rows}
use Rattle.converter.proofs.result.result.Goals as goal

pub unchanged-requires : goal.unchanged-requires
unchanged-requires c =
    let t = c.args.table.now in
    steps-off (names_of t.names.pairs.now t.names.text.now) (switches_of t.switches) (table t.rows.now)
    (flags _ _ _ _ c.is_enabled-enabled.ensures c.is_async_only-only.ensures c.if-not-enabled-only.true)

pub over-requires : goal.over-requires
over-requires c = (
  (flags _ _ _ _ c.is_enabled-enabled.ensures c.is_async_only-only.ensures c.if-not-enabled-only.false),
  (let g = (given-rows _ _ _ _ c.args.table.now.accepted).few in omega arith),
)
