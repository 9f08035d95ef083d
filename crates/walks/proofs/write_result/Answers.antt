-- `walks::write_result` meets its contract. Assumes nothing.
use Rattle.steps.specs.Outcome.{names_of}
use Rattle.forest.specs.Forest.{table}
use Rattle.acts.specs.View.{switches_of}
use Rattle.walks.proofs.Quiet.{quiet-steps, none_made}
use Rattle.walks.proofs.Readying.{given-range, bindings_few}
use Rattle.walks.proofs.write_result.Goals as goal

pub make_bindings-count-requires : goal.make_bindings-count-requires
make_bindings-count-requires c = record {
  ranged = given-range _ _ _ _ c.args.table.now.accepted;
  starts = record { store = c.requires.empty; cap_low = c.requires.low; rows_low = c.requires.fits; room = bindings_few _ _ _ _ _ _ c.args.table.now.accepted c.requires };
  filed = c.requires.unfiled;
}

pub unchanged-requires : goal.unchanged-requires
unchanged-requires c =
    let t = c.args.table.now in
    quiet-steps (names_of t.names.pairs.now t.names.text.now) (switches_of t.switches) (table t.rows.now) c.requires.on
    (c.keeps_arrows.ensures c.if-keeps_arrows.true) (none_made _ c.args.cap c.make_bindings-count.ensures.kept c.if-count-eq0.true)

pub invariant_of-bindings : goal.invariant_of-bindings
invariant_of-bindings c = record {
  store = c.make_bindings-count.ensures.kept.store;
  small = c.requires.low;
}

pub write_walked-requires : goal.write_walked-requires
write_walked-requires c = record {
  accepted = c.args.table.now.accepted;
  on = c.requires.on;
  kept = c.make_bindings-count.ensures.kept;
  filed = c.make_bindings-count.ensures.filed_2;
  fits = c.requires.fits;
}
