-- `collect::make_bindings` meets its contract. Assumes nothing.
use mathlib.Core.Path.{subst}
use mathlib.Core.List.{List}
use Prim.Native.Nat.{ℕ}
use borrow.Author.Rules.{rules}
use Rattle.forest.specs.Forest.{table}
use Rattle.steps.specs.Outcome.{names_of}
use Rattle.steps.specs.Context.{made_c}
use Rattle.bindings.specs.Post.{Kept}
use Rattle.bindings.specs.Filed.{Filed, behind}
use Rattle.acts.specs.View.{switches_of}
use Rattle.collect.proofs.Meeting.{filed_then}
use Rattle.collect.proofs.Starting.{no_binds, program_collects, program_kept}
use Rattle.collect.proofs.make_bindings.Goals as goal

pub collect-requires : goal.collect-requires
collect-requires c = record {
  ranged = c.requires.ranged;
  collects = program_collects (names_of c.args.names.now.pairs.now c.args.names.now.text.now) (switches_of c.args.switches) c.args.rows.now c.requires.starts c.program-start.ensures;
  filed = no_binds _ c.requires.filed;
}

pub returns : goal.returns
returns c =
    let whole = made_c (names_of c.args.names.now.pairs.now c.args.names.now.text.now) (switches_of c.args.switches) (table c.args.rows.now) in
    let kept = program_kept (names_of c.args.names.now.pairs.now c.args.names.now.text.now) (switches_of c.args.switches) c.args.rows.now c.requires.starts c.program-start.ensures c.collect.ensures.kept in
    let filed = filed_then c.collect.ensures.filed_2 kept c.collect.ensures.cap_value in
    record {
      kept = subst (λ (l : List ℕ). Kept l c.args.cap whole c.collect.new.maker.count) (search rules) kept;
      filed_2 = subst (λ (l : List ℕ). Filed c.args.names.now.pairs.now c.args.names.now.text.now (behind c.args.cap l) c.args.cap whole) (search rules) filed;
    }
