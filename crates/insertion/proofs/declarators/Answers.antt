-- `insertion::declarators` meets its contract. Assumes nothing.
use native.Mathlib.Omega.{arith}
use Rattle.output.proofs.Writing.{then, named}
use Rattle.insertion.proofs.Tops.{held, parts_of, size_of}
use Rattle.insertion.proofs.declarators.Goals as goal

pub arguments_declarator-requires : goal.arguments_declarator-requires
arguments_declarator-requires c = let z = size_of (held c.args.frame) c.args.guarded c.args.late c.arguments_of-arguments.ensures c.this_of-this.ensures in omega arith

pub accessor_declarators-requires : goal.accessor_declarators-requires
accessor_declarators-requires c =
    let z = size_of (held c.args.frame) c.args.guarded c.args.late c.arguments_of-arguments.ensures c.this_of-this.ensures in omega arith

pub this_declarator-requires : goal.this_declarator-requires
this_declarator-requires c = let z = size_of (held c.args.frame) c.args.guarded c.args.late c.arguments_of-arguments.ensures c.this_of-this.ensures in omega arith

pub returns-clause-rows : goal.returns-clause-rows
returns-clause-rows c =
    named (parts_of (held c.args.frame) c.args.guarded c.args.late c.arguments_of-arguments.ensures c.this_of-this.ensures) (then c.arguments_declarator.ensures.rows (then c.accessor_declarators.ensures.rows c.this_declarator.ensures.rows))
