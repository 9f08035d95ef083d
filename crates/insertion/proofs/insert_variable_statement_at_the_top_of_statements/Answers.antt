-- `insertion::insert_variable_statement_at_the_top_of_statements` meets its contract. Assumes nothing.
use native.Mathlib.Omega.{arith}
use mathlib.Core.Path.{sym, ◌∙◌}
use Rattle.output.proofs.Writing.{nothing, named, size_as}
use Rattle.insertion.proofs.Tops.{held, bare-none, bare-some}
use Rattle.insertion.proofs.insert_variable_statement_at_the_top_of_statements.Goals as goal

pub variable_statement-requires : goal.variable_statement-requires
variable_statement-requires c = let z = size_as (bare-some (held c.args.frame) c.args.guarded c.args.late (sym c.is_bare.ensures ∙ c.if-not-is_bare.true)) in omega arith

pub returns-then-not-is_bare-clause-rows : goal.returns-then-not-is_bare-clause-rows
returns-then-not-is_bare-clause-rows c = named (bare-some (held c.args.frame) c.args.guarded c.args.late (sym c.is_bare.ensures ∙ c.if-not-is_bare.true)) c.variable_statement.ensures.rows

pub returns-else-not-is_bare-clause-rows : goal.returns-else-not-is_bare-clause-rows
returns-else-not-is_bare-clause-rows c = named (bare-none (held c.args.frame) c.args.guarded c.args.late (sym c.is_bare.ensures ∙ c.if-not-is_bare.false)) (nothing _ _)
