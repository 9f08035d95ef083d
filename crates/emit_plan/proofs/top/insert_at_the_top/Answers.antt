-- `emit_plan::top::insert_at_the_top` meets its contract. Assumes nothing.
use Prim.Native.Nat.{◌+◌, ◌<◌, ◌^◌}
use mathlib.Core.Path.{sym, subst, ◌∙◌}
use mathlib.Core.Bool.{Bool, cond}
use lib.Dec.{eqb}
use Rattle.grammar.specs.Codes.{kind_number}
use Rattle.grammar.specs.Kinds.{Program}
use Rattle.grammar.specs.declared.kind.Kind.TheVariants as kinds
use Rattle.grammar.proofs.Listed.{same_number}
use Rattle.forest.specs.Forest.{Rows.none, size}
use Rattle.steps.specs.Slots.{late_body}
use Rattle.steps.specs.TopInsertion.{var_first}
use Rattle.passes.specs.declared.slots.Slot.TheVariants.{LateBody}
use Rattle.passes.proofs.Numbers.{slot_same}
use Rattle.passes.specs.View.{slot_number}
use Rattle.insertion.specs.Declarations.{frame_decls}
use Rattle.output.proofs.Writing.{nothing}
use Rattle.emit_plan.proofs.top.insert_at_the_top.Goals as goal

pub insert_variable_statement_at_the_top_of_statements-requires : goal.insert_variable_statement_at_the_top_of_statements-requires
insert_variable_statement_at_the_top_of_statements-requires c =
    rw (c.eq-guarded.ensures ∙ same_number c.args.kind kinds.Program, c.eq-late.ensures ∙ slot_same c.args.slot LateBody)
    (subst (λ (y : Bool). c.args.w.now.at + size (cond y (var_first (frame_decls c.args.frame.bindings.made.now
    c.args.frame.bindings.cap c.args.frame.bindings.count c.args.frame.row (eqb (kind_number c.args.kind) Program) (eqb (slot_number c.args.slot) late_body)) none) none) < 2 ^ 32)
    (sym c.closes-closing.ensures ∙ c.if-closing.true) c.requires)

pub returns-then-closing-clause-rows : goal.returns-then-closing-clause-rows
returns-then-closing-clause-rows c = rw (sym c.closes-closing.ensures ∙ c.if-closing.true, ← (c.eq-guarded.ensures ∙ same_number c.args.kind kinds.Program), ← (c.eq-late.ensures ∙ slot_same c.args.slot LateBody))
    c.insert_variable_statement_at_the_top_of_statements.ensures.rows

pub returns-else-closing-clause-rows : goal.returns-else-closing-clause-rows
returns-else-closing-clause-rows c = rw (sym c.closes-closing.ensures ∙ c.if-closing.false) (nothing c.args.w.now.rows.now c.args.w.now.at)
