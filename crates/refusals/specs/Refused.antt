-- Refusals 6, 7 and 8 together, in the order in which they are tested. Assumes nothing.
use Rattle.std.specs.Prelude.{ℕ, Bool, ◌&&◌, ◌||◌, List, eqb, Result, Ok}
use Rattle.grammar.specs.Kinds.{Declarator, Function, Class}
use Rattle.names.specs.Answered.{unless_found}
use Rattle.names.specs.Names.{is_arguments}
use Rattle.forest.specs.Forest.{Rows}
use Rattle.steps.specs.Mode.{Switches}
use Rattle.steps.specs.Naming.{Names}
use Rattle.steps.specs.Refusals.{Rule, alone, six, seven, eight}
use Rattle.refusals.specs.declared.Refused.{Refused}
use Rattle.refusals.specs.declared.Refused.TheVariants.{SuperNotAllowed, FieldHolds, NamedArguments}

-- The request's number of each refusal (docs/FORMAT.md, "What the conversion turns away"),
abbrev pub number_of : Refused → ℕ
number_of (SuperNotAllowed row) = 6
number_of (FieldHolds row) = 7
number_of (NamedArguments row) = 8

-- and its place
abbrev pub place_for : Refused → ℕ
place_for (SuperNotAllowed row) = row
place_for (FieldHolds row) = row
place_for (NamedArguments row) = row

-- What 6, 7 and 8 answer: nothing, or the refusal that is given
abbrev pub Answer : Type 0
Answer = Result (Unit {0}) Refused

-- "Tested in the order .. 6, 7, 8, .. each over the whole table before the next."
unfoldable pub turned_away : Names → Switches → Rows → Answer
turned_away N w t = unless_found SuperNotAllowed (six w t) (unless_found FieldHolds (seven w t) (unless_found NamedArguments (eight N w t) (Ok tt)))

-- "a Declarator, Function or Class"
abbrev pub binds : ℕ → Bool
binds k = eqb k Declarator || eqb k Function || eqb k Class

-- .. "named `arguments`"
abbrev pub binds_arguments : (names text : List ℕ) (k name : ℕ) → Bool
binds_arguments names text k name = binds k && is_arguments names text name

unfoldable pub name_rule : (names text : List ℕ) → Rule (Unit {0})
name_rule names text = alone (λ k a n i. binds_arguments names text k n)
