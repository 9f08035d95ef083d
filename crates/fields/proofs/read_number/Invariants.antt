-- `fields::read_number` meets its contract. Assumes nothing.
use mathlib.Core.Path.{◌≡◌}
use lib.ListN.{drop}
use Rattle.fields.specs.Fields.{digits_of, number}
use Rattle.fields.proofs.read_number.Given as goal

abbrev pub invariant-loop-c : goal.invariant-loop-c
invariant-loop-c l = number l.s ≡ digits_of l.v (drop l.c-index l.s)
