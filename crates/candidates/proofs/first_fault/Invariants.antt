-- The loop of `candidates::first_fault`: what is tested of the bindings before number b. Assumes nothing.
use mathlib.Core.Path.{◌≡◌}
use lib.ListN.{length}
use Rattle.candidates.proofs.Writing.{Testing}
use Rattle.candidates.proofs.first_fault.Given as goal

abbrev pub invariant-loop-b : goal.invariant-loop-b
invariant-loop-b l = Testing l.script.bindings.now l.script.names.now l.script.text.now l.b × (272 ≡ length l.out)
