-- The loop of `made_names::write::write_names`: the names of the first k bindings are written. Assumes nothing.
use Rattle.made_names.proofs.Laying.{Writing}
use Rattle.made_names.proofs.write.write_names.Given as goal

abbrev pub invariant-loop-k : goal.invariant-loop-k
invariant-loop-k l = Writing l.checked.script.bindings.now l.checked.script.names.now l.checked.script.text.now l.tables.numbers.now l.initial.out_pairs l.out_pairs l.initial.out_text l.out_text l.at l.k
