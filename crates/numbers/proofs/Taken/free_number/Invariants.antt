-- `numbers::Taken::free_number` meets its contract. Assumes nothing.
use Prim.Native.Nat.{◌+◌, ◌-◌}
use Rattle.base_text.specs.Refusals.{base_text}
use Rattle.numbers.specs.Entries.{entries}
use Rattle.numbers.specs.Tables.{Seeking}
use Rattle.numbers.proofs.Taken.free_number.Given as goal

abbrev pub invariant-loop-n : goal.invariant-loop-n
invariant-loop-n l = Seeking (entries l.self.checked.script.bindings.now l.self.checked.script.names.now l.self.checked.script.text.now l.self.numbers.now l.self.count)
    (base_text l.b l.self.checked.script.bindings.now l.self.checked.script.names.now l.self.checked.script.text.now) l.n

abbrev pub decreases-loop-n : goal.decreases-loop-n
decreases-loop-n l = l.self.count + 2 - l.n
