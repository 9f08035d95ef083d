-- `candidates::Checked::names` meets its contract. Assumes nothing.
use Rattle.base_text.proofs.Checking.{fronted, good_names}
use Rattle.candidates.proofs.Checked.names.Goals as goal

pub invariant_of-result : goal.invariant_of-result
invariant_of-result c =
    let s = c.args.self.script in
    record { given = λ k some high. good_names s.names.now s.text.now (fronted s.bindings.now s.names.now s.text.now c.args.self.sound.front).named k some high }
