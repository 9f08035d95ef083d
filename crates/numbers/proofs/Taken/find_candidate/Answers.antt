-- `numbers::Taken::find_candidate` meets its contract. Assumes nothing.
use native.Mathlib.Omega.{arith}
use lib.ListN.{length-replicate}
use mathlib.Core.Path.{ap, ◌∙◌, sym}
use Prim.Native.Nat.{ℕ}
use mathlib.Core.List.{List}
use Rattle.buckets.specs.Search.{first_where}
use Rattle.candidates.proofs.Writing.{sound-at}
use Rattle.numbers.specs.Entries.{entries}
use Rattle.numbers.specs.Tables.{is_text}
use Rattle.numbers.proofs.Entering.{at_front, front_long}
use Rattle.numbers.proofs.Taken.find_candidate.Goals as goal

pub put_candidate-end-requires : goal.put_candidate-end-requires
put_candidate-end-requires c = record {
  text_value = (c.args.self.now.checked.sound.front, sound-at _ _ _ c.args.self.now.checked.sound c.args.b c.requires.0 c.requires.1);
  at_bound = omega arith;
}

pub slice_bounds-find-end : goal.slice_bounds-find-end
slice_bounds-find-end c = front_long c.put_candidate-end.ensures.0 (sym (length-replicate {A = ℕ} 288 0)) c.put_candidate-end.ensures.1

pub returns : goal.returns
returns c =
    let a = c.args in (
      c.find.ensures.0
          ∙ ap (λ (l : List ℕ). first_where (is_text l) 1 (entries a.self.now.checked.script.bindings.now a.self.now.checked.script.names.now a.self.now.checked.script.text.now a.self.now.numbers.now a.self.now.count))
          (at_front c.put_candidate-end.ensures.0 (sym (length-replicate {A = ℕ} 288 0)) c.put_candidate-end.ensures.1),
      c.find.ensures.1,
    )
