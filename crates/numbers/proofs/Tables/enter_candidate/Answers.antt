-- `numbers::Tables::enter_candidate` meets its contract. Assumes nothing.
use native.Mathlib.Omega.{arith}
use lib.ListN.{length-replicate}
use mathlib.Core.Path.{ap, ◌∙◌, sym}
use Prim.Native.Nat.{ℕ}
use mathlib.Core.List.{List}
use Rattle.candidates.proofs.Writing.{sound-at}
use Rattle.numbers.proofs.Entering.{at_front, front_long}
use Rattle.numbers.specs.Lent.{put}
use Rattle.numbers.proofs.Tables.enter_candidate.Goals as goal

pub put_candidate-end-requires : goal.put_candidate-end-requires
put_candidate-end-requires c =
    let t = c.args.self.now in
    record {
      text_value = (t.checked.sound.front, sound-at _ _ _ t.checked.sound c.args.b c.requires.b_nonzero.0 c.requires.b_nonzero.1);
      at_bound = omega arith;
    }

pub slice_bounds-enter-end : goal.slice_bounds-enter-end
slice_bounds-enter-end c = front_long c.put_candidate-end.ensures.0 (sym (length-replicate {A = ℕ} 288 0)) c.put_candidate-end.ensures.1

pub returns : goal.returns
returns c = record {
  value = (c.put_candidate-end.ensures.0.next ∙ (omega arith), c.put_candidate-end.ensures.1);
  put = c.enter.ensures ∙ ap (λ (x : List ℕ). put c.args.self.now x c.args.e) (at_front c.put_candidate-end.ensures.0 (sym (length-replicate {A = ℕ} 288 0)) c.put_candidate-end.ensures.1);
}
