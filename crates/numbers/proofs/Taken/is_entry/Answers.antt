-- `numbers::Taken::is_entry` meets its contract. Assumes nothing.
use native.Mathlib.Omega.{arith}
use lib.ListN.{length-replicate, get_or}
use mathlib.Core.Path.{ap, sym, ◌∙◌}
use Prim.Native.Nat.{ℕ, ◌-◌}
use mathlib.Core.List.{List}
use Rattle.names.specs.Names.{bytes_of, same_bytes}
use Rattle.base_text.specs.Refusals.{base_text}
use Rattle.candidates.specs.Candidates.{candidate}
use Rattle.candidates.proofs.Writing.{few-records, sound-at}
use Rattle.numbers.proofs.Entering.{entry_name, entry_made, at_front, front_long}
use Rattle.numbers.proofs.Taken.is_entry.Goals as goal

pub returns-then-e-named : goal.returns-then-e-named
returns-then-e-named c =
    let s = c.args.self.checked.script in
    c.is_spelled.ensures
    ∙ ap (λ (l : List ℕ). same_bytes (bytes_of l c.names.result.text.now c.args.e) c.args.x.now) c.names.ensures.0
    ∙ ap (λ (l : List ℕ). same_bytes (bytes_of s.names.now l c.args.e) c.args.x.now) c.names.ensures.1
    ∙ ap (λ (l : List ℕ). same_bytes l c.args.x.now) (sym (entry_name s.bindings.now s.names.now s.text.now c.args.self.numbers.now c.args.e (omega (arith, c.named-named.ensures, c.if-e-named.true))))

pub overflow_cast-b : goal.overflow_cast-b
overflow_cast-b c = let l = few-records _ _ _ c.args.self.checked.sound.front in omega (arith, c.named-named.ensures, c.requires.1)

pub put_candidate-end-requires : goal.put_candidate-end-requires
put_candidate-end-requires c = record {
  text_value = (c.args.self.checked.sound.front, sound-at _ _ _ c.args.self.checked.sound _ (omega (arith, c.named-named.ensures)) (omega (arith, c.named-named.ensures)));
  at_bound = omega arith;
}

pub slice_bounds-same_bytes-end : goal.slice_bounds-same_bytes-end
slice_bounds-same_bytes-end c = front_long c.put_candidate-end.ensures.0 (sym (length-replicate {A = ℕ} 288 0)) c.put_candidate-end.ensures.1

pub returns : goal.returns
returns c =
    let s = c.args.self.checked.script in
    let q = c.named-named.ensures in
    c.same_bytes.ensures
    ∙ ap (λ (l : List ℕ). same_bytes l c.args.x.now)
    (at_front c.put_candidate-end.ensures.0 (sym (length-replicate {A = ℕ} 288 0)) c.put_candidate-end.ensures.1
    ∙ ap (λ (m : ℕ). candidate (base_text (c.args.e - m) s.bindings.now s.names.now s.text.now) (get_or c.args.self.numbers.now c.args.e 0)) q
    ∙ sym (entry_made s.bindings.now s.names.now s.text.now c.args.self.numbers.now c.args.e (omega (arith, q, c.if-e-named.false))))
