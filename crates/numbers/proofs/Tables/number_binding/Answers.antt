-- `numbers::Tables::number_binding` meets its contract. Assumes nothing.
use native.Mathlib.Omega.{arith}
use mathlib.Core.Path.{refl, ap, ◌∙◌}
use lib.ListN.{length, length-set}
use Rattle.candidates.specs.Candidates.{candidate}
use Rattle.numbers.specs.declared.Tables.{Tables}
use Rattle.numbers.specs.Lent.{base}
use Rattle.numbers.proofs.Stepping.{numbering_next, named-next}
use Rattle.numbers.proofs.Looking.{few-entries}
use Rattle.numbers.proofs.Tables.number_binding.Goals as goal

pub bounds-self-e : goal.bounds-self-e
bounds-self-e c = rw c.choose-n.ensures.same (omega (arith, c.requires.b_nonzero.1, c.requires.b_nonzero.2, c.requires.right.stored.numbers_long))

pub enter_candidate-requires : goal.enter_candidate-requires
enter_candidate-requires c =
    let N = c.requires.right in
    let r = c.requires.b_nonzero in
    let l = few-entries c.args.self.now.checked.sound _ N.stored.few in
    rw c.choose-n.ensures.same
    (record {
      b_nonzero = (r.0, r.1);
      fits = record { some = N.stored.some; inside = omega (arith, N.stored.befores_long, r.1, r.2); low = omega arith };
    })

pub returns : goal.returns
returns c =
    let t = c.args.self.now in
    let N = c.requires.right in
    let r = c.requires.b_nonzero in
    let C = c.choose-n.ensures in
    let e = c.enter_candidate.ensures in
    let bytes = e.value.0 ∙ ap (λ (u : Tables). length (candidate (base u.checked c.args.b) c.choose-n.result)) C.same in
    rw (e.put, C.same)
    (record {
      same = record {
        lasts = refl;
        befores = refl;
        reached = refl;
        numbers = refl;
        script = refl;
        long = (length-set t.lasts.now _ _, length-set t.befores.now _ _, C.long, length-set t.numbers.now _ _);
      };
      right_2 = numbering_next N _ _ r.0 r.2 r.1 C.chosen C.long;
      named = named-next N _ _ r.0 r.2 r.1 C.chosen C.long _ bytes e.value.1;
    })
