-- `made_names::write::write_names` meets its contract. Assumes nothing.
use native.Mathlib.Omega.{arith}
use mathlib.Core.Path.{ap}
use Prim.Native.Nat.{ℕ, ◌+◌}
use lib.ListN.{get_or}
use Rattle.base_text.proofs.Checking.{fronted}
use Rattle.candidates.proofs.Writing.{few-records, sound-at}
use Rattle.made_names.proofs.Laying.{writing_start, writing-next, writing-done}
use Rattle.made_names.proofs.write.write_names.Goals as goal

pub loop-k-init : goal.loop-k-init
loop-k-init c = writing_start _ _ _ _

pub overflow_add-b : goal.overflow_add-b
overflow_add-b c = let l = few-records _ _ _ c.args.tables.now.checked.sound.front in let m = c.loop-k.invariant in omega (arith, m.few, c.records_in-count.ensures)

pub overflow_add-n : goal.overflow_add-n
overflow_add-n c =
    let l = few-records _ _ _ c.args.tables.now.checked.sound.front in
    let m = c.loop-k.invariant in
    let n = (fronted _ _ _ c.args.tables.now.checked.sound.front).sizes.few in
    omega (arith, m.few, c.records_in-count.ensures)

pub offset_bounds-tables-named : goal.offset_bounds-tables-named
offset_bounds-tables-named c =
    let l = few-records _ _ _ c.args.tables.now.checked.sound.front in
    let m = c.loop-k.invariant in
    let n = (fronted _ _ _ c.args.tables.now.checked.sound.front).sizes.few in
    omega (arith, m.few, c.records_in-count.ensures)

pub bounds-tables-named : goal.bounds-tables-named
bounds-tables-named c = omega (arith, c.requires.0, c.records_in-count.ensures)

pub overflow_cast-b : goal.overflow_cast-b
overflow_cast-b c = let l = few-records _ _ _ c.args.tables.now.checked.sound.front in let m = c.loop-k.invariant in omega (arith, m.few, c.records_in-count.ensures)

pub put_candidate-end-requires : goal.put_candidate-end-requires
put_candidate-end-requires c =
    let l = few-records _ _ _ c.args.tables.now.checked.sound.front in
    let m = c.loop-k.invariant in
    record {
      text_value = (c.args.tables.now.checked.sound.front, sound-at _ _ _ c.args.tables.now.checked.sound (c.loop-k.k + 1) (omega arith) (omega (arith, c.records_in-count.ensures)));
      at_bound = omega (arith, m.low, m.few);
    }

pub overflow_cast-at : goal.overflow_cast-at
overflow_cast-at c = let l = few-records _ _ _ c.args.tables.now.checked.sound.front in let m = c.loop-k.invariant in omega (arith, m.low, m.few)

pub overflow_sub-end : goal.overflow_sub-end
overflow_sub-end c = omega (arith, c.put_candidate-end.ensures.0.next)

pub overflow_cast-end : goal.overflow_cast-end
overflow_cast-end c = omega (arith, c.put_candidate-end.ensures.1)

pub put_pair-requires : goal.put_pair-requires
put_pair-requires c = let m = c.loop-k.invariant in omega (arith, m.same-pairs, c.requires.1, c.records_in-count.ensures)

pub loop-k-preserved : goal.loop-k-preserved
loop-k-preserved c =
    writing-next _ _ _ _ c.loop-k.invariant (omega (arith, c.records_in-count.ensures)) _
    (ap (λ (m : ℕ). get_or c.args.tables.now.numbers.now (m + (c.loop-k.k + 1)) 0) c.named-named.ensures) c.put_candidate-end.ensures.0 c.put_candidate-end.ensures.1
    c.put_candidate-end.auto.out c.put_pair.auto.out c.put_pair.ensures

pub returns : goal.returns
returns c = writing-done _ _ _ _ c.loop-k.invariant (omega (arith, c.loop-k-test.false, c.records_in-count.ensures))
