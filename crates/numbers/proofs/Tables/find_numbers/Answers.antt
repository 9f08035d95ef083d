-- `numbers::Tables::find_numbers` meets its contract. Assumes nothing.
use native.Mathlib.Omega.{arith}
use Prim.Native.Nat.{ℕ, ◌+◌}
use mathlib.Core.Path.{sym, subst}
use Rattle.buckets.proofs.Filing.{filed_none}
use Rattle.base_text.proofs.Checking.{fronted}
use Rattle.candidates.proofs.Writing.{few-records}
use Rattle.numbers.specs.Lent.{named, Right, NumbersOne}
use Rattle.numbers.proofs.Looking.{few-entries}
use Rattle.numbers.proofs.Making.{numbers-start, numbers-right, numbers-next, made_all}
use Rattle.numbers.proofs.Tables.find_numbers.Goals as goal

pub enter_names-requires : goal.enter_names-requires
enter_names-requires c =
    let t = c.args.self.now in
    let E = c.requires.blank in
    let l = few-entries t.checked.sound (named t) (omega arith) in
    record {
      fits = record { some = E.some; inside = omega (arith, E.befores_long); low = omega arith };
      found = filed_none (λ h k. E.no_lasts h);
    }

pub loop-k-init : goal.loop-k-init
loop-k-init c = let e = c.enter_names.ensures in numbers-start c.requires.blank e.same e.found_2 e.rest.0 e.rest.1

pub overflow_cast-k : goal.overflow_cast-k
overflow_cast-k c = let l = few-records _ _ _ c.args.self.now.checked.sound.front in omega (arith, c.records_in-count.ensures)

pub overflow_add-k : goal.overflow_add-k
overflow_add-k c = let l = few-records _ _ _ c.args.self.now.checked.sound.front in omega (arith, c.records_in-count.ensures)

pub overflow_add-named : goal.overflow_add-named
overflow_add-named c =
    let f = c.args.self.now.checked.sound.front in
    let l = few-records _ _ _ f in
    let n = (fronted _ _ _ f).sizes.few in
    omega (arith, c.records_in-count.ensures, c.named-named.ensures)

pub number_binding-bytes-requires : goal.number_binding-bytes-requires
number_binding-bytes-requires c =
    let N = c.loop-k.invariant in
    let q = c.named-named.ensures in
    record {
      b_nonzero = rw N.same.script (omega arith, omega (arith, c.records_in-count.ensures), omega (arith, q));
      right = subst (λ (m : ℕ). Right c.loop-k.self (m + c.loop-k.k)) (sym q) (numbers-right N);
    }

pub overflow_add-bytes : goal.overflow_add-bytes
overflow_add-bytes c =
    let m = c.loop-k.invariant.made in
    let l = few-records _ _ _ c.args.self.now.checked.sound.front in
    omega (arith, m.short, m.few, c.number_binding-bytes.ensures.named.short)

pub loop-k-preserved : goal.loop-k-preserved
loop-k-preserved c =
    let e = c.number_binding-bytes.ensures in
    let q = c.named-named.ensures in
    let k = c.loop-k.k in
    let t = c.number_binding-bytes.new.self in
    numbers-next c.loop-k.invariant (omega (arith, c.records_in-count.ensures)) e.same (subst (λ (m : ℕ). Right t (m + k + 1)) q e.right_2)
    (subst (λ (m : ℕ). NumbersOne c.loop-k.self t (m + k) (k + 1) c.number_binding-bytes.result) q e.named)

pub returns : goal.returns
returns c = let I = c.loop-k.invariant in record { same = I.same; numbered = made_all _ _ _ I.made (omega (arith, c.loop-k-test.false, c.records_in-count.ensures)) }
