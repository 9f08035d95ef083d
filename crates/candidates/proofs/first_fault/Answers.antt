-- `candidates::first_fault` meets its contract. Assumes nothing.
use mathlib.Core.Path.{◌≡◌, sym}
use native.Mathlib.Omega.{arith}
use Prim.Native.Nat.{ℕ}
use Rattle.std.specs.Prelude.{Err}
use Rattle.candidates.proofs.Writing.{few-records, testing_start, testing-next, testing-fault, testing-done, told-fault, told-passed}
use lib.ListN.{length-replicate}
use Rattle.candidates.proofs.first_fault.Goals as goal

pub overflow_cast-count : goal.overflow_cast-count
overflow_cast-count c = let l = few-records _ _ _ c.requires in omega (arith, c.records_in-count.ensures)

pub loop-b-init : goal.loop-b-init
loop-b-init c = (testing_start, sym (length-replicate {A = ℕ} 272 0))

pub returns-in_err-text_of : goal.returns-in_err-text_of
returns-in_err-text_of c =
    let e : c.from_residual.result ≡ Err c.in_err-text_of.field-0.0 = grind arith in
    rw e (testing-fault c.loop-b.invariant.0 _ (omega (arith, c.records_in-count.ensures))
    (told-fault _ _ _ _ c.requires _ (omega (arith, c.loop-b.invariant.1)) _ _ _ _ c.text_of.ensures _ c.in_err-text_of.was))

pub loop-b-preserved : goal.loop-b-preserved
loop-b-preserved c = (
  testing-next c.loop-b.invariant.0 (omega (arith, c.records_in-count.ensures))
      (told-passed _ _ _ _ c.requires _ (omega (arith, c.loop-b.invariant.1)) _ _ _ _ c.text_of.ensures _ c.in_ok-text_of.was),
  omega (arith, c.text_of.auto),
)

pub returns : goal.returns
returns c = testing-done c.loop-b.invariant.0 (omega (arith, c.records_in-count.ensures))

pub returns-in_ok-text_of : goal.returns-in_ok-text_of
returns-in_ok-text_of c =
    testing-done (testing-next c.loop-b.invariant.0 (omega (arith, c.records_in-count.ensures))
    (told-passed _ _ _ _ c.requires _ (omega (arith, c.loop-b.invariant.1)) _ _ _ _ c.text_of.ensures _ c.in_ok-text_of.was)) (omega (arith, c.records_in-count.ensures))

pub overflow_step-b : goal.overflow_step-b
overflow_step-b c = let l = few-records _ _ _ c.requires in omega (arith, c.records_in-count.ensures)
