-- `made_names::write::name_all` meets its contract. Assumes nothing.
use native.Mathlib.Omega.{arith}
use mathlib.Core.Path.{◌≡◌, refl, subst}
use mathlib.Core.List.{List}
use Prim.Native.Nat.{ℕ}
use Rattle.candidates.proofs.Writing.{few-records}
use Rattle.candidates.specs.declared.Checked.{Checked}
use Rattle.made_names.specs.Laying.{Laid}
use Rattle.made_names.proofs.Laying.{no_pairs, no_text, all_made}
use Rattle.made_names.proofs.write.name_all.Goals as goal

pub returns-then-out_pairs-count : goal.returns-then-out_pairs-count
returns-then-out_pairs-count c = no_pairs _ _ _ c.find_numbers-bytes.ensures.numbered _ _ (omega (arith, c.if-out_pairs-count.true, c.records_in-count.ensures))

pub returns-then-out_text-bytes : goal.returns-then-out_text-bytes
returns-then-out_text-bytes c =
    no_text _ _ _ c.find_numbers-bytes.ensures.numbered _ _ (omega (arith, c.if-out_pairs-count.false, c.records_in-count.ensures)) c.if-out_text-bytes.true

pub write_names-requires : goal.write_names-requires
write_names-requires c =
    rw c.find_numbers-bytes.ensures.same.script (omega (arith, c.requires.numbers_long, c.find_numbers-bytes.ensures.same.long), omega (arith, c.if-out_pairs-count.false, c.records_in-count.ensures))

pub overflow_cast-result : goal.overflow_cast-result
overflow_cast-result c = let l = few-records _ _ _ c.args.tables.now.checked.sound.front in omega (arith, c.records_in-count.ensures)

pub overflow_cast-result-2 : goal.overflow_cast-result-2
overflow_cast-result-2 c = let l = few-records _ _ _ c.args.tables.now.checked.sound.front in omega (arith, c.find_numbers-bytes.ensures.numbered.short)

-- what is written by the numbers of one script is written by those of the other, where both are the same
written : {a b : Checked} {numbers pairs pairs' out out' : List ℕ} → a ≡ b → Laid a.script.bindings.now a.script.names.now a.script.text.now numbers pairs pairs' out out'
    → Laid b.script.bindings.now b.script.names.now b.script.text.now numbers pairs pairs' out out'
written {numbers = n} {pairs = p} {pairs' = p'} {out = o} {out' = o'} e l = subst (λ (k : Checked). Laid k.script.bindings.now k.script.names.now k.script.text.now n p p' o o') e l

pub returns : goal.returns
returns c =
    all_made _ _ _ c.find_numbers-bytes.ensures.numbered (omega (arith, c.if-out_pairs-count.false, c.records_in-count.ensures)) c.if-out_text-bytes.false
    (written c.find_numbers-bytes.ensures.same.script c.write_names.ensures) _ _ c.records_in-count.ensures refl
