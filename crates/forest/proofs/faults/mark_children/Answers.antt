-- `forest::faults::mark_children` meets its contract. Assumes nothing.
use mathlib.Core.Path.{sym, ap, ◌∙◌}
use mathlib.Core.List.{List}
use Prim.Native.Nat.{ℕ, ◌<◌}
use native.Mathlib.Omega.{arith}
use lib.ListN.{get_or, length}
use Rattle.names.specs.Words.{words}
use Rattle.grammar.specs.Codes.{kind_number}
use Rattle.forest.specs.Told.{told_in, says}
use Rattle.forest.proofs.Children.{kids_done}
use Rattle.forest.proofs.Marks.{marked_none, marked_some, marked-low}
use Rattle.forest.proofs.faults.mark_children.Goals as goal
use Rattle.forest.proofs.faults.mark_children.Goals.{In-Some}

pub returns-then-e-c0 : goal.returns-then-e-c0
unfolding told_in
returns-then-e-c0 c =
    let k = kids_done (words c.args.s.now) c.args.e c.args.c0 c.args.e c.if-e-c0.true in
    (sym (ap length k), λ j. sym (ap (λ (l : List ℕ). told_in (says (words c.args.s.now) (kind_number c.args.kind) c.args.a c.args.e) 0 l j (get_or c.args.marks.now j 0)) k))

-- the child at fault has a place, and is one of the rows
low : (c : In-Some) → (get_or c.tell-told.new.told c.in-Some.row 0 < 16) × (c.in-Some.row < c.args.e)
low c =
    marked-low (words c.args.s.now) (kind_number c.args.kind) c.args.a c.args.e c.args.c0 _ _ c.args.marks.now c.tell-told.new.told (c.number-one.ensures.0 ∙ c.place_of.ensures) (c.number-more.ensures.0 ∙ c.place_of-2.ensures)
    (omega (arith, c.tell-told.auto.told)) (c.tell-told.ensures.each 0) c.in-Some.row (sym c.in-Some.is ∙ c.tell-told.ensures.faulty)

pub bounds-marks-row : goal.bounds-marks-row
bounds-marks-row c = omega (arith, (low (goal.at.bounds-marks-row c).In-Some).1, c.tell-told.auto.told)

pub overflow_add-marks : goal.overflow_add-marks
overflow_add-marks c = omega (arith, (low (goal.at.overflow_add-marks c).In-Some).0)

pub bounds-marks-row-in-Some : goal.bounds-marks-row-in-Some
bounds-marks-row-in-Some c = omega (arith, (low (goal.at.bounds-marks-row-in-Some c).In-Some).1, c.tell-told.auto.told)

pub returns-in-Some : goal.returns-in-Some
returns-in-Some c = (
  c.tell-told.ensures.count,
  marked_some (words c.args.s.now) (kind_number c.args.kind) c.args.a c.args.e c.args.c0 _ _ c.args.marks.now c.tell-told.new.told (c.number-one.ensures.0 ∙ c.place_of.ensures) (c.number-more.ensures.0 ∙ c.place_of-2.ensures)
      (omega (arith, c.tell-told.auto.told)) (c.tell-told.ensures.each 0) c.in-Some.row (sym c.in-Some.is ∙ c.tell-told.ensures.faulty),
)

pub returns-in_default : goal.returns-in_default
returns-in_default c = (
  c.tell-told.ensures.count,
  marked_none (words c.args.s.now) (kind_number c.args.kind) c.args.a c.args.e c.args.c0 _ _ c.args.marks.now c.tell-told.new.told (c.number-one.ensures.0 ∙ c.place_of.ensures) (c.number-more.ensures.0 ∙ c.place_of-2.ensures)
      (omega (arith, c.tell-told.auto.told)) (c.tell-told.ensures.each 0) (sym c.in_default.is ∙ c.tell-told.ensures.faulty),
)
