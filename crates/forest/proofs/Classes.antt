-- Change request No. 3: a row has a fault exactly if it is bad (`fault-none`), a fault's class is 1 to 5 (`class_five`), and the first fault is told of the first bad row (`first-bad`).
-- Assumes nothing.
use Rattle.std.specs.Prelude.{Option, Some, None, is_none}
use mathlib.Core.Path.{◌≡◌, refl, ap, sym, ◌∙◌}
use mathlib.Core.Bool.{Bool, true, false, cond, ◌&&◌, not}
use mathlib.Core.List.{List}
use mathlib.Core.Logic.{◌⊎◌, ⊎_elim}
use Prim.Native.Nat.{ℕ, zero, suc, ◌+◌, ◌<◌, ◌≤◌}
use native.Mathlib.Omega.{arith}
use lib.Dec.{eqb, ltb}
use lib.ListN.{length}
use Rattle.names.specs.Words.{kind_at, attr_at, name_at, end_at}
use Rattle.names.specs.Answered.{or_else}
use Rattle.grammar.specs.Kinds.{Function, Class}
use Rattle.grammar.specs.Grammar.{bit1, bit2, bit3, top_place, statement_place, place_of, kind_ok, attr_ok, fits, count_ok, name_ok}
use Rattle.forest.specs.Faults.{end_good, kids_of, class_of, early_fault, late_fault, fault_of, told, fault_from, first_fault}
use Rattle.forest.specs.Bad.{bad_at, bad_from, first_bad, row_of}
use Rattle.forest.specs.declared.Fault.{Fault}
use Rattle.forest.specs.declared.Fault.TheVariants.{Kind, Attr, End, Place, Name}
use Rattle.forest.specs.declared.BadRow.{BadRow}

-- the six tests of a row, and the fault that they give
abbrev fault_by : (kind attr ends fit count name : Bool) → Option Fault
fault_by kind attr ends fit count name = cond (not kind) (Some Kind) (cond (not attr) (Some Attr) (cond (not ends) (Some End) (cond (not (fit && count)) (Some Place) (cond (not name) (Some Name) None))))

six : (kind attr ends fit count name : Bool) → is_none (fault_by kind attr ends fit count name) ≡ (ends && (kind && attr && fit && count && name))
six true true true true true true = refl
six true true true true true false = refl
six true true true true false name = refl
six true true true false count name = refl
six true true false fit count name = refl
six true false true fit count name = refl
six true false false fit count name = refl
six false attr true fit count name = refl
six false attr false fit count name = refl

row_or : (u v : Option BadRow) {x y : Option ℕ} → row_of u ≡ x → row_of v ≡ y → row_of (or_else u v) ≡ or_else x y
row_or None v {x} {y} p q = q ∙ ap (λ (w : Option ℕ). or_else w y) p
row_or (Some bad) v {x} {y} p q = ap (λ (w : Option ℕ). or_else w y) p

row_within : (b : Bool) (u : Option BadRow) (v : Option ℕ) → row_of u ≡ v → row_of (cond b u None) ≡ cond b v None
row_within true u v h = h
row_within false u v h = refl

-- "also a Function or Class without bit 3 in a statement's place": its attr is told, whatever else is wrong with the row
last_off : (x : Bool) → (x && false) ≡ false
last_off true = refl
last_off false = refl

undeclared_function : (a : ℕ) → bit3 a ≡ false → attr_ok Function a statement_place ≡ false
undeclared_function a h = rw (h, last_off (ltb a 16))

undeclared_class : (a : ℕ) → bit3 a ≡ false → attr_ok Class a statement_place ≡ false
undeclared_class a h = rw (h, last_off (ltb a 10 && not (bit1 a) && not (bit2 a)))

pub undeclared : (ends : Bool) (k a : ℕ) (rest : Option Fault) → (k ≡ Function) ⊎ (k ≡ Class) → bit3 a ≡ false → early_fault statement_place ends k a rest ≡ Some Attr
unfolding early_fault
undeclared ends k a rest h off =
    ⊎_elim
    (λ q. ap (λ (x : ℕ). early_fault statement_place ends x a rest) q ∙ rw (undeclared_function a off))
    (λ q. ap (λ (x : ℕ). early_fault statement_place ends x a rest) q ∙ rw (undeclared_class a off))
    h

module _ (ws : List ℕ) (names : ℕ) where
  -- no fault exactly if no test fails
  pub fault-none : (place : ℕ) (ends : Bool) (i : ℕ) → bad_at ws names place ends i ≡ not (is_none (fault_of ws names place ends i))
  unfolding fault_of early_fault late_fault
  fault-none place ends i =
      ap not (sym (six (kind_ok (kind_at ws i)) (attr_ok (kind_at ws i) (attr_at ws i) place) ends (fits place (kind_at ws i)) (count_ok (kind_at ws i) (attr_at ws i) (length (kids_of ws i))) (name_ok (kind_at ws i)
      (attr_at ws i) (name_at ws i) names)))

  -- a row's fault before what comes after it
  row_told : (place : ℕ) (ends : Bool) (i : ℕ) (later : Option BadRow) → row_of (or_else (told (fault_of ws names place ends i) i) later) ≡ cond (bad_at ws names place ends i) (Some i) (row_of later)
  row_told place ends i later = go (fault_of ws names place ends i) ∙ ap (λ (b : Bool). cond b (Some i) (row_of later)) (sym (fault-none place ends i))
    where
      go : (f : Option Fault) → row_of (or_else (told f i) later) ≡ cond (not (is_none f)) (Some i) (row_of later)
      go None = refl
      go (Some fault) = refl

  row_from : (f k a e pos c : ℕ) → row_of (fault_from ws names f k a e pos c) ≡ bad_from ws names f k a e pos c
  unfolding fault_from bad_from
  row_from zero k a e pos c = refl
  row_from (suc f) k a e pos c =
      let inside = row_from f (kind_at ws c) (attr_at ws c) (end_at ws c) 0 (c + 1) in
      let after = row_from f k a e (pos + 1) (end_at ws c) in
      row_within (ltb c e) _ _
      (row_told (place_of k a pos) (end_good ws c e) c _ ∙ ap (cond (bad_at ws names (place_of k a pos) (end_good ws c e) c) (Some c))
      (row_or (fault_from ws names f (kind_at ws c) (attr_at ws c) (end_at ws c) 0 (c + 1)) (fault_from ws names f k a e (pos + 1) (end_at ws c)) inside after))

  -- the first fault is told of the first bad row
  pub first-bad : (n : ℕ) → row_of (first_fault ws n names) ≡ first_bad ws n names
  unfolding first_fault first_bad
  first-bad n =
      row_told top_place (eqb (end_at ws 0) n) 0 _
      ∙ ap (cond (bad_at ws names top_place (eqb (end_at ws 0) n) 0) (Some 0)) (row_from n (kind_at ws 0) (attr_at ws 0) (end_at ws 0) 0 1)

  -- and its class is 1 to 5
  pub class_five : (n : ℕ) (bad : BadRow) → first_fault ws n names ≡ Some bad → (0 < class_of bad.fault) × (class_of bad.fault ≤ 5)
  class_five n bad h = five bad.fault
    where
      five : (f : Fault) → (0 < class_of f) × (class_of f ≤ 5)
      five Kind = (omega arith, omega arith)
      five Attr = (omega arith, omega arith)
      five End = (omega arith, omega arith)
      five Place = (omega arith, omega arith)
      five Name = (omega arith, omega arith)
