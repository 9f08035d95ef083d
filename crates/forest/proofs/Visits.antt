-- The visit of the rows in order that finds the lowest fault. Assumes nothing.
use Rattle.std.specs.Prelude.{Option, Some, None}
use mathlib.Core.Path.{◌≡◌, refl, ap, sym, ◌∙◌}
use mathlib.Core.Bool.{Bool, true, false, cond, ◌&&◌, not}
use mathlib.Core.List.{List}
use Prim.Native.Nat.{ℕ, zero, suc, ◌+◌, ◌%◌, ◌<◌, ◌≤◌}
use native.Mathlib.Omega.{arith}
use native.Mathlib.Nat.{zero-add}
use borrow.Author.Tests.{leb-true, lt-ltb}
use lib.Dec.{ltb, leb}
use lib.ListN.{get_or, length}
use Rattle.names.specs.Words.{kind_at, attr_at, name_at, end_at}
use Rattle.grammar.specs.Grammar.{kind_ok, attr_ok, fits, count_ok, name_ok}
use Rattle.grammar.specs.Codes.{listed, placed}
use Rattle.forest.specs.Faults.{kids, kids_of, early_fault, late_fault, fault_of}
use Rattle.forest.specs.Told.{told_in, told_by, says, marks, top_mark, mark_at, fault_at, lowest_from, lowest_fault}
use Rattle.forest.specs.declared.Fault.{Fault}
use Rattle.forest.specs.declared.Fault.TheVariants.{Kind, Attr, End, Place, Name}
use Rattle.names.proofs.Bools.{and_right}
use Rattle.forest.proofs.Telling.{told-on}

none_some : {F : Type 0} {f : F} → Some f ≡ None → ⊥
none_some h = let z : ◌≡◌ {A = ℕ} 0 1 = cc in omega arith

none_of : (p q r : Bool) (rest : Option Fault) → cond (not p) (Some Kind) (cond (not q) (Some Attr) (cond (not r) (Some End) rest)) ≡ None → ((p ≡ true) × ((q ≡ true) × (r ≡ true))) × (rest ≡ None)
none_of true true true rest h = ((refl, (refl, refl)), h)
none_of true true false rest h = absurd (none_some h)
none_of true false r rest h = absurd (none_some h)
none_of false q r rest h = absurd (none_some h)

-- a row with no fault
pub early_none : (place : ℕ) (ends : Bool) (k a : ℕ) (rest : Option Fault) → early_fault place ends k a rest ≡ None → ((kind_ok k ≡ true) × ((attr_ok k a place ≡ true) × (ends ≡ true))) × (rest ≡ None)
unfolding early_fault
early_none place ends k a rest h = none_of (kind_ok k) (attr_ok k a place) ends rest h

late_of : (p q : Bool) → cond (not p) (Some Place) (cond (not q) (Some Name) None) ≡ None → (p ≡ true) × (q ≡ true)
late_of true true h = (refl, refl)
late_of true false h = absurd (none_some h)
late_of false q h = absurd (none_some h)

pub late-none : (names place k a name count : ℕ) → late_fault names place k a name count ≡ None → ((fits place k && count_ok k a count) ≡ true) × (name_ok k a name names ≡ true)
unfolding late_fault
late-none names place k a name count h = late_of (fits place k && count_ok k a count) (name_ok k a name names) h

-- where the first three faults are not met, the others count
pub early_past : (place : ℕ) (ends : Bool) (k a : ℕ) (rest : Option Fault) → early_fault place ends k a None ≡ None → early_fault place ends k a rest ≡ rest
unfolding early_fault
early_past place ends k a rest h = let n = (early_none place ends k a None h).0 in rw (n.0, n.1.0, n.1.1)

some_of : (p q r : Bool) (rest : Option Fault) (f : Fault) → cond (not p) (Some Kind) (cond (not q) (Some Attr) (cond (not r) (Some End) None)) ≡ Some f
    → cond (not p) (Some Kind) (cond (not q) (Some Attr) (cond (not r) (Some End) rest)) ≡ Some f
some_of true true true rest f h = absurd (none_some (sym h))
some_of true true false rest f h = h
some_of true false r rest f h = h
some_of false q r rest f h = h

-- otherwise they do not
pub early_some : (place : ℕ) (ends : Bool) (k a : ℕ) (rest : Option Fault) (f : Fault) → early_fault place ends k a None ≡ Some f → early_fault place ends k a rest ≡ Some f
unfolding early_fault
early_some place ends k a rest f h = some_of (kind_ok k) (attr_ok k a place) ends rest f h

-- a word that is no kind of the list counts as 7, which is none either
pub early_listed : (place : ℕ) (ends : Bool) (k a : ℕ) → early_fault place ends (listed k) a None ≡ early_fault place ends k a None
unfolding early_fault
early_listed place ends k a = go (kind_ok k) refl
  where
    go : (b : Bool) → kind_ok k ≡ b → early_fault place ends (cond b k 7) a None ≡ early_fault place ends k a None
    go true q = refl
    go false q = rw q

pub listed-same : (k : ℕ) → kind_ok k ≡ true → listed k ≡ k
listed-same k h = rw h

-- a row's faults by its place and kind as the code has them
same_place : (place placed_as : ℕ) → placed_as ≡ placed place → place < 16 → placed_as ≡ place
same_place place placed_as p low = p ∙ rw (lt-ltb place 16 low)

pub early-read : (place placed_as k kind : ℕ) → placed_as ≡ placed place → place < 16 → kind ≡ listed k → (ends : Bool) (a : ℕ) {r : Option Fault}
    → r ≡ early_fault placed_as ends kind a None → r ≡ early_fault place ends k a None
early-read place placed_as k kind p low q ends a h =
    h ∙ ap (λ (x : ℕ). early_fault x ends kind a None) (same_place place placed_as p low) ∙ ap (λ (x : ℕ). early_fault place ends x a None) q ∙ early_listed place ends k a

pub late-read : (place placed_as k kind : ℕ) → placed_as ≡ placed place → place < 16 → kind ≡ k → (names a name count : ℕ) {r : Option Fault}
    → r ≡ late_fault names placed_as kind a name count → r ≡ late_fault names place k a name count
late-read place placed_as k kind p low q names a name count h =
    h ∙ ap (λ (x : ℕ). late_fault names x kind a name count) (same_place place placed_as p low) ∙ ap (λ (x : ℕ). late_fault names place x a name count) q

-- a table of n rows and that many names, with an array of that size
module _ (ws : List ℕ) (n names size : ℕ) where
  -- the visit at row i: the rows that are left give the whole answer
  pub record Visit (R : List ℕ) (i : ℕ) : Type 0 where
    pub fuel : ℕ
    pub left : i + fuel ≡ n
    pub long : length R ≡ size
    pub same : lowest_from ws n names n 0 ≡ lowest_from ws n names fuel i
    pub each : (j : ℕ) → get_or R j 0 ≡ told_by ws (marks ws) (top_mark (end_at ws 0) n) i j

  pub visit-start : (R : List ℕ) → length R ≡ size → ((j : ℕ) → get_or R j 0 ≡ told_by ws (marks ws) (top_mark (end_at ws 0) n) 0 j) → Visit R 0
  visit-start R l h = record { fuel = n; left = zero-add n; long = l; same = refl; each = h }

  more_fine : (f g i : ℕ) → f ≡ suc g → fault_at ws n names i ≡ None → lowest_from ws n names f i ≡ lowest_from ws n names g (i + 1)
  unfolding lowest_from
  more_fine f g i q z = ap (λ (x : ℕ). lowest_from ws n names x i) q ∙ rw z

  more-bad : (f g i : ℕ) (b : Fault) → f ≡ suc g → fault_at ws n names i ≡ Some b → lowest_from ws n names f i ≡ Some (record { fault = b; row = i })
  unfolding lowest_from
  more-bad f g i b q z = ap (λ (x : ℕ). lowest_from ws n names x i) q ∙ rw z

  pub visit_done : (R : List ℕ) (i : ℕ) → Visit R i → n ≤ i → None ≡ lowest_fault ws n names
  unfolding lowest_from lowest_fault
  visit_done R i v h = let z : v.fuel ≡ 0 = omega (arith, v.left) in sym (v.same ∙ ap (λ (x : ℕ). lowest_from ws n names x i) z)

  -- row i, as the code read it
  module _ (R : List ℕ) (i k a name e m : ℕ) (v : Visit R i) (h : i < n)
      (qk : k ≡ kind_at ws i) (qa : a ≡ attr_at ws i) (qn : name ≡ name_at ws i) (qe : e ≡ end_at ws i) (qm : m ≡ get_or R i 0) where
    pre : (g : ℕ) × (v.fuel ≡ suc g)
    pre = go v.fuel refl
      where
        go : (f : ℕ) → v.fuel ≡ f → (g : ℕ) × (v.fuel ≡ suc g)
        go zero q = absurd (omega (arith, v.left))
        go (suc g) q = (g, q)

    -- the first three of its faults
    abbrev early : Option Fault → Option Fault
    early rest = early_fault (m % 16) (ltb m 16 && leb e n) k a rest

    fault-is : (count : ℕ) → count ≡ length (kids_of ws i) → fault_at ws n names i ≡ early (late_fault names (m % 16) k a name count)
    unfolding fault_at fault_of mark_at
    fault-is count qc = cc (v.each i)

    pub bad-early : (b : Fault) → early None ≡ Some b → Some (record { fault = b; row = i }) ≡ lowest_fault ws n names
    unfolding lowest_fault
    bad-early b q = sym (v.same ∙ more-bad v.fuel pre.0 i b pre.1 (fault-is _ refl ∙ early_some _ _ _ _ _ b q))

    pub end-within : early None ≡ None → e ≤ n
    end-within z = leb-true e n (and_right (ltb m 16) (leb e n) (early_none _ _ _ _ _ z).0.1.1)

    -- its kind is in the list
    pub kind-listed : early None ≡ None → kind_ok k ≡ true
    kind-listed z = (early_none _ _ _ _ _ z).0.0

    module _ (count : ℕ) (z : early None ≡ None) (qc : count ≡ length (kids ws e (i + 1) e)) where
      late_is : fault_at ws n names i ≡ late_fault names (m % 16) k a name count
      unfolding kids_of
      late_is = fault-is count (qc ∙ ap (λ (x : ℕ). length (kids ws x (i + 1) x)) qe) ∙ early_past _ _ _ _ _ z

      pub bad-late : (b : Fault) → late_fault names (m % 16) k a name count ≡ Some b → Some (record { fault = b; row = i }) ≡ lowest_fault ws n names
      unfolding lowest_fault
      bad-late b q = sym (v.same ∙ more-bad v.fuel pre.0 i b pre.1 (late_is ∙ q))

      pub visit-next : late_fault names (m % 16) k a name count ≡ None → (R' : List ℕ) → length R' ≡ size
          → ((j : ℕ) → get_or R' j 0 ≡ told_in (says ws k a e) 0 (kids ws e (i + 1) e) j (get_or R j 0)) → Visit R' (i + 1)
      visit-next y R' l r = record {
        fuel = pre.0;
        left = omega (arith, v.left, pre.1);
        long = l;
        same = v.same ∙ more_fine v.fuel pre.0 i pre.1 (late_is ∙ y);
        each = told-on ws (marks ws) (top_mark (end_at ws 0) n) i m e (says ws k a e) R R' v.each qm qe same-say r;
      }
        where
          same-say : marks ws m i ≡ says ws k a e
          same-say = ap (λ (x : ℕ). says ws x (attr_at ws i) (end_at ws i)) (sym qk) ∙ ap (λ (x : ℕ). says ws k x (end_at ws i)) (sym qa) ∙ ap (λ (x : ℕ). says ws k a x) (sym qe)
