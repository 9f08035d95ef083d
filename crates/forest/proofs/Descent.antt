-- The lowest row with a fault, as the visit of the rows in order finds it, is the first fault of the descent from row 0. Assumes nothing.
use Rattle.std.specs.Prelude.{Option, Some, None}
use mathlib.Core.Path.{◌≡◌, refl, ap, sym, ◌∙◌}
use mathlib.Core.Bool.{Bool, true, false, ◌&&◌}
use mathlib.Core.List.{List}
use mathlib.Core.Logic.{◌⊎◌, inl, inr, ⊎_elim}
use Prim.Native.Nat.{ℕ, zero, suc, ◌+◌, ◌%◌, ◌-◌, ◌<◌, ◌≤◌}
use native.Mathlib.Omega.{arith}
use borrow.Author.Tests.{lt-ltb, le-ltb, le-leb, eqb-true}
use lib.Dec.{eqb, ltb, leb, lit<}
use Rattle.names.specs.Words.{kind_at, attr_at, end_at}
use Rattle.names.specs.Answered.{or_else}
use Rattle.grammar.specs.Grammar.{top_place, place_of}
use Rattle.forest.specs.Faults.{end_good, fault_of, told, fault_from, first_fault}
use Rattle.forest.specs.Told.{told_by, mark, marks, top_mark, mark_at, fault_at, lowest_from, lowest_fault}
use Rattle.forest.specs.declared.Fault.{Fault}
use Rattle.forest.specs.declared.BadRow.{BadRow}
use Rattle.names.proofs.Bools.{lt_or_ge}
use Rattle.names.proofs.OrElse.{or_assoc}
use Rattle.forest.proofs.Children.{good-past, good-within}
use Rattle.forest.proofs.Telling.{told_child, tells_next}
use Rattle.forest.proofs.Visits.{early_none}
use Rattle.grammar.proofs.Places.{place-small}
use Rattle.forest.proofs.Marks.{mark-place, mark-ends}
use Rattle.forest.proofs.Nesting.{Before, before_next, within-next, met, Says, says_first}

which : (v : Option BadRow) → (v ≡ None) ⊎ ((b : BadRow) × (v ≡ Some b))
which None = inl refl
which (Some b) = inr (b, refl)

not_fine : (b : BadRow) (v : Option BadRow) → v ≡ Some b → v ≡ None → ⊥
not_fine b v p q = let z : ◌≡◌ {A = ℕ} 0 1 = cc in omega arith

told_fine : (fault : Option Fault) (row : ℕ) → told fault row ≡ None → fault ≡ None
told_fine None row h = refl
told_fine (Some fault) row h = absurd (not_fine (record { fault = fault; row = row }) _ refl h)

and-good : (b c : Bool) → (b ≡ true → c ≡ true) → (b && c) ≡ b
and-good true c h = h refl
and-good false c h = refl

module _ (ws : List ℕ) (n names : ℕ) where
  -- the first fault of the count rows from i on
  abbrev First : ℕ → ℕ → Option BadRow
  First count i = lowest_from ws n names count i

  first_row : (f i : ℕ) → First (suc f) i ≡ or_else (told (fault_at ws n names i) i) (First f (i + 1))
  unfolding lowest_from
  first_row f i = refl

  first-split : (d f g i : ℕ) → g ≡ d + f → First g i ≡ or_else (First d i) (First f (i + d))
  unfolding lowest_from
  first-split zero f g i q =
      let qf : g ≡ f = omega arith in
      let qi : i ≡ i + 0 = omega arith in
      ap (λ (x : ℕ). First x i) qf ∙ ap (λ (x : ℕ). First f x) qi
  first-split (suc d) f g i q =
      let qg : g ≡ suc (d + f) = omega arith in
      let qi : i + 1 + d ≡ i + suc d = omega arith in
      ap (λ (x : ℕ). First x i) qg
      ∙ first_row (d + f) i
      ∙ ap (λ (v : Option BadRow). or_else (told (fault_at ws n names i) i) v) (first-split d f (d + f) (i + 1) refl ∙ ap (λ (x : ℕ). or_else (First d (i + 1)) (First f x)) qi)
      ∙ sym (or_assoc (told (fault_at ws n names i) i) (First d (i + 1)) (First f (i + suc d)))
      ∙ ap (λ (v : Option BadRow). or_else v (First f (i + suc d))) (sym (first_row d i))

  -- a row's fault by its mark, where the mark says its place and whether its end is good
  pub fault-by : (i place : ℕ) (ends : Bool) → place < 16 → met ws n names i ≡ mark place ends → (ends ≡ true → end_at ws i ≤ n) → fault_at ws n names i ≡ fault_of ws names place ends i
  unfolding fault_at mark_at
  fault-by i place ends small m inn =
      let p : met ws n names i % 16 ≡ place = ap (λ (x : ℕ). x % 16) m ∙ mark-place place ends small in
      let e : (ltb (met ws n names i) 16 && leb (end_at ws i) n) ≡ ends =
      ap (λ (x : ℕ). ltb x 16 && leb (end_at ws i) n) m ∙ ap (λ (b : Bool). b && leb (end_at ws i) n) (mark-ends place ends small) ∙ and-good ends _ (λ g. le-leb _ _ (inn g)) in
      ap (λ (x : ℕ). fault_of ws names x (ltb (met ws n names i) 16 && leb (end_at ws i) n) i) p ∙ ap (λ (b : Bool). fault_of ws names place b i) e

  -- without a fault the end is good
  ends-good : (place : ℕ) (ends : Bool) (i : ℕ) → fault_of ws names place ends i ≡ None → ends ≡ true
  unfolding fault_of
  ends-good place ends i h = (early_none _ _ _ _ _ h).0.1.1

  -- the descent from row c, a child of p, gives the first fault of the rows from c up to p's end; and where there is none, they end within it
  record Down (f p c pos : ℕ) : Type 0 where
    same : fault_from ws names f (kind_at ws p) (attr_at ws p) (end_at ws p) pos c ≡ First (end_at ws p - c) c
    within : First (end_at ws p - c) c ≡ None → (q : ℕ) → c ≤ q → q < end_at ws p → end_at ws q ≤ end_at ws p

  abbrev Downs : ℕ → Type 0
  Downs f = (p c pos : ℕ) → end_at ws p ≤ n → p < c → c ≤ end_at ws p → end_at ws p ≤ c + f → Before ws p c → Says ws n names p c pos f → Down f p c pos

  from-none : (f k a e pos c : ℕ) → e ≤ c → fault_from ws names f k a e pos c ≡ None
  unfolding fault_from
  from-none zero k a e pos c h = refl
  from-none (suc f) k a e pos c h = rw (le-ltb c e h)

  down_end : (f p c pos : ℕ) → c ≤ end_at ws p → end_at ws p ≤ c → Down f p c pos
  unfolding lowest_from
  down_end f p c pos ce h =
      let z : 0 ≡ end_at ws p - c = omega arith in
      record {
        same = from-none f (kind_at ws p) (attr_at ws p) (end_at ws p) pos c h ∙ ap (λ (x : ℕ). First x c) z;
        within = λ z q a b. absurd (omega arith);
      }

  from_more : (f k a e pos c : ℕ) → c < e → fault_from ws names (suc f) k a e pos c
      ≡ or_else (told (fault_of ws names (place_of k a pos) (end_good ws c e) c) c) (or_else (fault_from ws names f (kind_at ws c) (attr_at ws c) (end_at ws c) 0 (c + 1)) (fault_from ws names f k a e (pos + 1) (end_at ws c)))
  unfolding fault_from
  from_more f k a e pos c h = rw (lt-ltb c e h)

  module _ (f : ℕ) (ih : Downs f) (p c pos : ℕ) (en : end_at ws p ≤ n) (pc : p < c) (room : end_at ws p ≤ c + suc f) (before : Before ws p c) (says : Says ws n names p c pos (suc f)) (ce : c < end_at ws p) where
    abbrev fault : Option Fault
    fault = fault_of ws names (place_of (kind_at ws p) (attr_at ws p) pos) (end_good ws c (end_at ws p)) c

    same-fault : fault_at ws n names c ≡ fault
    same-fault =
        fault-by c (place_of (kind_at ws p) (attr_at ws p) pos) (end_good ws c (end_at ws p)) (place-small (kind_at ws p) (attr_at ws p) pos)
        (told_child ws (marks ws) (top_mark (end_at ws 0) n) p c pos f pc ce before says)
        (λ g. let inn = good-within ws c (end_at ws p) g in omega arith)

    abbrev Inside : Option BadRow
    Inside = fault_from ws names f (kind_at ws c) (attr_at ws c) (end_at ws c) 0 (c + 1)

    abbrev After : Option BadRow
    After = fault_from ws names f (kind_at ws p) (attr_at ws p) (end_at ws p) (pos + 1) (end_at ws c)

    left : fault_from ws names (suc f) (kind_at ws p) (attr_at ws p) (end_at ws p) pos c ≡ or_else (told fault c) (or_else Inside After)
    left = from_more f (kind_at ws p) (attr_at ws p) (end_at ws p) pos c ce

    right : First (end_at ws p - c) c ≡ or_else (told fault c) (First (end_at ws p - (c + 1)) (c + 1))
    right =
        let q : end_at ws p - c ≡ suc (end_at ws p - (c + 1)) = omega arith in
        ap (λ (x : ℕ). First x c) q ∙ first_row (end_at ws p - (c + 1)) c ∙ ap (λ (x : Option Fault). or_else (told x c) (First (end_at ws p - (c + 1)) (c + 1))) same-fault

    -- row c is bad
    bad-row : (b : BadRow) → told fault c ≡ Some b → Down (suc f) p c pos
    bad-row b q = record {
      same = left ∙ ap (λ (v : Option BadRow). or_else v (or_else Inside After)) q ∙ sym (right ∙ ap (λ (v : Option BadRow). or_else v (First (end_at ws p - (c + 1)) (c + 1))) q);
      within = λ z. absurd (not_fine b (First (end_at ws p - c) c) (right ∙ ap (λ (v : Option BadRow). or_else v (First (end_at ws p - (c + 1)) (c + 1))) q) z);
    }

    -- row c is good
    module _ (q : told fault c ≡ None) where
      g : end_good ws c (end_at ws p) ≡ true
      g = ends-good _ _ c (told_fine fault c q)

      past : c < end_at ws c
      past = good-past ws c (end_at ws p) g

      inn : end_at ws c ≤ end_at ws p
      inn = good-within ws c (end_at ws p) g

      inside : Down f c (c + 1) 0
      inside = ih c (c + 1) 0 (omega (arith, inn)) (omega arith) (omega (arith, past)) (omega (arith, inn)) (λ q a b. absurd (omega arith)) (says_first ws n names c f (omega (arith, inn)))

      abbrev F1 : Option BadRow
      F1 = First (end_at ws c - (c + 1)) (c + 1)

      abbrev F2 : Option BadRow
      F2 = First (end_at ws p - end_at ws c) (end_at ws c)

      whole : First (end_at ws p - c) c ≡ or_else F1 F2
      whole =
          let e1 : end_at ws p - (c + 1) ≡ end_at ws c - (c + 1) + (end_at ws p - end_at ws c) = omega (arith, past, inn) in
          let e2 : c + 1 + (end_at ws c - (c + 1)) ≡ end_at ws c = omega (arith, past) in
          right ∙ ap (λ (v : Option BadRow). or_else v (First (end_at ws p - (c + 1)) (c + 1))) q
          ∙ first-split (end_at ws c - (c + 1)) (end_at ws p - end_at ws c) (end_at ws p - (c + 1)) (c + 1) e1
          ∙ ap (λ (x : ℕ). or_else (First (end_at ws c - (c + 1)) (c + 1)) (First (end_at ws p - end_at ws c) x)) e2

      walked : fault_from ws names (suc f) (kind_at ws p) (attr_at ws p) (end_at ws p) pos c ≡ or_else F1 After
      walked = left ∙ ap (λ (v : Option BadRow). or_else v (or_else Inside After)) q ∙ ap (λ (v : Option BadRow). or_else v After) inside.same

      bad-inside : (b : BadRow) → F1 ≡ Some b → Down (suc f) p c pos
      bad-inside b y = record {
        same = walked ∙ ap (λ (v : Option BadRow). or_else v After) y ∙ sym (whole ∙ ap (λ (v : Option BadRow). or_else v F2) y);
        within = λ z. absurd (not_fine b (First (end_at ws p - c) c) (whole ∙ ap (λ (v : Option BadRow). or_else v F2) y) z);
      }

      good-inside : F1 ≡ None → Down (suc f) p c pos
      good-inside y =
          let pa : c < end_at ws c = past in
          let wi = inside.within y in
          let after : Down f p (end_at ws c) (pos + 1) = ih p (end_at ws c) (pos + 1) en (omega arith) inn (omega arith) (before_next ws p c before pa wi) (tells_next ws (marks ws) (top_mark (end_at ws 0) n) p c pos f says ce g) in
          record {
            same = walked ∙ ap (λ (v : Option BadRow). or_else v After) y ∙ after.same ∙ sym (whole ∙ ap (λ (v : Option BadRow). or_else v F2) y);
            within = λ z. within-next ws c (end_at ws p) inn wi (after.within (sym (whole ∙ ap (λ (v : Option BadRow). or_else v F2) y) ∙ z));
          }

      good_row : Down (suc f) p c pos
      good_row = ⊎_elim good-inside (λ w. bad-inside w.0 w.1) (which F1)

    down_step : Down (suc f) p c pos
    down_step = ⊎_elim good_row (λ w. bad-row w.0 w.1) (which (told fault c))

  down : (f : ℕ) → Downs f
  down zero p c pos en pc ce room before says = down_end zero p c pos ce (omega arith)
  down (suc f) p c pos en pc ce room before says =
      ⊎_elim (λ h. down_step f (down f) p c pos en pc room before says h) (λ h. down_end (suc f) p c pos ce h) (lt_or_ge c (end_at ws p))

  abbrev top : Option Fault
  top = fault_of ws names top_place (eqb (end_at ws 0) n) 0

  top-fault : fault_at ws n names 0 ≡ top
  unfolding told_by
  top-fault = fault-by 0 top_place (eqb (end_at ws 0) n) (lit< tt) refl (λ g. let e : end_at ws 0 ≡ n = eqb-true _ _ g in omega arith)

  abbrev below : Option BadRow
  below = fault_from ws names n (kind_at ws 0) (attr_at ws 0) (end_at ws 0) 0 1

  pub first-lowest : 0 < n → first_fault ws n names ≡ lowest_fault ws n names
  unfolding first_fault lowest_fault
  first-lowest some = ⊎_elim fine (λ w. worse w.0 w.1) (which (told top 0))
    where
      right0 : First n 0 ≡ or_else (told top 0) (First (n - 1) 1)
      right0 = let q : n ≡ suc (n - 1) = omega arith in ap (λ (x : ℕ). First x 0) q ∙ first_row (n - 1) 0 ∙ ap (λ (x : Option Fault). or_else (told x 0) (First (n - 1) 1)) top-fault

      worse : (b : BadRow) → told top 0 ≡ Some b → or_else (told top 0) below ≡ First n 0
      worse b z = ap (λ (v : Option BadRow). or_else v below) z ∙ sym (right0 ∙ ap (λ (v : Option BadRow). or_else v (First (n - 1) 1)) z)

      fine : told top 0 ≡ None → or_else (told top 0) below ≡ First n 0
      fine z =
          let e0 : end_at ws 0 ≡ n = eqb-true _ _ (ends-good _ _ 0 (told_fine top 0 z)) in
          let d : Down n 0 1 0 = down n 0 1 0 (omega arith) (omega arith) (omega arith) (omega arith) (λ q a b. absurd (omega arith)) (says_first ws n names 0 n (omega arith)) in
          let e1 : end_at ws 0 - 1 ≡ n - 1 = omega arith in
          ap (λ (v : Option BadRow). or_else v below) z ∙ d.same ∙ ap (λ (x : ℕ). First x 1) e1 ∙ sym (right0 ∙ ap (λ (v : Option BadRow). or_else v (First (n - 1) 1)) z)

pub by_lowest : (ws : List ℕ) (n names : ℕ) → 0 < n → lowest_fault ws n names ≡ first_fault ws n names
by_lowest ws n names some = sym (first-lowest ws n names some)
