-- Marks. Assumes nothing.
use Rattle.std.specs.Prelude.{Option, Some, None}
use mathlib.Core.Path.{◌≡◌, refl, sym, ap, ◌∙◌}
use mathlib.Core.Bool.{Bool, true, false, cond}
use mathlib.Core.List.{List, [], ◌∷◌}
use Prim.Native.Nat.{ℕ, zero, suc, ◌+◌, ◌%◌, ◌<◌, ◌≤◌}
use native.Mathlib.Omega.{arith}
use native.Mathlib.Nat.{add-zero}
use borrow.Author.Tests.{lt-ltb, le-ltb, ltb-true, eqb-true, eqb-false, eq-eqb, ne_eqb}
use lib.Dec.{eqb, ltb}
use lib.ListN.{get_or, length, set}
use lib.Seq.{get_or-set_same, get_or-set_other}
use Rattle.names.specs.Words.{end_at}
use Rattle.names.proofs.Bools.{pick}
use Rattle.grammar.specs.Grammar.{place_of}
use Rattle.grammar.proofs.Places.{place-small, later_all}
use Rattle.forest.specs.Faults.{end_good, kids, faulty_kid}
use Rattle.forest.specs.Told.{told_in, first_then, mark, says}
use Rattle.forest.proofs.Children.{good-past}
use Rattle.forest.proofs.Telling.{told-same}

-- a mark gives back its place and whether the end is good
pub mark-place : (place : ℕ) (ends : Bool) → place < 16 → mark place ends % 16 ≡ place
mark-place place true h = omega arith
mark-place place false h = omega arith

pub mark-ends : (place : ℕ) (ends : Bool) → place < 16 → ltb (mark place ends) 16 ≡ ends
mark-ends place true h = lt-ltb (place + 0) 16 (omega arith)
mark-ends place false h = le-ltb (place + 16) 16 (omega arith)

-- 16 more for the row that is at fault
abbrev pub raised : Option ℕ → (j v : ℕ) → ℕ
raised None j v = v
raised (Some r) j v = cond (eqb j r) (v + 16) v

raise_past : (x : Option ℕ) (t : Bool) (j c p w : ℕ) → eqb j c ≡ t → ((r : ℕ) → x ≡ Some r → c < r) → cond t (p + 0) (raised x j w) ≡ raised x j (cond t p w)
raise_past None true j c p w q l = add-zero p
raise_past None false j c p w q l = refl
raise_past (Some r) true j c p w q l = let z : j ≡ c = eqb-true j c q in let m = l r refl in rw (ne_eqb j r (λ y. omega arith)) (add-zero p)
raise_past (Some r) false j c p w q l = refl

raise_here : (t : Bool) (p v : ℕ) → cond t (p + 16) v ≡ cond t (cond t p v + 16) (cond t p v)
raise_here true p v = refl
raise_here false p v = refl

-- the children of a row of kind k, attr a and end e
module _ (ws : List ℕ) (k a e : ℕ) where
  abbrev place : ℕ → ℕ → ℕ
  place pos c = place_of k a pos

  -- the one at fault is one of them
  range_cases : (b g : Bool) (x : Option ℕ) (c r : ℕ) → (b ≡ true → c < e) → (g ≡ true → x ≡ Some r → (c ≤ r) × (r < e)) → cond b (cond g x (Some c)) None ≡ Some r → (c ≤ r) × (r < e)
  range_cases false g x c r l h q = absurd (let z : ◌≡◌ {A = ℕ} 0 1 = cc in omega arith)
  range_cases true false x c r l h q = let z : c ≡ r = cc in let m = l refl in (omega arith, omega arith)
  range_cases true true x c r l h q = h refl q

  pub faulty-range : (f c r : ℕ) → faulty_kid ws f c e ≡ Some r → (c ≤ r) × (r < e)
  unfolding faulty_kid
  faulty-range zero c r q = absurd (let z : ◌≡◌ {A = ℕ} 0 1 = cc in omega arith)
  faulty-range (suc f) c r q =
      range_cases (ltb c e) (end_good ws c e) (faulty_kid ws f (end_at ws c) e) c r (ltb-true c e)
      (λ g z. let i = faulty-range f (end_at ws c) r z in let p = good-past ws c e g in (omega arith, i.1)) q

  -- and has been told a place
  low_cases : (b g : Bool) (K : List ℕ) (x : Option ℕ) (pos c r v : ℕ) → (g ≡ true → x ≡ Some r → told_in place (pos + 1) K r v < 16) → cond b (cond g x (Some c)) None ≡ Some r
      → told_in place pos (cond b (cond g (c ∷ K) (c ∷ [])) []) r v < 16
  unfolding told_in
  low_cases false g K x pos c r v h q = absurd (let z : ◌≡◌ {A = ℕ} 0 1 = cc in omega arith)
  low_cases true false K x pos c r v h q = let z : c ≡ r = cc in rw (eq-eqb r c (sym z)) (place-small k a pos)
  low_cases true true K x pos c r v h q = pick (λ (n : ℕ). n < 16) (eqb r c) _ _ (place-small k a pos) (h refl q)

  faulty-low : (f pos c r v : ℕ) → faulty_kid ws f c e ≡ Some r → told_in place pos (kids ws f c e) r v < 16
  unfolding kids faulty_kid
  faulty-low zero pos c r v q = absurd (let z : ◌≡◌ {A = ℕ} 0 1 = cc in omega arith)
  faulty-low (suc f) pos c r v q =
      low_cases (ltb c e) (end_good ws c e) (kids ws f (end_at ws c) e) (faulty_kid ws f (end_at ws c) e) pos c r v (λ g z. faulty-low f (pos + 1) (end_at ws c) r v z) q

  -- the mark of each is its place, and 16 more for the one at fault
  mark_cases : (b g : Bool) (K : List ℕ) (x : Option ℕ) (pos c j v : ℕ) → g ≡ end_good ws c e → (g ≡ true → (r : ℕ) → x ≡ Some r → c < r)
      → (g ≡ true → told_in (says ws k a e) (pos + 1) K j v ≡ raised x j (told_in place (pos + 1) K j v))
      → told_in (says ws k a e) pos (cond b (cond g (c ∷ K) (c ∷ [])) []) j v ≡ raised (cond b (cond g x (Some c)) None) j (told_in place pos (cond b (cond g (c ∷ K) (c ∷ [])) []) j v)
  unfolding told_in
  mark_cases false g K x pos c j v q l h = refl
  mark_cases true false K x pos c j v q l h = rw (← q) (raise_here (eqb j c) (place_of k a pos) v)
  mark_cases true true K x pos c j v q l h = rw (← q, h refl) (raise_past x (eqb j c) j c (place_of k a pos) (told_in place (pos + 1) K j v) refl (l refl))

  marks-raised : (f pos c j v : ℕ) → told_in (says ws k a e) pos (kids ws f c e) j v ≡ raised (faulty_kid ws f c e) j (told_in place pos (kids ws f c e) j v)
  unfolding kids faulty_kid told_in
  marks-raised zero pos c j v = refl
  marks-raised (suc f) pos c j v =
      mark_cases (ltb c e) (end_good ws c e) (kids ws f (end_at ws c) e) (faulty_kid ws f (end_at ws c) e) pos c j v refl
      (λ g r z. let i = faulty-range f (end_at ws c) r z in let p = good-past ws c e g in omega arith)
      (λ g. marks-raised f (pos + 1) (end_at ws c) j v)

  -- the array after the children have been told their places
  module _ (c0 one more : ℕ) (R₀ R : List ℕ) (q1 : one ≡ place_of k a 0) (q2 : more ≡ place_of k a 1) (l : e ≤ length R)
      (each : (j : ℕ) → get_or R j 0 ≡ told_in (first_then one more) 0 (kids ws e c0 e) j (get_or R₀ j 0)) where
    place-at : (p c : ℕ) (t : Bool) → eqb p 0 ≡ t → cond t one more ≡ place_of k a p
    place-at p c true q = q1 ∙ ap (place_of k a) (sym (eqb-true p 0 q))
    place-at p c false q = q2 ∙ later_all k a p (eqb-false p 0 q)

    placed-is : (j : ℕ) → get_or R j 0 ≡ told_in place 0 (kids ws e c0 e) j (get_or R₀ j 0)
    placed-is j = each j ∙ told-same (first_then one more) place (λ p c. place-at p c (eqb p 0) refl) 0 (kids ws e c0 e) j (get_or R₀ j 0)

    pub marked_none : None ≡ faulty_kid ws e c0 e → (j : ℕ) → get_or R j 0 ≡ told_in (says ws k a e) 0 (kids ws e c0 e) j (get_or R₀ j 0)
    marked_none q j = sym (marks-raised e 0 c0 j (get_or R₀ j 0) ∙ rw (← q) (sym (placed-is j)))

    -- the one at fault has a place, to which 16 can be added
    pub marked-low : (r : ℕ) → Some r ≡ faulty_kid ws e c0 e → (get_or R r 0 < 16) × (r < e)
    marked-low r q = let i = faulty-low e 0 c0 r (get_or R₀ r 0) (sym q) in (omega (arith, placed-is r), (faulty-range e c0 r (sym q)).1)

    set-raised : (r j : ℕ) (t : Bool) → eqb j r ≡ t → r < e → get_or (set R r (get_or R r 0 + 16)) j 0 ≡ cond t (get_or R j 0 + 16) (get_or R j 0)
    set-raised r j true q h = let z : j ≡ r = eqb-true j r q in rw (z) (get_or-set_same R r (get_or R r 0 + 16) 0 (omega arith))
    set-raised r j false q h = get_or-set_other R r j (get_or R r 0 + 16) 0 (eqb-false j r q)

    pub marked_some : (r : ℕ) → Some r ≡ faulty_kid ws e c0 e → (j : ℕ) → get_or (set R r (get_or R r 0 + 16)) j 0 ≡ told_in (says ws k a e) 0 (kids ws e c0 e) j (get_or R₀ j 0)
    marked_some r q j =
        set-raised r j (eqb j r) refl (marked-low r q).1 ∙ sym (marks-raised e 0 c0 j (get_or R₀ j 0) ∙ rw (← q) (ap (λ (x : ℕ). cond (eqb j r) (x + 16) x) (sym (placed-is j))))
