-- A capture more keeps the store. Assumes nothing.
use mathlib.Core.Path.{◌≡◌, refl, ap, sym, subst, ◌∙◌}
use mathlib.Core.List.{List, [], ◌∷◌, ◌++◌}
use Prim.Native.Nat.{ℕ, ◌+◌, ◌*◌, ◌<◌, ◌≤◌}
use mathlib.Core.Logic.{◌⊎◌, inl, inr, ⊎_elim}
use mathlib.Core.Bool.{Bool, true, false, cond, true≢false}
use native.Mathlib.Omega.{arith}
use borrow.Author.Tests.{eqb-true, eqb-false, ne_eqb, eq-eqb}
use lib.Dec.{eqb}
use lib.ListN.{length, drop, get_or, set, length-set, length-append}
use lib.Seq.{get_or-set_same, get_or-set_other}
use Rattle.steps.specs.Bindings.{Binding, Binding.bind}
use Rattle.buckets.specs.Search.{first_where}
use Rattle.bindings.specs.Search.{capture_of, of_class, note_capture}
use Rattle.bindings.specs.Store.{capture_table, bind_at, binds, first_table, last_table, Bare, Store, pushed, captured}
use Rattle.bindings.specs.Post.{Kept, Asked}
use Rattle.buckets.proofs.Searches.{first-other}
use Rattle.bindings.proofs.Arrays.{binds-length, same-binds, pushed_long, pushed-later, pushed-binds}
use Rattle.bindings.proofs.Storing.{bare_snoc, capture_class, capture_other, capture_frame, capture_same, first-kept, last-kept, first-set, behind, old_bind, new_bind, le_cases}

-- A capture more: of `this` (u is 1) or of `arguments` (u is 2), at frame f, which has none yet.
module _ (M : List ℕ) (cap count u f : ℕ) (S : Store M cap count) (low : count + 1 < cap) (fl : f < cap) (one-two : (u ≡ 1) ⊎ (u ≡ 2))
    (none_yet : first_where (capture_of u f) 1 (binds M cap count) ≡ 0) where
  P : List ℕ
  P = pushed M cap (count + 1) u 0 f

  at_table : ℕ
  at_table = cond (eqb u 1) (4 * cap + f) (5 * cap + f)

  table-high : 3 * cap ≤ at_table
  unfolding at_table
  table-high = go (eqb u 1)
    where
      go : (t : Bool) → 3 * cap ≤ cond t (4 * cap + f) (5 * cap + f)
      go true = omega arith
      go false = omega arith

  M' : List ℕ
  unfolding P at_table
  M' = captured M cap (count + 1) u f

  p_long : length P ≡ 12 * cap
  unfolding P
  p_long = pushed_long M cap (count + 1) u 0 f S.long low

  keeps : (j : ℕ) → (j ≡ at_table → ⊥) → get_or M' j 0 ≡ get_or P j 0
  unfolding M' P at_table
  keeps j n = get_or-set_other (pushed M cap (count + 1) u 0 f) (cond (eqb u 1) (4 * cap + f) (5 * cap + f)) j (count + 1) 0 n

  later : (j : ℕ) → 3 * cap ≤ j → (j ≡ at_table → ⊥) → get_or M' j 0 ≡ get_or M j 0
  unfolding P
  later j h n = keeps j n ∙ pushed-later M cap (count + 1) u 0 f S.long low j h

  now : binds M' cap (count + 1) ≡ binds M cap count ++ (bind u 0 f ∷ [])
  unfolding P
  now = same-binds P M' cap (count + 1) low (λ j h. keeps j (λ q. let t = table-high in omega arith)) ∙ pushed-binds M cap count u 0 f S.long low

  -- the table of a use
  table_of : ℕ → ℕ → ℕ
  table_of v g = cond (eqb v 1) (4 * cap + g) (5 * cap + g)

  here : get_or M' at_table 0 ≡ count + 1
  unfolding M' P at_table
  here = get_or-set_same (pushed M cap (count + 1) u 0 f) (cond (eqb u 1) (4 * cap + f) (5 * cap + f)) (count + 1) 0 (go (eqb u 1))
    where
      go : (t : Bool) → cond t (4 * cap + f) (5 * cap + f) < length (pushed M cap (count + 1) u 0 f)
      go true = let l = pushed_long M cap (count + 1) u 0 f S.long low in omega arith
      go false = let l = pushed_long M cap (count + 1) u 0 f S.long low in omega arith

  high : (v g : ℕ) → 3 * cap ≤ table_of v g
  unfolding table_of
  high v g = go (eqb v 1)
    where
      go : (t : Bool) → 3 * cap ≤ cond t (4 * cap + g) (5 * cap + g)
      go true = omega arith
      go false = omega arith

  apart : (v g : ℕ) → g < cap → (eqb u v ≡ false) ⊎ (eqb f g ≡ false) → (v ≡ 1) ⊎ (v ≡ 2) → table_of v g ≡ at_table → ⊥
  unfolding table_of at_table
  apart v g h n (inl q) e = ⊎_elim (λ y. one-one y n)
      (λ y. let k = subst (λ (t : ℕ). cond (eqb t 1) (4 * cap + g) (5 * cap + g) ≡ cond (eqb u 1) (4 * cap + f) (5 * cap + f)) q e in let m : 4 * cap + g ≡ 5 * cap + f = subst (λ (t : ℕ). 4 * cap + g ≡ cond (eqb t 1)
      (4 * cap + f) (5 * cap + f)) y k in omega arith)
      one-two
    where
      one-one : u ≡ 1 → (eqb u v ≡ false) ⊎ (eqb f g ≡ false) → ⊥
      one-one y (inl z) = eqb-false u v z (y ∙ sym q)
      one-one y (inr z) =
          let k = subst (λ (t : ℕ). cond (eqb t 1) (4 * cap + g) (5 * cap + g) ≡ cond (eqb u 1) (4 * cap + f) (5 * cap + f)) q e in
          let m : 4 * cap + g ≡ 4 * cap + f = subst (λ (t : ℕ). 4 * cap + g ≡ cond (eqb t 1) (4 * cap + f) (5 * cap + f)) y k in
          eqb-false f g z (omega arith)
  apart v g h n (inr q) e = ⊎_elim
      (λ y. let k = subst (λ (t : ℕ). cond (eqb t 1) (4 * cap + g) (5 * cap + g) ≡ cond (eqb u 1) (4 * cap + f) (5 * cap + f)) q e in let m : 5 * cap + g ≡ 4 * cap + f = subst (λ (t : ℕ). 5 * cap + g ≡ cond (eqb t 1)
      (4 * cap + f) (5 * cap + f)) y k in omega arith)
      (λ y. two-two y n) one-two
    where
      two-two : u ≡ 2 → (eqb u v ≡ false) ⊎ (eqb f g ≡ false) → ⊥
      two-two y (inl z) = eqb-false u v z (y ∙ sym q)
      two-two y (inr z) =
          let k = subst (λ (t : ℕ). cond (eqb t 1) (4 * cap + g) (5 * cap + g) ≡ cond (eqb u 1) (4 * cap + f) (5 * cap + f)) q e in
          let m : 5 * cap + g ≡ 5 * cap + f = subst (λ (t : ℕ). 5 * cap + g ≡ cond (eqb t 1) (4 * cap + f) (5 * cap + f)) y k in
          eqb-false f g z (omega arith)

  -- the captures' tables
  table : (v g : ℕ) → g < cap → (v ≡ 1) ⊎ (v ≡ 2) → get_or M (table_of v g) 0 ≡ first_where (capture_of v g) 1 (binds M cap count) → get_or M' (table_of v g) 0 ≡ first_where (capture_of v g) 1 (binds M' cap (count + 1))
  table v g h which old = go (eqb u v) (eqb f g) refl refl
    where
      go : (s t : Bool) → eqb u v ≡ s → eqb f g ≡ t → get_or M' (table_of v g) 0 ≡ first_where (capture_of v g) 1 (binds M' cap (count + 1))
      go true true a b =
          let qv : u ≡ v = eqb-true u v a in
          let qg : f ≡ g = eqb-true f g b in
          subst (λ (w : ℕ). get_or M' (table_of w g) 0 ≡ first_where (capture_of w g) 1 (binds M' cap (count + 1))) qv
          (subst (λ (w : ℕ). get_or M' (table_of u w) 0 ≡ first_where (capture_of u w) 1 (binds M' cap (count + 1))) qg
          (first-set M M' cap count u 0 f S low now (capture_of u f) (table_of u f) (unfold table_of at_table in here) none_yet (capture_same u f 0)))
      go false t a b = first-kept M M' cap count u 0 f S low now (capture_of v g) (table_of v g) (later (table_of v g) (high v g) (apart v g h (inl a) which)) old (capture_other v g u 0 f a)
      go true false a b = first-kept M M' cap count u 0 f S low now (capture_of v g) (table_of v g) (later (table_of v g) (high v g) (apart v g h (inr b) which)) old (capture_frame v g u 0 f b)

  no_class : (param : Bool) (g : ℕ) → of_class param g (bind u 0 f) ≡ false
  no_class param g = ⊎_elim (λ q. subst (λ (t : ℕ). of_class param g (bind t 0 f) ≡ false) (sym q) (capture_class param g 1 0 f refl refl)) (λ q. subst (λ (t : ℕ). of_class param g (bind t 0 f) ≡ false) (sym q)
      (capture_class param g 2 0 f refl refl)) one-two

  below : at_table < 6 * cap
  unfolding at_table
  below = go (eqb u 1)
    where
      go : (t : Bool) → cond t (4 * cap + f) (5 * cap + f) < 6 * cap
      go true = omega arith
      go false = omega arith

  four : 4 * cap ≤ at_table
  unfolding at_table
  four = go (eqb u 1)
    where
      go : (t : Bool) → 4 * cap ≤ cond t (4 * cap + f) (5 * cap + f)
      go true = omega arith
      go false = omega arith

  first-high : (param : Bool) (g : ℕ) → 6 * cap ≤ first_table param cap g
  first-high true g = omega arith
  first-high false g = omega arith

  last-high : (param : Bool) (g : ℕ) → 6 * cap ≤ last_table param cap g
  last-high true g = omega arith
  last-high false g = omega arith

  far : (j : ℕ) → 6 * cap ≤ j → get_or M' j 0 ≡ get_or M j 0
  far j h = later j (omega arith) (λ q. let b = below in omega arith)

  near : (j : ℕ) → 3 * cap ≤ j → j < 4 * cap → get_or M' j 0 ≡ get_or M j 0
  near j h l = later j h (λ q. let b = four in omega arith)

  next_old : (param : Bool) (g b : ℕ) → 0 < b → b ≤ count → of_class param g (bind_at M' cap b) ≡ true → get_or M' (3 * cap + b) 0 ≡ first_where (of_class param g) (b + 1) (drop b (binds M' cap (count + 1)))
  next_old param g b p l e =
      near (3 * cap + b) (omega arith) (omega arith)
      ∙ S.nexts param g b p l (ap (of_class param g) (sym (old_bind M M' cap count u 0 f S low now b p l)) ∙ e)
      ∙ sym (behind M M' cap count u 0 f S low now (of_class param g) b l ∙ first-other (of_class param g) (b + 1) (drop b (binds M cap count)) (bind u 0 f) (omega arith) (no_class param g))

  pub store_captured : Store (captured M cap (count + 1) u f) cap (count + 1)
  unfolding table_of M' P at_table
  store_captured = record {
    long = long;
    room = low;
    bare = subst Bare (sym now) (bare_snoc (binds M cap count) u 0 f S.bare (λ q. refl));
    this = λ g h. table 1 g h (inl refl) (S.this g h);
    arguments = λ g h. table 2 g h (inr refl) (S.arguments g h);
    firsts = λ param g h. first-kept M M' cap count u 0 f S low now (of_class param g) (first_table param cap g) (far (first_table param cap g) (first-high param g)) (S.firsts param g h) (no_class param g);
    lasts = λ param g h. last-kept M M' cap count u 0 f S low now (of_class param g) (last_table param cap g) (far (last_table param cap g) (last-high param g)) (S.lasts param g h) (no_class param g);
    nexts = λ param g b p l e. ⊎_elim (λ o. next_old param g b p o e)
        (λ q. absurd (true≢false (sym e ∙ ap (of_class param g) (ap (bind_at M' cap) q ∙ new_bind M M' cap count u 0 f S low now) ∙ no_class param g))) (le_cases b count l);
    fresh = λ b l h. near (3 * cap + b) (omega arith) (omega arith) ∙ S.fresh b (omega arith) h;
  }
    where
      long : length M' ≡ 12 * cap
      long = unfold M' in simp length-set S.long

  pub binds-captured : binds (captured M cap (count + 1) u f) cap (count + 1) ≡ binds M cap count ++ (bind u 0 f ∷ [])
  unfolding M'
  binds-captured = now

-- a list with the capture, by whether there is one
pub captured-none : (u f : ℕ) (bs : List Binding) → first_where (capture_of u f) 1 bs ≡ 0 → note_capture u f bs ≡ bs ++ (bind u 0 f ∷ [])
unfolding note_capture
captured-none u f bs e = rw (eq-eqb _ _ e)

pub captured-some : (u f : ℕ) (bs : List Binding) → (first_where (capture_of u f) 1 bs ≡ 0 → ⊥) → note_capture u f bs ≡ bs
unfolding note_capture
captured-some u f bs e = rw (ne_eqb _ _ e)

pub one_or_two : (u : ℕ) → 0 < u → u ≤ 2 → (u ≡ 1) ⊎ (u ≡ 2)
one_or_two u a b = go (eqb u 1) refl
  where
    go : (t : Bool) → eqb u 1 ≡ t → (u ≡ 1) ⊎ (u ≡ 2)
    go true q = inl (eqb-true u 1 q)
    go false q = let n = eqb-false u 1 q in inr (omega arith)

-- the table of a use
pub table_is : (M : List ℕ) (cap count u f : ℕ) → Store M cap count → f < cap → (u ≡ 1) ⊎ (u ≡ 2) → get_or M (capture_table cap u f) 0 ≡ first_where (capture_of u f) 1 (binds M cap count)
table_is M cap count u f S h (inl q) = subst (λ (v : ℕ). get_or M (capture_table cap v f) 0 ≡ first_where (capture_of v f) 1 (binds M cap count)) (sym q) (S.this f h)
table_is M cap count u f S h (inr q) = subst (λ (v : ℕ). get_or M (capture_table cap v f) 0 ≡ first_where (capture_of v f) 1 (binds M cap count)) (sym q) (S.arguments f h)

-- the operation, by what the table says
module _ (M : List ℕ) (cap count u f : ℕ) (A : Asked M cap f count (note_capture u f (binds M cap count))) (pos : 0 < u) (two : u ≤ 2) (t : ℕ) (qt : t ≡ capture_table cap u f) where
  known : get_or M t 0 ≡ first_where (capture_of u f) 1 (binds M cap count)
  known = ap (λ (j : ℕ). get_or M j 0) qt ∙ table_is M cap count u f A.store A.row_low (one_or_two u pos two)

  pub capture_kept : (get_or M t 0 ≡ 0 → ⊥) → Kept M cap (note_capture u f (binds M cap count)) count
  capture_kept n = record { store = A.store; list = sym (captured-some u f (binds M cap count) (λ z. n (known ∙ z))) }

  pub capture_room : get_or M t 0 ≡ 0 → count + 1 < cap
  capture_room z =
      let e = captured-none u f (binds M cap count) (sym known ∙ z) in
      let l = A.room in
      let k = ap length e in
      omega (arith, length-append (binds M cap count) (bind u 0 f ∷ []), binds-length M cap 1 count)

  pub capture_new : get_or M t 0 ≡ 0 → (M' : List ℕ) → M' ≡ set (pushed M cap (count + 1) u 0 f) t (count + 1) → Kept M' cap (note_capture u f (binds M cap count)) (count + 1)
  capture_new z M' q =
      let e = captured-none u f (binds M cap count) (sym known ∙ z) in
      let S' = store_captured M cap count u f A.store (capture_room z) A.row_low (one_or_two u pos two) (sym known ∙ z) in
      let B' = binds-captured M cap count u f A.store (capture_room z) A.row_low (one_or_two u pos two) (sym known ∙ z) in
      let q' : M' ≡ captured M cap (count + 1) u f = q ∙ ap (λ (j : ℕ). set (pushed M cap (count + 1) u 0 f) j (count + 1)) qt in
      subst (λ (X : List ℕ). Kept X cap (note_capture u f (binds M cap count)) (count + 1)) (sym q') (record { store = S'; list = B' ∙ sym e })
