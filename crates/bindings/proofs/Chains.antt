-- A chained binding more keeps the store: an accessor behind the last accessor of its frame, a parameter behind the last parameter. Assumes nothing.
use mathlib.Core.Path.{◌≡◌, refl, ap, sym, subst, ◌∙◌}
use mathlib.Core.List.{List, [], ◌∷◌, ◌++◌}
use Prim.Native.Nat.{ℕ, suc, ◌+◌, ◌*◌, ◌-◌, ◌<◌, ◌≤◌}
use mathlib.Core.Logic.{◌⊎◌, inl, inr, ⊎_elim}
use mathlib.Core.Bool.{Bool, true, false, cond, ◌||◌, true≢false, false≢true}
use native.Mathlib.Omega.{arith}
use borrow.Author.Tests.{eqb-true, eqb-false, ne_eqb, eq-eqb}
use lib.Dec.{eqb}
use lib.ListN.{length, drop, get_or, set, length-set, length-drop}
use lib.Seq.{get_or-set_same, get_or-set_other}
use Rattle.steps.specs.Bindings.{Binding, Binding.bind}
use Rattle.buckets.specs.Search.{first_where, last_where}
use Rattle.bindings.specs.Search.{capture_of, is_accessor, is_param, of_class}
use Rattle.bindings.specs.Store.{bind_at, binds, first_table, last_table, Bare, Store, pushed, chained}
use Rattle.bindings.specs.Post.{Kept}
use Rattle.buckets.proofs.Searches.{first-other, first_new, first-stays, none_alike, last_in, last-holds, chain_end}
use Rattle.bindings.proofs.Arrays.{binds-length, binds-at, same-binds, pushed_long, pushed-later, pushed-binds}
use Rattle.bindings.proofs.Storing.{first_range, last-range, bare_snoc, drop-none, first-kept, last-kept, first-set, last_set, behind, old_bind, le_cases}
use Rattle.names.proofs.Bools.{and_parts}

-- an accessor is no parameter, and each binding has one frame
uses_apart : (u : ℕ) → is_param u ≡ true → is_accessor u ≡ true → ⊥
uses_apart u p a = go (eqb u 5) refl p
  where
    no-five : u ≡ 5 → ⊥
    no-five q = true≢false (sym a ∙ ap is_accessor q)

    no_six : u ≡ 6 → ⊥
    no_six q = true≢false (sym a ∙ ap is_accessor q)

    go : (t : Bool) → eqb u 5 ≡ t → (t || eqb u 6) ≡ true → ⊥
    go true q h = no-five (eqb-true u 5 q)
    go false q h = no_six (eqb-true u 6 h)

pub class_one : (param param' : Bool) (g g' : ℕ) (b : Binding) → of_class param g b ≡ true → of_class param' g' b ≡ true → (param ≡ param') × (g ≡ g')
unfolding of_class
class_one param param' g g' (bind u x f) h k =
    let p = and_parts (eqb f g) _ h in
    let q = and_parts (eqb f g') _ k in
    (same param param' p.1 q.1, sym (eqb-true f g p.0) ∙ eqb-true f g' q.0)
  where
    same : (s t : Bool) → cond s (is_param u) (is_accessor u) ≡ true → cond t (is_param u) (is_accessor u) ≡ true → s ≡ t
    same true true h k = refl
    same false false h k = refl
    same true false h k = absurd (uses_apart u h k)
    same false true h k = absurd (uses_apart u k h)

module _ (M : List ℕ) (cap count u x f : ℕ) (S : Store M cap count) (low : count + 1 < cap) (fl : f < cap) (param : Bool) (mine : of_class param f (bind u x f) ≡ true)
    (no_capture : (v g : ℕ) → v ≤ 2 → capture_of v g (bind u x f) ≡ false) (no-low : u ≤ 2 → ⊥) where
  abbrev P : List ℕ
  P = pushed M cap (count + 1) u x f

  abbrev bs : List Binding
  bs = binds M cap count

  abbrev r : Binding
  r = bind u x f

  abbrev fi : ℕ
  fi = first_table param cap f

  abbrev la : ℕ
  la = last_table param cap f

  fi_in : (6 * cap ≤ fi) × (fi < 10 * cap)
  fi_in = first_range param cap f fl

  la_in : (7 * cap ≤ la) × (la < 10 * cap)
  la_in = last-range param cap f fl

  p_long : length P ≡ 12 * cap
  p_long = pushed_long M cap (count + 1) u x f S.long low

  p_later : (j : ℕ) → 3 * cap ≤ j → get_or P j 0 ≡ get_or M j 0
  p_later = pushed-later M cap (count + 1) u x f S.long low

  -- the last of the chain
  L : ℕ
  L = get_or P la 0

  last-is : L ≡ last_where (of_class param f) 1 bs
  unfolding L
  last-is = let h = la_in in p_later la (omega arith) ∙ S.lasts param f fl

  L-in : eqb L 0 ≡ false → (1 ≤ L) × (L ≤ count)
  L-in e =
      let k = last_in (of_class param f) 1 bs (omega arith) (sym (ap (λ (n : ℕ). eqb n 0) last-is) ∙ e) in
      let l = binds-length M cap 1 count in
      let q = last-is in
      (omega arith, omega arith)

  L-mine : eqb L 0 ≡ false → of_class param f (bind_at M cap L) ≡ true
  L-mine e =
      let d : Binding = bind 0 0 0 in
      let k = L-in e in
      let q : 1 + (L - 1) ≡ L = omega arith in
      let h : of_class param f (get_or bs (last_where (of_class param f) 1 bs - 1) d) ≡ true = last-holds (of_class param f) 1 bs d (omega arith) (sym (ap (λ (n : ℕ). eqb n 0) last-is) ∙ e) in
      sym (ap (of_class param f) (binds-at M cap 1 count (L - 1) d (omega arith) ∙ ap (bind_at M cap) q))
      ∙ ap (λ (n : ℕ). of_class param f (get_or bs (n - 1) d)) last-is ∙ h

  -- where the number is stored beside the table of lasts
  I : ℕ
  I = cond (eqb L 0) fi (3 * cap + L)

  I-in : I < 10 * cap
  unfolding I
  I-in = go (eqb L 0) refl
    where
      go : (t : Bool) → eqb L 0 ≡ t → cond t fi (3 * cap + L) < 10 * cap
      go true q = fi_in.1
      go false q = let k = L-in q in omega arith

  I-off : (j : ℕ) → 3 * cap ≤ I
  unfolding I
  I-off j = go (eqb L 0) refl
    where
      go : (t : Bool) → eqb L 0 ≡ t → 3 * cap ≤ cond t fi (3 * cap + L)
      go true q = let h = fi_in in omega arith
      go false q = omega arith

  I-none : eqb L 0 ≡ true → I ≡ fi
  unfolding I
  I-none e = rw e

  I-some : eqb L 0 ≡ false → I ≡ 3 * cap + L
  unfolding I
  I-some e = rw e

  M' : List ℕ
  M' = chained P cap param f (count + 1)

  shape : M' ≡ set (set P I (count + 1)) la (count + 1)
  unfolding M' I L
  shape = refl

  long : length M' ≡ 12 * cap
  long = ap length shape ∙ simp length-set S.long

  keeps : (j : ℕ) → (j ≡ I → ⊥) → (j ≡ la → ⊥) → get_or M' j 0 ≡ get_or P j 0
  keeps j n m = ap (λ (l : List ℕ). get_or l j 0) shape ∙ get_or-set_other (set P I (count + 1)) la j (count + 1) 0 m ∙ get_or-set_other P I j (count + 1) 0 n

  at_last : get_or M' la 0 ≡ count + 1
  at_last = ap (λ (l : List ℕ). get_or l la 0) shape ∙ get_or-set_same (set P I (count + 1)) la (count + 1) 0 (let l = p_long in let k = length-set P I (count + 1) in let h = la_in in omega arith)

  at_I : (I ≡ la → ⊥) → get_or M' I 0 ≡ count + 1
  at_I n = ap (λ (l : List ℕ). get_or l I 0) shape ∙ get_or-set_other (set P I (count + 1)) la I (count + 1) 0 n ∙ get_or-set_same P I (count + 1) 0 (let l = p_long in let h = I-in in omega arith)

  later : (j : ℕ) → 3 * cap ≤ j → (j ≡ I → ⊥) → (j ≡ la → ⊥) → get_or M' j 0 ≡ get_or M j 0
  later j h n m = keeps j n m ∙ p_later j h

  now : binds M' cap (count + 1) ≡ bs ++ (r ∷ [])
  now = same-binds P M' cap (count + 1) low (λ j h. keeps j (λ q. let t = I-off j in omega arith) (λ q. let t = la_in in omega arith)) ∙ pushed-binds M cap count u x f S.long low

  -- the tables of captures stand between
  mid : (j : ℕ) → 4 * cap ≤ j → j < 6 * cap → get_or M' j 0 ≡ get_or M j 0
  unfolding I
  mid j h l = later j (omega arith) (λ q. go (eqb L 0) refl q) (λ q. let t = la_in in omega arith)
    where
      go : (t : Bool) → eqb L 0 ≡ t → j ≡ cond t fi (3 * cap + L) → ⊥
      go true e q = let k = fi_in in omega arith
      go false e q = let k = L-in e in omega arith

  -- another chain's tables
  first-apart : (s : Bool) (g : ℕ) → g < cap → (s ≡ param → g ≡ f → ⊥) → first_table s cap g ≡ fi → ⊥
  first-apart s g h n e = go s param refl refl
    where
      go : (a b : Bool) → s ≡ a → param ≡ b → ⊥
      go true true qa qb = let k : 8 * cap + g ≡ 8 * cap + f = subst (λ (t : Bool). first_table t cap g ≡ 8 * cap + f) qa (subst (λ (t : Bool). first_table s cap g ≡ first_table t cap f) qb e) in n (qa ∙ sym qb) (omega arith)
      go false false qa qb = let k : 6 * cap + g ≡ 6 * cap + f = subst (λ (t : Bool). first_table t cap g ≡ 6 * cap + f) qa (subst (λ (t : Bool). first_table s cap g ≡ first_table t cap f) qb e) in n (qa ∙ sym qb) (omega arith)
      go true false qa qb = let k : 8 * cap + g ≡ 6 * cap + f = subst (λ (t : Bool). first_table t cap g ≡ 6 * cap + f) qa (subst (λ (t : Bool). first_table s cap g ≡ first_table t cap f) qb e) in omega arith
      go false true qa qb = let k : 6 * cap + g ≡ 8 * cap + f = subst (λ (t : Bool). first_table t cap g ≡ 8 * cap + f) qa (subst (λ (t : Bool). first_table s cap g ≡ first_table t cap f) qb e) in omega arith

  last_apart : (s : Bool) (g : ℕ) → g < cap → (s ≡ param → g ≡ f → ⊥) → last_table s cap g ≡ la → ⊥
  last_apart s g h n e = go s param refl refl
    where
      go : (a b : Bool) → s ≡ a → param ≡ b → ⊥
      go true true qa qb = let k : 9 * cap + g ≡ 9 * cap + f = subst (λ (t : Bool). last_table t cap g ≡ 9 * cap + f) qa (subst (λ (t : Bool). last_table s cap g ≡ last_table t cap f) qb e) in n (qa ∙ sym qb) (omega arith)
      go false false qa qb = let k : 7 * cap + g ≡ 7 * cap + f = subst (λ (t : Bool). last_table t cap g ≡ 7 * cap + f) qa (subst (λ (t : Bool). last_table s cap g ≡ last_table t cap f) qb e) in n (qa ∙ sym qb) (omega arith)
      go true false qa qb = let k : 9 * cap + g ≡ 7 * cap + f = subst (λ (t : Bool). last_table t cap g ≡ 7 * cap + f) qa (subst (λ (t : Bool). last_table s cap g ≡ last_table t cap f) qb e) in omega arith
      go false true qa qb = let k : 7 * cap + g ≡ 9 * cap + f = subst (λ (t : Bool). last_table t cap g ≡ 9 * cap + f) qa (subst (λ (t : Bool). last_table s cap g ≡ last_table t cap f) qb e) in omega arith

  first-last : (s t : Bool) (g h : ℕ) → g < cap → h < cap → first_table s cap g ≡ last_table t cap h → ⊥
  first-last true true g h a b e = omega arith
  first-last true false g h a b e = omega arith
  first-last false true g h a b e = omega arith
  first-last false false g h a b e = omega arith

  other_class : (s : Bool) (g : ℕ) → (s ≡ param → g ≡ f → ⊥) → of_class s g r ≡ false
  other_class s g n = go (of_class s g r) refl
    where
      go : (t : Bool) → of_class s g r ≡ t → t ≡ false
      go true q = let k = class_one s param g f r q mine in absurd (n k.0 k.1)
      go false q = refl

  not_I_first : (s : Bool) (g : ℕ) → g < cap → (s ≡ param → g ≡ f → ⊥) → first_table s cap g ≡ I → ⊥
  unfolding I
  not_I_first s g h n e = go (eqb L 0) refl e
    where
      go : (t : Bool) → eqb L 0 ≡ t → first_table s cap g ≡ cond t fi (3 * cap + L) → ⊥
      go true q e = first-apart s g h n e
      go false q e = let k = L-in q in let m = first_range s cap g h in omega arith

  not_I_last : (s : Bool) (g : ℕ) → g < cap → last_table s cap g ≡ I → ⊥
  unfolding I
  not_I_last s g h e = go (eqb L 0) refl e
    where
      go : (t : Bool) → eqb L 0 ≡ t → last_table s cap g ≡ cond t fi (3 * cap + L) → ⊥
      go true q e = first-last param s f g fl h (sym e)
      go false q e = let k = L-in q in let m = last-range s cap g h in omega arith

  -- is it this chain
  same_chain : (s : Bool) (g : ℕ) → ((s ≡ param) × (g ≡ f)) ⊎ (s ≡ param → g ≡ f → ⊥)
  same_chain s g = go (eqb g f) refl s param refl refl
    where
      go : (t : Bool) → eqb g f ≡ t → (a b : Bool) → s ≡ a → param ≡ b → ((s ≡ param) × (g ≡ f)) ⊎ (s ≡ param → g ≡ f → ⊥)
      go false q a b qa qb = inr (λ x y. eqb-false g f q y)
      go true q true true qa qb = inl (qa ∙ sym qb, eqb-true g f q)
      go true q false false qa qb = inl (qa ∙ sym qb, eqb-true g f q)
      go true q true false qa qb = inr (λ x y. true≢false (sym qa ∙ x ∙ qb))
      go true q false true qa qb = inr (λ x y. false≢true (sym qa ∙ x ∙ qb))

  none_first : eqb L 0 ≡ true → first_where (of_class param f) 1 bs ≡ 0
  none_first e = eqb-true _ _ (none_alike (of_class param f) 1 bs (omega arith) ∙ sym (ap (λ (n : ℕ). eqb n 0) last-is) ∙ e)

  some_first : eqb L 0 ≡ false → eqb (first_where (of_class param f) 1 bs) 0 ≡ false
  some_first e = none_alike (of_class param f) 1 bs (omega arith) ∙ sym (ap (λ (n : ℕ). eqb n 0) last-is) ∙ e

  mine_first : get_or M' fi 0 ≡ first_where (of_class param f) 1 (binds M' cap (count + 1))
  unfolding I
  mine_first = go (eqb L 0) refl
    where
      go : (t : Bool) → eqb L 0 ≡ t → get_or M' fi 0 ≡ first_where (of_class param f) 1 (binds M' cap (count + 1))
      go true e =
          let q : I ≡ fi = I-none e in
          first-set M M' cap count u x f S low now (of_class param f) fi (ap (λ (j : ℕ). get_or M' j 0) (sym q) ∙ at_I (λ w. first-last param param f f fl fl (sym q ∙ w))) (none_first e) mine
      go false e =
          let q : I ≡ 3 * cap + L = I-some e in
          let k = L-in e in
          let h = fi_in in
          later fi (omega arith) (λ w. omega arith) (first-last param param f f fl fl) ∙ S.firsts param f fl
          ∙ sym (ap (first_where (of_class param f) 1) now ∙ first-stays (of_class param f) 1 bs r (omega arith) (some_first e))

  firsts' : (s : Bool) (g : ℕ) → g < cap → get_or M' (first_table s cap g) 0 ≡ first_where (of_class s g) 1 (binds M' cap (count + 1))
  firsts' s g h = ⊎_elim
      (λ q. subst (λ (w : ℕ). get_or M' (first_table s cap w) 0 ≡ first_where (of_class s w) 1 (binds M' cap (count + 1))) (sym q.1) (subst (λ (t : Bool). get_or M' (first_table t cap f) 0 ≡ first_where
      (of_class t f) 1 (binds M' cap (count + 1))) (sym q.0) mine_first))
      (λ n. let m = first_range s cap g h in first-kept M M' cap count u x f S low now (of_class s g) (first_table s cap g) (later (first_table s cap g) (omega arith) (not_I_first s g h n)
      (first-last s param g f h fl)) (S.firsts s g h) (other_class s g n))
      (same_chain s g)

  lasts' : (s : Bool) (g : ℕ) → g < cap → get_or M' (last_table s cap g) 0 ≡ last_where (of_class s g) 1 (binds M' cap (count + 1))
  lasts' s g h = ⊎_elim
      (λ q. subst (λ (w : ℕ). get_or M' (last_table s cap w) 0 ≡ last_where (of_class s w) 1 (binds M' cap (count + 1))) (sym q.1) (subst (λ (t : Bool). get_or M' (last_table t cap f) 0 ≡ last_where (of_class t f) 1
      (binds M' cap (count + 1))) (sym q.0) (last_set M M' cap count u x f S low now (of_class param f) la at_last mine)))
      (λ n. let m = last-range s cap g h in last-kept M M' cap count u x f S low now (of_class s g) (last_table s cap g) (later (last_table s cap g) (omega arith) (not_I_last s g h) (last_apart s g h n)) (S.lasts s g h) (other_class s g n))
      (same_chain s g)

  -- a next that is not touched
  next-at : (b : ℕ) → b < cap → (b ≡ L → eqb L 0 ≡ false → ⊥) → get_or M' (3 * cap + b) 0 ≡ get_or M (3 * cap + b) 0
  unfolding I
  next-at b h n = later (3 * cap + b) (omega arith) (λ q. go (eqb L 0) refl q) (λ q. let t = la_in in omega arith)
    where
      go : (t : Bool) → eqb L 0 ≡ t → 3 * cap + b ≡ cond t fi (3 * cap + L) → ⊥
      go true e q = let k = fi_in in omega arith
      go false e q = n (omega arith) e

  abbrev Next : Bool → ℕ → ℕ → Type 0
  Next s g b = get_or M' (3 * cap + b) 0 ≡ first_where (of_class s g) (b + 1) (drop b (binds M' cap (count + 1)))

  -- the end of the chain, as the old list has it
  ends : (b : ℕ) → 0 < b → b ≤ count → of_class param f (bind_at M cap b) ≡ true
      → (first_where (of_class param f) (b + 1) (drop b bs) ≡ 0 → L ≡ b) × (L ≡ b → first_where (of_class param f) (b + 1) (drop b bs) ≡ 0)
  ends b p l e =
      let d : Binding = bind 0 0 0 in
      let q : 1 + (b - 1) ≡ b = omega arith in
      let s : suc (b - 1) ≡ b = omega arith in
      let t : 1 + (b - 1) + 1 ≡ b + 1 = omega arith in
      let k = chain_end (of_class param f) 1 (b - 1) bs d (omega arith) (let n = binds-length M cap 1 count in omega arith) (ap (of_class param f) (binds-at M cap 1 count (b - 1) d (omega arith) ∙ ap (bind_at M cap) q) ∙ e) in (
        (λ z. last-is ∙ k.0 (ap (λ (n : ℕ). first_where (of_class param f) n (drop (suc (b - 1)) bs)) t ∙ ap (λ (n : ℕ). first_where (of_class param f) (b + 1) (drop n bs)) s ∙ z) ∙ q),
        (λ z. sym (ap (λ (n : ℕ). first_where (of_class param f) n (drop (suc (b - 1)) bs)) t ∙ ap (λ (n : ℕ). first_where (of_class param f) (b + 1) (drop n bs)) s) ∙ k.1 (sym last-is ∙ z ∙ sym q)),
      )

  next_mine : (b : ℕ) → 0 < b → b ≤ count → of_class param f (bind_at M cap b) ≡ true → Next param f b
  next_mine b p l e = go (eqb L b) refl
    where
      old : get_or M (3 * cap + b) 0 ≡ first_where (of_class param f) (b + 1) (drop b bs)
      old = S.nexts param f b p l e

      go : (t : Bool) → eqb L b ≡ t → Next param f b
      go true q =
          let lb : L ≡ b = eqb-true L b q in
          let nz : eqb L 0 ≡ false = ne_eqb L 0 (λ w. omega arith) in
          let i : I ≡ 3 * cap + L = I-some nz in
          let ib : 3 * cap + b ≡ I = omega arith in
          let n = binds-length M cap 1 count in
          let dl = length-drop b bs in
          ap (λ (j : ℕ). get_or M' j 0) ib ∙ at_I (λ w. let h = la_in in omega arith)
          ∙ sym (behind M M' cap count u x f S low now (of_class param f) b l ∙ first_new (of_class param f) (b + 1) (drop b bs) r (omega arith) mine ((ends b p l e).1 lb) ∙ omega arith)
      go false q =
          next-at b (omega arith) (λ w z. eqb-false L b q (sym w)) ∙ old
          ∙ sym (behind M M' cap count u x f S low now (of_class param f) b l ∙ first-stays (of_class param f) (b + 1) (drop b bs) r (omega arith) (ne_eqb _ 0 (λ z. eqb-false L b q ((ends b p l e).0 z))))

  next-other : (s : Bool) (g b : ℕ) → (s ≡ param → g ≡ f → ⊥) → 0 < b → b ≤ count → of_class s g (bind_at M cap b) ≡ true → Next s g b
  next-other s g b n p l e =
      next-at b (omega arith) (λ w z. let k = class_one s param g f (bind_at M cap b) e (ap (λ (j : ℕ). of_class param f (bind_at M cap j)) w ∙ L-mine z) in n k.0 k.1)
      ∙ S.nexts s g b p l e
      ∙ sym (behind M M' cap count u x f S low now (of_class s g) b l ∙ first-other (of_class s g) (b + 1) (drop b bs) r (omega arith) (other_class s g n))

  next_last : (s : Bool) (g : ℕ) → Next s g (count + 1)
  unfolding first_where
  next_last s g =
      next-at (count + 1) low (λ w z. let k = L-in z in omega arith) ∙ S.fresh (count + 1) (omega arith) low
      ∙ sym (ap (λ (k : List Binding). first_where (of_class s g) (count + 1 + 1) (drop (count + 1) k)) now ∙ ap (first_where (of_class s g) (count + 1 + 1)) (drop-none M cap count r))

  nexts' : (s : Bool) (g b : ℕ) → 0 < b → b ≤ count + 1 → of_class s g (bind_at M' cap b) ≡ true → Next s g b
  nexts' s g b p l e = ⊎_elim
      (λ o. let e' : of_class s g (bind_at M cap b) ≡ true = ap (of_class s g) (sym (old_bind M M' cap count u x f S low now b p o)) ∙ e in
      ⊎_elim
      (λ q. subst (λ (w : ℕ). Next s w b) (sym q.1) (subst (λ (t : Bool). Next t f b) (sym q.0) (next_mine b p o (subst (λ (t : Bool). of_class t f (bind_at M cap b) ≡ true) q.0 (subst (λ (w : ℕ). of_class s w (bind_at M cap b) ≡ true) q.1 e')))))
      (λ n. next-other s g b n p o e')
      (same_chain s g))
      (λ q. subst (Next s g) (sym q) (next_last s g))
      (le_cases b count l)

  pub store_chained : Store (chained P cap param f (count + 1)) cap (count + 1)
  unfolding M'
  store_chained = record {
    long = long;
    room = low;
    bare = subst Bare (sym now) (bare_snoc bs u x f S.bare (λ q. absurd (no-low q)));
    this = λ g h. first-kept M M' cap count u x f S low now (capture_of 1 g) (4 * cap + g) (mid (4 * cap + g) (omega arith) (omega arith)) (S.this g h) (no_capture 1 g (omega arith));
    arguments = λ g h. first-kept M M' cap count u x f S low now (capture_of 2 g) (5 * cap + g) (mid (5 * cap + g) (omega arith) (omega arith)) (S.arguments g h) (no_capture 2 g (omega arith));
    firsts = firsts';
    lasts = lasts';
    nexts = nexts';
    fresh = λ b l h. next-at b h (λ w z. let k = L-in z in omega arith) ∙ S.fresh b (omega arith) h;
  }

  pub binds-chained : binds (chained P cap param f (count + 1)) cap (count + 1) ≡ binds M cap count ++ (bind u x f ∷ [])
  unfolding M'
  binds-chained = now

  -- the last of the chain is a binding's number, or 0
  pub last-low : get_or (pushed M cap (count + 1) u x f) (last_table param cap f) 0 < cap
  unfolding L
  last-low = go (eqb L 0) refl
    where
      go : (t : Bool) → eqb L 0 ≡ t → get_or (pushed M cap (count + 1) u x f) (last_table param cap f) 0 < cap
      go true q = let z : get_or (pushed M cap (count + 1) u x f) (last_table param cap f) 0 ≡ 0 = eqb-true _ 0 (unfold L in q) in omega arith
      go false q = let k = L-in q in unfold L in omega arith

-- what a use says of its class
param_class : (u x f : ℕ) (param : Bool) → cond param (is_param u) (is_accessor u) ≡ true → of_class param f (bind u x f) ≡ true
unfolding of_class
param_class u x f param h = rw (eq-eqb f f refl) h

use_high : (u : ℕ) (param : Bool) → cond param (is_param u) (is_accessor u) ≡ true → u ≤ 2 → ⊥
use_high u true h l = go (eqb u 5) refl h
  where
    go : (t : Bool) → eqb u 5 ≡ t → (t || eqb u 6) ≡ true → ⊥
    go true q e = let k = eqb-true u 5 q in omega arith
    go false q e = let k = eqb-true u 6 e in omega arith
use_high u false h l = go (eqb u 3) refl h
  where
    go : (t : Bool) → eqb u 3 ≡ t → (t || eqb u 4) ≡ true → ⊥
    go true q e = let k = eqb-true u 3 q in omega arith
    go false q e = let k = eqb-true u 4 e in omega arith

no_captured : (u x f : ℕ) (param : Bool) → cond param (is_param u) (is_accessor u) ≡ true → (v g : ℕ) → v ≤ 2 → capture_of v g (bind u x f) ≡ false
unfolding capture_of
no_captured u x f param h v g l = rw (ne_eqb u v (λ q. use_high u param h (omega arith)))

-- A chained binding more, as the code adds it.
module _ (M : List ℕ) (cap count u x f : ℕ) (S : Store M cap count) (low : count + 1 < cap) (fl : f < cap) (param : Bool) (mine : cond param (is_param u) (is_accessor u) ≡ true) where
  pub add_low : get_or (pushed M cap (count + 1) u x f) (last_table param cap f) 0 < cap
  add_low = last-low M cap count u x f S low fl param (param_class u x f param mine) (no_captured u x f param mine) (use_high u param mine)

  pub added : Kept (chained (pushed M cap (count + 1) u x f) cap param f (count + 1)) cap (binds M cap count ++ (bind u x f ∷ [])) (count + 1)
  added = record {
    store = store_chained M cap count u x f S low fl param (param_class u x f param mine) (no_captured u x f param mine) (use_high u param mine);
    list = binds-chained M cap count u x f S low fl param (param_class u x f param mine) (no_captured u x f param mine) (use_high u param mine);
  }
