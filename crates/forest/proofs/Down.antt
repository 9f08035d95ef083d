-- What each row of a table without a fault has been told by its parent is what goes down its forest. Assumes nothing.
use mathlib.Core.Path.{◌≡◌, refl, ap, sym, ◌∙◌}
use mathlib.Core.Bool.{true}
use mathlib.Core.List.{List, ◌∷◌, ◌++◌}
use mathlib.Core.Logic.{◌⊎◌, inl, inr, ⊎_elim}
use Prim.Native.Nat.{ℕ, zero, suc, ◌+◌, ◌-◌, ◌<◌, ◌≤◌}
use native.Mathlib.Omega.{arith}
use native.Mathlib.Nat.{eq-or-lt_of_le}
use lib.ListN.{get_or, length, length-append, get_or-append}
use lib.Seq.{get_or-append-add}
use Rattle.names.specs.Words.{kind_at, attr_at, end_at}
use Rattle.forest.specs.Forest.{Rows, none, node, size, tree, down}
use Rattle.forest.specs.Faults.{end_good, kids_of}
use Rattle.forest.specs.Nested.{Nested}
use Rattle.forest.specs.Told.{told_in, told_by}
use Rattle.names.proofs.Bools.{lt_or_ge, and_both}
use Rattle.forest.proofs.Children.{kids-fuel}
use Rattle.forest.proofs.Telling.{heard, Tells, told_child, tells_next}
use Rattle.forest.proofs.Nesting.{Before, before_next, tree-more, tree_done}
use borrow.Author.Tests.{lt-ltb, le-leb}

same_place : (c q : ℕ) → c ≡ q → q - c ≡ 0
same_place c q z = omega arith

pub down-long : (t : ℕ → ℕ → ℕ → ℕ → ℕ) (v k a pos : ℕ) (r : Rows) → length (down t v k a pos r) ≡ size r
unfolding down size
down-long t v k a pos none = refl
down-long t v k a pos (node k' a' n' i s) =
    omega (arith, length-append (down t (t v k a pos) k' a' 0 i) (down t v k a (pos + 1) s), down-long t (t v k a pos) k' a' 0 i, down-long t v k a (pos + 1) s)

-- three parts, one after the other
place : (x : ℕ) (A B : List ℕ) (c m e q : ℕ) → c + 1 + length A ≡ m → m + length B ≡ e → c < q → q < e
    → ((c + 1 ≤ q) × (q < m) × (get_or (x ∷ (A ++ B)) (q - c) 0 ≡ get_or A (q - (c + 1)) 0)) ⊎ ((m ≤ q) × (get_or (x ∷ (A ++ B)) (q - c) 0 ≡ get_or B (q - m) 0))
place x A B c m e q p1 p2 h l =
    let s : q - c ≡ suc (q - (c + 1)) = omega arith in
    ⊎_elim
    (λ y. inl (omega arith, y, ap (λ (z : ℕ). get_or (x ∷ (A ++ B)) z 0) s ∙ get_or-append A B 0 (q - (c + 1)) (omega arith)))
    (λ y. let u : q - (c + 1) ≡ length A + (q - m) = omega arith in
    inr (y, ap (λ (z : ℕ). get_or (x ∷ (A ++ B)) z 0) s ∙ ap (λ (z : ℕ). get_or (A ++ B) z 0) u ∙ get_or-append-add A B (q - m) 0))
    (lt_or_ge q m)

module _ (ws : List ℕ) (t : ℕ → ℕ → ℕ → ℕ → ℕ) (r n : ℕ) (good : Nested ws n) where
  abbrev tell : ℕ → ℕ → ℕ → ℕ → ℕ
  tell v p pos c = t v (kind_at ws p) (attr_at ws p) pos

  -- what row i has been told
  abbrev pub value : ℕ → ℕ
  value = heard ws tell r

  -- below row p from its child c on
  record Goes (f p c pos : ℕ) : Type 0 where
    sum : c + length (down t (value p) (kind_at ws p) (attr_at ws p) pos (tree ws f c (end_at ws p))) ≡ end_at ws p
    each : (q : ℕ) → c ≤ q → q < end_at ws p → value q ≡ get_or (down t (value p) (kind_at ws p) (attr_at ws p) pos (tree ws f c (end_at ws p))) (q - c) 0

  abbrev Go : ℕ → Type 0
  Go f = (p c pos : ℕ) → p < n → p < c → c ≤ end_at ws p → end_at ws p ≤ c + f → Before ws p c → Tells ws tell r p c pos f → Goes f p c pos

  ended : (f p c pos : ℕ) → c ≤ end_at ws p → end_at ws p ≤ c → Goes f p c pos
  unfolding down
  ended f p c pos ce h = record {
    sum = ap (λ (g : Rows). c + length (down t (value p) (kind_at ws p) (attr_at ws p) pos g)) (tree_done ws f c (end_at ws p) h) ∙ omega arith;
    each = λ q a b. absurd (omega arith);
  }

  -- row c, what is inside it, and what stands after it
  finish : (f p c pos : ℕ) → value c ≡ t (value p) (kind_at ws p) (attr_at ws p) pos → c < end_at ws c → end_at ws c ≤ end_at ws p → c < end_at ws p → Goes f c (c + 1) 0 → Goes f p (end_at ws c) (pos + 1) → Goes (suc f) p c pos
  unfolding down
  finish f p c pos hc past inn ce inside after =
      let v = t (value p) (kind_at ws p) (attr_at ws p) pos in
      let A = down t v (kind_at ws c) (attr_at ws c) 0 (tree ws f (c + 1) (end_at ws c)) in
      let B = down t (value p) (kind_at ws p) (attr_at ws p) (pos + 1) (tree ws f (end_at ws c) (end_at ws p)) in
      let same : down t (value c) (kind_at ws c) (attr_at ws c) 0 (tree ws f (c + 1) (end_at ws c)) ≡ A = ap (λ (x : ℕ). down t x (kind_at ws c) (attr_at ws c) 0 (tree ws f (c + 1) (end_at ws c))) hc in
      let all : down t (value p) (kind_at ws p) (attr_at ws p) pos (tree ws (suc f) c (end_at ws p)) ≡ v ∷ (A ++ B) = ap (λ (x : Rows). down t (value p) (kind_at ws p) (attr_at ws p) pos x) (tree-more ws f c (end_at ws p) ce) in
      let la : c + 1 + length A ≡ end_at ws c = ap (λ (x : List ℕ). c + 1 + length x) (sym same) ∙ inside.sum in
      let lb : end_at ws c + length B ≡ end_at ws p = after.sum in
      record {
        sum = ap (λ (x : List ℕ). c + length x) all ∙ omega (arith, length-append A B);
        each = λ q a b. ⊎_elim
            (λ z. ap value (sym z) ∙ hc ∙ sym (ap (λ (x : List ℕ). get_or x (q - c) 0) all ∙ ap (λ (x : ℕ). get_or (v ∷ (A ++ B)) x 0) (same_place c q z)))
            (λ z. ⊎_elim
            (λ w. inside.each q w.0 w.1 ∙ ap (λ (x : List ℕ). get_or x (q - (c + 1)) 0) same ∙ sym (ap (λ (x : List ℕ). get_or x (q - c) 0) all ∙ w.2))
            (λ w. after.each q w.0 b ∙ sym (ap (λ (x : List ℕ). get_or x (q - c) 0) all ∙ w.1))
            (place v A B c (end_at ws c) (end_at ws p) q la lb z b))
            (eq-or-lt_of_le a);
      }

  tells_first : (c f : ℕ) → end_at ws c ≤ c + 1 + f → Tells ws tell r c (c + 1) 0 f
  unfolding kids_of
  tells_first c f room j v l = ap (λ (x : List ℕ). told_in (tell (value c) c) 0 x j v) (kids-fuel ws (end_at ws c) f (c + 1) (end_at ws c) (omega arith) room)

  turn : (f : ℕ) → Go f → (p c pos : ℕ) → p < n → p < c → end_at ws p ≤ c + suc f → Before ws p c → Tells ws tell r p c pos (suc f) → c < end_at ws p → Goes (suc f) p c pos
  turn f ih p c pos pn pc room before tells ce =
      let en : end_at ws p ≤ n = good.inside p pn in
      let cn : c < n = omega arith in
      let past : c < end_at ws c = good.ahead c cn in
      let inn : end_at ws c ≤ end_at ws p = good.nested p c pn pc ce in
      let g : end_good ws c (end_at ws p) ≡ true = and_both (lt-ltb _ _ past) (le-leb _ _ inn) in
      let inside : Goes f c (c + 1) 0 = ih c (c + 1) 0 cn (omega arith) (omega arith) (omega arith) (λ q a b. absurd (omega arith)) (tells_first c f (omega arith)) in
      let after : Goes f p (end_at ws c) (pos + 1) = ih p (end_at ws c) (pos + 1) pn (omega arith) inn (omega arith)
      (before_next ws p c before past (λ q a b. good.nested c q cn (omega arith) b)) (tells_next ws tell r p c pos f tells ce g) in
      finish f p c pos (told_child ws tell r p c pos f pc ce before tells) past inn ce inside after

  goes : (f : ℕ) → Go f
  goes zero p c pos pn pc ce room before tells = ended zero p c pos ce (omega arith)
  goes (suc f) p c pos pn pc ce room before tells =
      ⊎_elim (λ h. turn f (goes f) p c pos pn pc room before tells h) (λ h. ended (suc f) p c pos ce h) (lt_or_ge c (end_at ws p))

  root_told : value 0 ≡ r
  unfolding told_by
  root_told = refl

  -- over the whole table
  pub told-down : 0 < n → end_at ws 0 ≡ n → (i : ℕ) → i < n → value i ≡ get_or (r ∷ down t r (kind_at ws 0) (attr_at ws 0) 0 (tree ws (n - 1) 1 (end_at ws 0))) i 0
  told-down some e0 zero h = root_told
  told-down some e0 (suc i) h =
      let g : Goes (n - 1) 0 1 0 = goes (n - 1) 0 1 0 some (omega arith) (omega arith) (omega arith) (λ q a b. absurd (omega arith)) (tells_first 0 (n - 1) (omega arith)) in
      let s : suc i - 1 ≡ i = omega arith in
      g.each (suc i) (omega arith) (omega arith)
      ∙ ap (λ (x : ℕ). get_or (down t x (kind_at ws 0) (attr_at ws 0) 0 (tree ws (n - 1) 1 (end_at ws 0))) (suc i - 1) 0) root_told
      ∙ ap (λ (x : ℕ). get_or (down t r (kind_at ws 0) (attr_at ws 0) 0 (tree ws (n - 1) 1 (end_at ws 0))) x 0) s
