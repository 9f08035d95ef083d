-- Where no row has a fault, the rows nest: each row's children, and all below them, are the words of a well-formed forest. Assumes nothing.
use Rattle.std.specs.Prelude.{None}
use mathlib.Core.Path.{◌≡◌, refl, ap, sym, subst, ◌∙◌}
use mathlib.Core.Bool.{Bool, true, false}
use mathlib.Core.List.{List, ◌∷◌, ◌++◌}
use mathlib.Core.Logic.{⊎_elim}
use Prim.Native.Nat.{ℕ, zero, suc, ◌+◌, ◌*◌, ◌%◌, ◌<◌, ◌≤◌}
use native.Mathlib.Omega.{arith}
use native.Mathlib.Nat.{le_trans, eq-or-lt_of_le}
use borrow.Author.Tests.{lt-ltb, le-ltb, ltb-true, leb-true}
use lib.Dec.{ltb}
use lib.ListN.{length}
use lib.Seq.{slice, slice_empty}
use Rattle.names.specs.Words.{kind_at, attr_at, name_at, end_at}
use Rattle.grammar.specs.Grammar.{place_of, fits}
use Rattle.forest.specs.Forest.{Rows, none, node, size, count, flat, tree, row_ok, WellFormed}
use Rattle.forest.specs.Faults.{end_good, kids, kids_of, fault_of}
use Rattle.forest.specs.Told.{told_in, mark, marks, top_mark, mark_at, fault_at}
use Rattle.names.proofs.Bools.{and_left, and_right, and_both, lt_or_ge}
use Rattle.forest.proofs.Children.{good-past, good-within, kids-good, kids_done, kids-fuel}
use Rattle.forest.proofs.Telling.{heard, Tells, told_child, tells_next}
use Rattle.forest.proofs.Visits.{early_none, late-none}
use Rattle.forest.proofs.Slices.{cons4, split}
use Rattle.grammar.proofs.Places.{place-small}
use Rattle.forest.proofs.Marks.{mark-place}

pub mark-good : (place : ℕ) (ends : Bool) → mark place ends < 16 → ends ≡ true
mark-good place true h = refl
mark-good place false h = absurd (omega arith)

pub tree-more : (ws : List ℕ) (f c e : ℕ) → c < e → tree ws (suc f) c e ≡ node (kind_at ws c) (attr_at ws c) (name_at ws c) (tree ws f (c + 1) (end_at ws c)) (tree ws f (end_at ws c) e)
unfolding tree
tree-more ws f c e h = rw (lt-ltb c e h)

pub tree_done : (ws : List ℕ) (f c e : ℕ) → e ≤ c → tree ws f c e ≡ none
unfolding tree
tree_done ws zero c e h = refl
tree_done ws (suc f) c e h = rw (le-ltb c e h)

-- all rows between p and c end by c
abbrev pub Before : List ℕ → ℕ → ℕ → Type 0
Before ws p c = (q : ℕ) → p < q → q < c → end_at ws q ≤ c

-- past the child c, once those inside it do
pub before_next : (ws : List ℕ) (p c : ℕ) → Before ws p c → c < end_at ws c → ((q : ℕ) → c + 1 ≤ q → q < end_at ws c → end_at ws q ≤ end_at ws c) → Before ws p (end_at ws c)
before_next ws p c before past inside q a b =
    ⊎_elim (λ z. le_trans (before q a z) (omega arith)) (λ z. ⊎_elim (λ y. subst (λ (x : ℕ). end_at ws x ≤ end_at ws c) y (omega arith)) (λ y. inside q (omega arith) b) (eq-or-lt_of_le z)) (lt_or_ge q c)

-- the rows from c up to e end by e, if c does, and those inside it, and those after it
pub within-next : (ws : List ℕ) (c e : ℕ) → end_at ws c ≤ e → ((q : ℕ) → c + 1 ≤ q → q < end_at ws c → end_at ws q ≤ end_at ws c) → ((q : ℕ) → end_at ws c ≤ q → q < e → end_at ws q ≤ e)
    → (q : ℕ) → c ≤ q → q < e → end_at ws q ≤ e
within-next ws c e inn inside after q h l =
    ⊎_elim (λ z. subst (λ (x : ℕ). end_at ws x ≤ e) z inn) (λ z. ⊎_elim (λ y. le_trans (inside q (omega arith) y) inn) (λ y. after q y l) (lt_or_ge q (end_at ws c))) (eq-or-lt_of_le h)

module _ (ws : List ℕ) (n names : ℕ) where
  -- the mark that row i has when it is met
  abbrev pub met : ℕ → ℕ
  met = heard ws (marks ws) (top_mark (end_at ws 0) n)

  -- what row p says of its children from c on
  abbrev pub Says : ℕ → ℕ → ℕ → ℕ → Type 0
  Says = Tells ws (marks ws) (top_mark (end_at ws 0) n)

  -- what a row with no fault has
  pub record Fit (i : ℕ) : Type 0 where
    pub inside : end_at ws i ≤ n
    pub low : met i < 16
    pub row : row_ok names (met i % 16) (kind_at ws i) (attr_at ws i) (name_at ws i) (length (kids_of ws i)) ≡ true

  pub fit : (i : ℕ) → fault_at ws n names i ≡ None → Fit i
  unfolding fault_at fault_of mark_at
  fit i h =
      let ea = early_none _ _ _ _ _ h in
      let la = late-none names _ _ _ _ _ ea.1 in
      record {
        inside = leb-true _ _ (and_right (ltb (met i) 16) _ ea.0.1.1);
        low = ltb-true _ _ (and_left _ _ ea.0.1.1);
        row = and_both (and_both (and_both (and_both ea.0.0 ea.0.1.0) (and_left (fits (met i % 16) (kind_at ws i)) _ la.0)) (and_right (fits (met i % 16) (kind_at ws i)) _ la.0)) la.1;
      }

  -- the children of row c, whatever fuel they are listed with
  pub says_first : (c f : ℕ) → end_at ws c ≤ c + 1 + f → Says c (c + 1) 0 f
  unfolding kids_of
  says_first c f room j v l =
      ap (λ (x : List ℕ). told_in (marks ws (met c) c) 0 x j v) (kids-fuel ws (end_at ws c) f (c + 1) (end_at ws c) (omega arith) room)

  module _ (ok : (i : ℕ) → i < n → Fit i) (long : 4 * n ≤ length ws) where
    -- the rows from c up to e, children of a row of kind k, attr a from position pos on
    pub record Part (k a e c pos : ℕ) (g : Rows) (cnt : ℕ) : Type 0 where
      pub within : (q : ℕ) → c ≤ q → q < e → end_at ws q ≤ e
      pub ahead : (q : ℕ) → c ≤ q → q < e → q < end_at ws q
      pub nested : (q j : ℕ) → c ≤ q → q < e → q < j → j < end_at ws q → end_at ws j ≤ end_at ws q
      pub same : flat c g ≡ slice (4 * c) (4 * e) ws
      pub whole : c + size g ≡ e
      pub wf : WellFormed names k a pos g
      pub many : count g ≡ cnt

    empty : (k a e f c pos : ℕ) → c ≡ e → Part k a e c pos none (length (kids ws f c e))
    unfolding flat size count
    empty k a e f c pos q = record {
      within = λ r h l. absurd (omega arith);
      ahead = λ r h l. absurd (omega arith);
      nested = λ r j h l. absurd (omega arith);
      same = sym (ap (λ (x : ℕ). slice (4 * c) (4 * x) ws) (sym q) ∙ slice_empty (4 * c) ws);
      whole = omega arith;
      wf = tt;
      many = ap length (sym (kids_done ws f c e (omega arith)));
    }

    -- one row c, what is inside it, and what stands after it
    join : (k a e c pos place f : ℕ) (i s : Rows) → e ≤ n → c < e → end_good ws c e ≡ true → place ≡ place_of k a pos
        → row_ok names place (kind_at ws c) (attr_at ws c) (name_at ws c) (length (kids ws f (c + 1) (end_at ws c))) ≡ true
        → Part (kind_at ws c) (attr_at ws c) (end_at ws c) (c + 1) 0 i (length (kids ws f (c + 1) (end_at ws c)))
        → Part k a e (end_at ws c) (pos + 1) s (length (kids ws f (end_at ws c) e))
        → Part k a e c pos (node (kind_at ws c) (attr_at ws c) (name_at ws c) i s) (length (kids ws (suc f) c e))
    unfolding flat size count
    join k a e c pos place f i s en ce g rq row pi ps =
        let past : c < end_at ws c = good-past ws c e g in
        let inn : end_at ws c ≤ e = good-within ws c e g in
        let to : c + 1 + size i ≡ end_at ws c = pi.whole in
        record {
          within = within-next ws c e inn pi.within ps.within;
          ahead = λ q h l. ⊎_elim (λ z. subst (λ (x : ℕ). x < end_at ws x) z past) (λ z. ⊎_elim (λ y. pi.ahead q (omega arith) y) (λ y. ps.ahead q y l) (lt_or_ge q (end_at ws c))) (eq-or-lt_of_le h);
          nested = λ q j h l. ⊎_elim (λ z. subst (λ (x : ℕ). x < j → j < end_at ws x → end_at ws j ≤ end_at ws x) z (λ u v. pi.within j (omega arith) v))
              (λ z. ⊎_elim (λ y. pi.nested q j (omega arith) y) (λ y. ps.nested q j y l) (lt_or_ge q (end_at ws c))) (eq-or-lt_of_le h);
          same =
              ap (λ (x : ℕ). kind_at ws c ∷ attr_at ws c ∷ name_at ws c ∷ x ∷ (flat (c + 1) i ++ flat x s)) to
              ∙ ap (λ (x : List ℕ). kind_at ws c ∷ attr_at ws c ∷ name_at ws c ∷ end_at ws c ∷ x)
              (ap (λ (x : List ℕ). x ++ flat (end_at ws c) s) pi.same
              ∙ ap (λ (x : List ℕ). slice (4 * (c + 1)) (4 * end_at ws c) ws ++ x) ps.same
              ∙ split ws (4 * (c + 1)) (4 * end_at ws c) (4 * e) (omega arith) (omega arith) (omega arith))
              ∙ sym (cons4 ws (4 * c) (4 * (c + 1)) (4 * e) (omega arith) (omega arith) (omega arith));
          whole = omega (arith, ps.whole);
          wf = (subst (λ (x : ℕ). row_ok names x (kind_at ws c) (attr_at ws c) (name_at ws c) (count i) ≡ true) rq (subst (λ (y : ℕ). row_ok names place (kind_at ws c) (attr_at ws c) (name_at ws c) y ≡ true) (sym pi.many) row), (pi.wf, ps.wf));
          many = ap suc ps.many ∙ ap length (sym (kids-good ws f c e ce g));
        }

    abbrev pub Under : ℕ → ℕ → ℕ → ℕ → Type 0
    Under p c pos f = Part (kind_at ws p) (attr_at ws p) (end_at ws p) c pos (tree ws f c (end_at ws p)) (length (kids ws f c (end_at ws p)))

    abbrev pub Nests : ℕ → Type 0
    Nests f = (p c pos : ℕ) → p < n → p < c → c ≤ end_at ws p → end_at ws p ≤ c + f → Before ws p c → Says p c pos f → Under p c pos f

    ended : (p c pos f : ℕ) → c ≤ end_at ws p → end_at ws p ≤ c → Under p c pos f
    ended p c pos f ce h =
        subst (λ (g : Rows). Part (kind_at ws p) (attr_at ws p) (end_at ws p) c pos g (length (kids ws f c (end_at ws p)))) (sym (tree_done ws f c (end_at ws p) h))
        (empty (kind_at ws p) (attr_at ws p) (end_at ws p) f c pos (omega arith))

    -- a child's end is good, and its mark is its place
    pub child-good : (p c pos f : ℕ) → p < n → p < c → c < end_at ws p → Before ws p c → Says p c pos (suc f)
        → (end_good ws c (end_at ws p) ≡ true) × (met c % 16 ≡ place_of (kind_at ws p) (attr_at ws p) pos)
    child-good p c pos f pn pc ce before says =
        let en : end_at ws p ≤ n = (ok p pn).inside in
        let place = place_of (kind_at ws p) (attr_at ws p) pos in
        let m : met c ≡ mark place (end_good ws c (end_at ws p)) = told_child ws (marks ws) (top_mark (end_at ws 0) n) p c pos f pc ce before says in
        (mark-good place _ (subst (λ (x : ℕ). x < 16) m (ok c (omega arith)).low), ap (λ (x : ℕ). x % 16) m ∙ mark-place place (end_good ws c (end_at ws p)) (place-small (kind_at ws p) (attr_at ws p) pos))

    turn : (f : ℕ) → Nests f → (p c pos : ℕ) → p < n → p < c → end_at ws p ≤ c + suc f → Before ws p c → Says p c pos (suc f) → c < end_at ws p → Under p c pos (suc f)
    unfolding kids_of
    turn f ih p c pos pn pc room before says ce =
        let en : end_at ws p ≤ n = (ok p pn).inside in
        let cn : c < n = omega arith in
        let gc = child-good p c pos f pn pc ce before says in
        let past : c < end_at ws c = good-past ws c (end_at ws p) gc.0 in
        let inn : end_at ws c ≤ end_at ws p = good-within ws c (end_at ws p) gc.0 in
        let kf : kids ws (end_at ws c) (c + 1) (end_at ws c) ≡ kids ws f (c + 1) (end_at ws c) = kids-fuel ws (end_at ws c) f (c + 1) (end_at ws c) (omega arith) (omega arith) in
        let inside : Under c (c + 1) 0 f = ih c (c + 1) 0 cn (omega arith) (omega arith) (omega arith) (λ q a b. absurd (omega arith)) (says_first c f (omega arith)) in
        let after : Under p (end_at ws c) (pos + 1) f = ih p (end_at ws c) (pos + 1) pn (omega arith) inn (omega arith) (before_next ws p c before past inside.within)
        (tells_next ws (marks ws) (top_mark (end_at ws 0) n) p c pos f says ce gc.0) in
        subst (λ (t : Rows). Part (kind_at ws p) (attr_at ws p) (end_at ws p) c pos t (length (kids ws (suc f) c (end_at ws p)))) (sym (tree-more ws f c (end_at ws p) ce))
        (join (kind_at ws p) (attr_at ws p) (end_at ws p) c pos (met c % 16) f (tree ws f (c + 1) (end_at ws c)) (tree ws f (end_at ws c) (end_at ws p)) en ce gc.0 gc.1
        (subst (λ (x : List ℕ). row_ok names (met c % 16) (kind_at ws c) (attr_at ws c) (name_at ws c) (length x) ≡ true) kf (ok c cn).row) inside after)

    pub nest : (f : ℕ) → Nests f
    nest zero p c pos pn pc ce room before says = ended p c pos zero ce (omega arith)
    nest (suc f) p c pos pn pc ce room before says =
        ⊎_elim (λ h. turn f (nest f) p c pos pn pc room before says h) (λ h. ended p c pos (suc f) ce h) (lt_or_ge c (end_at ws p))
