-- The words of a well-formed forest have no fault. Assumes nothing.
use Rattle.std.specs.Prelude.{None}
use mathlib.Core.Path.{◌≡◌, refl, ap, sym, subst, ◌∙◌}
use mathlib.Core.Bool.{Bool, true, ◌&&◌}
use mathlib.Core.List.{List, ◌∷◌, ◌++◌}
use mathlib.Core.Logic.{⊎_elim}
use Prim.Native.Nat.{ℕ, zero, suc, ◌+◌, ◌*◌, ◌<◌, ◌≤◌}
use native.Mathlib.Omega.{arith}
use native.Mathlib.Nat.{eq-or-lt_of_le}
use borrow.Author.Tests.{lt-ltb, le-leb, eq-eqb}
use lib.Dec.{eqb, lit<}
use lib.ListN.{length}
use lib.Seq.{slice, length-slice, take_all}
use Rattle.names.specs.Words.{kind_at, attr_at, name_at, end_at}
use Rattle.grammar.specs.Grammar.{top_place, place_of, kind_ok, attr_ok, fits, count_ok, name_ok}
use Rattle.forest.specs.Forest.{Rows, none, node, size, count, flat, row_ok, WellFormed, Table}
use Rattle.forest.specs.Faults.{end_good, kids, kids_of, early_fault, late_fault, fault_of}
use Rattle.forest.specs.Told.{told_by, marks, top_mark, fault_at, lowest_from, lowest_fault}
use Rattle.names.proofs.Bools.{and_left, and_right, and_both, lt_or_ge}
use Rattle.forest.proofs.Children.{kids-good, kids_done, kids-fuel}
use Rattle.forest.proofs.Telling.{told_child, tells_next}
use Rattle.forest.proofs.Slices.{cons4, split}
use Rattle.grammar.proofs.Places.{place-small}
use Rattle.forest.proofs.Nesting.{Before, before_next, within-next, Says, says_first}
use Rattle.forest.proofs.Accepting.{length-flat, append-same}
use Rattle.forest.proofs.Descent.{fault-by}

row_same : (names place k k' a a' n n' c c' : ℕ) → k ≡ k' → a ≡ a' → n ≡ n' → c ≡ c' → row_ok names place k' a' n' c' ≡ true → row_ok names place k a n c ≡ true
row_same names place k k' a a' n n' c c' qk qa qn qc h =
    ap (λ (x : ℕ). row_ok names place x a n c) qk ∙ ap (λ (x : ℕ). row_ok names place k' x n c) qa ∙ ap (λ (x : ℕ). row_ok names place k' a' x c) qn ∙ ap (λ (x : ℕ). row_ok names place k' a' n' x) qc ∙ h

-- a row that is as the grammar says has no fault
good_row : (ws : List ℕ) (names place i : ℕ) → row_ok names place (kind_at ws i) (attr_at ws i) (name_at ws i) (length (kids_of ws i)) ≡ true → fault_of ws names place true i ≡ None
unfolding fault_of early_fault late_fault
good_row ws names place i h =
    let k = kind_at ws i in
    let a = attr_at ws i in
    let cnt = length (kids_of ws i) in
    let r4 = and_left (kind_ok k && attr_ok k a place && fits place k && count_ok k a cnt) (name_ok k a (name_at ws i) names) h in
    let r3 = and_left (kind_ok k && attr_ok k a place && fits place k) (count_ok k a cnt) r4 in
    let r2 = and_left (kind_ok k && attr_ok k a place) (fits place k) r3 in
    let fc : (fits place k && count_ok k a cnt) ≡ true = and_both (and_right (kind_ok k && attr_ok k a place) _ r3) (and_right (kind_ok k && attr_ok k a place && fits place k) _ r4) in
    rw (and_left (kind_ok k) _ r2, and_right (kind_ok k) _ r2, fc, and_right (kind_ok k && attr_ok k a place && fits place k && count_ok k a cnt) _ h)

-- the row at c, what is inside it and what stands after it, where the words from c on are those of a node
pub record Fields (ws : List ℕ) (k a n : ℕ) (i s : Rows) (c e : ℕ) : Type 0 where
  pub fk : kind_at ws c ≡ k
  pub fa : attr_at ws c ≡ a
  pub fn : name_at ws c ≡ n
  pub fe : end_at ws c ≡ c + 1 + size i
  pub fi : flat (c + 1) i ≡ slice (4 * (c + 1)) (4 * end_at ws c) ws
  pub fs : flat (end_at ws c) s ≡ slice (4 * end_at ws c) (4 * e) ws

pub fields : (ws : List ℕ) (k a n : ℕ) (i s : Rows) (c e : ℕ) → c + size (node k a n i s) ≡ e → 4 * e ≤ length ws → flat c (node k a n i s) ≡ slice (4 * c) (4 * e) ws → Fields ws k a n i s c e
unfolding flat size
fields ws k a n i s c e q long h =
    let m = c + 1 + size i in
    let all : k ∷ a ∷ n ∷ m ∷ (flat (c + 1) i ++ flat m s) ≡ kind_at ws c ∷ attr_at ws c ∷ name_at ws c ∷ end_at ws c ∷ slice (4 * (c + 1)) (4 * e) ws = h ∙ cons4 ws (4 * c) (4 * (c + 1)) (4 * e) (omega arith) (omega arith) long in
    let qk : kind_at ws c ≡ k = cc all in
    let qa : attr_at ws c ≡ a = cc all in
    let qn : name_at ws c ≡ n = cc all in
    let qe : end_at ws c ≡ m = cc all in
    let tail : flat (c + 1) i ++ flat m s ≡ slice (4 * (c + 1)) (4 * e) ws = cc all in
    let two = append-same (flat (c + 1) i) (slice (4 * (c + 1)) (4 * m) ws) (flat m s) (slice (4 * m) (4 * e) ws)
    (length-flat (c + 1) i ∙ sym (length-slice (4 * (c + 1)) (4 * m) ws (omega arith) ∙ omega arith))
    (tail ∙ sym (split ws (4 * (c + 1)) (4 * m) (4 * e) (omega arith) (omega arith) long)) in
    record {
      fk = qk;
      fa = qa;
      fn = qn;
      fe = qe;
      fi = subst (λ (x : ℕ). flat (c + 1) i ≡ slice (4 * (c + 1)) (4 * x) ws) (sym qe) two.0;
      fs = subst (λ (x : ℕ). flat x s ≡ slice (4 * x) (4 * e) ws) (sym qe) two.1;
    }

module _ (ws : List ℕ) (n names : ℕ) (long : 4 * n ≤ length ws) where
  -- of the rows from c up to p's end, which are the forest g
  record Clean (p c f : ℕ) (g : Rows) : Type 0 where
    within : (q : ℕ) → c ≤ q → q < end_at ws p → end_at ws q ≤ end_at ws p
    clean : (q : ℕ) → c ≤ q → q < end_at ws p → fault_at ws n names q ≡ None
    many : count g ≡ length (kids ws f c (end_at ws p))

  cleaned : (g : Rows) (p c pos f : ℕ) → p < c → c + size g ≡ end_at ws p → end_at ws p ≤ n → end_at ws p ≤ c + f → flat c g ≡ slice (4 * c) (4 * end_at ws p) ws
      → WellFormed names (kind_at ws p) (attr_at ws p) pos g → Before ws p c → Says ws n names p c pos f → Clean p c f g
  unfolding size count kids_of
  cleaned none p c pos f pc e en room h wf before says = record {
    within = λ q a b. absurd (omega arith);
    clean = λ q a b. absurd (omega arith);
    many = sym (ap length (kids_done ws f c (end_at ws p) (omega arith)));
  }
  cleaned (node k a nm i s) p c pos zero pc e en room h wf before says = absurd (omega arith)
  cleaned (node k a nm i s) p c pos (suc f) pc e en room h wf before says =
      let F = fields ws k a nm i s c (end_at ws p) e (omega arith) h in
      let fe : end_at ws c ≡ c + 1 + size i = F.fe in
      let past : c < end_at ws c = omega arith in
      let inn : end_at ws c ≤ end_at ws p = omega arith in
      let ce : c < end_at ws p = omega arith in
      let place = place_of (kind_at ws p) (attr_at ws p) pos in
      let g : end_good ws c (end_at ws p) ≡ true = and_both (lt-ltb _ _ past) (le-leb _ _ inn) in
      let kf : kids ws (end_at ws c) (c + 1) (end_at ws c) ≡ kids ws f (c + 1) (end_at ws c) = kids-fuel ws (end_at ws c) f (c + 1) (end_at ws c) (omega arith) (omega arith) in
      let wfi : WellFormed names (kind_at ws c) (attr_at ws c) 0 i = subst (λ (x : ℕ). WellFormed names x (attr_at ws c) 0 i) (sym F.fk) (subst (λ (x : ℕ). WellFormed names k x 0 i) (sym F.fa) wf.1.0) in
      let inside : Clean c (c + 1) f i = cleaned i c (c + 1) 0 f (omega arith) (omega arith) (omega arith) (omega arith) F.fi wfi (λ q x y. absurd (omega arith)) (says_first ws n names c f (omega arith)) in
      let after : Clean p (end_at ws c) f s = cleaned s p (end_at ws c) (pos + 1) f (omega arith) (omega arith) en (omega arith) F.fs wf.1.1
      (before_next ws p c before past inside.within) (tells_next ws (marks ws) (top_mark (end_at ws 0) n) p c pos f says ce g) in
      let row : row_ok names place (kind_at ws c) (attr_at ws c) (name_at ws c) (length (kids ws (end_at ws c) (c + 1) (end_at ws c))) ≡ true = row_same names place (kind_at ws c) k (attr_at ws c) a (name_at ws c) nm
      (length (kids ws (end_at ws c) (c + 1) (end_at ws c))) (count i) F.fk F.fa F.fn (ap length kf ∙ sym inside.many) wf.0 in
      let here : fault_at ws n names c ≡ None =
      fault-by ws n names c place (end_good ws c (end_at ws p)) (place-small (kind_at ws p) (attr_at ws p) pos) (told_child ws (marks ws) (top_mark (end_at ws 0) n) p c pos f pc ce before says) (λ g. omega arith)
      ∙ ap (λ (b : Bool). fault_of ws names place b c) g ∙ good_row ws names place c row in
      record {
        within = within-next ws c (end_at ws p) inn inside.within after.within;
        clean = λ q x y. ⊎_elim (λ z. subst (λ (x : ℕ). fault_at ws n names x ≡ None) z here) (λ z. ⊎_elim (λ w. inside.clean q (omega arith) w) (λ w. after.clean q w y) (lt_or_ge q (end_at ws c))) (eq-or-lt_of_le x);
        many = ap suc after.many ∙ ap length (sym (kids-good ws f c (end_at ws p) ce g));
      }

all_fine : (ws : List ℕ) (n names f i : ℕ) → ((q : ℕ) → i ≤ q → q < i + f → fault_at ws n names q ≡ None) → lowest_from ws n names f i ≡ None
unfolding lowest_from
all_fine ws n names zero i h = refl
all_fine ws n names (suc f) i h = rw (h i (omega arith) (omega arith)) (all_fine ws n names f (i + 1) (λ q a b. h q (omega arith) (omega arith)))

module _ (names k a nm : ℕ) (i : Rows) (t : Table names (node k a nm i none)) (ws : List ℕ) (same : flat 0 (node k a nm i none) ≡ ws) (n : ℕ) (sized : n ≡ 1 + size i) where
  long : length ws ≡ 4 * n
  unfolding size
  long = ap length (sym same) ∙ length-flat 0 (node k a nm i none) ∙ omega arith

  long4 : 4 * n ≤ length ws
  long4 = omega (arith, long)

  root : Fields ws k a nm i none 0 n
  unfolding size
  root = let l = long in fields ws k a nm i none 0 n (omega arith) (omega arith) (same ∙ sym (take_all (4 * n) ws (omega arith)))

  clean0 : Clean ws n names long4 0 1 n i
  clean0 =
      let e : end_at ws 0 ≡ 0 + 1 + size i = root.fe in
      cleaned ws n names long4 i 0 1 0 n (lit< tt) (omega arith) (omega arith) (omega arith) root.fi
      (subst (λ (x : ℕ). WellFormed names x (attr_at ws 0) 0 i) (sym root.fk) (subst (λ (x : ℕ). WellFormed names k x 0 i) (sym root.fa) t.1))
      (λ q x y. absurd (omega arith))
      (says_first ws n names 0 n (omega arith))

  first0 : fault_at ws n names 0 ≡ None
  unfolding kids_of told_by
  first0 =
      let e : end_at ws 0 ≡ 0 + 1 + size i = root.fe in
      let row : row_ok names top_place (kind_at ws 0) (attr_at ws 0) (name_at ws 0) (length (kids ws (end_at ws 0) 1 (end_at ws 0))) ≡ true = row_same names top_place (kind_at ws 0) k (attr_at ws 0) a (name_at ws 0) nm
      (length (kids ws (end_at ws 0) 1 (end_at ws 0))) (count i) root.fk root.fa root.fn
      (ap length (kids-fuel ws (end_at ws 0) n 1 (end_at ws 0) (omega arith) (omega arith)) ∙ sym clean0.many) t.0 in
      fault-by ws n names 0 top_place (eqb (end_at ws 0) n) (lit< tt) refl (λ g. omega arith)
      ∙ ap (λ (b : Bool). fault_of ws names top_place b 0) (eq-eqb (end_at ws 0) n (omega arith)) ∙ good_row ws names top_place 0 row

  pub complete-at : lowest_fault ws n names ≡ None
  unfolding lowest_fault
  complete-at =
      let e : end_at ws 0 ≡ 0 + 1 + size i = root.fe in
      all_fine ws n names n 0 (λ q x y. ⊎_elim (λ z. subst (λ (x : ℕ). fault_at ws n names x ≡ None) z first0) (λ z. clean0.clean q z (omega arith)) (eq-or-lt_of_le x))

-- the words of a well-formed table have no fault
pub complete : (names : ℕ) (f : Rows) → Table names f → lowest_fault (flat 0 f) (size f) names ≡ None
unfolding size
complete names none t = absurd t
complete names (node k a nm i none) t = complete-at names k a nm i t (flat 0 (node k a nm i none)) refl (1 + size i + 0) (omega arith)
complete names (node k a nm i (node k' a' n' i' s)) t = absurd t
