-- Module 7 row by row: what it does with each form that a row of the result has. Assumes nothing.
use mathlib.Core.Path.{◌≡◌, refl, ap, ap₂, ◌∙◌, sym}
use mathlib.Core.List.{List, [], ◌∷◌}
use Prim.Native.Nat.{ℕ, ◌+◌}
use mathlib.Core.Bool.{Bool, true, false, cond, not, ◌&&◌, ◌||◌, false≢true}
use lib.Dec.{eqb}
use Rattle.forest.specs.Forest.{Rows, Rows.none, Rows.node}
use Rattle.steps.specs.Super.{first_super}
use Rattle.steps.specs.Joining.{join}
use Rattle.steps.specs.Naming.{Names}
use Rattle.steps.specs.Acts.{Ctx, Op, Op.row, Op.drop, Op.name, Op.call}
use Rattle.steps.specs.Bindings.{Binding, Binding.bind, number, closes}
use Rattle.steps.specs.AfterSuper.{list, visit, copy, super_call, is_direct, is_met, scan_inner, scan_next, after_super}
use Rattle.steps.specs.TopInsertion.{arguments_decl, this_decl, param_numbers, access_row, accessor, accessor_decls, var_first, frame_top, top, past}
use Rattle.steps.specs.Walk.{build}
use Rattle.steps.specs.Fused.{within, scan_of, next_of, anew, declared, top_s, build_s}
use Rattle.steps.proofs.Shape.{at}

-- in state copy nothing is inserted
pub copied : (b : ℕ) (f : Rows) → after_super b copy f ≡ f
unfolding after_super is_met is_direct scan_inner scan_next
copied b none = refl
copied b (node k a n i s) = rw (copied b i, copied b s)

-- in state visit rows side by side are scanned each for itself
join-cond : (c : Bool) (k k' a n a' n' : ℕ) (i i' s g : Rows) → cond c (node k a n i (join s g)) (node k' a' n' i' (join s g)) ≡ join (cond c (node k a n i s) (node k' a' n' i' s)) g
unfolding join
join-cond true k k' a n a' n' i i' s g = refl
join-cond false k k' a n a' n' i i' s g = refl

pub joined : (b : ℕ) (f g : Rows) → after_super b visit (join f g) ≡ join (after_super b visit f) (after_super b visit g)
unfolding after_super join scan_next is_direct
joined b none g = refl
joined b (node k a n i s) g = rw (joined b s g) (join-cond (is_met visit k i) _ _ _ _ _ _ _ _ _ _)

-- which rows are not met, and which are not direct
off : (x y : Bool) → (x && false && y) ≡ false
off true y = refl
off false y = refl

off-last : (x y : Bool) → (x && y && false) ≡ false
off-last true true = refl
off-last true false = refl
off-last false y = refl

pub no_met : (sc k : ℕ) (i : Rows) → eqb k 14 ≡ false → is_met sc k i ≡ false
unfolding is_met
no_met sc k i h = rw h (off (eqb sc 1 || eqb sc 4 || eqb sc 5) (first_super i))

pub no_met-first : (sc k : ℕ) (i : Rows) → first_super i ≡ false → is_met sc k i ≡ false
unfolding is_met
no_met-first sc k i h = rw h (off-last (eqb sc 1 || eqb sc 4 || eqb sc 5) (eqb k 14))

pub no_direct : (sc k : ℕ) (i : Rows) → eqb k 1 ≡ false → is_direct sc k i ≡ false
unfolding is_direct
no_direct sc k i h = rw h (off (eqb sc 0) (super_call i))

-- by the states that differ inside of an added row
states : (P : ℕ → Type 0) → P 2 → P 3 → P 6 → ((s : ℕ) → eqb s 2 ≡ false → eqb s 3 ≡ false → eqb s 6 ≡ false → P s) → (sc : ℕ) → P sc
states P p q r d sc = at P 2 sc p (λ e2. at P 3 sc q (λ e3. at P 6 sc r (λ e6. d sc e2 e3 e6)))

-- in state copy or visit
pub calmly : (P : ℕ → Type 0) → P 2 → P 1 → (sc : ℕ) → (eqb sc 2 || eqb sc 1) ≡ true → P sc
calmly P p q sc =
    let Q : ℕ → Type 0 = λ (s : ℕ). (eqb s 2 || eqb s 1) ≡ true → P s in
    at Q 2 sc (λ h. p) (λ e2. at Q 1 sc (λ h. q) (λ e1 h. absurd (false≢true (sym (rw (e2, e1)) ∙ h))))

-- the states inside of added rows
in_call : (sc : ℕ) → scan_of sc false false (row 14 0 0) ≡ within sc
unfolding scan_of within
in_call = states (λ (s : ℕ). scan_of s false false (row 14 0 0) ≡ within s) refl refl refl (λ s e2 e3 e6. rw (e2, e3, e6))

in_member : (sc : ℕ) → scan_of sc false false (row 12 1 0) ≡ within sc
unfolding scan_of within
in_member = states (λ (s : ℕ). scan_of s false false (row 12 1 0) ≡ within s) refl refl refl (λ s e2 e3 e6. rw (e2, e3, e6))

in-body : (sc : ℕ) → scan_of (scan_of sc false false (row 19 0 0)) false false (row 4 0 0) ≡ within sc
unfolding scan_of within
in-body = states (λ (s : ℕ). scan_of (scan_of s false false (row 19 0 0)) false false (row 4 0 0) ≡ within s) refl refl refl (λ s e2 e3 e6. rw (e2, e3, e6))

within-within : (sc : ℕ) → within (within sc) ≡ within sc
unfolding within
within-within sc = go (eqb sc 2 || eqb sc 6)
  where
    go : (x : Bool) → within (cond x 2 1) ≡ cond x 2 1
    go true = refl
    go false = refl

within-next : (sc : ℕ) → next_of (within sc) false ≡ within sc
unfolding within next_of
within-next sc = go (eqb sc 2 || eqb sc 6)
  where
    go : (x : Bool) → next_of (cond x 2 1) false ≡ cond x 2 1
    go true = refl
    go false = refl

next-next : (sc : ℕ) → next_of (next_of sc false) false ≡ next_of sc false
unfolding next_of
next-next sc =
    let P : ℕ → Type 0 = λ (s : ℕ). next_of (next_of s false) false ≡ next_of s false in
    at P 3 sc refl (λ e3. at P 4 sc refl (λ e4. at P 5 sc refl (λ e5. simp (e3, e4, e5))))

-- what is asked of a row of each form: that the input tells what is met and direct, and that a row is dropped only where rows side by side are scanned each for itself
unfoldable pub Tells : (sc : ℕ) (met first : Bool) → Rows → Op → Type 0
Tells sc met first i (row k a n) = (is_met sc k i ≡ met) × (is_direct sc k i ≡ first)
Tells sc met first i drop = (met ≡ false) × (first ≡ false) × ((eqb sc 2 || eqb sc 1) ≡ true)
Tells sc met first i (name u f) = (met ≡ false) × (first ≡ false)
Tells sc met first i (call u f x t) = (met ≡ false) × (first ≡ false)

module _ (N : Names) (bs : List Binding) (c : Ctx) (b : ℕ) where
  -- a row that stays
  pub stays_row : (sc k a n : ℕ) (met first : Bool) (i s : Rows) → is_met sc k i ≡ met → is_direct sc k i ≡ first
      → after_super b sc (node k a n i s) ≡ build_s N bs c b met first (row k a n) (after_super b (scan_of sc met first (row k a n)) i) (after_super b (next_of sc first) s)
  unfolding after_super scan_inner scan_next scan_of next_of build_s build
  stays_row sc k a n met first i s e f = rw (e, f)

  -- one where nothing is put
  pub still_row : (sc k a n : ℕ) (i s : Rows) → is_met sc k i ≡ false → is_direct sc k i ≡ false
      → after_super b sc (node k a n i s) ≡ node k a n (after_super b (scan_of sc false false (row k a n)) i) (after_super b (next_of sc false) s)
  unfolding after_super scan_inner scan_next scan_of next_of
  still_row sc k a n i s e f = rw (e, f)

  leaf_row : (sc k a n : ℕ) (s : Rows) → eqb k 14 ≡ false → eqb k 1 ≡ false → after_super b sc (node k a n none s) ≡ node k a n none (after_super b (next_of sc false) s)
  unfolding after_super
  leaf_row sc k a n s e f = still_row sc k a n none s (no_met sc k none e) (no_direct sc k none f)

  call_row : (sc x : ℕ) (i s : Rows) → after_super b sc (node 14 0 0 (node 11 1 x none i) s) ≡ node 14 0 0 (node 11 1 x none (after_super b (within sc) i)) (after_super b (next_of sc false) s)
  unfolding first_super
  call_row sc x i s =
      still_row sc 14 0 0 (node 11 1 x none i) s (no_met-first sc 14 (node 11 1 x none i) refl) (no_direct sc 14 (node 11 1 x none i) refl)
      ∙ rw (in_call sc, leaf_row (within sc) 11 1 x i refl refl, within-next sc)

  after-cond : (sc y : ℕ) (t : Bool) (s : Rows)
      → after_super b sc (cond t (node 11 1 y none s) (node 9 0 0 none s)) ≡ cond t (node 11 1 y none (after_super b (next_of sc false) s)) (node 9 0 0 none (after_super b (next_of sc false) s))
  after-cond sc y true s = leaf_row sc 11 1 y s refl refl
  after-cond sc y false s = leaf_row sc 9 0 0 s refl refl

  called_row : (sc x y : ℕ) (t : Bool) (i s : Rows)
      → after_super b sc (node 12 1 0 (node 14 0 0 (node 11 1 x none i) none) (cond t (node 11 1 y none s) (node 9 0 0 none s)))
      ≡ node 12 1 0 (node 14 0 0 (node 11 1 x none (after_super b (within sc) i)) none) (cond t (node 11 1 y none (after_super b (next_of sc false) s)) (node 9 0 0 none (after_super b (next_of sc false) s)))
  unfolding after_super
  called_row sc x y t i s =
      still_row sc 12 1 0 (node 14 0 0 (node 11 1 x none i) none) (cond t (node 11 1 y none s) (node 9 0 0 none s)) (no_met sc 12 (node 14 0 0 (node 11 1 x none i) none) refl) (no_direct sc 12 (node 14 0 0 (node 11 1 x none i) none) refl)
      ∙ rw (in_member sc, call_row (within sc) x i none, within-within sc, after-cond (next_of sc false) y t s, next-next sc)

  -- an expression body
  pub body-row : (sc : ℕ) (i s : Rows) → after_super b sc (node 19 0 0 (node 4 0 0 i none) s) ≡ node 19 0 0 (node 4 0 0 (after_super b (within sc) i) none) (after_super b (next_of sc false) s)
  unfolding after_super
  body-row sc i s =
      still_row sc 19 0 0 (node 4 0 0 i none) s (no_met sc 19 (node 4 0 0 i none) refl) (no_direct sc 19 (node 4 0 0 i none) refl)
      ∙ rw (still_row (scan_of sc false false (row 19 0 0)) 4 0 0 i none (no_met (scan_of sc false false (row 19 0 0)) 4 i refl) (no_direct (scan_of sc false false (row 19 0 0)) 4 i refl), in-body sc)

  dropped_row : (sc : ℕ) → (eqb sc 2 || eqb sc 1) ≡ true → (i s : Rows) → after_super b sc (join i s) ≡ join (after_super b sc i) (after_super b (next_of sc false) s)
  unfolding next_of
  dropped_row sc h i s =
      calmly (λ (m : ℕ). after_super b m (join i s) ≡ join (after_super b m i) (after_super b (next_of m false) s)) (copied b (join i s) ∙ sym (ap₂ join (copied b i) (copied b s))) (joined b i s) sc h

  pub built_row : (sc : ℕ) (met first : Bool) (op : Op) (i s : Rows) → Tells sc met first i op
      → after_super b sc (build N bs c op i s) ≡ build_s N bs c b met first op (after_super b (scan_of sc met first op) i) (after_super b (next_of sc first) s)
  unfolding build build_s scan_of Tells
  built_row sc met first (row k a n) i s h = stays_row sc k a n met first i s h.0 h.1
  built_row sc met first drop i s h = rw (h.0, h.1) (dropped_row sc h.2 i s)
  built_row sc met first (name u f) i s h = rw (h.0, h.1) (leaf_row sc 11 1 (number N bs u f 0) s refl refl)
  built_row sc met first (call u f x true) i s h = rw (h.0, h.1) (called_row sc (number N bs u f x) (number N bs 1 c.this_at 0) c.takes_this i s)
  built_row sc met first (call u f x false) i s h = rw (h.0, h.1) (call_row sc (number N bs u f x) i s)

  -- Module 8's Var has no called Super: a visit leaves it as it is.
  Still : Rows → Type 0
  Still f = after_super b visit f ≡ f

  accessor_still : (u x : ℕ) (ps : List ℕ) → Still (accessor u x ps)
  unfolding Still accessor access_row after_super is_met is_direct scan_inner scan_next
  accessor_still u x ps =
      at (λ (x : ℕ). Still (accessor u x ps)) 0 x
      (at (λ (u : ℕ). Still (accessor u 0 ps)) 4 u refl (λ e. rw e))
      (λ z. at (λ (u : ℕ). Still (accessor u x ps)) 4 u (rw z) (λ e. rw (z, e)))

  declarator_still : (x : ℕ) (i s : Rows) → Still i → Still s → Still (node 3 1 x i s)
  unfolding Still after_super is_met is_direct scan_inner scan_next
  declarator_still x i s h g = rw (h, g)

  pick_still : (x : Bool) (f g : Rows) → Still f → Still g → Still (cond x f g)
  pick_still true f g h k = h
  pick_still false f g h k = k

  none_still : Still none
  unfolding Still after_super
  none_still = refl

  leaf_still : (k a n : ℕ) → Still (node k a n none none)
  unfolding Still after_super is_met is_direct scan_inner scan_next first_super
  leaf_still k a n = rw (off-last true (eqb k 14))

  accessors_still : (f m : ℕ) (ps : List ℕ) (cs : List Binding) (t : Rows) → Still t → Still (accessor_decls f m ps cs t)
  unfolding accessor_decls
  accessors_still f m ps [] t h = h
  accessors_still f m ps (bind u x f' ∷ cs) t h =
      pick_still (eqb f' f && (eqb u 3 || eqb u 4)) _ _
      (declarator_still m (accessor u x ps) _ (accessor_still u x ps) (accessors_still f (m + 1) (past u x ps) cs t h))
      (accessors_still f (m + 1) ps cs t h)

  declared_still : (r : ℕ) (g l : Bool) → Still (declared N bs r g l)
  unfolding declared arguments_decl this_decl
  declared_still r g l =
      let this : Still (cond (eqb (number N bs 1 r 0) 0) none (node 3 1 (number N bs 1 r 0) (cond l none (node 9 0 0 none none)) none)) =
      pick_still (eqb (number N bs 1 r 0) 0) none _ none_still (declarator_still (number N bs 1 r 0) _ none (pick_still l none _ none_still (leaf_still 9 0 0)) none_still) in
      let rest : Still (accessor_decls r 1 (param_numbers r 1 bs) bs (this_decl (number N bs 1 r 0) l)) = accessors_still r 1 (param_numbers r 1 bs) bs _ this in
      pick_still (eqb (number N bs 2 r 0) 0) _ _ rest (declarator_still (number N bs 2 r 0) _ _ (leaf_still 27 (cond g 1 0) 0) rest)

  var_visited : (f i : Rows) → Still f → after_super b visit (var_first f i) ≡ var_first f (after_super b visit i)
  unfolding Still var_first join after_super is_met is_direct scan_inner scan_next
  var_visited none i h = refl
  var_visited (node k a n j s) i h = ap (λ (f : Rows). node 2 0 0 f (after_super b visit i)) h

  -- what the children of a closing row become, in the states that occur there
  pub framed_row : (sc sl k r : ℕ) (i : Rows) → (closes sl k ≡ true → (eqb sc 2 || eqb sc 1) ≡ true) → (closes sl k ≡ true → eqb sl 3 ≡ true → sc ≡ 2)
      → after_super b sc (top N bs sl k r i) ≡ top_s N bs sl k r (after_super (cond (anew sl k (number N bs 1 r 0)) (number N bs 1 r 0) b) (cond (anew sl k (number N bs 1 r 0)) list sc) i)
  unfolding top top_s frame_top anew declared
  framed_row sc sl k r i h g = go (closes sl k) (eqb sl 3) (not (eqb (number N bs 1 r 0) 0)) h g
    where
      D : Bool → Rows
      D l = declared N bs r (eqb k 0) l

      m : ℕ
      m = number N bs 1 r 0

      visited : (l : Bool) (s : ℕ) → (eqb s 2 || eqb s 1) ≡ true → after_super b s (var_first (D l) i) ≡ var_first (D l) (after_super b s i)
      visited l s h =
          calmly (λ (s : ℕ). after_super b s (var_first (D l) i) ≡ var_first (D l) (after_super b s i)) (copied b (var_first (D l) i) ∙ sym (ap (var_first (D l)) (copied b i))) (var_visited (D l) i (declared_still r (eqb k 0) l)) s h

      go : (x y z : Bool) → (x ≡ true → (eqb sc 2 || eqb sc 1) ≡ true) → (x ≡ true → y ≡ true → sc ≡ 2)
          → after_super b sc (cond x (var_first (D y) (cond (y && z) (after_super m list i) i)) i)
          ≡ cond x (var_first (D y) (after_super (cond (x && (y && z)) m b) (cond (x && (y && z)) list sc) i)) (after_super (cond (x && (y && z)) m b) (cond (x && (y && z)) list sc) i)
      go false y z h g = refl
      go true false z h g = visited false sc (h refl)
      go true true false h g = visited true sc (h refl)
      go true true true h g = rw (g refl refl) (copied b (var_first (D true) (after_super m list i)))
