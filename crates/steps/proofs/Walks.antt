-- The walks, where arrows are on and both async switches off. Assumes nothing.
use mathlib.Core.Path.{◌≡◌, refl, ap, sym, fun_ext, subst}
use mathlib.Core.List.{List, [], ◌∷◌}
use Prim.Native.Nat.{ℕ, ◌+◌}
use mathlib.Core.Bool.{Bool, true, false, cond, not, ◌&&◌, ◌||◌, true≢false}
use lib.Dec.{eqb}
use Rattle.steps.specs.Paths.{Step.in_params, Step.in_body}
use Rattle.steps.specs.Mode.{bit, enabled}
use Rattle.steps.specs.Naming.{Names}
use Rattle.steps.specs.Bindings.{Binding, note, closes, closed, meet, leave}
use Rattle.steps.specs.Acts.{by, Op.row, Op.name, kind_of, act_of, act}
use Rattle.steps.specs.ArrowToFunction.{dress}
use Rattle.steps.specs.TopInsertion.{top}
use Rattle.steps.specs.Slots.{free, of_method}
use Rattle.steps.specs.Context.{Spot, into, leaves_c, late_c, act_c, collect_c, emit_c}
use Rattle.steps.proofs.Credit.{eqb-eq}
use Rattle.steps.specs.Owners.{among, Home, ArrowFits, home_one, home_more, builder, Fits, Calm, arrows_on}
use Rattle.steps.proofs.WellShaped.{Empty, ParamsBody, NoThisFirst, TargetFirst, WfRow, Wf}
use Rattle.steps.proofs.Shape.{at, kinds, Usual, dull_op, usual_one, usual_more, new_kind, new_attr, new_name, meet_e, built}
use Rattle.forest.specs.Forest.{Rows, Rows.none, Rows.node, size}

pub record Ready (h v : Home) (b : Bool) (q q' : Spot) (r : Rows) : Type 0 where
  pub usual : Usual q
  pub usual' : Usual q'
  pub wf : Wf r
  pub calm : Calm h v b r

pub wf_zero : (k a : ℕ) (i : Rows) → WfRow k a i → eqb k 0 ≡ false
unfolding WfRow
wf_zero k a i f = go (eqb k 0) f
  where
    go : (x : Bool) → cond x ⊥ (cond (among k (3 ∷ 11 ∷ [])) (a ≡ 0) (cond (eqb k 9) (Empty i) (cond (eqb k 17) (ParamsBody i) (cond (eqb k 28) (NoThisFirst i) (cond (eqb k 15) (TargetFirst i) (Unit {0})))))) → x ≡ false
    go true f = absurd f
    go false f = refl

-- the places of children
abbrev pub one : Names → Spot → (o k a n : ℕ) → Rows → Spot
one N q o k a n i = into arrows_on q (act N arrows_on false q.ctx q.slot o k a n i).one

abbrev pub more : Names → Spot → (o k a n : ℕ) → Rows → Spot
more N q o k a n i = into arrows_on q (act N arrows_on false q.ctx q.slot o k a n i).more

module _ (N : Names) (h v : Home) (b : Bool) (q q' : Spot) (o k a n : ℕ) (i s : Rows) (R : Ready h v b q q' (node k a n i s)) where
  pub ready_in : Ready (home_one k a h) (home_more k a h) (builder k a b) (one N q o k a n i) (more N q o k a n i) i
  unfolding Wf Calm
  ready_in = record { usual = usual_one N q R.usual o k a n i; usual' = usual_more N q R.usual o k a n i; wf = R.wf.1; calm = R.calm.1 }

  pub ready_on : Ready v v b q' q' s
  unfolding Wf Calm
  ready_on = record { usual = R.usual'; usual' = R.usual'; wf = R.wf.2; calm = R.calm.2 }

-- no constructor is late
no-super : (h : Home) (k : ℕ) → Fits h true k → eqb k 10 ≡ false
unfolding Fits
no-super h k f = at (λ (k : ℕ). cond (eqb k 16) (ArrowFits h) (cond (eqb k 10) (true ≡ false) (Unit {0})) → eqb k 10 ≡ false) 10 k (λ e. absurd (true≢false e)) (λ e f. e) f

pub leaves-false : (N : Names) (r : Rows) (h v : Home) → Calm h v true r → (q q' : Spot) (o : ℕ) → leaves_c N arrows_on q q' o r ≡ false
unfolding leaves_c Calm builder
leaves-false N none h v c q q' o = refl
leaves-false N (node k a n i s) h v c q q' o =
    rw (no-super h k c.0, leaves-false N s v v c.2 q' q' (o + 1 + size i)) (go (eqb k 17) c.1 (leaves-false N i _ _))
  where
    x : Bool
    x = leaves_c N arrows_on (one N q o k a n i) (more N q o k a n i) (o + 1) i

    go : (y : Bool) → Calm (home_one k a h) (home_more k a h) (cond y (bit 4 a) true) i →
        (Calm (home_one k a h) (home_more k a h) true i → (q q' : Spot) (o : ℕ) → leaves_c N arrows_on q q' o i ≡ false) → (not y && x || false) ≡ false
    go true d f = refl
    go false d f = rw (f d _ _ (o + 1))

pub late-false : (N : Names) (q : Spot) (o : ℕ) (h v : Home) (b : Bool) (k a n : ℕ) (i s : Rows) → Calm h v b (node k a n i s) → late_c N arrows_on q o k a i ≡ false
unfolding late_c Calm builder
late-false N q o h v b k a n i s c = go (eqb k 17) (bit 4 a) c.1
  where
    x : Bool
    x = leaves_c N arrows_on (into arrows_on q (by (in_params o a (eqb q.slot of_method)) free)) (into arrows_on q (by (in_body o a (eqb q.slot of_method)) free)) (o + 1) i

    go : (y z : Bool) → Calm (home_one k a h) (home_more k a h) (cond y z b) i → (y && z && x) ≡ false
    go true true d = leaves-false N i _ _ d _ _ (o + 1)
    go true false d = refl
    go false z d = refl

-- the row's inside in the result
unfoldable pub inside_e : Names → List Binding → Spot → (o k a n : ℕ) → Rows → Rows
inside_e N bs q o k a n i = top N bs q.slot k (more N q o k a n i).ctx.this_at (emit_c N arrows_on bs (one N q o k a n i) (more N q o k a n i) (o + 1) i)

unfoldable pub row_e : Names → List Binding → Spot → (o k a n : ℕ) → Rows → Rows → Rows
row_e N bs q o k a n i = node (new_kind q.ctx k a) (new_attr q.ctx k a) (new_name N bs q.ctx k a n) (inside_e N bs q o k a n i)

is_empty : (r : Rows) → Empty r → r ≡ none
unfolding Empty
is_empty none e = refl
is_empty (node k a n i s) e = absurd e

this_inside : (N : Names) (bs : List Binding) (q : Spot) (o k a n : ℕ) (i : Rows) → WfRow k a i → eqb k 9 ≡ true → inside_e N bs q o k a n i ≡ none
this_inside N bs q o k a n i f e = subst (λ (k : ℕ). WfRow k a i → inside_e N bs q o k a n i ≡ none) (sym (eqb-eq k 9 e)) (λ f. nine (unfold WfRow in f)) f
  where
    nine : Empty i → inside_e N bs q o 9 a n i ≡ none
    nine f = rw (is_empty i f) (unfold inside_e top closes emit_c in refl)

pub emit_shape : (N : Names) (bs : List Binding) (h v : Home) (b : Bool) (q q' : Spot) (o k a n : ℕ) (i s : Rows) → Ready h v b q q' (node k a n i s) →
    emit_c N arrows_on bs q q' o (node k a n i s) ≡ dress q.slot (row_e N bs q o k a n i) (emit_c N arrows_on bs q' q' (o + 1 + size i) s)
unfolding emit_c act_c row_e Wf inside_e
emit_shape N bs h v b q q' o k a n i s R =
    rw (late-false N q o h v b k a n i s R.calm)
    (ap (λ (t : Rows → Rows). dress q.slot t (emit_c N arrows_on bs q' q' (o + 1 + size i) s))
    (fun_ext λ S. built N bs q R.usual o a n i (inside_e N bs q o k a n i) S k (wf_zero k a i R.wf.0) (this_inside N bs q o k a n i R.wf.0)))

-- the bindings
module _ (N : Names) (q : Spot) (U : Usual q) (o a n : ℕ) (i : Rows) (bs : List Binding) where
  Met : ℕ → Type 0
  Met k = meet N (act N arrows_on false q.ctx q.slot o k a n i).op bs ≡ meet_e N q.ctx k bs

  Left : ℕ → Type 0
  Left k = leave N q.ctx (act N arrows_on false q.ctx q.slot o k a n i).op bs ≡ bs

  this_meet : (x : Bool) (f : ℕ) → meet N (cond x (name 1 f) (row 9 a n)) bs ≡ cond x (note N 1 f 0 bs) bs
  unfolding meet
  this_meet true f = refl
  this_meet false f = refl

  arrow_meet : (x : Bool) → meet N (cond x (row 17 0 0) (row 16 a n)) bs ≡ bs
  unfolding meet
  arrow_meet true = refl
  arrow_meet false = refl

  this_leave : (x : Bool) (f : ℕ) → leave N q.ctx (cond x (name 1 f) (row 9 a n)) bs ≡ bs
  unfolding leave
  this_leave true f = refl
  this_leave false f = refl

  arrow_leave : (x : Bool) → leave N q.ctx (cond x (row 17 0 0) (row 16 a n)) bs ≡ bs
  unfolding leave
  arrow_leave true = refl
  arrow_leave false = refl

  meet_shape : (k : ℕ) → eqb k 0 ≡ false → Met k
  unfolding Met meet_e act act_of kind_of meet enabled
  meet_shape = kinds Met (this_meet q.ctx.takes_this q.ctx.this_at) (arrow_meet (not (bit 1 a))) refl refl refl (λ k d. rw (dull_op N q U o k a n i d, d.n9))

  leave_shape : (k : ℕ) → eqb k 0 ≡ false → Left k
  unfolding Left act act_of kind_of leave enabled
  leave_shape = kinds Left (this_leave q.ctx.takes_this q.ctx.this_at) (arrow_leave (not (bit 1 a))) refl refl refl (λ k d. rw (dull_op N q U o k a n i d))

pub collect_shape : (N : Names) (h v : Home) (b : Bool) (q q' : Spot) (o k a n : ℕ) (i s : Rows) → Ready h v b q q' (node k a n i s) → (bs : List Binding) →
    collect_c N arrows_on q q' o (node k a n i s) bs
    ≡ collect_c N arrows_on q' q' (o + 1 + size i) s (closed (closes q.slot k) (more N q o k a n i).ctx.this_at
    (collect_c N arrows_on (one N q o k a n i) (more N q o k a n i) (o + 1) i (meet_e N q.ctx k bs)))
unfolding collect_c act_c Wf Met Left
collect_shape N h v b q q' o k a n i s R bs =
    let z = wf_zero k a i R.wf.0 in
    rw (late-false N q o h v b k a n i s R.calm, meet_shape N q R.usual o a n i bs k z, leave_shape N q R.usual o a n i (collect_c N arrows_on (one N q o k a n i) (more N q o k a n i) (o + 1) i (meet_e N q.ctx k bs)) k z)
