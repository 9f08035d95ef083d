-- Demand 3 of the rows under Program. Assumes nothing.
use mathlib.Core.Path.{◌≡◌, refl, ap, ◌∙◌, sym, subst}
use mathlib.Core.List.{List, [], ◌∷◌, ◌++◌, append-nil}
use Prim.Native.Nat.{ℕ, ◌+◌, ◌≤◌, ◌<◌}
use mathlib.Core.Bool.{Bool, true, false, cond, ◌&&◌, ◌||◌, false≢true}
use lib.Dec.{eqb}
use native.Mathlib.Omega.{arith}
use Rattle.steps.specs.Paths.{Step.along, Step.in_value}
use Rattle.steps.specs.Mode.{bit, enabled, async_only}
use Rattle.steps.specs.Naming.{Names, same_as}
use Rattle.steps.specs.Bindings.{Binding, number, note, closes, closed, meet, leave}
use Rattle.steps.specs.Acts.{Ctx, kind_of, act_of, act}
use Rattle.steps.specs.ArrowToFunction.{dress}
use Rattle.steps.specs.TopInsertion.{top}
use Rattle.steps.specs.Walk.{build}
use Rattle.steps.specs.Slots.{free, wrapped}
use Rattle.steps.specs.Context.{enter, start, Spot, spot, act_c, collect_c, emit_c, made_c, steps_c}
use Rattle.steps.proofs.Credit.{eqb_no}
use Rattle.steps.proofs.Fewer.{and_no}
use Rattle.steps.specs.Owners.{ranked, count, own_one, own_more, Read.this_of, here, is_ident, is_target, made_ident, made_target, omitted, reads, Init, Init.this_by, decl_here, declared, arrow_here}
use Rattle.steps.specs.Owners.{arrows_of, Home, Home.at_top, Home.at_value, ArrowFits, home_one, home_more, Fits, Calm, captured_this, Paired, Paired.done, Paired.alike, Paired.named, OwnersKept, arrows_on}
use Rattle.steps.proofs.WellShaped.{NoThisKind, NoThisFirst, WfRow, Wf}
use Rattle.steps.proofs.Shape.{Dull, at, kinds, moved_off, Usual, one_slot, dull_one, dull_more, new_kind, new_attr, new_name, meet_e}
use Rattle.steps.proofs.Walks.{Ready, ready_in, ready_on, wf_zero, one, more, row_e, inside_e, emit_shape, collect_shape}
use Rattle.steps.proofs.Numbers.{AllThis, has, number_use, note-has, collect_all, collect_keeps, closed_keeps, closed_id}
use Rattle.steps.proofs.Counting.{two, at_top_of, top-declared, top_count, top_arrows, top-reads, dress-reads, ranked-same, inside_count, count_same, arrows_same}
use Rattle.steps.proofs.Frames.{Own, dull_own, dull_own', own-one, own-more, frames_at, declared_frames, open_at}
use Rattle.steps.proofs.Pairing.{paired_append, Below, Off, below_up, below_one, below_more, frames-in, frames_on, frames_off, function_frames, static_frames, low}
use Rattle.forest.specs.Forest.{Rows, Rows.none, Rows.node, size}

-- nothing of the table is left out
no_target : (r : Rows) → made_target (λ b. false) r ≡ false
unfolding made_target made_ident
no_target none = refl
no_target (node k a n none s) = and_no (is_target k)
no_target (node k a n (node k' a' n' i' s') s) = rw (and_no (eqb a' 1), and_no (is_ident k'), and_no (is_target k))

omit_none : (k a n : ℕ) (i : Rows) → omitted (λ b. false) k a n i ≡ false
unfolding omitted
omit_none k a n i = go (eqb k 3) (eqb k 15)
  where
    go : (x y : Bool) → cond x (eqb a 1 && false) (cond y (made_target (λ b. false) i) false) ≡ false
    go true y = and_no (eqb a 1)
    go false true = no_target i
    go false false = refl

-- nor of what stands for it in the result
pick_no : (f : ℕ → Bool) (x : Bool) (s t : ℕ) → f s ≡ false → f t ≡ false → f (cond x s t) ≡ false
pick_no f true s t h k = h
pick_no f false s t h k = k

module _ (md : ℕ → Bool) (c : Ctx) (a n' : ℕ) (i : Rows) where
  IdentOff : ℕ → Type 0
  IdentOff k = WfRow k a i → NoThisKind k → (is_ident (new_kind c k a) && (eqb (new_attr c k a) 1 && md n')) ≡ false

  ident_kind : (k : ℕ) → IdentOff k
  unfolding IdentOff WfRow NoThisKind is_ident new_kind new_attr
  ident_kind = two IdentOff (λ f t. absurd t) (λ f t. rw (pick_no (λ (k : ℕ). eqb k 11) (bit 1 a) 16 17 refl refl))
      (λ k e₁ e₂. at (λ (k : ℕ). eqb k 9 ≡ false → eqb k 16 ≡ false → IdentOff k) 11 k (λ e₁ e₂ f t. rw f) (λ e₃ e₁ e₂ f t. rw (e₁, e₂, e₃)) e₁ e₂)

module _ (N : Names) (bs : List Binding) (md : ℕ → Bool) where
  ident_off : (r : Rows) (h v : Home) (b : Bool) (q q' : Spot) (o : ℕ) → Ready h v b q q' r → eqb q.slot wrapped ≡ false → NoThisFirst r → made_ident md (emit_c N arrows_on bs q q' o r) ≡ false
  unfolding emit_c made_ident NoThisFirst Wf dress row_e IdentOff
  ident_off none h v b q q' o R u t = refl
  ident_off (node k a n i s) h v b q q' o R u t = rw (emit_shape N bs h v b _ _ o k a n i s R, u) (ident_kind md q.ctx a _ i k R.wf.0 t)

  bare-one : (q : Spot) → Usual q → (o k a n : ℕ) (i : Rows) → eqb (one N q o k a n i).slot wrapped ≡ false
  bare-one q U o k a n i = one_slot N q U o k a n i (λ (s : ℕ). eqb s wrapped ≡ false) refl refl refl

  module _ (h v : Home) (b : Bool) (q q' : Spot) (o a n : ℕ) (i s : Rows) where
    TargetOff : ℕ → Type 0
    TargetOff k = Ready h v b q q' (node k a n i s) → (is_target (new_kind q.ctx k a) && made_ident md (inside_e N bs q o k a n i)) ≡ false

    target-kind : (k : ℕ) → TargetOff k
    unfolding TargetOff is_target new_kind inside_e top closes Wf WfRow
    target-kind = two TargetOff (λ R. rw (pick_no (λ (k : ℕ). eqb k 28) q.ctx.takes_this 11 9 refl refl)) (λ R. rw (pick_no (λ (k : ℕ). eqb k 28) (bit 1 a) 16 17 refl refl))
        (λ k e₁ e₂. at (λ (k : ℕ). eqb k 9 ≡ false → eqb k 16 ≡ false → TargetOff k) 28 k
        (λ e₁ e₂ R. ident_off i _ _ _ (one N q o 28 a n i) (more N q o 28 a n i) (o + 1) (ready_in N h v b q q' o 28 a n i s R) (bare-one q R.usual o 28 a n i) R.wf.0)
        (λ e₃ e₁ e₂ R. rw (e₁, e₂, e₃)) e₁ e₂)

  target_off : (r : Rows) (h v : Home) (b : Bool) (q q' : Spot) (o : ℕ) → Ready h v b q q' r → eqb q.slot wrapped ≡ false → made_target md (emit_c N arrows_on bs q q' o r) ≡ false
  unfolding emit_c made_target dress row_e TargetOff
  target_off none h v b q q' o R u = refl
  target_off (node k a n i s) h v b q q' o R u = rw (emit_shape N bs h v b _ _ o k a n i s R, u) (target-kind h v b q q' o a n i s k R)

  module _ (h v : Home) (b : Bool) (q q' : Spot) (o a n n' : ℕ) (i s : Rows) where
    OmitOff : ℕ → Type 0
    OmitOff k = Ready h v b q q' (node k a n i s) → omitted md (new_kind q.ctx k a) (new_attr q.ctx k a) n' (inside_e N bs q o k a n i) ≡ false

    omit-pick : (x : Bool) (m m' a' : ℕ) (I : Rows) → eqb m 3 ≡ false → eqb m' 3 ≡ false → eqb m 15 ≡ false → eqb m' 15 ≡ false → omitted md (cond x m m') a' n' I ≡ false
    unfolding omitted
    omit-pick true m m' a' I e e' f f' = rw (e, f)
    omit-pick false m m' a' I e e' f f' = rw (e', f')

    omit-off : (k : ℕ) → OmitOff k
    unfolding OmitOff new_kind new_attr inside_e top closes Wf WfRow omitted
    omit-off = two OmitOff (λ R. omit-pick q.ctx.takes_this 11 9 (new_attr q.ctx 9 a) (inside_e N bs q o 9 a n i) refl refl refl refl) (λ R. omit-pick (bit 1 a) 16 17 (new_attr q.ctx 16 a) (inside_e N bs q o 16 a n i) refl refl refl refl)
        (λ k e₁ e₂. at (λ (k : ℕ). eqb k 9 ≡ false → eqb k 16 ≡ false → OmitOff k) 3 k (λ e₁ e₂ R. rw R.wf.0)
        (λ e₃ e₁ e₂. at (λ (k : ℕ). eqb k 3 ≡ false → eqb k 9 ≡ false → eqb k 16 ≡ false → OmitOff k) 15 k
        (λ e₃ e₁ e₂ R. target_off i _ _ _ (one N q o 15 a n i) (more N q o 15 a n i) (o + 1) (ready_in N h v b q q' o 15 a n i s R) (bare-one q R.usual o 15 a n i))
        (λ e₄ e₃ e₁ e₂ R. rw (e₁, e₂, e₃, e₄)) e₃ e₁ e₂) e₁ e₂)

module _ (N : Names) (bs : List Binding) (A : AllThis bs) (q : Spot) (U : Usual q) (w c c' a g : ℕ) (X : Rows) where
  InReads : ℕ → Type 0
  InReads k = reads (captured_this bs) (own_one (new_kind q.ctx k a) (new_attr q.ctx k a) w c) (own_more (new_kind q.ctx k a) (new_attr q.ctx k a) w c) c' (top N bs q.slot k g X)
      ≡ reads (captured_this bs) (own_one (new_kind q.ctx k a) (new_attr q.ctx k a) w c) (own_more (new_kind q.ctx k a) (new_attr q.ctx k a) w c) c' X

  in_static_lem : InReads 23
  unfolding InReads new_kind new_attr own_one own_more
  in_static_lem = top-reads N bs A q.slot 23 g U.on_time X c c'

  in-body : InReads 19
  unfolding InReads new_kind new_attr own_one own_more
  in-body = top-reads N bs A q.slot 19 g U.on_time X w c'

  in_reads : (k : ℕ) → eqb k 0 ≡ false → InReads k
  in_reads k z = at InReads 23 k in_static_lem (λ e. at InReads 19 k in-body (λ f. unfold InReads top in rw (open_at q.slot k z e f)))

row_reads : (N : Names) (bs : List Binding) (A : AllThis bs) (h v : Home) (b : Bool) (q q' : Spot) (o w x c k a n : ℕ) (i s t : Rows) → Ready h v b q q' (node k a n i s) →
    reads (captured_this bs) w x c (dress q.slot (row_e N bs q o k a n i) t)
    ≡ here (captured_this bs) w (new_kind q.ctx k a) (new_attr q.ctx k a) (new_name N bs q.ctx k a n)
    ++ (reads (captured_this bs) (own_one (new_kind q.ctx k a) (new_attr q.ctx k a) w c) (own_more (new_kind q.ctx k a) (new_attr q.ctx k a) w c) (c + ranked k)
    (emit_c N arrows_on bs (one N q o k a n i) (more N q o k a n i) (o + 1) i)
    ++ reads (captured_this bs) x x (c + ranked k + count i) t)
unfolding row_e Wf OmitOff InReads
row_reads N bs A h v b q q' o w x c k a n i s t R =
    dress-reads (captured_this bs) w x c q.slot _ _ _ _ t
    ∙ rw (omit-off N bs (captured_this bs) h v b q q' o a n (new_name N bs q.ctx k a n) i s k R, inside_count N bs A h v b q q' o k a n i s R, ranked-same)
    (unfold inside_e in rw (in_reads N bs A q R.usual w c (c + ranked k) a _ _ k (wf_zero k a i R.wf.0)))

dull_home : (k : ℕ) → Dull k → (a : ℕ) (h : Home) → home_one k a h ≡ h
unfolding home_one
dull_home k D a h = rw (D.n0, D.n17, D.n23, D.n22)

dull_home' : (k : ℕ) → Dull k → (a : ℕ) (h : Home) → home_more k a h ≡ h
unfolding home_more
dull_home' k D a h = rw (D.n0, D.n17, D.n23, D.n22)

-- What is known on the way down.
module _ (N : Names) (z : same_as N 0 0 ≡ true) (bs : List Binding) (A : AllThis bs) (D : ℕ → List Init) where
  abbrev Known : ℕ → ℕ → Type 0
  Known f w = has N f bs ≡ true → D (number N bs 1 f 0) ≡ this_by w ∷ []

  record Inv (h : Home) (c : Ctx) (w w' : ℕ) : Type 0 where
    own : Own c w w'
    fits : c.takes_this ≡ true → ArrowFits h
    known : ArrowFits h → Known c.this_at w

  FrameKnown : ℕ → ℕ → ℕ → Type 0
  FrameKnown o c k = cond (eqb k 17 || eqb k 23) (Known o c) (Unit {0})

  module _ (h : Home) (b : Bool) (q : Spot) (U : Usual q) (o a n : ℕ) (i : Rows) (w w' d : ℕ) (I : Inv h q.ctx w w') where
    FitsOne : ℕ → Type 0
    FitsOne k = Fits h b k → (one N q o k a n i).ctx.takes_this ≡ true → ArrowFits (home_one k a h)

    FitsMore : ℕ → Type 0
    FitsMore k = Fits h b k → (more N q o k a n i).ctx.takes_this ≡ true → ArrowFits (home_more k a h)

    KnownOne : ℕ → Type 0
    KnownOne k = FrameKnown o d k → ArrowFits (home_one k a h) → Known (one N q o k a n i).ctx.this_at (own_one k a w d)

    KnownMore : ℕ → Type 0
    KnownMore k = FrameKnown o d k → ArrowFits (home_more k a h) → Known (more N q o k a n i).ctx.this_at (own_more k a w d)

    fits-field : (x : Bool) → (enter arrows_on (cond x along (in_value o)) q.ctx).takes_this ≡ true → ArrowFits (cond x h at_value)
    unfolding enter
    fits-field true e = I.fits e
    fits-field false e = absurd (false≢true e)

    known-field : (x : Bool) → ArrowFits (cond x h at_value) → Known (enter arrows_on (cond x along (in_value o)) q.ctx).this_at (cond x w d)
    unfolding enter ArrowFits
    known-field true = I.known
    known-field false = λ e. absurd e

    fits_one : (k : ℕ) → eqb k 0 ≡ false → FitsOne k
    unfolding FitsOne act act_of kind_of enter home_one Fits
    fits_one = kinds FitsOne (λ f. I.fits) (λ f e. f) (λ f e. absurd (false≢true e)) (λ f. fits-field (bit 1 a)) (λ f e. absurd (false≢true e))
        (λ k Q f. rw (dull_one N q U o k a n i Q, dull_home k Q a h) I.fits)

    fits_more : (k : ℕ) → eqb k 0 ≡ false → FitsMore k
    unfolding FitsMore act act_of kind_of enter home_more Fits
    fits_more = kinds FitsMore (λ f. I.fits) (λ f e. f) (λ f e. absurd (false≢true (sym (rw (moved_off a)) ∙ e))) (λ f e. absurd (false≢true e)) (λ f e. absurd (false≢true e))
        (λ k Q f. rw (dull_more N q U o k a n i Q, dull_home' k Q a h) I.fits)

    known-one : (k : ℕ) → eqb k 0 ≡ false → KnownOne k
    unfolding KnownOne FrameKnown act act_of kind_of enter home_one own_one ArrowFits
    known-one = kinds KnownOne (λ f. I.known) (λ f. I.known) (λ f e. absurd e) (λ f. known-field (bit 1 a)) (λ f e. f)
        (λ k Q f. rw (dull_one N q U o k a n i Q, dull_home k Q a h, dull_own k Q a w d) I.known)

    known_more : (k : ℕ) → eqb k 0 ≡ false → KnownMore k
    unfolding KnownMore FrameKnown act act_of kind_of enter home_more own_more ArrowFits
    known_more = kinds KnownMore (λ f. I.known) (λ f. I.known) (λ f e. f) (λ f e. absurd e) (λ f e. f)
        (λ k Q f. rw (dull_more N q U o k a n i Q, dull_home' k Q a h, dull_own' k Q a w d) I.known)

    inv-one : (k : ℕ) → eqb k 0 ≡ false → Fits h b k → FrameKnown o d k → Inv (home_one k a h) (one N q o k a n i).ctx (own_one k a w d) (own_one (new_kind q.ctx k a) (new_attr q.ctx k a) w' d)
    unfolding FitsOne KnownOne
    inv-one k y f F = record { own = own-one N q U o a n i w w' d I.own k y; fits = fits_one k y f; known = known-one k y F }

    inv-more : (k : ℕ) → eqb k 0 ≡ false → Fits h b k → FrameKnown o d k → Inv (home_more k a h) (more N q o k a n i).ctx (own_more k a w d) (own_more (new_kind q.ctx k a) (new_attr q.ctx k a) w' d)
    unfolding FitsMore KnownMore
    inv-more k y f F = record { own = own-more N q U o a n i w w' d I.own k y; fits = fits_more k y f; known = known_more k y F }

  -- one row
  pair_this : (h : Home) (c : Ctx) (w w' a n : ℕ) → Inv h c w w' → (c.takes_this ≡ true → has N c.this_at bs ≡ true) → (x : Bool) → c.takes_this ≡ x →
      Paired D (this_of w ∷ []) (here (captured_this bs) w' (cond x 11 9) (cond x 1 a) (cond x (number N bs 1 c.this_at 0) n))
  unfolding here
  pair_this h c w w' a n I H true e = rw (number_use N c.this_at bs (H e)) (named (I.known (I.fits e) (H e)) done)
  pair_this h c w w' a n I H false e = rw (I.own e) (alike done)

  pair_arrow : (w' a n : ℕ) (x : Bool) → Paired D [] (here (captured_this bs) w' (cond x 16 17) a n)
  unfolding here
  pair_arrow w' a n true = done
  pair_arrow w' a n false = done

  met : (c : Ctx) (st : List Binding) → (x : Bool) → c.takes_this ≡ x → x ≡ true → has N c.this_at (cond x (note N 1 c.this_at 0 st) st) ≡ true
  met c st true e y = note-has N z c.this_at st
  met c st false e y = absurd (false≢true y)

  module _ (h : Home) (c : Ctx) (w w' : ℕ) (I : Inv h c w w') (st : List Binding) (a n : ℕ) (i : Rows) where
    PairHere : ℕ → Type 0
    PairHere k = WfRow k a i → ((g : ℕ) → has N g (meet_e N c k st) ≡ true → has N g bs ≡ true) →
        Paired D (here (λ b. false) w k a n) (here (captured_this bs) w' (new_kind c k a) (new_attr c k a) (new_name N bs c k a n))

    pair-here : (k : ℕ) → PairHere k
    unfolding PairHere here new_kind new_attr new_name WfRow meet_e
    pair-here = two PairHere (λ f C. pair_this h c w w' a n I (λ e. C c.this_at (met c st c.takes_this refl e)) c.takes_this refl)
        (λ f C. pair_arrow w' (new_attr c 16 a) (new_name N bs c 16 a n) (bit 1 a))
        (λ k e₁ e₂. at (λ (k : ℕ). eqb k 9 ≡ false → eqb k 16 ≡ false → PairHere k) 11 k (λ e₁ e₂ f C. rw f done) (λ e₃ e₁ e₂ f C. rw (e₁, e₂, e₁, e₃) done) e₁ e₂)

  Agree : Spot → Spot → (w v c o : ℕ) → Rows → Type 0
  Agree q q' w v c o r = (f : ℕ) → o ≤ f → f < o + size r → has N f bs ≡ true → D (number N bs 1 f 0) ≡ frames_at N f q q' w v c o r

  module _ (q q' : Spot) (w v c o : ℕ) (B' : Below o q') (a n : ℕ) (i s : Rows) where
    Framed : ℕ → Type 0
    Framed k = Wf (node k a n i s) → Agree q q' w v c o (node k a n i s) → FrameKnown o c k

    frame-known : (k : ℕ) → Framed k
    unfolding Framed FrameKnown WfRow Agree size Wf
    frame-known k = at Framed 17 k (λ f G hf. G o (omega arith) (omega arith) hf ∙ function_frames N q q' w v c o a n i s f.1 f.2 B' f.0)
        (λ e. at (λ (k : ℕ). eqb k 17 ≡ false → Framed k) 23 k (λ e f G hf. G o (omega arith) (omega arith) hf ∙ static_frames N q q' w v c o a n i s f.1 f.2 B')
        (λ e' e f G. rw (e, e') tt) e)

  Sub : List Binding → Type 0
  Sub xs = (g : ℕ) → has N g xs ≡ true → has N g bs ≡ true

  pair : (r : Rows) (h v : Home) (b : Bool) (q q' : Spot) (o x x' y y' c : ℕ) (st : List Binding) → Ready h v b q q' r → Inv h q.ctx x x' → Inv v q'.ctx y y' →
      Below o q → Below o q' → Agree q q' x y c o r → Sub (collect_c N arrows_on q q' o r st) →
      Paired D (reads (λ b. false) x y c r) (reads (captured_this bs) x' y' c (emit_c N arrows_on bs q q' o r))
  unfolding reads emit_c Agree Sub size Wf Calm PairHere Framed
  pair none h v b q q' o x x' y y' c st R I I' B B' G C = done
  pair (node k a n i s) h v b q q' o x x' y y' c st R I I' B B' G C =
      let Ri = ready_in N h v b q q' o k a n i s R in
      let Rs = ready_on N h v b q q' o k a n i s R in
      let y0 = wf_zero k a i R.wf.0 in
      let F = frame-known q q' x y c o B' a n i s k R.wf G in
      let st₁ = meet_e N q.ctx k st in
      let st₂ = collect_c N arrows_on (one N q o k a n i) (more N q o k a n i) (o + 1) i st₁ in
      let st₃ = closed (closes q.slot k) (more N q o k a n i).ctx.this_at st₂ in
      let Cs : Sub (collect_c N arrows_on q' q' (o + 1 + size i) s st₃) = λ g e. C g (rw (collect_shape N h v b q q' o k a n i s R st) e) in
      let Ci : Sub st₂ = λ g e. Cs g (collect_keeps N g s v v b q' q' (o + 1 + size i) Rs st₃ (closed_keeps N g (closes q.slot k) (more N q o k a n i).ctx.this_at st₂ e)) in
      let Cm : Sub st₁ = λ g e. Ci g (collect_keeps N g i _ _ _ _ _ (o + 1) Ri st₁ e) in
      let up : o ≤ o + 1 + size i = omega arith in
      rw (emit_shape N bs h v b q q' o k a n i s R, row_reads N bs A h v b q q' o x' y' c k a n i s _ R, omit_none k a n i)
      (paired_append (pair-here h q.ctx x x' I st a n i k R.wf.0 Cm)
      (paired_append
      (pair i _ _ _ _ _ (o + 1) _ _ _ _ (c + ranked k) st₁ Ri (inv-one h b q R.usual o a n i x x' c I k y0 R.calm.0 F) (inv-more h b q R.usual o a n i x x' c I k y0 R.calm.0 F)
      (below_one N q o a n i k) (below_more N q o a n i k)
      (λ f l u hf. G f (omega arith) (omega arith) hf ∙ frames-in N f q q' x y c o k a n i s R.wf B B' l u) Ci)
      (pair s v v b q' q' (o + 1 + size i) y y' y y' (c + ranked k + count i) st₃ Rs I' I'
      (below_up o (o + 1 + size i) q' up B') (below_up o (o + 1 + size i) q' up B')
      (λ f l u hf. G f (omega arith) (omega arith) hf ∙ frames_on N f q q' x y c o k a n i s R.wf B B' l) Cs)))

-- Program
abbrev root : Spot
root = spot start free

root_rows : (N : Names) (bs : List Binding) (i : Rows) → emit_c N arrows_on bs root root 0 (node 0 0 0 i none) ≡ node 0 0 0 (top N bs 0 0 0 (emit_c N arrows_on bs root root 1 i)) none
unfolding emit_c dress build act_c act act_of kind_of enter
root_rows N bs i = refl

root-made : (N : Names) (i : Rows) → made_c N arrows_on (node 0 0 0 i none) ≡ closed true 0 (collect_c N arrows_on root root 1 i [])
unfolding made_c collect_c meet leave act_c act act_of kind_of closes enter
root-made N i = refl

module _ (N : Names) (z : same_as N 0 0 ≡ true) (i : Rows) (W : Wf i) (Q : Calm at_top at_top false i) where
  bs : List Binding
  bs = made_c N arrows_on (node 0 0 0 i none)

  U : Usual root
  U = record { no_super = refl; no_drop = refl; on_time = refl; stays = λ e. absurd (false≢true e) }

  R : Ready at_top at_top false root root i
  R = record { usual = U; usual' = U; wf = W; calm = Q }

  bs_is : bs ≡ collect_c N arrows_on root root 1 i []
  unfolding bs AllThis
  bs_is = root-made N i ∙ closed_id true 0 _ (collect_all N i _ _ _ _ _ 1 R [] tt)

  A : AllThis bs
  unfolding AllThis
  A = rw bs_is (collect_all N i _ _ _ _ _ 1 R [] tt)

  inside : Rows
  inside = top N bs 0 0 0 (emit_c N arrows_on bs root root 1 i)

  result : Rows
  result = node 0 0 0 inside none

  D : ℕ → List Init
  D b = declared b 0 0 0 result

  whole : (f : ℕ) → has N f bs ≡ true → D (number N bs 1 f 0) ≡ at_top_of f true 0 0 ++ frames_at N f root root 0 0 1 1 i
  unfolding D result inside declared decl_here own_one own_more ranked closes
  whole f hf = append-nil _ ∙ (top-declared N bs A 0 0 0 refl _ f 0 1 hf
      ∙ ap (λ (l : List Init). at_top_of f true 0 0 ++ l) (declared_frames N bs A f hf i _ _ _ _ _ 1 0 0 0 0 1 R (λ e. refl) (λ e. refl)))

  off : (f : ℕ) → Off f root
  off f e = absurd (false≢true e)

  root-known : has N 0 bs ≡ true → D (number N bs 1 0 0) ≡ this_by 0 ∷ []
  unfolding at_top_of
  root-known hf = whole 0 hf ∙ rw (frames_off N 0 i W root root 0 0 1 1 (low 0 1 i (omega arith)) (off 0) (off 0))

  agree : Agree N z bs A D root root 0 0 1 1 i
  unfolding Agree at_top_of
  agree f l u hf = whole f hf ∙ rw (eqb_no 0 f (λ e. omega arith))

  inv : Inv N z bs A D at_top start 0 0
  inv = record { own = λ e. refl; fits = λ e. absurd (false≢true e); known = λ e. root-known }

  pairs : Paired D (reads (λ b. false) 0 0 1 i) (reads (captured_this bs) 0 0 1 (emit_c N arrows_on bs root root 1 i))
  unfolding Sub
  pairs = pair N z bs A D i _ _ _ root root 1 0 0 0 0 1 [] R inv inv (λ e. absurd (false≢true e)) (λ e. absurd (false≢true e)) agree (λ g e. rw bs_is e)

  kept : OwnersKept (node 0 0 0 i none) (record { rows = result; bindings = bs })
  unfolding D result inside reads count arrows_of arrow_here ranked here omitted own_one own_more
  kept = record {
    counted = ap (λ (x : ℕ). 1 + x + 0) (sym (top_count N bs A 0 0 0 refl _ ∙ count_same N bs A i _ _ _ _ _ 1 R));
    async_arrows = ap (λ (l : List ℕ). l ++ []) (sym (top_arrows N bs A 0 0 0 refl _ (λ a. true) 1 ∙ arrows_same N bs A i _ _ _ _ _ 1 1 R));
    paired = rw (top-reads N bs A 0 0 0 refl _ 0 1) (paired_append pairs done);
  }

  steps-is : steps_c N arrows_on (node 0 0 0 i none) ≡ record { rows = result; bindings = bs }
  unfolding steps_c enabled async_only result inside bs
  steps-is = λ j. record { rows = root_rows N (made_c N arrows_on (node 0 0 0 i none)) i j; bindings = made_c N arrows_on (node 0 0 0 i none) }

  pub demand : OwnersKept (node 0 0 0 i none) (steps_c N arrows_on (node 0 0 0 i none))
  demand = subst (OwnersKept (node 0 0 0 i none)) (sym steps-is) kept
