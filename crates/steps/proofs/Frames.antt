-- Which frame declares which binding. Assumes nothing.
use mathlib.Core.Path.{◌≡◌, refl, ap₂, ◌∙◌}
use mathlib.Core.List.{List, [], ◌++◌, append_assoc}
use Prim.Native.Nat.{ℕ, ◌+◌}
use mathlib.Core.Bool.{Bool, true, false, cond, true≢false}
use lib.Dec.{eqb}
use Rattle.steps.specs.Paths.{Step.along, Step.in_value}
use Rattle.steps.specs.Mode.{bit, async_only}
use Rattle.steps.specs.Naming.{Names}
use Rattle.steps.specs.Bindings.{Binding, number, closes}
use Rattle.steps.specs.Acts.{Ctx, kind_of, act_of, act}
use Rattle.steps.specs.ArrowToFunction.{dress}
use Rattle.steps.specs.TopInsertion.{top}
use Rattle.steps.specs.Slots.{body_of, late_body}
use Rattle.steps.specs.Context.{enter, Spot, emit_c}
use Rattle.steps.specs.Owners.{ranked, count, own_one, own_more, Init, decl_here, declared, Home, arrows_on}
use Rattle.steps.proofs.WellShaped.{WfRow, Wf}
use Rattle.steps.proofs.Shape.{Dull, at, kinds, Usual, dull_one, dull_more, new_kind, new_attr}
use Rattle.steps.proofs.Walks.{Ready, ready_in, ready_on, wf_zero, one, more, row_e, inside_e, emit_shape}
use Rattle.steps.proofs.Numbers.{AllThis, has}
use Rattle.steps.proofs.Counting.{two, at_top_of, top-declared, dress-declared, ranked-same, inside_count}
use Rattle.forest.specs.Forest.{Rows, Rows.none, Rows.node, size}

-- the owner in the result, where no Arrow stands between
abbrev pub Own : Ctx → ℕ → ℕ → Type 0
Own c w w' = c.takes_this ≡ false → w' ≡ w

-- of the rest of the kinds
module _ (k : ℕ) (D : Dull k) where
  pub dull_kind : (c : Ctx) (a : ℕ) → new_kind c k a ≡ k
  unfolding new_kind
  dull_kind c a = rw (D.n9, D.n16)

  pub dull_attr : (c : Ctx) (a : ℕ) → new_attr c k a ≡ a
  unfolding new_attr
  dull_attr c a = rw (D.n9, D.n16)

  pub dull_own : (a w c : ℕ) → own_one k a w c ≡ w
  unfolding own_one
  dull_own a w c = rw (D.n0, D.n17, D.n23, D.n22)

  pub dull_own' : (a w c : ℕ) → own_more k a w c ≡ w
  unfolding own_more
  dull_own' a w c = rw (D.n0, D.n17, D.n22, D.n23)

own_this : (x : Bool) (a w c : ℕ) → own_one (cond x 11 9) a w c ≡ w
unfolding own_one
own_this true a w c = refl
own_this false a w c = refl

own_this' : (x : Bool) (a w c : ℕ) → own_more (cond x 11 9) a w c ≡ w
unfolding own_more
own_this' true a w c = refl
own_this' false a w c = refl

module _ (N : Names) (q : Spot) (U : Usual q) (o a n : ℕ) (i : Rows) (w w' d : ℕ) (h : Own q.ctx w w') where
  abbrev pub One : ℕ → Type 0
  One k = Own (one N q o k a n i).ctx (own_one k a w d) (own_one (new_kind q.ctx k a) (new_attr q.ctx k a) w' d)

  abbrev pub More : ℕ → Type 0
  More k = Own (more N q o k a n i).ctx (own_more k a w d) (own_more (new_kind q.ctx k a) (new_attr q.ctx k a) w' d)

  own_field : (x : Bool) → Own (enter arrows_on (cond x along (in_value o)) q.ctx) (cond x w d) (cond x w' d)
  unfolding enter
  own_field true = h
  own_field false = λ e. refl

  pub own-one : (k : ℕ) → eqb k 0 ≡ false → One k
  unfolding act act_of kind_of enter async_only own_one new_kind new_attr
  own-one = kinds One
      (λ e. own_this q.ctx.takes_this (new_attr q.ctx 9 a) w' d ∙ h e)
      (λ e. absurd (true≢false e)) (λ e. refl) (own_field (bit 1 a)) (λ e. refl)
      (λ k D. unfold enter in rw (dull_one N q U o k a n i D, dull_kind k D q.ctx a, dull_attr k D q.ctx a, dull_own k D a w d, dull_own k D a w' d) h)

  pub own-more : (k : ℕ) → eqb k 0 ≡ false → More k
  unfolding act act_of kind_of enter async_only own_more new_kind new_attr
  own-more = kinds More
      (λ e. own_this' q.ctx.takes_this (new_attr q.ctx 9 a) w' d ∙ h e)
      (λ e. absurd (true≢false e)) (λ e. refl) (λ e. refl) (λ e. refl)
      (λ k D. unfold enter in rw (dull_more N q U o k a n i D, dull_kind k D q.ctx a, dull_own' k D a w d, dull_own' k D a w' d) h)

unfoldable pub frames_at : Names → ℕ → Spot → Spot → (w v c o : ℕ) → Rows → List Init
frames_at N f q q' w v c o none = []
frames_at N f q q' w v c o (node k a n i s) =
    at_top_of f (closes q.slot k) (more N q o k a n i).ctx.this_at (own_one k a w c)
    ++ (frames_at N f (one N q o k a n i) (more N q o k a n i) (own_one k a w c) (own_more k a w c) (c + ranked k) (o + 1) i
    ++ frames_at N f q' q' v v (c + ranked k + count i) (o + 1 + size i) s)

decl_this : (m w : ℕ) (x : Bool) (a n : ℕ) (I : Rows) → decl_here m w (cond x 11 9) a n I ≡ []
unfolding decl_here
decl_this m w true a n I = refl
decl_this m w false a n I = refl

decl_arrow : (m w : ℕ) (x : Bool) (a n : ℕ) (I : Rows) → decl_here m w (cond x 16 17) a n I ≡ []
unfolding decl_here
decl_arrow m w true a n I = refl
decl_arrow m w false a n I = refl

decl_none : (m w : ℕ) (c : Ctx) (n' : ℕ) (I : Rows) (k a : ℕ) (i : Rows) → WfRow k a i → decl_here m w (new_kind c k a) (new_attr c k a) n' I ≡ []
unfolding WfRow new_kind new_attr
decl_none m w c n' I k a i wf =
    two (λ (k : ℕ). WfRow k a i → decl_here m w (new_kind c k a) (new_attr c k a) n' I ≡ [])
    (λ f. decl_this m w c.takes_this (new_attr c 9 a) n' I) (λ f. decl_arrow m w (bit 1 a) (new_attr c 16 a) n' I)
    (λ k e₁ e₂. at (λ (k : ℕ). eqb k 9 ≡ false → eqb k 16 ≡ false → WfRow k a i → decl_here m w (new_kind c k a) (new_attr c k a) n' I ≡ []) 3 k
    (λ e₁ e₂ f. unfold decl_here in rw f) (λ e₃ e₁ e₂ f. unfold decl_here in rw (e₁, e₂, e₃)) e₁ e₂) k wf

-- where a row closes no frame
pub open_at : (sl k : ℕ) → eqb k 0 ≡ false → eqb k 23 ≡ false → eqb k 19 ≡ false → closes sl k ≡ false
unfolding closes
open_at sl k z e f = rw (z, e, f)

body_at : (sl : ℕ) → eqb sl late_body ≡ false → (x : Bool) → eqb sl body_of ≡ x → closes sl 19 ≡ x
unfolding closes
body_at sl l true e = rw e
body_at sl l false e = rw (e, l)

module _ (N : Names) (bs : List Binding) (A : AllThis bs) (f : ℕ) (hf : has N f bs ≡ true) (q : Spot) (U : Usual q) (w w' c d o a n : ℕ) (i X : Rows) (h : Own q.ctx w w') where
  m : ℕ
  m = number N bs 1 f 0

  Top : ℕ → Type 0
  Top k = declared m (own_one (new_kind q.ctx k a) (new_attr q.ctx k a) w' c) (own_more (new_kind q.ctx k a) (new_attr q.ctx k a) w' c) d (top N bs q.slot k (more N q o k a n i).ctx.this_at X)
      ≡ at_top_of f (closes q.slot k) (more N q o k a n i).ctx.this_at (own_one k a w c) ++ declared m (own_one (new_kind q.ctx k a) (new_attr q.ctx k a) w' c) (own_more (new_kind q.ctx k a) (new_attr q.ctx k a) w' c) d X

  static_top : Top 23
  unfolding Top m new_kind new_attr own_one own_more
  static_top = top-declared N bs A q.slot 23 _ U.on_time X f c d hf

  body_top : (x : Bool) → eqb q.slot body_of ≡ x → Top 19
  unfolding Top m new_kind new_attr own_one own_more
  body_top true e = rw (← h (U.stays e)) (top-declared N bs A q.slot 19 _ U.on_time X f w' d hf)
  body_top false e = unfold top at_top_of in rw (body_at q.slot U.on_time false e)

  in_declared : (k : ℕ) → eqb k 0 ≡ false → Top k
  in_declared k z = at Top 23 k static_top (λ e. at Top 19 k (body_top (eqb q.slot body_of) refl) (λ g. unfold Top top at_top_of in rw (open_at q.slot k z e g)))

row_declared : (N : Names) (bs : List Binding) (m w v c sl : ℕ) (q : Spot) (o k a n : ℕ) (i t : Rows) → WfRow k a i → declared m w v c (dress sl (row_e N bs q o k a n i) t)
    ≡ declared m (own_one (new_kind q.ctx k a) (new_attr q.ctx k a) w c) (own_more (new_kind q.ctx k a) (new_attr q.ctx k a) w c) (c + ranked k) (inside_e N bs q o k a n i)
    ++ declared m v v (c + ranked k + count (inside_e N bs q o k a n i)) t
unfolding row_e
row_declared N bs m w v c sl q o k a n i t wf = dress-declared m w v c sl _ _ _ _ t ∙ rw (ranked-same, decl_none m w q.ctx _ _ k a i wf)

inside_declared : (N : Names) (bs : List Binding) (A : AllThis bs) (f : ℕ) (hf : has N f bs ≡ true) (q : Spot) (U : Usual q) (w w' c d o : ℕ) → Own q.ctx w w' → (k a n : ℕ) (i : Rows) → eqb k 0 ≡ false →
    declared (number N bs 1 f 0) (own_one (new_kind q.ctx k a) (new_attr q.ctx k a) w' c) (own_more (new_kind q.ctx k a) (new_attr q.ctx k a) w' c) d (inside_e N bs q o k a n i)
    ≡ at_top_of f (closes q.slot k) (more N q o k a n i).ctx.this_at (own_one k a w c) ++ declared (number N bs 1 f 0) (own_one (new_kind q.ctx k a) (new_attr q.ctx k a) w' c) (own_more (new_kind q.ctx k a) (new_attr q.ctx k a) w' c) d
    (emit_c N arrows_on bs (one N q o k a n i) (more N q o k a n i) (o + 1) i)
unfolding inside_e Top m
inside_declared N bs A f hf q U w w' c d o own k a n i z = in_declared N bs A f hf q U w w' c d o a n i _ own k z

module _ (N : Names) (bs : List Binding) (A : AllThis bs) (f : ℕ) (hf : has N f bs ≡ true) where
  pub declared_frames : (r : Rows) (h v : Home) (b : Bool) (q q' : Spot) (o x x' y y' c : ℕ) → Ready h v b q q' r → Own q.ctx x x' → Own q'.ctx y y' →
      declared (number N bs 1 f 0) x' y' c (emit_c N arrows_on bs q q' o r) ≡ frames_at N f q q' x y c o r
  unfolding emit_c declared frames_at Wf
  declared_frames none h v b q q' o x x' y y' c R O O' = refl
  declared_frames (node k a n i s) h v b q q' o x x' y y' c R O O' =
      let z = wf_zero k a i R.wf.0 in
      rw (
        emit_shape N bs h v b q q' o k a n i s R,
        row_declared N bs (number N bs 1 f 0) x' y' c q.slot q o k a n i _ R.wf.0,
        inside_count N bs A h v b q q' o k a n i s R,
        inside_declared N bs A f hf q R.usual x x' c (c + ranked k) o O k a n i z,
        append_assoc,
      )
      (ap₂ (λ (s₁ s₂ : List Init). at_top_of f (closes q.slot k) (more N q o k a n i).ctx.this_at (own_one k a x c) ++ (s₁ ++ s₂))
      (declared_frames i _ _ _ _ _ (o + 1) _ _ _ _ (c + ranked k) (ready_in N h v b q q' o k a n i s R) (own-one N q R.usual o a n i x x' c O k z) (own-more N q R.usual o a n i x x' c O k z))
      (declared_frames s v v b q' q' (o + 1 + size i) y y' y y' (c + ranked k + count i) (ready_on N h v b q q' o k a n i s R) O' O'))
