-- The Declarators of a result are those of its frames. Assumes nothing.
use mathlib.Core.Path.{◌≡◌, refl, ◌∙◌, sym}
use mathlib.Core.List.{List, [], ◌∷◌, ◌++◌, append-nil}
use Prim.Native.Nat.{ℕ, ◌+◌, ◌≤◌, ◌<◌}
use mathlib.Core.Bool.{Bool, true, false, cond, true≢false, false≢true}
use lib.Dec.{eqb}
use native.Mathlib.Omega.{arith}
use Rattle.steps.specs.Paths.{Step.in_params, Step.in_body, Step.in_static}
use Rattle.steps.specs.Naming.{Names}
use Rattle.steps.specs.Bindings.{closes}
use Rattle.steps.specs.Acts.{Ctx, by, kind_of, act_of, act}
use Rattle.steps.specs.Slots.{free, of_method}
use Rattle.steps.specs.Context.{enter, Spot, spot, into}
use Rattle.steps.proofs.Credit.{eqb_no, eqb_yes}
use Rattle.steps.proofs.Fewer.{Bodied, slot_one, slot_more, not_function}
use Rattle.steps.specs.Owners.{ranked, count, own_one, own_more, Read, Init, Init.this_by, Paired, Paired.done, Paired.alike, Paired.named, arrows_on}
use Rattle.steps.proofs.WellShaped.{OneBody, ParamsBody, Wf}
use Rattle.steps.proofs.Shape.{at}
use Rattle.steps.proofs.Walks.{wf_zero, one, more}
use Rattle.steps.proofs.Counting.{at_top_of}
use Rattle.steps.proofs.Frames.{frames_at, open_at}
use Rattle.forest.specs.Forest.{Rows, Rows.none, Rows.node, size}

pub paired_append : {D : ℕ → List Init} {xs ys xs' ys' : List Read} → Paired D xs ys → Paired D xs' ys' → Paired D (xs ++ xs') (ys ++ ys')
paired_append done t = t
paired_append (alike r) t = alike (paired_append r t)
paired_append (named e r) t = named e (paired_append r t)

-- a Body's frame is not f; it stands above row o
abbrev pub Off : ℕ → Spot → Type 0
Off f q = Bodied q.slot ≡ true → q.ctx.this_at ≡ f → ⊥

abbrev pub Below : ℕ → Spot → Type 0
Below o q = Bodied q.slot ≡ true → q.ctx.this_at < o

module _ (N : Names) (q : Spot) (o a n : ℕ) (i : Rows) where
  one-bare : (k : ℕ) → Bodied (one N q o k a n i).slot ≡ false
  unfolding act
  one-bare k = slot_one N arrows_on false q.ctx q.slot o k a n i (λ (s : ℕ). Bodied s ≡ false) refl refl refl refl refl (kind_of k)

  more-bare : (k : ℕ) → eqb k 17 ≡ false → Bodied (more N q o k a n i).slot ≡ false
  unfolding act
  more-bare k e = slot_more N arrows_on false q.ctx q.slot o k a n i (λ (s : ℕ). Bodied s ≡ false) refl refl refl (kind_of k) (not_function k e)

  more_body : (P : ℕ → Type 0) → P o → (k : ℕ) → Bodied (more N q o k a n i).slot ≡ true → P (more N q o k a n i).ctx.this_at
  unfolding act act_of kind_of enter
  more_body P p k = at (λ (k : ℕ). Bodied (more N q o k a n i).slot ≡ true → P (more N q o k a n i).ctx.this_at) 17 k (λ e. p) (λ e d. absurd (true≢false (sym d ∙ more-bare k e)))

  pub off-one : (f k : ℕ) → Off f (one N q o k a n i)
  off-one f k e = absurd (true≢false (sym e ∙ one-bare k))

  pub off-more : (f k : ℕ) → (o ≡ f → ⊥) → Off f (more N q o k a n i)
  off-more f k ne e = more_body (λ (r : ℕ). r ≡ f → ⊥) ne k e

  pub below_one : (k : ℕ) → Below (o + 1) (one N q o k a n i)
  below_one k e = absurd (true≢false (sym e ∙ one-bare k))

  pub below_more : (k : ℕ) → Below (o + 1) (more N q o k a n i)
  below_more k e = more_body (λ (r : ℕ). r < o + 1) (omega arith) k e

  TopOff : ℕ → ℕ → ℕ → Type 0
  TopOff f w k = at_top_of f (closes q.slot k) (more N q o k a n i).ctx.this_at w ≡ []

  body_off : (f w : ℕ) → (x : Bool) → Bodied q.slot ≡ x → Off f q → cond x (cond (eqb q.ctx.this_at f) (this_by w ∷ []) []) [] ≡ []
  body_off f w true e h = rw (eqb_no q.ctx.this_at f (h e))
  body_off f w false e h = refl

  pub top-off : (f w : ℕ) → (o ≡ f → ⊥) → Off f q → (k : ℕ) → eqb k 0 ≡ false → at_top_of f (closes q.slot k) (more N q o k a n i).ctx.this_at w ≡ []
  unfolding TopOff at_top_of closes act act_of kind_of enter
  top-off f w ne h k z =
      at (TopOff f w) 23 k (rw (eqb_no o f ne))
      (λ e. at (TopOff f w) 19 k (body_off f w (Bodied q.slot) refl h) (λ g. rw (open_at q.slot k z e g)))

pub below_off : (o f : ℕ) (q : Spot) → o ≤ f → Below o q → Off f q
below_off o f q l h e = λ d. omega (arith, h e)

pub below_up : (o o' : ℕ) (q : Spot) → o ≤ o' → Below o q → Below o' q
below_up o o' q l h e = omega (arith, h e)

-- f is no row of the list
abbrev pub Out : ℕ → ℕ → Rows → Type 0
Out f o r = (x : ℕ) → o ≤ x → x < o + size r → x ≡ f → ⊥

pub frames_off : (N : Names) (f : ℕ) (r : Rows) → Wf r → (q q' : Spot) (w v c o : ℕ) → Out f o r → Off f q → Off f q' → frames_at N f q q' w v c o r ≡ []
unfolding frames_at size Wf
frames_off N f none W q q' w v c o out h h' = refl
frames_off N f (node k a n i s) W q q' w v c o out h h' =
    let ne : o ≡ f → ⊥ = out o (omega arith) (omega arith) in
    rw (
      top-off N q o a n i f (own_one k a w c) ne h k (wf_zero k a i W.0),
      frames_off N f i W.1 (one N q o k a n i) (more N q o k a n i) (own_one k a w c) (own_more k a w c) (c + ranked k) (o + 1) (λ x l u. out x (omega arith) (omega arith))
          (off-one N q o a n i f k) (off-more N q o a n i f k ne),
    )
    (frames_off N f s W.2 q' q' v v (c + ranked k + count i) (o + 1 + size i) (λ x l u. out x (omega arith) (omega arith)) h' h')

module _ (N : Names) (f : ℕ) (q q' : Spot) (w v c o k a n : ℕ) (i s : Rows) (W : Wf (node k a n i s)) (B : Below o q) (B' : Below o q') where
  pub frames-in : o + 1 ≤ f → f < o + 1 + size i →
      frames_at N f q q' w v c o (node k a n i s) ≡ frames_at N f (one N q o k a n i) (more N q o k a n i) (own_one k a w c) (own_more k a w c) (c + ranked k) (o + 1) i
  unfolding frames_at Wf
  frames-in l u =
      let F = below_off o f q' (omega arith) B' in
      rw (
        top-off N q o a n i f (own_one k a w c) (λ e. omega arith) (below_off o f q (omega arith) B) k (wf_zero k a i W.0),
        frames_off N f s W.2 q' q' v v (c + ranked k + count i) (o + 1 + size i) (λ x h₁ h₂ e. omega arith) F F,
      )
      (append-nil _)

  pub frames_on : o + 1 + size i ≤ f → frames_at N f q q' w v c o (node k a n i s) ≡ frames_at N f q' q' v v (c + ranked k + count i) (o + 1 + size i) s
  unfolding frames_at Wf
  frames_on l =
      rw (
        top-off N q o a n i f (own_one k a w c) (λ e. omega arith) (below_off o f q (omega arith) B) k (wf_zero k a i W.0),
        frames_off N f i W.1 (one N q o k a n i) (more N q o k a n i) (own_one k a w c) (own_more k a w c) (c + ranked k) (o + 1) (λ x h₁ h₂ e. omega arith)
            (off-one N q o a n i f k) (off-more N q o a n i f k (λ e. omega arith)),
      )

-- where f stands below all rows at hand
pub low : (f o : ℕ) (r : Rows) → f < o → Out f o r
low f o r h = λ x h₁ h₂ e. omega arith

bare : (c : Ctx) (f : ℕ) → Off f (spot c free)
bare c f e = absurd (false≢true e)

function_frames' : (N : Names) (q q' : Spot) (w v c o a n a₁ n₁ a₂ n₂ : ℕ) (i₁ i₂ s : Rows) → Wf i₁ → Wf i₂ → Wf s → Below o q' →
    frames_at N o q q' w v c o (node 17 a n (node 18 a₁ n₁ i₁ (node 19 a₂ n₂ i₂ none)) s) ≡ this_by c ∷ []
unfolding frames_at closes act act_of kind_of enter own_one own_more at_top_of
function_frames' N q q' w v c o a n a₁ n₁ a₂ n₂ i₁ i₂ s W₁ W₂ W B' =
    let p₁ : Spot = into arrows_on q (by (in_params o a (eqb q.slot of_method)) free) in
    let p₂ : Spot = into arrows_on q (by (in_body o a (eqb q.slot of_method)) free) in
    let F = below_off o o q' (omega arith) B' in
    rw (
      frames_off N o i₁ W₁ p₁ p₁ c c _ (o + 1 + 1) (low o (o + 1 + 1) i₁ (omega arith)) (bare p₁.ctx o) (bare p₁.ctx o),
      frames_off N o i₂ W₂ p₂ p₂ c c _ (o + 1 + 1 + size i₁ + 1) (low o (o + 1 + 1 + size i₁ + 1) i₂ (omega arith)) (bare p₂.ctx o) (bare p₂.ctx o),
      frames_off N o s W q' q' v v _ (o + 1 + size (node 18 a₁ n₁ i₁ (node 19 a₂ n₂ i₂ none))) (low o (o + 1 + size (node 18 a₁ n₁ i₁ (node 19 a₂ n₂ i₂ none))) s (omega arith)) F F,
      eqb_yes o,
    )

pub function_frames : (N : Names) (q q' : Spot) (w v c o a n : ℕ) (i s : Rows) → Wf i → Wf s → Below o q' → ParamsBody i → frames_at N o q q' w v c o (node 17 a n i s) ≡ this_by c ∷ []
unfolding ParamsBody OneBody Wf
function_frames N q q' w v c o a n none s W W' B' P = absurd P
function_frames N q q' w v c o a n (node k₁ a₁ n₁ i₁ none) s W W' B' P = absurd P.1
function_frames N q q' w v c o a n (node k₁ a₁ n₁ i₁ (node k₂ a₂ n₂ i₂ s₂)) s W W' B' P =
    rw (P.0, P.1.0, P.1.1) (function_frames' N q q' w v c o a n a₁ n₁ a₂ n₂ i₁ i₂ s W.1 W.2.1 W' B')

pub static_frames : (N : Names) (q q' : Spot) (w v c o a n : ℕ) (i s : Rows) → Wf i → Wf s → Below o q' → frames_at N o q q' w v c o (node 23 a n i s) ≡ this_by c ∷ []
unfolding frames_at closes act act_of kind_of enter own_one own_more at_top_of
static_frames N q q' w v c o a n i s W W' B' =
    let p₁ : Spot = into arrows_on q (by (in_static o) free) in
    let F = below_off o o q' (omega arith) B' in
    rw (frames_off N o i W p₁ p₁ c c _ (o + 1) (low o (o + 1) i (omega arith)) (bare p₁.ctx o) (bare p₁.ctx o), frames_off N o s W' q' q' v v _ (o + 1 + size i) (low o (o + 1 + size i) s (omega arith)) F F, eqb_yes o)
