-- The fused walk is the steps: in each state it makes what module 7 makes of the converted rows. Assumes nothing.
use mathlib.Core.Path.{◌≡◌, refl, ap, ap₂, ◌∙◌, sym}
use mathlib.Core.List.{List}
use Prim.Native.Nat.{ℕ, ◌+◌}
use mathlib.Core.Bool.{Bool, true, false, cond, ◌&&◌, ◌||◌, false≢true}
use lib.Dec.{eqb}
use Rattle.forest.specs.Forest.{Rows, Rows.none, Rows.node, size}
use Rattle.steps.specs.Mode.{Switches}
use Rattle.steps.specs.Super.{first_super}
use Rattle.steps.specs.ArrowToFunction.{dress}
use Rattle.steps.specs.Slots.{free}
use Rattle.steps.specs.Naming.{Names}
use Rattle.steps.specs.Acts.{Ctx, Op, Act}
use Rattle.steps.specs.Bindings.{Binding, number}
use Rattle.steps.specs.AfterSuper.{list, copy, super_call, after_super}
use Rattle.steps.specs.Walk.{build}
use Rattle.steps.specs.Context.{enter, start, Spot, spot, into, late_c, act_c, emit_c, made_c, steps_c}
use Rattle.steps.specs.Fused.{met_of, direct_of, within, own, scan_of, next_of, anew, pass_of, top_s, build_s, emit_s, steps_s}
use Rattle.steps.proofs.Shape.{at}
use Rattle.steps.proofs.Scanning.{copied, body-row, Tells, built_row, framed_row}
use Rattle.steps.proofs.Firsts.{inside, callee_same, statement_same}
use Rattle.steps.proofs.Occurring.{fits, begun, fits-copy, begun-at, within_calm, steady-begun, Sound, sound}
use Rattle.names.proofs.Bools.{pick}

-- what occurs in a list occurs in the rows after its first
next_low : (sc : ℕ) (first : Bool) → eqb (next_of sc first) 3 ≡ false
unfolding next_of
next_low sc first =
    let P : ℕ → Type 0 = λ (s : ℕ). eqb s 3 ≡ false in
    at (λ (s : ℕ). P (next_of s first)) 3 sc refl (λ e. pick P (eqb sc 5) 6 _ refl (pick P (eqb sc 4 || eqb sc 3 || first) 2 sc refl e))

asks_nothing : (x y u v : Bool) → cond x false (cond y false true) ≡ true → cond x u (cond y v true) ≡ true
asks_nothing true y u v h = absurd (false≢true h)
asks_nothing false true u v h = absurd (false≢true h)
asks_nothing false false u v h = refl

other_fits : (sl sc sc' : ℕ) → eqb sc 2 ≡ false → eqb sc 1 ≡ false → fits sl sc ≡ true → fits sl sc' ≡ true
unfolding fits
other_fits sl sc sc' e2 e1 h = asks_nothing (eqb sl 2 || eqb sl 3) (eqb sl 7) (eqb sc' 2) (eqb sc' 2 || eqb sc' 1) (rw (e2, e1) at h)

next_fits : (sl sc : ℕ) (first : Bool) → fits sl sc ≡ true → fits sl (next_of sc first) ≡ true
unfolding next_of
next_fits sl sc first =
    let P : ℕ → Type 0 = λ (s : ℕ). fits sl s ≡ true → fits sl (next_of s first) ≡ true in
    let Q : ℕ → Type 0 = λ (s : ℕ). fits sl s ≡ true in
    at P 2 sc (λ h. pick Q first 2 2 (fits-copy sl) (fits-copy sl)) (λ e2. at P 1 sc (λ h. pick Q first 2 1 (fits-copy sl) h) (λ e1 h. other_fits sl sc (next_of sc first) e2 e1 h))

-- and in the row of an expression body
own-fits : (sl sc : ℕ) → fits sl sc ≡ true → fits sl (own sl sc) ≡ true
unfolding own fits
own-fits sl sc = at (λ (s : ℕ). fits s sc ≡ true → fits s (own s sc) ≡ true) 4 sl (λ h. refl) (λ e h. rw e h)

own-begun : (sl sc : ℕ) (r : Rows) → begun sc r ≡ true → begun (own sl sc) r ≡ true
unfolding own
own-begun sl sc r h = pick (λ (m : ℕ). begun m r ≡ true) (eqb sl 4) (within sc) sc (steady-begun (within sc) r (within_calm sc)) h

and-off : (x : Bool) → (x && false) ≡ false
and-off true = refl
and-off false = refl

within-list : (sc : ℕ) → eqb (within sc) 0 ≡ false
unfolding within
within-list sc = pick (λ (m : ℕ). eqb m 0 ≡ false) (eqb sc 2 || eqb sc 6) 2 1 refl refl

own_first : (sl sc k : ℕ) (called : Bool) → eqb sl 4 ≡ true → direct_of (own sl sc) k called ≡ false
unfolding own direct_of
own_first sl sc k called e = rw (e, within-list sc) (and-off (eqb k 1 && called))

module _ (N : Names) (w : Switches) (bs : List Binding) where
  -- a row with what is added around it
  dressed_row : (c : Ctx) (b sc : ℕ) (met first : Bool) (op : Op) (T S : Rows) (x : Bool) → Tells (cond x (within sc) sc) met first T op → (x ≡ true → first ≡ false)
      → after_super b sc (cond x (node 19 0 0 (node 4 0 0 (build N bs c op T none) none) S) (build N bs c op T S))
      ≡ cond x
      (node 19 0 0 (node 4 0 0 (build_s N bs c b met first op (after_super b (scan_of (cond x (within sc) sc) met first op) T) none) none) (after_super b (next_of sc first) S))
      (build_s N bs c b met first op (after_super b (scan_of (cond x (within sc) sc) met first op) T) (after_super b (next_of sc first) S))
  unfolding after_super
  dressed_row c b sc met first op T S true t e = body-row N bs c b sc (build N bs c op T none) S ∙ rw (built_row N bs c b (within sc) met first op T none t, e refl)
  dressed_row c b sc met first op T S false t e = built_row N bs c b sc met first op T S t

  dressed : (c : Ctx) (b sl sc : ℕ) (met first : Bool) (op : Op) (T S : Rows) → Tells (own sl sc) met first T op → (eqb sl 4 ≡ true → first ≡ false)
      → after_super b sc (dress sl (build N bs c op T) S) ≡ dress sl (build_s N bs c b met first op (after_super b (scan_of (own sl sc) met first op) T)) (after_super b (next_of sc first) S)
  unfolding own dress
  dressed c b sl sc met first op T S t e = dressed_row c b sc met first op T S (eqb sl 4) t e

  -- module 7, run on the converted rows, is the fused walk
  pub fused_after : (r : Rows) (b sc : ℕ) (q q' : Spot) (o : ℕ) → fits q.slot sc ≡ true → fits q'.slot sc ≡ true → begun sc r ≡ true
      → after_super b sc (emit_c N w bs q q' o r) ≡ emit_s N w bs b sc q q' o r
  unfolding emit_c emit_s after_super pass_of act_c
  fused_after none b sc q q' o f g h = refl
  fused_after (node k a n i s) b sc q q' o f g h =
      let A : Act = act_c N w q o k a n i in
      let r : ℕ = (enter w A.more.step q.ctx).this_at in
      let m : ℕ = number N bs 1 r 0 in
      let st : ℕ = own q.slot sc in
      let met : Bool = met_of st k (first_super i) in
      let first : Bool = direct_of st k (super_call i) in
      let new : Bool = anew q.slot k m in
      let b' : ℕ = cond new m b in
      let sc' : ℕ = cond new list (scan_of st met first A.op) in
      let sc'' : ℕ = next_of sc first in
      let I : Rows = emit_c N w bs (into w q A.one) (into w q A.more) (o + 1) i in
      let D : Sound st q.slot k new met first i (inside N w bs q o k a n i) A =
      sound N w (late_c N w q o k a i) q.ctx st q.slot o a n m i s (λ (k : ℕ). inside N w bs q o k a n i) (own-fits q.slot sc f) k (callee_same N w bs q o a n i) (statement_same N w bs q o a n i) (own-begun q.slot sc (node k a n i s) h) in
      let hi : after_super b' sc' I ≡ emit_s N w bs b' sc' (into w q A.one) (into w q A.more) (o + 1) i =
      fused_after i b' sc' (into w q A.one) (into w q A.more) (o + 1) D.one D.more D.begins in
      let hs : after_super b sc'' (emit_c N w bs q' q' (o + 1 + size i) s) ≡ emit_s N w bs b sc'' q' q' (o + 1 + size i) s =
      fused_after s b sc'' q' q' (o + 1 + size i) (next_fits q'.slot sc first g) (next_fits q'.slot sc first g) (begun-at sc'' s (next_low sc first)) in
      dressed q.ctx b q.slot sc met first A.op (inside N w bs q o k a n i) (emit_c N w bs q' q' (o + 1 + size i) s) D.tells (own_first q.slot sc k (super_call i))
      ∙ ap₂ (λ (x y : Rows). dress q.slot (build_s N bs q.ctx b met first A.op x) y)
      (framed_row N bs q.ctx b (scan_of st met first A.op) q.slot k r I D.calm D.late ∙ ap (top_s N bs q.slot k r) hi)
      hs

  -- in state copy nothing is inserted
  pub fused : (r : Rows) (b : ℕ) (q q' : Spot) (o : ℕ) → emit_s N w bs b copy q q' o r ≡ emit_c N w bs q q' o r
  fused r b q q' o = sym (fused_after r b copy q q' o (fits-copy q.slot) (fits-copy q'.slot) (begun-at copy r refl)) ∙ copied b (emit_c N w bs q q' o r)

  -- module 8, "with module 7 run": the children of a constructor's Body, which are in free slots
  pub fused_body : (r : Rows) (b : ℕ) (c c' : Ctx) (o : ℕ) → after_super b list (emit_c N w bs (spot c free) (spot c' free) o r) ≡ emit_s N w bs b list (spot c free) (spot c' free) o r
  unfolding fits
  fused_body r b c c' o = fused_after r b list (spot c free) (spot c' free) o refl refl (begun-at list r refl)

-- the whole
pub steps_fused : (N : Names) (w : Switches) (t : Rows) → steps_c N w t ≡ steps_s N w t
unfolding steps_c steps_s
steps_fused N w t = rw (fused N w (made_c N w t) t 0 (spot start free) (spot start free) 0)
