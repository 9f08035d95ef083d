-- The walks over contexts are the walks over paths. Assumes nothing.
use mathlib.Core.Path.{◌≡◌, refl, ap, ap₂, ◌∙◌}
use mathlib.Core.List.{List, [], ◌∷◌}
use Prim.Native.Nat.{ℕ, ◌+◌}
use mathlib.Core.Bool.{Bool, false, not, ◌&&◌, ◌||◌}
use lib.Dec.{eqb}
use Rattle.steps.specs.Paths.{Step, Step.along, Step.in_params, Step.in_body, Step.in_arrow, Step.in_value, Step.in_static}
use Rattle.steps.specs.Mode.{Switches, bit}
use Rattle.steps.specs.Naming.{Names}
use Rattle.steps.specs.Bindings.{Binding}
use Rattle.steps.specs.Acts.{Ctx, ctx_of, Turn, by, Act, act}
use Rattle.steps.specs.Walk.{Place, under, leaves, late, act_at, collect, emit, outside}
use Rattle.steps.specs.Steps.{made, steps}
use Rattle.steps.specs.AncestorRule.{captured, this_frame}
use Rattle.steps.specs.Super.{super_yes, super_frame}
use Rattle.steps.specs.Arguments.{arguments_yes, arguments_frame}
use Rattle.steps.specs.Slots.{free, of_method, dropped}
use Rattle.steps.specs.Context.{enter, start, Spot, spot, spot_of, into, leaves_c, late_c, act_c, collect_c, emit_c, made_c, steps_c}
use Rattle.forest.specs.Forest.{Rows, Rows.none, Rows.node, size}

pub ctx_start : (w : Switches) → ctx_of w [] ≡ start
unfolding captured this_frame super_yes super_frame arguments_yes arguments_frame
ctx_start w = refl

pub ctx_enter : (w : Switches) (s : Step) (p : List Step) → ctx_of w (s ∷ p) ≡ enter w s (ctx_of w p)
unfolding enter captured this_frame super_yes super_frame arguments_yes arguments_frame
ctx_enter w along p = refl
ctx_enter w (in_params r a m) p = refl
ctx_enter w (in_body r a m) p = refl
ctx_enter w (in_arrow a) p = refl
ctx_enter w (in_value r) p = refl
ctx_enter w (in_static r) p = refl

-- They are the walks over paths.
spot-under : (w : Switches) (q : Place) (t : Turn) → spot_of w (under q t) ≡ into w (spot_of w q) t
spot-under w q t = ap (λ (c : Ctx). spot c t.slot) (ctx_enter w t.step q.path)

frame_under : (w : Switches) (s : Step) (p : List Step) → this_frame (s ∷ p) ≡ (enter w s (ctx_of w p)).this_at
frame_under w s p = ap (λ (c : Ctx). c.this_at) (ctx_enter w s p)

module _ (N : Names) (w : Switches) where
  pub leaves-same : (r : Rows) (q q' : Place) (o : ℕ) → leaves N w q q' o r ≡ leaves_c N w (spot_of w q) (spot_of w q') o r
  unfolding leaves leaves_c
  leaves-same none q q' o = refl
  leaves-same (node k a n i s) q q' o =
      let A : Act = act N w false (ctx_of w q.path) q.slot o k a n i in
      ap₂ (λ (x y : Bool). eqb k 10 && not (eqb q.slot dropped) || not (eqb k 17) && x || y)
      (leaves-same i (under q A.one) (under q A.more) (o + 1) ∙ ap₂ (λ (x y : Spot). leaves_c N w x y (o + 1) i) (spot-under w q A.one) (spot-under w q A.more))
      (leaves-same s q' q' (o + 1 + size i))

  pub late-same : (q : Place) (o k a : ℕ) (i : Rows) → late N w q o k a i ≡ late_c N w (spot_of w q) o k a i
  unfolding late late_c
  late-same q o k a i =
      let one : Turn = by (in_params o a (eqb q.slot of_method)) free in
      let more : Turn = by (in_body o a (eqb q.slot of_method)) free in
      ap (λ (x : Bool). eqb k 17 && bit 4 a && x)
      (leaves-same i (under q one) (under q more) (o + 1) ∙ ap₂ (λ (x y : Spot). leaves_c N w x y (o + 1) i) (spot-under w q one) (spot-under w q more))

  pub act-same : (q : Place) (o k a n : ℕ) (i : Rows) → act_at N w q o k a n i ≡ act_c N w (spot_of w q) o k a n i
  unfolding act_at act_c
  act-same q o k a n i = rw late-same

  pub collect-same : (r : Rows) (q q' : Place) (o : ℕ) (bs : List Binding) → collect N w q q' o r bs ≡ collect_c N w (spot_of w q) (spot_of w q') o r bs
  unfolding collect collect_c
  collect-same none q q' o bs = refl
  collect-same (node k a n i s) q q' o bs =
      let A : Act = act_c N w (spot_of w q) o k a n i in
      rw (act-same, collect-same s, collect-same i, spot-under w q A.one, spot-under w q A.more, frame_under w A.more.step q.path)

  pub emit-same : (bs : List Binding) (r : Rows) (q q' : Place) (o : ℕ) → emit N w bs q q' o r ≡ emit_c N w bs (spot_of w q) (spot_of w q') o r
  unfolding emit emit_c
  emit-same bs none q q' o = refl
  emit-same bs (node k a n i s) q q' o =
      let A : Act = act_c N w (spot_of w q) o k a n i in
      rw (act-same, emit-same bs s, emit-same bs i, spot-under w q A.one, spot-under w q A.more, frame_under w A.more.step q.path)

pub made-same : (N : Names) (w : Switches) (t : Rows) → made N w t ≡ made_c N w t
unfolding made made_c
made-same N w t = collect-same N w t outside outside 0 [] ∙ rw (ctx_start w)

pub steps-same : (N : Names) (w : Switches) (t : Rows) → steps N w t ≡ steps_c N w t
unfolding steps steps_c
steps-same N w t = rw (made-same, emit-same N w (made_c N w t) t outside outside 0, ctx_start w)
