-- The frames of a row's act are low where those of its context are, and its numbers are words where the row's are. Assumes nothing.
use mathlib.Core.Path.{◌≡◌, refl, ap, sym, subst, ◌∙◌}
use mathlib.Core.Bool.{Bool, true, false, cond, ◌&&◌}
use mathlib.Core.List.{List}
use Prim.Native.Nat.{ℕ, ◌<◌}
use native.Mathlib.Omega.{arith}
use lib.Dec.{eqb}
use Rattle.names.specs.Words.{kind_at, attr_at, name_at}
use Rattle.forest.specs.Forest.{Rows}
use Rattle.steps.specs.Mode.{Switches, bit, async_only}
use Rattle.steps.specs.Paths.{Step, Step.along, Step.in_params, Step.in_body, Step.in_arrow, Step.in_value, Step.in_static}
use Rattle.steps.specs.Slots.{callee, dropped}
use Rattle.steps.specs.Super.{first_name, first_inside}
use Rattle.steps.specs.ArrowToFunction.{to_function?}
use Rattle.steps.specs.Naming.{Names, named_arguments}
use Rattle.steps.specs.Acts.{Ctx, Op, Op.row, Op.drop, Op.name, Kind, Kind.this, Kind.super, Kind.ident, Kind.access, Kind.assign}
use Rattle.steps.specs.Acts.{Kind.arrow, Kind.function, Kind.keyed, Kind.field, Kind.static, Kind.target, Kind.other, kind_of, reads?, sets?, act_of, act}
use Rattle.steps.specs.Context.{Spot, enter, late_c, act_c}
use Rattle.below.specs.Below.{children}
use Rattle.passes.specs.View.{op_of}
use Rattle.acts.specs.Deciding.{spot_of, Does}
use Rattle.plan.specs.Frames.{FramesBelow, OpLow, Small}
use Rattle.plan.specs.Placing.{place_of}
use Rattle.plan.specs.Taking.{Takes, ActLow, Placeable}
use Rattle.names.proofs.Bools.{pick}
use Rattle.acts.specs.declared.act.Act.{Act as Acted}
use Rattle.acts.specs.declared.act.Spot.{Spot as ActsSpot}
use Rattle.plan.specs.declared.place.Place.{Place}

-- the frame that a step opens is below cap
unfoldable pub StepBelow : ℕ → Step → Type 0
StepBelow cap along = Unit {0}
StepBelow cap (in_params r a m) = r < cap
StepBelow cap (in_body r a m) = r < cap
StepBelow cap (in_arrow a) = Unit {0}
StepBelow cap (in_value r) = Unit {0}
StepBelow cap (in_static r) = r < cap

cond_below : (x : Bool) (a b cap : ℕ) → a < cap → b < cap → cond x a b < cap
cond_below true a b cap h k = h
cond_below false a b cap h k = k

pub enter_below : (w : Switches) (cap : ℕ) (c : Ctx) → FramesBelow cap c → (s : Step) → StepBelow cap s → FramesBelow cap (enter w s c)
unfolding enter StepBelow
enter_below w cap c h along t = h
enter_below w cap c h (in_params r a m) t = record { this = t; super = cond_below m _ _ cap t h.super; arguments = t }
enter_below w cap c h (in_body r a m) t = record { this = t; super = cond_below m _ _ cap t h.super; arguments = t }
enter_below w cap c h (in_arrow a) t = record { this = h.this; super = h.super; arguments = h.arguments }
enter_below w cap c h (in_value r) t = record { this = h.this; super = h.super; arguments = h.arguments }
enter_below w cap c h (in_static r) t = record { this = t; super = t; arguments = h.arguments }

-- a context that a Function at row r opens
pub params_below : (w : Switches) {cap : ℕ} {c x : Ctx} (r a : ℕ) (m : Bool) → x ≡ enter w (in_params r a m) c → r < cap → FramesBelow cap c → FramesBelow cap x
unfolding StepBelow
params_below w {cap} {c} {x} r a m e l h = subst (FramesBelow cap) (sym e) (enter_below w cap c h (in_params r a m) l)

pub body_below : (w : Switches) {cap : ℕ} {c x : Ctx} (r a : ℕ) (m : Bool) → x ≡ enter w (in_body r a m) c → r < cap → FramesBelow cap c → FramesBelow cap x
unfolding StepBelow
body_below w {cap} {c} {x} r a m e l h = subst (FramesBelow cap) (sym e) (enter_below w cap c h (in_body r a m) l)

module _ (N : Names) (w : Switches) (l : Bool) (c : Ctx) (sl o k a n : ℕ) (i : Rows) (cap : ℕ) (low : o < cap) where
  field_below : (x : Bool) → StepBelow cap (cond x along (in_value o))
  unfolding StepBelow
  field_below true = tt
  field_below false = tt

  one-step : (K : Kind) → StepBelow cap (act_of N w l c sl o K k a n i).one.step
  unfolding act_of StepBelow
  one-step this = tt
  one-step super = tt
  one-step ident = tt
  one-step access = tt
  one-step Kind.call = tt
  one-step assign = tt
  one-step arrow = tt
  one-step function = low
  one-step keyed = tt
  one-step field = field_below (bit 1 a)
  one-step static = low
  one-step target = tt
  one-step other = tt

  more-step : (K : Kind) → StepBelow cap (act_of N w l c sl o K k a n i).more.step
  unfolding act_of StepBelow
  more-step this = tt
  more-step super = tt
  more-step ident = tt
  more-step access = tt
  more-step Kind.call = tt
  more-step assign = tt
  more-step arrow = tt
  more-step function = low
  more-step keyed = tt
  more-step field = tt
  more-step static = low
  more-step target = tt
  more-step other = tt

  module _ (h : FramesBelow cap c) where
    pub one_below : FramesBelow cap (enter w (act N w l c sl o k a n i).one.step c)
    unfolding act
    one_below = enter_below w cap c h _ (one-step (kind_of k))

    pub more-below : FramesBelow cap (enter w (act N w l c sl o k a n i).more.step c)
    unfolding act
    more-below = enter_below w cap c h _ (more-step (kind_of k))

    module _ (kl : k < 4294967296) (al : a < 4294967296) (nl : n < 4294967296) (dl : first_name (first_inside i) < 4294967296) where
      abbrev kept : OpLow cap (row k a n)
      kept = (kl, (al, nl))

      op-of : (K : Kind) → OpLow cap (act_of N w l c sl o K k a n i).op
      unfolding act_of
      op-of this = pick (OpLow cap) c.takes_this (name 1 c.this_at) (row k a n) (omega arith, (omega arith, h.this)) kept
      op-of super = pick (OpLow cap) (eqb sl dropped) drop (row k a n) tt kept
      op-of ident = pick (OpLow cap) (async_only w && named_arguments N n && c.takes_arguments) (name 2 c.arguments_at) (row k a n) (omega arith, (omega arith, h.arguments)) kept
      op-of access =
          let got : Op = Op.call 3 c.super_at n (eqb sl callee) in
          pick (OpLow cap) (reads? c sl i) (cond (eqb sl dropped) drop got) (row k a n) (pick (OpLow cap) (eqb sl dropped) drop got tt (refl, (h.super, nl))) kept
      op-of Kind.call = kept
      op-of assign = pick (OpLow cap) (sets? c i) (Op.call 4 c.super_at (first_name (first_inside i)) false) (row k a n) (refl, (h.super, dl)) kept
      op-of arrow = pick (OpLow cap) (to_function? w a) (row 17 0 0) (row k a n) (omega arith, (omega arith, omega arith)) kept
      op-of function = kept
      op-of keyed = kept
      op-of field = kept
      op-of static = kept
      op-of target = pick (OpLow cap) (eqb sl dropped) drop (row k a n) tt kept
      op-of other = kept

      pub op-low : OpLow cap (act N w l c sl o k a n i).op
      unfolding act
      op-low = op-of (kind_of k)

      -- an act of the code that is the steps' act
      pub act-low : (r : Acted Place) → Takes w c (act N w l c sl o k a n i) r → ActLow cap r
      act-low r d = record {
        op = subst (OpLow cap) (sym d.becomes) op-low;
        one = subst (λ (s : Spot). FramesBelow cap s.ctx) (sym d.first) one_below;
        more = subst (λ (s : Spot). FramesBelow cap s.ctx) (sym d.later) more-below;
      }

-- the act that is decided in a spot has spots with numbers, and is the steps' act where it is handed on
module _ (N : Names) (w : Switches) (l : Bool) (c : Ctx) (sl o k a n : ℕ) (i : Rows) {r : Acted ActsSpot} (d : Does w c (act N w l c sl o k a n i) r) where
  pub placeable : o < 16384 → FramesBelow 16384 c → Placeable r
  placeable low h = record {
    one = subst (λ (s : Spot). FramesBelow 16384 s.ctx) (sym d.first) (one_below N w l c sl o k a n i 16384 low h);
    more = subst (λ (s : Spot). FramesBelow 16384 s.ctx) (sym d.later) (more-below N w l c sl o k a n i 16384 low h);
  }

  pub handed : {s : Acted Place} → (s.op ≡ r.op) × ((place_of s.one ≡ spot_of r.one) × (place_of s.more ≡ spot_of r.more)) → Takes w c (act N w l c sl o k a n i) s
  handed {s} e = record { becomes = ap op_of e.0 ∙ d.becomes; first = e.1.0 ∙ d.first; later = e.1.1 ∙ d.later }

-- the same where what `is_late` says is known
pub row_act_low : (N : Names) (w : Switches) (q : Spot) (ws : List ℕ) (i cap : ℕ) → i < cap → FramesBelow cap q.ctx → Small ws i → (r : Acted Place)
    → Takes w q.ctx (act_c N w q i (kind_at ws i) (attr_at ws i) (name_at ws i) (children ws i)) r → ActLow cap r
unfolding act_c
row_act_low N w q ws i cap low h s r d =
    act-low N w (late_c N w q i (kind_at ws i) (attr_at ws i) (children ws i)) q.ctx q.slot i (kind_at ws i) (attr_at ws i) (name_at ws i) (children ws i) cap low h s.kind s.attr s.name s.deep r d
