-- The acts of the kinds that are met often: what the steps do with a row of each, and that an act of the code is that. Assumes nothing.
use mathlib.Core.Path.{◌≡◌, sym, subst}
use mathlib.Core.Bool.{Bool, true, false}
use Prim.Native.Nat.{ℕ}
use Rattle.forest.specs.Forest.{Rows}
use Rattle.steps.specs.Mode.{Switches, bit}
use Rattle.steps.specs.Paths.{Step.along}
use Rattle.steps.specs.Slots.{free, of_method}
use Rattle.steps.specs.Naming.{Names}
use Rattle.steps.specs.Acts.{Ctx, Op, Op.row, Op.name, by, does, Kind.arrow, Kind.function, kind_of, act_of, act, Act as StepsAct}
use Rattle.steps.specs.Context.{Spot, enter, spot}
use Rattle.passes.specs.View.{op_of}
use Rattle.acts.specs.Deciding.{Does}
use Rattle.plan.specs.Placing.{place_of}
use Rattle.plan.specs.Taking.{Takes}
use Rattle.acts.specs.declared.act.Act.{Act as Acted}
use Rattle.acts.specs.declared.act.Spot.{Spot as ActsSpot}
use Rattle.plan.specs.declared.place.Place.{Place}

-- children in the same context, in these slots
pub takes_along : (w : Switches) (c : Ctx) (A : StepsAct) (X : Op) (s t : ℕ) → A ≡ does X (by along s) (by along t) → (r : Acted Place)
    → op_of r.op ≡ X → place_of r.one ≡ spot c s → place_of r.more ≡ spot c t → Takes w c A r
unfolding enter
takes_along w c A X s t q r p f g = subst (λ (B : StepsAct). Takes w c B r) (sym q) (record { becomes = p; first = f; later = g })

module _ (N : Names) (w : Switches) (l : Bool) (c : Ctx) (sl o k a n : ℕ) (i : Rows) where
  pub this_name : k ≡ 9 → c.takes_this ≡ true → act N w l c sl o k a n i ≡ does (name 1 c.this_at) (by along free) (by along free)
  unfolding act act_of kind_of
  this_name e t = rw (e, t)

  pub this-row : k ≡ 9 → c.takes_this ≡ false → act N w l c sl o k a n i ≡ does (row k a n) (by along free) (by along free)
  unfolding act act_of kind_of
  this-row e t = rw (e, t)

  pub method_computed : k ≡ 21 → bit 1 a ≡ true → act N w l c sl o k a n i ≡ does (row k a n) (by along free) (by along of_method)
  unfolding act act_of kind_of
  method_computed e t = rw (e, t)

  pub method_named : k ≡ 21 → bit 1 a ≡ false → act N w l c sl o k a n i ≡ does (row k a n) (by along of_method) (by along of_method)
  unfolding act act_of kind_of
  method_named e t = rw (e, t)

  pub body-row : k ≡ 19 → act N w l c sl o k a n i ≡ does (row k a n) (by along free) (by along free)
  unfolding act act_of kind_of
  body-row e = rw e

  as_function : k ≡ 17 → act_of N w l c sl o function k a n i ≡ act N w l c sl o k a n i
  unfolding act kind_of
  as_function e = rw e

  as_arrow : k ≡ 16 → act_of N w l c sl o arrow k a n i ≡ act N w l c sl o k a n i
  unfolding act kind_of
  as_arrow e = rw e

  module _ {r : Acted ActsSpot} where
    pub function-does : k ≡ 17 → Does w c (act_of N w l c sl o function k a n i) r → Does w c (act N w l c sl o k a n i) r
    function-does e d = subst (λ (B : StepsAct). Does w c B r) (as_function e) d

    pub arrow-does : k ≡ 16 → Does w c (act_of N w l c sl o arrow k a n i) r → Does w c (act N w l c sl o k a n i) r
    arrow-does e d = subst (λ (B : StepsAct). Does w c B r) (as_arrow e) d

-- an act in a spot that is the same as another
pub takes_at : (N : Names) (w : Switches) (l : Bool) {p q : Spot} (o k a n : ℕ) (i : Rows) {r : Acted Place} → p ≡ q
    → Takes w p.ctx (act N w l p.ctx p.slot o k a n i) r → Takes w q.ctx (act N w l q.ctx q.slot o k a n i) r
takes_at N w l o k a n i {r} e d = subst (λ (s : Spot). Takes w s.ctx (act N w l s.ctx s.slot o k a n i) r) e d
