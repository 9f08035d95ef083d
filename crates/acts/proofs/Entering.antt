-- One step inward, by the values that the code has. Assumes nothing.
use mathlib.Core.Path.{◌≡◌, refl}
use mathlib.Core.Bool.{Bool, true, false, cond, not, ◌&&◌, ◌||◌, and-false}
use Prim.Native.Nat.{ℕ}
use Rattle.steps.specs.Mode.{Switches, bit, is_enabled, enabled, async_only, moves, moved_function, moved_arrow}
use Rattle.steps.specs.declared.ArrowFunctionConverterMode.TheVariants.{Disabled, Enabled, AsyncOnly}
use Rattle.steps.specs.Paths.{Step.in_params, Step.in_body, Step.in_arrow}
use Rattle.steps.specs.Acts.{Ctx}
use Rattle.steps.specs.Context.{enter}

pub arrows_enabled : (w : Switches) → w.arrows ≡ enabled w
unfolding enabled
arrows_enabled w = go w.arrows (w.async || w.asyncgen)
  where
    go : (x y : Bool) → x ≡ is_enabled (cond x Enabled (cond y AsyncOnly Disabled))
    go true y = refl
    go false true = refl
    go false false = refl

pub moved_as : (w : Switches) (a : ℕ) (s t x y : Bool) → s ≡ w.async → t ≡ w.asyncgen → x ≡ bit 1 a → y ≡ bit 2 a → moves s t x y ≡ moved_function w a
unfolding moved_function
moved_as w a s t x y p q e f = rw (p, q, e, f)

pub arrow_as : (w : Switches) (a : ℕ) (s t x : Bool) → s ≡ w.async → x ≡ bit 1 a → moves s t x false ≡ moved_arrow w a
unfolding moved_arrow
arrow_as w a s t x p e = rw (p, e)

and-true : (x : Bool) → (x && true) ≡ x
and-true true = refl
and-true false = refl

module _ (w : Switches) (r a : ℕ) (c : Ctx) (m : Bool) where
  module _ (x : Bool) (p : m ≡ true) (e : x ≡ moved_function w a) where
    pub method-params : ◌≡◌ {A = Ctx} (record { takes_this = false; this_at = r; takes_super = x; super_at = r; takes_arguments = c.takes_arguments; arguments_at = r }) (enter w (in_params r a m) c)
    unfolding enter
    method-params = rw (p, ← e)

    pub method-body : ◌≡◌ {A = Ctx} (record { takes_this = x; this_at = r; takes_super = x; super_at = r; takes_arguments = x; arguments_at = r }) (enter w (in_body r a m) c)
    unfolding enter
    method-body = rw (p, ← e, and-true x)

  module _ (p : m ≡ false) where
    pub other-params : ◌≡◌ {A = Ctx} (record { takes_this = false; this_at = r; takes_super = c.takes_super; super_at = c.super_at; takes_arguments = c.takes_arguments; arguments_at = r }) (enter w (in_params r a m) c)
    unfolding enter
    other-params = rw p

    pub other-body : ◌≡◌ {A = Ctx} (record { takes_this = false; this_at = r; takes_super = c.takes_super; super_at = c.super_at; takes_arguments = false; arguments_at = r }) (enter w (in_body r a m) c)
    unfolding enter
    other-body = rw (p, and-false (moved_function w a))

taken : (o m t : Bool) → (not o || m || t) ≡ cond (o && not m) t true
taken true true t = refl
taken true false t = refl
taken false m t = refl

pub arrow_inside : (w : Switches) (a : ℕ) (c : Ctx) (o m : Bool) → o ≡ async_only w → m ≡ moved_arrow w a
    → ◌≡◌ {A = Ctx} (record {
      takes_this = (not o || m) || c.takes_this;
      this_at = c.this_at;
      takes_super = (o && m) || c.takes_super;
      super_at = c.super_at;
      takes_arguments = m || c.takes_arguments;
      arguments_at =
          c.arguments_at;
    }) (enter w (in_arrow a) c)
unfolding enter
arrow_inside w a c o m p q = rw (← p, ← q, taken o m c.takes_this)
