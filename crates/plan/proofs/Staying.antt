-- Which rows stay as they are, kind by kind. Assumes nothing.
use mathlib.Core.Path.{◌≡◌, refl, sym, subst}
use mathlib.Core.Bool.{Bool, true, false, cond, not, ◌&&◌, ◌||◌}
use Prim.Native.Nat.{ℕ}
use lib.Dec.{eqb}
use Rattle.steps.specs.Mode.{Switches, bit, async_only}
use Rattle.steps.specs.Naming.{named_arguments}
use Rattle.steps.specs.Paths.{Step.along}
use Rattle.steps.specs.Slots.{free, wrapped, dropped}
use Rattle.steps.specs.Acts.{Op, Op.row, Op.name, Kind.other, kind_of, by, does, act_of, act}
use Rattle.steps.specs.Bindings.{closes}
use Rattle.steps.specs.Context.{Spot, act_c}
use Rattle.steps.proofs.Credit.{eqb-eq}
use Rattle.plan.specs.Staying.{is_plain, Stays}
use borrow.Author.Tests.{not-true}
use Rattle.names.proofs.Bools.{either}

-- "AsyncOnly. From an Ident `arguments`", where one of the two does not hold
ident_row : (x m t : Bool) (o p : Op) → (x && t) ≡ false → cond (x && m && t) o p ≡ p
ident_row true true t o p e = rw e
ident_row true false t o p e = refl
ident_row false m t o p e = refl

module _ (w : Switches) (q : Spot) (a : ℕ) (bare : eqb q.slot wrapped ≡ false) where
  Here : ℕ → Type 0
  Here k = Stays w q k a

  pub this_stays : not q.ctx.takes_this ≡ true → Stays w q 9 a
  unfolding act_c act act_of kind_of closes
  this_stays t = record { acted = λ N o n i. rw (not-true q.ctx.takes_this t); unclosed = refl; bare = bare }

  pub super_stays : not (eqb q.slot dropped) ≡ true → Stays w q 10 a
  unfolding act_c act act_of kind_of closes
  super_stays t = record { acted = λ N o n i. rw (not-true (eqb q.slot dropped) t); unclosed = refl; bare = bare }

  pub ident_stays : (x : Bool) → x ≡ async_only w → not (x && q.ctx.takes_arguments) ≡ true → Stays w q 11 a
  unfolding act_c act act_of kind_of closes
  ident_stays x e t =
      let f : (async_only w && q.ctx.takes_arguments) ≡ false = subst (λ (y : Bool). (y && q.ctx.takes_arguments) ≡ false) e (not-true (x && q.ctx.takes_arguments) t) in
      record { acted = λ N o n i. rw (ident_row (async_only w) (named_arguments N n) q.ctx.takes_arguments (name 2 q.ctx.arguments_at) (row 11 a n) f); unclosed = refl; bare = bare }

  -- accesses, calls and assignments where `super` is not taken
  pub outside-stays : (k : ℕ) → (eqb k 12 || eqb k 13 || eqb k 14 || eqb k 15) ≡ true → not q.ctx.takes_super ≡ true → Stays w q k a
  unfolding act_c act act_of kind_of closes Here
  outside-stays k m t = either (Here k) _ _ m (λ m₁. either (Here k) _ _ m₁ (λ m₂. either (Here k) _ _ m₂ (λ e. to 12 e twelve) (λ e. to 13 e thirteen)) (λ e. to 14 e fourteen)) (λ e. to 15 e fifteen)
    where
      f : q.ctx.takes_super ≡ false
      f = not-true q.ctx.takes_super t

      to : (j : ℕ) → eqb k j ≡ true → Here j → Here k
      to j e = subst Here (sym (eqb-eq k j e))

      twelve : Here 12
      twelve = record { acted = λ N o n i. rw f; unclosed = refl; bare = bare }

      thirteen : Here 13
      thirteen = record { acted = λ N o n i. rw f; unclosed = refl; bare = bare }

      fourteen : Here 14
      fourteen = record { acted = λ N o n i. rw f; unclosed = refl; bare = bare }

      fifteen : Here 15
      fifteen = record { acted = λ N o n i. rw f; unclosed = refl; bare = bare }

  -- a Property that is no method
  pub property_stays : not (bit 2 a) ≡ true → Stays w q 25 a
  unfolding act_c act act_of kind_of closes
  property_stays t = record { acted = λ N o n i. go n (bit 1 a); unclosed = refl; bare = bare }
    where
      go : (n : ℕ) (y : Bool) → does (row 25 a n) (by along (cond y free (cond (bit 2 a) 1 free))) (by along (cond (bit 2 a) 1 free)) ≡ does (row 25 a n) (by along free) (by along free)
      go n true = rw (not-true (bit 2 a) t)
      go n false = rw (not-true (bit 2 a) t)

  plain : (k : ℕ) → kind_of k ≡ other → ((sl : ℕ) → closes sl k ≡ false) → Stays w q k a
  unfolding act_c act act_of
  plain k e f = record { acted = λ N o n i. rw e; unclosed = f q.slot; bare = bare }

  pub plain-stays : (k : ℕ) → is_plain k ≡ true → Stays w q k a
  unfolding kind_of closes Here
  plain-stays k m = go
    where
      to : (j : ℕ) → kind_of j ≡ other → ((sl : ℕ) → closes sl j ≡ false) → eqb k j ≡ true → Here k
      to j e f h = subst Here (sym (eqb-eq k j h)) (plain j e f)

      go : Here k
      go = either (Here k) _ _ m (λ m₁. either (Here k) _ _ m₁ (λ m₂. either (Here k) _ _ m₂ (λ m₃. either (Here k) _ _ m₃ (λ m₄. either (Here k) _ _ m₄ (λ m₅. either (Here k) _ _ m₅
          (λ m₆. either (Here k) _ _ m₆ (λ m₇. either (Here k) _ _ m₇ (λ m₈. either (Here k) _ _ m₈ (λ m₉. either (Here k) _ _ m₉ (λ mm. either (Here k) _ _ mm
          (to 1 refl (λ sl. refl)) (to 2 refl (λ sl. refl))) (to 3 refl (λ sl. refl))) (to 4 refl (λ sl. refl))) (to 5 refl (λ sl. refl))) (to 6 refl (λ sl. refl)))
          (to 8 refl (λ sl. refl))) (to 18 refl (λ sl. refl))) (to 20 refl (λ sl. refl))) (to 24 refl (λ sl. refl))) (to 26 refl (λ sl. refl))) (to 27 refl (λ sl. refl))
