-- `plan::stays::stays` meets its contract. Assumes nothing.
use mathlib.Core.Path.{◌≡◌, refl, sym, ap, subst, ◌∙◌}
use mathlib.Core.Bool.{Bool, true, not, ◌||◌, false≢true}
use Prim.Native.Nat.{ℕ}
use lib.Dec.{eqb}
use mathlib.Core.Logic.{◌⊎◌, inl, inr}
use Rattle.grammar.specs.Codes.{kind_number, listed}
use Rattle.grammar.specs.declared.kind.Kind.{Kind}
use Rattle.grammar.specs.Kinds.{ExprStmt, Var, Declarator, Return, Block, Other, Opaque, Member, Computed, Call, Assign, Params, Class, Object, Sequence, Arguments}
use Rattle.grammar.specs.declared.kind.Kind.TheVariants as kinds
use Rattle.grammar.proofs.Listed.{test_listed, is_kind}
use Rattle.steps.specs.Mode.{Switches}
use Rattle.steps.specs.Context.{Spot}
use Rattle.passes.specs.declared.slots.Slot.TheVariants.{Wrapped, Dropped}
use Rattle.passes.proofs.Numbers.{slot_same, slot_told}
use Rattle.acts.specs.View.{switches_of}
use Rattle.acts.specs.Deciding.{spot_of}
use Rattle.plan.specs.Staying.{is_plain, Stays}
use Rattle.plan.proofs.Staying.{this_stays, super_stays, ident_stays, outside-stays, property_stays, plain-stays}
use Rattle.plan.proofs.stays.stays.Goals as goal

-- a row that stays, by the spot and the kind that the code has
stays-by : {w : Switches} {s s' : Spot} {k k' a : ℕ} → s ≡ s' → k' ≡ k → Stays w s k a → Stays w s' k' a
stays-by {w} {s} {s'} {k} {k'} {a} e f h = subst (λ (x : Spot). Stays w x k' a) e (subst (λ (m : ℕ). Stays w s m a) (sym f) h)

-- an access, a call or an assignment
outside : (k : ℕ) (r : Kind) → kind_number r ≡ listed k → (r ≡ kinds.Member) ⊎ ((r ≡ kinds.Computed) ⊎ ((r ≡ kinds.Call) ⊎ (r ≡ kinds.Assign))) → (eqb k Member || eqb k Computed || eqb k Call || eqb k Assign) ≡ true
outside k r h (inl e) = rw (is_kind k r kinds.Member h refl e)
outside k r h (inr (inl e)) = rw (is_kind k r kinds.Computed h refl e)
outside k r h (inr (inr (inl e))) = rw (is_kind k r kinds.Call h refl e)
outside k r h (inr (inr (inr e))) = rw (is_kind k r kinds.Assign h refl e)

-- a row's word may be none of the list
plain_listed : (k : ℕ) → is_plain (listed k) ≡ is_plain k
plain_listed k = rw (
  test_listed k ExprStmt refl,
  test_listed k Var refl,
  test_listed k Declarator refl,
  test_listed k Return refl,
  test_listed k Block refl,
  test_listed k Other refl,
  test_listed k Opaque refl,
  test_listed k Params refl,
  test_listed k Class refl,
  test_listed k Object refl,
  test_listed k Sequence refl,
  test_listed k Arguments refl,
)

pub returns-then-eq : goal.returns-then-eq
returns-then-eq c = λ h. absurd (false≢true h)

pub returns-in-This : goal.returns-in-This
returns-in-This c =
    let w = switches_of c.args.switches in
    let s = spot_of c.spot-spot.result in
    let bare = slot_told c.spot-spot.result.slot Wrapped c.eq.ensures c.if-eq.false in
    λ h. stays-by c.spot-spot.ensures.result_value (is_kind c.args.kind _ kinds.This c.from-row.ensures refl c.in-This.is) (this_stays w s c.args.attr bare h)

pub returns-in-Super : goal.returns-in-Super
returns-in-Super c =
    let w = switches_of c.args.switches in
    let s = spot_of c.spot-spot.result in
    let bare = slot_told c.spot-spot.result.slot Wrapped c.eq.ensures c.if-eq.false in
    λ h. stays-by c.spot-spot.ensures.result_value (is_kind c.args.kind _ kinds.Super c.from-row.ensures refl c.in-Super.is)
    (super_stays w s c.args.attr bare (subst (λ (b : Bool). not b ≡ true) (c.eq-in-Super.ensures ∙ slot_same c.spot-spot.result.slot Dropped) h))

pub returns-in-Ident : goal.returns-in-Ident
returns-in-Ident c =
    let w = switches_of c.args.switches in
    let s = spot_of c.spot-spot.result in
    let bare = slot_told c.spot-spot.result.slot Wrapped c.eq.ensures c.if-eq.false in
    λ h. stays-by c.spot-spot.ensures.result_value (is_kind c.args.kind _ kinds.Ident c.from-row.ensures refl c.in-Ident.is) (ident_stays w s c.args.attr bare c.is_async_only.result c.is_async_only.ensures h)

pub returns-in-Member : goal.returns-in-Member
returns-in-Member c =
    let w = switches_of c.args.switches in
    let s = spot_of c.spot-spot.result in
    let bare = slot_told c.spot-spot.result.slot Wrapped c.eq.ensures c.if-eq.false in
    λ h. stays-by c.spot-spot.ensures.result_value refl (outside-stays w s c.args.attr bare c.args.kind (outside c.args.kind _ c.from-row.ensures c.in-Member.is) h)

pub returns-in-Property : goal.returns-in-Property
returns-in-Property c =
    let w = switches_of c.args.switches in
    let s = spot_of c.spot-spot.result in
    let bare = slot_told c.spot-spot.result.slot Wrapped c.eq.ensures c.if-eq.false in
    λ h. stays-by c.spot-spot.ensures.result_value (is_kind c.args.kind _ kinds.Property c.from-row.ensures refl c.in-Property.is) (property_stays w s c.args.attr bare (subst (λ (b : Bool). not b ≡ true) c.has_bit.ensures h))

pub returns-in_default : goal.returns-in_default
returns-in_default c =
    let w = switches_of c.args.switches in
    let s = spot_of c.spot-spot.result in
    let bare = slot_told c.spot-spot.result.slot Wrapped c.eq.ensures c.if-eq.false in
    λ h. stays-by c.spot-spot.ensures.result_value refl (plain-stays w s c.args.attr bare c.args.kind (sym (plain_listed c.args.kind) ∙ ap is_plain (sym c.from-row.ensures) ∙ sym c.is_plain.ensures ∙ h))
