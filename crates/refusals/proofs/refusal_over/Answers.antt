-- `refusals::refusal_over` meets its contract. Assumes nothing.
use mathlib.Core.Path.{refl, sym, ◌∙◌}
use native.Mathlib.Omega.{arith}
use Rattle.refusals.proofs.Stands.{clear}
use Rattle.refusals.proofs.Turning.{turned-off, turned_on, turned_plain, turned-only}
use Rattle.refusals.proofs.refusal_over.Goals as goal

pub returns-then-is_disabled : goal.returns-then-is_disabled
returns-then-is_disabled g c = λ w q. turned-off _ _ _ c.args.converter.mode w q (sym c.is_disabled.ensures ∙ c.if-is_disabled.true)

pub super_over-requires : goal.super_over-requires
super_over-requires g c = clear _ _ c.requires.0

pub field_over-requires : goal.field_over-requires
field_over-requires g c = let r = (clear _ _ c.requires.0).room in omega (arith, c.super_over.auto.stands)

pub returns-in-Some : goal.returns-in-Some
returns-in-Some g c =
    let on = sym c.is_disabled.ensures ∙ c.if-is_disabled.false in
    let six = sym c.super_over.ensures ∙ c.in-Some.is in
    λ w q. turned_on _ _ _ c.args.converter.mode w q _ _ _ _ on c.is_async_only-only.ensures six refl refl

pub returns-in-Some-field_over : goal.returns-in-Some-field_over
returns-in-Some-field_over g c =
    let on = sym c.is_disabled.ensures ∙ c.if-is_disabled.false in
    let six = sym c.super_over.ensures ∙ c.in_default.is in
    let seven = sym c.field_over.ensures ∙ c.in-Some-field_over.is in
    λ w q. turned_on _ _ _ c.args.converter.mode w q _ _ _ _ on c.is_async_only-only.ensures six seven refl

pub returns-then-not-only : goal.returns-then-not-only
returns-then-not-only g c =
    let on = sym c.is_disabled.ensures ∙ c.if-is_disabled.false in
    let six = sym c.super_over.ensures ∙ c.in_default.is in
    let seven = sym c.field_over.ensures ∙ c.in_default-field_over.is in
    λ w q. turned_plain _ _ _ c.args.converter.mode w q _ _ _ on c.is_async_only-only.ensures six seven c.if-not-only.true

pub returns-in-Some-first_arguments : goal.returns-in-Some-first_arguments
returns-in-Some-first_arguments g c =
    let on = sym c.is_disabled.ensures ∙ c.if-is_disabled.false in
    let six = sym c.super_over.ensures ∙ c.in_default.is in
    let seven = sym c.field_over.ensures ∙ c.in_default-field_over.is in
    let eight = sym c.first_arguments.ensures ∙ c.in-Some-first_arguments.is in
    λ w q. turned-only _ _ _ c.args.converter.mode w q _ _ _ _ on c.is_async_only-only.ensures six seven c.if-not-only.false eight

pub returns : goal.returns
returns g c =
    let on = sym c.is_disabled.ensures ∙ c.if-is_disabled.false in
    let six = sym c.super_over.ensures ∙ c.in_default.is in
    let seven = sym c.field_over.ensures ∙ c.in_default-field_over.is in
    let eight = sym c.first_arguments.ensures ∙ c.in_default-first_arguments.is in
    λ w q. turned-only _ _ _ c.args.converter.mode w q _ _ _ _ on c.is_async_only-only.ensures six seven c.if-not-only.false eight
