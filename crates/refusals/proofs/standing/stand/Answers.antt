-- `refusals::standing::stand` meets its contract. Assumes nothing.
use mathlib.Core.Path.{refl, ap, ◌∙◌}
use Prim.Native.Nat.{ℕ}
use Rattle.grammar.specs.declared.kind.Kind.TheVariants as kinds
use Rattle.grammar.proofs.Listed.{same_kind}
use Rattle.refusals.specs.Standing.{owner_for}
use Rattle.refusals.proofs.Stands.{owner_listed, holder_listed, stand_is}
use Rattle.refusals.proofs.standing.stand.Goals as goal

pub returns : goal.returns
returns c =
    let k = c.args.k in
    let from = c.from-kind.ensures in
    rw (c.from.ensures, c.from-2.ensures, c.holds_method.ensures, from, holder_listed k c.args.a, c.has_bit.ensures, c.eq.ensures ∙ same_kind k _ kinds.Call from refl)
    (stand_is _ _ _ _ _ (c.owner.ensures ∙ ap (λ (m : ℕ). owner_for c.args.first c.args.v m c.args.a) from ∙ owner_listed c.args.first c.args.v k c.args.a))
