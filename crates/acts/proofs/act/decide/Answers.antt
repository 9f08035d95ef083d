-- `acts::act::decide` meets its contract. Assumes nothing.
use mathlib.Core.Path.{◌≡◌, refl}
use Rattle.grammar.specs.declared.kind.Kind.TheVariants as kinds
use Rattle.grammar.proofs.Listed.{not_kind}
use Rattle.steps.specs.Acts.{Kind, kind_of}
use Rattle.acts.specs.View.{switches_of}
use Rattle.acts.proofs.Branches.{is-other, by_kind}
use Rattle.acts.proofs.act.decide.Goals as goal

pub returns-in_default : goal.returns-in_default
returns-in_default c =
    let d = c.in_default in
    let k = c.args.row.kind in
    let none : kind_of k ≡ Kind.other = is-other k
    (not_kind k _ kinds.This c.from-kind.ensures refl d.not-This) (not_kind k _ kinds.Super c.from-kind.ensures refl d.not-Super)
    (not_kind k _ kinds.Ident c.from-kind.ensures refl d.not-Ident) (not_kind k _ kinds.Member c.from-kind.ensures refl d.not-Member)
    (not_kind k _ kinds.Computed c.from-kind.ensures refl d.not-Computed) (not_kind k _ kinds.Call c.from-kind.ensures refl d.not-Call)
    (not_kind k _ kinds.Assign c.from-kind.ensures refl d.not-Assign) (not_kind k _ kinds.Arrow c.from-kind.ensures refl d.not-Arrow)
    (not_kind k _ kinds.Function c.from-kind.ensures refl d.not-Function) (not_kind k _ kinds.Method c.from-kind.ensures refl d.not-Method)
    (not_kind k _ kinds.Property c.from-kind.ensures refl d.not-Property) (not_kind k _ kinds.Field c.from-kind.ensures refl d.not-Field)
    (not_kind k _ kinds.StaticBlock c.from-kind.ensures refl d.not-StaticBlock) (not_kind k _ kinds.Target c.from-kind.ensures refl d.not-Target)
    in
    λ N i s g. by_kind _ _ _ _ _ _ _ _ _ _ none (c.on_other.ensures N (switches_of c.args.switches) c.args.late c.args.at i)
