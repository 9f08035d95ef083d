-- `forest::told::tell` meets its contract. Assumes nothing.
use mathlib.Core.Path.{refl}
use Rattle.std.proofs.Common.{rules}
use native.Mathlib.Omega.{arith}
use lib.ListN.{length}
use Rattle.names.specs.Words.{words}
use Rattle.forest.specs.Told.{first_then}
use Rattle.forest.proofs.Telling.{tell_start, tell-child, tell-fault, tell_done, then-more, goes-on}
use Rattle.forest.proofs.told.tell.Goals as goal

pub returns-then-e-c0 : goal.returns-then-e-c0
returns-then-e-c0 g c =
    let told = c.args.told.now in
    let t = tell_done (words c.args.s.now) (first_then c.args.one c.args.more) c.args.e (length told) c.args.c0 told told c.args.c0 0 (tell_start _ _ _ _ _ _ refl) c.if-e-c0.true in
    record { each = t.each; count = t.many; faulty = t.fault }

pub loop-row-init : goal.loop-row-init
loop-row-init g c = (tell_start _ _ _ _ _ _ refl, (omega arith, (refl, (refl, refl))))

pub loop-row-preserved : goal.loop-row-preserved
loop-row-preserved g c =
    let i = c.loop-row.invariant in
    let x = c.in-Some.ensures.next in (
      tell-child _ _ _ _ _ _ _ i.0 c.requires.1.1 refl i.1.1.1.0 i.1.1.1.1 x i.1.1.0,
      (omega (arith, i.1.0, goes-on _ _ _ _ _ x), (then-more _ _ c.loop-row.count c.next.new.self.next, (search rules, search rules))),
    )

pub returns-then-last-e : goal.returns-then-last-e
returns-then-last-e g c =
    let i = c.loop-row.invariant in
    let t = tell-fault _ _ _ _ _ _ _ i.0 c.requires.1.1 refl i.1.1.1.0 i.1.1.1.1 c.in_default.ensures.next c.if-last-e.true i.1.1.0 in
    record { each = t.each; count = t.many; faulty = t.fault }

pub returns : goal.returns
returns g c =
    let x = c.in_default.ensures.next in
    let t = tell_done _ _ _ _ _ _ _ _ _ c.loop-row.invariant.0 (omega (arith, x.stays, c.if-last-e.false)) in
    record { each = t.each; count = t.many; faulty = t.fault }
