-- `refusals::firsts::super_over` meets its contract. Assumes nothing.
use mathlib.Core.Path.{refl, sym, subst, ◌∙◌}
use Prim.Native.Nat.{ℕ, ◌≤◌}
use native.Mathlib.Omega.{arith}
use lib.ListN.{get_or}
use Rattle.forest.proofs.Telling.{told-on}
use Rattle.names.proofs.Seeking.{seek-start, seek-next, seek_found, seek-none}
use Rattle.names.specs.Words.{words}
use Rattle.forest.specs.Told.{first_then}
use Rattle.refusals.proofs.Stands.{clear_told, told_from, bad-same, says, six_rows}
use Rattle.refusals.proofs.firsts.super_over.Goals as goal

pub loop-i-init : goal.loop-i-init
loop-i-init c = (seek-start _ _ _, (refl, clear_told _ _ _ c.requires))

pub bounds-stands-i : goal.bounds-stands-i
bounds-stands-i c = omega (arith, c.requires.room)

pub shape_of-stands-then-super_bad : goal.shape_of-stands-then-super_bad
shape_of-stands-then-super_bad c = c.loop-i.invariant.1.0

pub returns-then-super_bad : goal.returns-then-super_bad
returns-then-super_bad c =
    let tested = bad-same (words c.args.table.now.rows.now) c.loop-i.stands c.loop-i.i c.kind_at-k.result c.super_bad.result c.loop-i.invariant.1.1 c.kind_at-k.ensures.0 c.super_bad.ensures in
    seek_found _ _ _ _ c.loop-i.invariant.0 (omega arith) (tested ∙ c.if-super_bad.true) ∙ six_rows _ _ c.args.table.now.known

pub tell-requires : goal.tell-requires
tell-requires c =
    let inside : c.end_at-e.result ≤ c.args.table.now.count = subst (λ (x : ℕ). x ≤ c.args.table.now.count) (sym c.end_at-e.ensures.0) (c.args.table.now.known.nested.inside _ c.loop-i-test.true) in
    (omega arith, (omega arith, omega (arith, c.requires.room)))

pub loop-i-preserved : goal.loop-i-preserved
loop-i-preserved c =
    let v = get_or c.loop-i.stands c.loop-i.i 0 in
    let tested = bad-same (words c.args.table.now.rows.now) c.loop-i.stands c.loop-i.i c.kind_at-k.result c.super_bad.result c.loop-i.invariant.1.1 c.kind_at-k.ensures.0 c.super_bad.ensures in
    let said = says (words c.args.table.now.rows.now) v c.loop-i.i _ _ _ _ c.kind_at-k.ensures.0 c.attr_at-a.ensures.0 c.stand-one.ensures c.stand-more.ensures in (
      seek-next _ _ _ _ c.loop-i.invariant.0 (omega arith) (tested ∙ c.if-super_bad.false),
      (
        c.tell.auto.told ∙ c.loop-i.invariant.1.0,
        told-on _ (told_from (words c.args.table.now.rows.now)) 0 c.loop-i.i v _ (first_then c.stand-one.result c.stand-more.result) c.loop-i.stands c.tell.new.told c.loop-i.invariant.1.1 refl c.end_at-e.ensures.0 said (c.tell.ensures.each 0),
      ),
    )

pub shape_of-stands : goal.shape_of-stands
shape_of-stands c = c.loop-i.invariant.1.0

pub returns : goal.returns
returns c = seek-none _ _ _ _ c.loop-i.invariant.0 (omega arith) ∙ six_rows _ _ c.args.table.now.known
