-- `refusals::firsts::field_over` meets its contract. Assumes nothing.
use mathlib.Core.Bool.{cond}
use mathlib.Core.Path.{◌≡◌, ◌∙◌}
use Prim.Native.Nat.{ℕ, ◌-◌, ◌*◌}
use native.Mathlib.Omega.{arith}
use lib.ListN.{length-set}
use Rattle.rows.proofs.Soundness.{words_long}
use Rattle.names.specs.Words.{words, kind_at}
use Rattle.refusals.specs.Hits.{hit}
use Rattle.refusals.proofs.Values.{since_start, since-next, since_end, low-next, hit-high, seven_rows}
use Rattle.refusals.proofs.firsts.field_over.Goals as goal
use Rattle.refusals.proofs.firsts.field_over.Goals.{then-is_hit, else-is_hit, Joined-is_hit}

pub loop-i-init : goal.loop-i-init
loop-i-init c = since_start _ _ _ _ c.requires

-- the lowest hit after row i is looked at
lowest : (c : Joined-is_hit) → c.if-is_hit.hit ≡ cond (hit c.args.arrows (kind_at (words c.args.table.now.rows.now) (c.loop-i.i - 1))) (c.loop-i.i - 1) c.loop-i.hit
lowest c = rw (← c.kind_at.ensures.0, ← c.is_hit.ensures) (elim c.if-is_hit.branch [ then-is_hit w ↦ rw (w.hit-is, w.if-is_hit.true) | else-is_hit w ↦ rw (w.hit-is, w.if-is_hit.false) ])

pub overflow_cast-next : goal.overflow_cast-next
overflow_cast-next c =
    let low = low-next _ _ _ _ _ _ _ _ c.loop-i-test.true c.loop-i.invariant _ (lowest (goal.at.overflow_cast-next c).Joined-is_hit) in
    omega (arith, hit-high (words c.args.table.now.rows.now) c.args.arrows (c.args.table.now.count - (c.loop-i.i - 1)) (c.loop-i.i - 1))

pub field_holds-requires : goal.field_holds-requires
field_holds-requires c =
    let l = c.loop-i.invariant.left in
    let inside = c.args.table.now.known.nested.inside (c.loop-i.i - 1) (omega arith) in
    record {
      i_bound = (c.args.table.now.known.nested.ahead _ (omega arith), (omega arith, omega arith));
      i_in_bounds = omega (arith, length-set {A = ℕ} c.loop-i.next (c.loop-i.i - 1) c.if-is_hit.hit);
    }

pub loop-i-preserved : goal.loop-i-preserved
loop-i-preserved c =
    let low = lowest (goal.at.loop-i-preserved c).Joined-is_hit in
    since-next _ _ _ _ _ _ _ _ c.loop-i-test.true c.loop-i.invariant c.args.table.now.known.nested (words_long _ (4 * c.args.table.now.count) (omega arith)) _ low _ c.field_holds.ensures _ (rw c.if-field_holds.false)

pub loop-i-preserved-then-field_holds : goal.loop-i-preserved-then-field_holds
loop-i-preserved-then-field_holds c =
    let low = lowest (goal.at.loop-i-preserved-then-field_holds c).Joined-is_hit in
    since-next _ _ _ _ _ _ _ _ c.loop-i-test.true c.loop-i.invariant c.args.table.now.known.nested (words_long _ (4 * c.args.table.now.count) (omega arith)) _ low _ c.field_holds.ensures _ (rw c.if-field_holds.true)

pub shape_of-next : goal.shape_of-next
shape_of-next c = c.loop-i.invariant.size

pub returns : goal.returns
returns c = since_end _ _ _ _ _ _ _ _ c.loop-i.invariant (omega arith) ∙ seven_rows _ _ _ c.args.table.now.known
