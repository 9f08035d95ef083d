-- `forest::depth::deep_in` meets its contract. Assumes nothing.
use Prim.Native.Nat.{ℕ, ◌+◌, ◌≤◌}
use mathlib.Core.List.{List}
use mathlib.Core.Path.{◌≡◌, refl, sym, ap, subst, ◌∙◌}
use borrow.Author.Tests.{lt-ltb, le-ltb}
use lib.Dec.{ltb}
use lib.ListN.{get_or}
use Rattle.forest.specs.Told.{told_by, to_all, deeper, depth_at, first_deep}
use Rattle.names.proofs.Seeking.{seek-start, seek-next, seek_found, seek-none}
use Rattle.names.specs.Words.{words}
use Rattle.forest.proofs.Telling.{deep-le, told_fresh, told-on, told-all}
use native.Mathlib.Omega.{arith}
use Rattle.forest.proofs.depth.deep_in.Goals as goal

-- the depth of row i is what the array holds there
is-depth : (ws R : List ℕ) (i : ℕ) → get_or R i 0 ≡ told_by ws deeper 0 i i → depth_at ws i ≡ get_or R i 0
unfolding depth_at
is-depth ws R i h = sym h

pub loop-i-init : goal.loop-i-init
loop-i-init c = (seek-start _ _ _, (refl, told_fresh _ _ c.args.depth.now c.requires.fresh.1))

pub shape_of-depth-then-most-d : goal.shape_of-depth-then-most-d
shape_of-depth-then-most-d c = c.loop-i.invariant.1.0

pub returns-then-most-d : goal.returns-then-most-d
unfolding first_deep
returns-then-most-d c = seek_found _ _ _ _ c.loop-i.invariant.0 (omega arith) (ap (ltb c.args.most) (is-depth _ c.loop-i.depth _ (c.loop-i.invariant.1.1 c.loop-i.i)) ∙ lt-ltb _ _ c.if-most-d.true)

-- a row is no deeper than its number
pub overflow_add-below : goal.overflow_add-below
overflow_add-below c = omega (arith, deep-le (words c.args.rows.now.bytes.now) c.loop-i.i c.loop-i.i, c.loop-i.invariant.1.1 c.loop-i.i)

pub tell-requires : goal.tell-requires
tell-requires c =
    let inside : c.end_at-e.result ≤ c.args.rows.now.count = subst (λ (x : ℕ). x ≤ c.args.rows.now.count) (sym c.end_at-e.ensures.0) (c.requires.ends c.loop-i.i (omega arith)) in
    omega arith

pub loop-i-preserved : goal.loop-i-preserved
loop-i-preserved c =
    let d = get_or c.loop-i.depth c.loop-i.i 0 in (
      seek-next _ _ _ _ c.loop-i.invariant.0 (omega arith) (ap (ltb c.args.most) (is-depth _ c.loop-i.depth _ (c.loop-i.invariant.1.1 c.loop-i.i)) ∙ le-ltb _ _ c.if-most-d.false),
      (omega arith, told-on _ deeper 0 c.loop-i.i d _ (to_all (d + 1)) c.loop-i.depth c.tell.new.told c.loop-i.invariant.1.1 refl c.end_at-e.ensures.0 refl (λ j. c.tell.ensures.each 0 j ∙ told-all (d + 1) 0 _ j _)),
    )

pub shape_of-depth : goal.shape_of-depth
shape_of-depth c = c.loop-i.invariant.1.0

pub returns : goal.returns
unfolding first_deep
returns c = seek-none _ _ _ _ c.loop-i.invariant.0 (omega arith)
