-- `bindings::maker::FrameState::close` meets its contract. Assumes nothing.
use Prim.Native.Nat.{ℕ, ◌<◌}
use mathlib.Core.Path.{ap, ◌≡◌, refl, sym, subst, ◌∙◌}
use mathlib.Core.List.{List, ◌++◌}
use mathlib.Core.Bool.{cond}
use lib.Dec.{eqb}
use lib.ListN.{length}
use Rattle.uses.specs.Uses.{access_number}
use Rattle.uses.specs.declared.Access.{Access}
use Rattle.steps.specs.Bindings.{Binding}
use Rattle.bindings.specs.Search.{params_for}
use Rattle.bindings.specs.Store.{binds}
use Rattle.bindings.proofs.Uses.{params_by}
use Rattle.bindings.proofs.Closing.{closing_start, closing-room, closing-next, closing-less}
use Rattle.bindings.proofs.maker.FrameState.close.Goals as goal

pub loop-b-init : goal.loop-b-init
loop-b-init c = (closing_start c.args.made.now c.args.cap c.args.self.count c.args.self.row c.requires.store c.requires.row_low _ c.entry-b.ensures, refl)

-- the parameters that a turn adds, by the words that it has read
as_read : {n m x y : ℕ} (access : Access) (row : ℕ) → access_number access ≡ cond (eqb n 4) 4 3 → n ≡ m → x ≡ y → params_for (access_number access) x row ≡ params_for m y row
as_read {n} {m} {x} {y} access row a p q = rw (a, p, q) (params_by m y row)

pub add_params-total-requires : goal.add_params-total-requires
add_params-total-requires c =
    let A = c.requires in
    let a = c.args in
    let g = c.loop-b in
    let same = as_read c.from-access.result a.self.row c.from-access.ensures c.entry.ensures c.entry-x.ensures in
    record {
      store = g.invariant.0.store;
      row_low = A.row_low;
      cap_low = A.cap_low;
      room = subst (λ (l : List Binding). length (binds g.made a.cap g.total ++ l) < a.cap) (sym same)
          (closing-room a.made.now a.cap a.self.count a.self.row g.made g.total g.b g.invariant.0 c.loop-b-test.true A.room);
    }

pub loop-b-smaller : goal.loop-b-smaller
loop-b-smaller c =
    let a = c.args in
    let g = c.loop-b in
    let kept = c.add_params-total.ensures.kept in
    let same = as_read c.from-access.result a.self.row c.from-access.ensures c.entry.ensures c.entry-x.ensures in
    let list = kept.list ∙ ap (λ (l : List Binding). binds g.made a.cap g.total ++ l) same in
    closing-less a.made.now a.cap a.self.count a.self.row g.made g.total g.b g.invariant.0 c.loop-b-test.true _ _ kept.store list _ c.entry-b-in-loop-b.ensures

pub loop-b-preserved : goal.loop-b-preserved
loop-b-preserved c =
    let a = c.args in
    let g = c.loop-b in
    let kept = c.add_params-total.ensures.kept in
    let same = as_read c.from-access.result a.self.row c.from-access.ensures c.entry.ensures c.entry-x.ensures in
    let list = kept.list ∙ ap (λ (l : List Binding). binds g.made a.cap g.total ++ l) same in
    let next = closing-next a.made.now a.cap a.self.count a.self.row g.made g.total g.b g.invariant.0 c.loop-b-test.true _ _ kept.store list _ c.entry-b-in-loop-b.ensures in
    (next, c.add_params-total.ensures.made_unchanged ∙ g.invariant.1)
