-- `bindings::maker::FrameState::capture` meets its contract. Assumes nothing.
use Prim.Native.Nat.{ℕ, ◌+◌}
use mathlib.Core.Path.{ap, ◌∙◌}
use mathlib.Core.List.{List}
use lib.ListN.{set}
use Rattle.uses.specs.Uses.{capture_number}
use Rattle.bindings.specs.Store.{pushed}
use Rattle.bindings.proofs.Uses.{capture-some, capture_low, in_table}
use Rattle.bindings.proofs.Captures.{capture_kept, capture_room, capture_new}
use Rattle.bindings.proofs.maker.FrameState.capture.Goals as goal

pub returns-then-made-table-ne0-clause-kept : goal.returns-then-made-table-ne0-clause-kept
returns-then-made-table-ne0-clause-kept c =
    let a = c.args in
    let r = c.requires in
    let t = c.place-table in
    let at = in_table a.capture _ _ c.eq.ensures t.ensures.0 in
    capture_kept a.made.now a.cap a.self.count (capture_number a.capture) a.self.row r (capture-some a.capture) (capture_low a.capture) t.result at (λ z. c.if-made-table-ne0.true z)

pub push-requires : goal.push-requires
push-requires c =
    let a = c.args in
    let r = c.requires in
    let t = c.place-table in
    let at = in_table a.capture _ _ c.eq.ensures t.ensures.0 in
    let A = r in
    let room = capture_room a.made.now a.cap a.self.count (capture_number a.capture) a.self.row A (capture-some a.capture) (capture_low a.capture) t.result at c.if-made-table-ne0.false in
    (A.store.long, (room, (A.row_low, A.cap_low)))

pub returns-clause-kept : goal.returns-clause-kept
returns-clause-kept c =
    let a = c.args in
    let r = c.requires in
    let t = c.place-table in
    let at = in_table a.capture _ _ c.eq.ensures t.ensures.0 in
    let none = c.if-made-table-ne0.false in
    let room = capture_room a.made.now a.cap a.self.count (capture_number a.capture) a.self.row r (capture-some a.capture) (capture_low a.capture) t.result at none in
    let put = ap (λ (l : List ℕ). set l t.result (a.self.count + 1)) (c.push.ensures ∙ ap (λ (n : ℕ). pushed a.made.now a.cap (a.self.count + 1) n 0 a.self.row) c.from.ensures) in
    capture_new a.made.now a.cap a.self.count (capture_number a.capture) a.self.row r (capture-some a.capture) (capture_low a.capture) t.result at none _ put
