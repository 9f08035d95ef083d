-- `walks::write_walked` meets its contract. Assumes nothing.
use mathlib.Core.Path.{sym, ◌∙◌}
use native.Mathlib.Omega.{arith}
use Rattle.walks.proofs.Readying.{walk_asks, no-room-rows, no-room-bindings, all-written}
use Rattle.walks.proofs.write_walked.Goals as goal

pub returns-then-not-has_room : goal.returns-then-not-has_room
returns-then-not-has_room c = no-room-rows _ _ _ _ c.requires _ _ (sym c.has_room.ensures ∙ c.if-not-has_room.true)

pub returns-then-out_bindings-walk : goal.returns-then-out_bindings-walk
returns-then-out_bindings-walk c = no-room-bindings _ _ _ _ c.requires _ _ (omega arith)

pub emit-written-requires : goal.emit-written-requires
emit-written-requires c =
    let all = walk_asks _ _ _ _ c.requires in record {
      ranged = all.0;
      holds = all.1.0;
      walk_bound = all.1.1;
    }

pub returns : goal.returns
returns c =
    all-written _ _ _ _ c.requires _ _ _ _ _ _ c.emit-written.ensures c.write_records-recorded.ensures
    (sym c.has_room.ensures ∙ c.if-not-has_room.false) (omega arith)
