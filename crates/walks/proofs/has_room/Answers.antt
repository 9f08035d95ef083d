-- `walks::has_room` meets its contract. Assumes nothing.
use mathlib.Core.Path.{◌∙◌}
use borrow.Author.Tests.{le-leb}
use Rattle.walks.proofs.Readying.{much_room, walk_asks, counted-room}
use Rattle.walks.proofs.has_room.Goals as goal

pub returns-then-n-walk : goal.returns-then-n-walk
returns-then-n-walk c = le-leb _ _ c.if-n-walk.true ∙ much_room _ _ _ _ c.requires _ c.if-n-walk.true

pub emit-requires : goal.emit-requires
emit-requires c = let all = walk_asks _ _ _ _ c.requires in record {
  ranged = all.0;
  holds = all.1.0;
  walk_bound = all.1.1;
}

pub returns-else-n-walk : goal.returns-else-n-walk
returns-else-n-walk c = counted-room _ c.emit.ensures
