-- What both walks know of a row's act: its frames are rows that have a place in tables of cap entries, and its numbers fit a word. Assumes nothing.
use Rattle.std.specs.Prelude.{◌≡◌, true, ◌||◌, List, ℕ, ◌≤◌, ◌<◌, eqb}
use Rattle.names.specs.Words.{kind_at, attr_at, name_at}
use Rattle.steps.specs.Super.{first_name, first_inside}
use Rattle.steps.specs.Acts.{Ctx, Op, Op.row, Op.drop, Op.name, Op.call}
use Rattle.below.specs.Below.{children}

-- the frames of a context are below cap
pub record FramesBelow (cap : ℕ) (c : Ctx) : Type 0 where
  pub this : c.this_at < cap
  pub super : c.super_at < cap
  pub arguments : c.arguments_at < cap

-- what becomes of a row: words where it stays, else a use of its kind, a frame below cap, and a property that is a word
abbrev pub OpLow : (cap : ℕ) → Op → Type 0
OpLow cap (row k a n) = (k < 4294967296) × ((a < 4294967296) × (n < 4294967296))
OpLow cap drop = Unit {0}
OpLow cap (name u f) = (0 < u) × ((u ≤ 2) × (f < cap))
OpLow cap (call u f x t) = ((eqb u 3 || eqb u 4) ≡ true) × ((f < cap) × (x < 4294967296))

-- the words of row i that an act hands on are below 2^32
pub record Small (ws : List ℕ) (i : ℕ) : Type 0 where
  pub kind : kind_at ws i < 4294967296
  pub attr : attr_at ws i < 4294967296
  pub name : name_at ws i < 4294967296
  pub deep : first_name (first_inside (children ws i)) < 4294967296
