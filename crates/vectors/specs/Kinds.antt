-- What a run of a stored case repeats, and how long it is. Assumes nothing.
use Rattle.std.specs.Prelude.{ℕ}
use Rattle.vectors.specs.declared.runs.Kind.{Kind}
use Rattle.vectors.specs.declared.runs.Kind.TheVariants.{Row, Record, Pair, Byte}

-- how many bytes an item has
abbrev pub item_size : Kind → ℕ
item_size Row = 16
item_size Record = 12
item_size Pair = 8
item_size Byte = 1
