-- Forests side by side. Assumes nothing.
use Rattle.forest.specs.Forest.{Rows, Rows.none, Rows.node}

-- the rows of the first, then those of the second
unfoldable pub join : Rows → Rows → Rows
join none t = t
join (node k a n i s) t = node k a n i (join s t)
