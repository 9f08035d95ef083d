-- A table as a forest: what the rows are a preorder of. Assumes nothing.
use Rattle.std.specs.Prelude.{ℕ, zero, suc, ◌+◌, ◌-◌, ◌≤◌, ◌≡◌, Bool, true, false, cond, ◌&&◌, List, [], ◌∷◌, ◌++◌, ltb}
use Rattle.names.specs.Words.{words, kind_at, attr_at, name_at, end_at, rows_in}
use Rattle.grammar.specs.Grammar.{top_place, place_of, kind_ok, attr_ok, fits, count_ok, name_ok}

-- rows side by side: the first one's kind, attr and name, its children, and the rows after it
pub data Rows : Type 0 where
  none : Rows
  node : (kind attr name : ℕ) (inside after : Rows) → Rows

-- the number of rows
unfoldable pub size : Rows → ℕ
size none = 0
size (node k a n i s) = 1 + size i + size s

-- the number of rows side by side
unfoldable pub count : Rows → ℕ
count none = 0
count (node k a n i s) = suc (count s)

-- "Rows stand in preorder, each four u32: kind, attr, name, end; `end` is one past the subtree": the words of a forest whose first row has number o
unfoldable pub flat : ℕ → Rows → List ℕ
unfolding size
flat o none = []
flat o (node k a n i s) = k ∷ a ∷ n ∷ (o + 1 + size i) ∷ (flat (o + 1) i ++ flat (o + 1 + size i) s)

-- rows i up to e read as a forest. The number before them is fuel
unfoldable pub tree : List ℕ → (fuel i e : ℕ) → Rows
tree ws zero i e = none
tree ws (suc f) i e = cond (ltb i e) (node (kind_at ws i) (attr_at ws i) (name_at ws i) (tree ws f (i + 1) (end_at ws i)) (tree ws f (end_at ws i) e)) none

unfoldable pub rows_at : List ℕ → (i e : ℕ) → Rows
rows_at ws i e = tree ws (e - i) i e

-- the forest of a whole table, given its bytes
abbrev pub table : List ℕ → Rows
table rows = rows_at (words rows) 0 (rows_in rows)

-- a row of kind k, attr a and that name, in that place, with count children, is as section "Rows" says
abbrev pub row_ok : (names place k a name count : ℕ) → Bool
row_ok names place k a name count = kind_ok k && attr_ok k a place && fits place k && count_ok k a count && name_ok k a name names

-- the children, from position pos on, of a row of kind k and attr a, and all below them
abbrev pub WellFormed : (names k a pos : ℕ) → Rows → Type 0
WellFormed names k a pos none = Unit {0}
WellFormed names k a pos (node k' a' n' i s) = (row_ok names (place_of k a pos) k' a' n' (count i) ≡ true) × (WellFormed names k' a' 0 i × WellFormed names k a (pos + 1) s)

-- a whole table: one row in the place of row 0, and all below it
abbrev pub Table : (names : ℕ) → Rows → Type 0
Table names none = ⊥
Table names (node k a n i none) = (row_ok names top_place k a n (count i) ≡ true) × WellFormed names k a 0 i
Table names (node k a n i (node k' a' n' i' s)) = ⊥

-- no row is deeper than most, the rows side by side having depth d
abbrev pub DepthWithin : (most d : ℕ) → Rows → Type 0
DepthWithin most d none = Unit {0}
DepthWithin most d (node k a n i s) = (d ≤ most) × (DepthWithin most (d + 1) i × DepthWithin most d s)

-- no row has a kind and attr of which the test holds
abbrev pub NoRow : (ℕ → ℕ → Bool) → Rows → Type 0
NoRow test none = Unit {0}
NoRow test (node k a n i s) = (test k a ≡ false) × (NoRow test i × NoRow test s)

-- What goes down a forest: a row of value v, kind k and attr a gives its child at position pos the value t v k a pos. The values in the order of the rows.
unfoldable pub down : (t : ℕ → ℕ → ℕ → ℕ → ℕ) (v k a pos : ℕ) → Rows → List ℕ
down t v k a pos none = []
down t v k a pos (node k' a' n' i s) = t v k a pos ∷ (down t (t v k a pos) k' a' 0 i ++ down t v k a (pos + 1) s)
