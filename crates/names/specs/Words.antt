-- "Rows stand in preorder, each four u32: kind, attr, name, end". Words are little-endian. Assumes nothing.
use Rattle.std.specs.Prelude.{ℕ, ◌+◌, ◌*◌, ◌/◌, List, [], ◌∷◌, get_or, length}

-- the words of a list of bytes, low byte first; a rest of fewer than four bytes is left out
unfoldable pub words : List ℕ → List ℕ
words [] = []
words (a ∷ []) = []
words (a ∷ b ∷ []) = []
words (a ∷ b ∷ c ∷ []) = []
words (a ∷ b ∷ c ∷ d ∷ r) = (a + 256 * b + 65536 * c + 16777216 * d) ∷ words r

-- the word whose four bytes start at `at`
abbrev pub word_at : List ℕ → ℕ → ℕ
word_at s at = get_or s at 0 + 256 * get_or s (at + 1) 0 + 65536 * get_or s (at + 2) 0 + 16777216 * get_or s (at + 3) 0

-- the four words of row i of a table
abbrev pub kind_at : List ℕ → ℕ → ℕ
kind_at ws i = get_or ws (4 * i) 0

abbrev pub attr_at : List ℕ → ℕ → ℕ
attr_at ws i = get_or ws (4 * i + 1) 0

abbrev pub name_at : List ℕ → ℕ → ℕ
name_at ws i = get_or ws (4 * i + 2) 0

-- "`end` is one past the subtree"
abbrev pub end_at : List ℕ → ℕ → ℕ
end_at ws i = get_or ws (4 * i + 3) 0

-- how many rows and names some bytes hold: 16 and 8 bytes each
abbrev pub rows_in : List ℕ → ℕ
rows_in rows = length rows / 16

abbrev pub names_in : List ℕ → ℕ
names_in names = length names / 8
