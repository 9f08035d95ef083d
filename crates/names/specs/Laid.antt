-- Names laid end to end: "pairs (start, length) over a UTF-8 text". Assumes nothing.
use Rattle.std.specs.Prelude.{List, [], ◌∷◌, ◌++◌, ℕ, ◌+◌, length}

-- the text of some names: their bytes, end to end
unfoldable pub joined : List (List ℕ) → List ℕ
joined [] = []
joined (l ∷ ls) = l ++ joined ls

-- their pairs (start, length), the first name at byte `at` of the text
unfoldable pub pairs_from : (at : ℕ) → List (List ℕ) → List ℕ
pairs_from at [] = []
pairs_from at (l ∷ ls) = at ∷ length l ∷ pairs_from (at + length l) ls
