-- Words as bytes. Assumes nothing.
use Rattle.std.specs.Prelude.{List, [], ◌∷◌, ◌++◌, ℕ, ◌/◌, ◌%◌}

-- a word as four bytes, the low byte first
unfoldable pub le32 : ℕ → List ℕ
le32 x = x % 256 ∷ x / 256 % 256 ∷ x / 65536 % 256 ∷ x / 16777216 ∷ []

-- the bytes of some words, one after the other, low bytes first
unfoldable pub bytes_of : List ℕ → List ℕ
bytes_of [] = []
bytes_of (x ∷ xs) = le32 x ++ bytes_of xs
