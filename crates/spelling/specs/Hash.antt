-- A number of some bytes, by which names are told apart before their bytes are compared. Assumes nothing.
use Rattle.std.specs.Prelude.{ℕ, ◌+◌, ◌*◌, ◌%◌, List, [], ◌∷◌}

-- of the bytes behind some that have the number h
unfoldable pub hash_from : (h : ℕ) → List ℕ → ℕ
hash_from h [] = h
hash_from h (b ∷ bs) = hash_from ((31 * h + b) % 4294967296) bs

abbrev pub hash_of : List ℕ → ℕ
hash_of bs = hash_from 0 bs
