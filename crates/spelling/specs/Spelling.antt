-- Which numbers are names, and what is known of them in a table that is sound. Assumes nothing.
use Rattle.std.specs.Prelude.{ℕ, ◌≤◌, ◌<◌, Bool, ◌&&◌, List, ltb, leb}
use Rattle.names.specs.Words.{names_in}
use Rattle.names.specs.Names.{GoodName}

-- "A name is 1.. into pairs (start, length) over a UTF-8 text, 0 for none."
abbrev pub is_name : List ℕ → ℕ → Bool
is_name names k = ltb 0 k && leb k (names_in names)

-- every name lies in the text; where `rows::check` answers Sound this holds (`named` of SoundTable)
abbrev pub GivenNames : (names text : List ℕ) → Type 0
GivenNames names text = (k : ℕ) → 0 < k → k ≤ names_in names → GoodName names text k
