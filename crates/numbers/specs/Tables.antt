-- The tables by which a number is found: entries by bucket, and by entry how far the numbers behind it are known to be taken. Assumes nothing.
use Rattle.std.specs.Prelude.{ℕ, ◌+◌, ◌*◌, ◌-◌, ◌%◌, ◌≤◌, ◌<◌, ◌≡◌, Bool, true, List, [], ◌∷◌, ◌++◌, get_or, length, set, eqb}
use Rattle.names.specs.Words.{names_in}
use Rattle.names.specs.Names.{same_bytes}
use Rattle.names.specs.Laid.{joined}
use Rattle.spelling.specs.Hash.{hash_of}
use Rattle.buckets.specs.Filed.{Filed}
use Rattle.base_text.specs.Bindings.{records_in}
use Rattle.base_text.specs.Refusals.{base_text}
use Rattle.candidates.specs.Candidates.{candidate, taken, behind, made_name}
use Rattle.candidates.specs.MadeNames.{made_names}
use Rattle.numbers.specs.Entries.{entries, made_from}

-- the test that an entry is x
abbrev pub is_text : List ℕ → List ℕ → Bool
is_text x t = same_bytes t x

-- the spellings of bucket h, of so many buckets
unfoldable pub in_bucket : (buckets h : ℕ) → List ℕ → Bool
in_bucket buckets h s = eqb (hash_of s % buckets) h

-- the entries xs by their buckets
abbrev pub Found : (lasts befores : List ℕ) → List (List ℕ) → Type 0
Found lasts befores xs = Filed (in_bucket (length lasts)) [] (λ h. get_or lasts h 0) (λ e. get_or befores e 0) (length lasts) xs

-- by entry: where it is the bare name of some base text, all numbers of that base up to this one are taken
pub record Reached (reached : List ℕ) (xs : List (List ℕ)) : Type 0 where
  pub fresh : (e : ℕ) → length xs < e → get_or reached e 0 ≡ 0
  pub passed : (e : ℕ) → 0 < e → e ≤ length xs → (base : List ℕ) → get_or xs (e - 1) [] ≡ candidate base 1 → (j : ℕ) → 1 ≤ j → j ≤ get_or reached e 0 → taken xs (candidate base j) ≡ true

-- what the tables are for the first `count` entries, with room for those of all names and bindings
pub record Stored (bindings names text lasts befores numbers : List ℕ) (count : ℕ) : Type 0 where
  pub some : 0 < length lasts
  pub befores_long : names_in names + records_in bindings < length befores
  pub numbers_long : names_in names + records_in bindings < length numbers
  pub few : count ≤ names_in names + records_in bindings
  pub found : Found lasts befores (entries bindings names text numbers count)

-- all numbers of a base below n are taken
pub record Seeking (ts : List (List ℕ)) (base : List ℕ) (n : ℕ) : Type 0 where
  pub low : 1 ≤ n
  pub high : n ≤ 1 + length ts
  pub before : (j : ℕ) → 1 ≤ j → j < n → taken ts (candidate base j) ≡ true

-- n is the number behind binding b's name, after `count` entries, and the table is right once that name is an entry
pub record Chosen (bindings names text numbers : List ℕ) (count b n : ℕ) (reached : List ℕ) : Type 0 where
  pub number : n ≡ behind (entries bindings names text numbers count) (base_text b bindings names text)
  pub kept : Reached reached (entries bindings names text numbers count ++ (candidate (base_text b bindings names text) n ∷ []))

-- all four tables are right for the first `count` entries
pub record Numbering (bindings names text lasts befores reached numbers : List ℕ) (count : ℕ) : Type 0 where
  pub stored : Stored bindings names text lasts befores numbers count
  pub reached_long : names_in names + records_in bindings < length reached
  pub kept : Reached reached (entries bindings names text numbers count)

-- the number behind binding b's name was stored for entry count + 1, and the name has so many bytes
pub record Named (bindings names text : List ℕ) (count b bytes : ℕ) (numbers numbers' : List ℕ) : Type 0 where
  pub stores : numbers' ≡ set numbers (count + 1) (behind (entries bindings names text numbers count) (base_text b bindings names text))
  pub counted : bytes ≡ length (made_name (entries bindings names text numbers count) (base_text b bindings names text))
  pub short : bytes ≤ 281

-- tables without an entry, with room for those of all names and bindings
pub record Empty (bindings names lasts befores reached numbers : List ℕ) : Type 0 where
  pub some : 0 < length lasts
  pub befores_long : names_in names + records_in bindings < length befores
  pub reached_long : names_in names + records_in bindings < length reached
  pub numbers_long : names_in names + records_in bindings < length numbers
  pub no_lasts : (h : ℕ) → get_or lasts h 0 ≡ 0
  pub none_reached : (e : ℕ) → get_or reached e 0 ≡ 0

-- the numbers are those of the made names, which have so many bytes together
pub record Numbered (bindings names text : List ℕ) (bytes : ℕ) (numbers : List ℕ) : Type 0 where
  pub made : made_from bindings names text numbers 1 (records_in bindings) ≡ made_names bindings names text
  pub counted : bytes ≡ length (joined (made_names bindings names text))
  pub short : bytes ≤ 281 * records_in bindings
