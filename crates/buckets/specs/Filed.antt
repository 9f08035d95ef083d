-- The elements of a list by buckets, in two tables: so that one is found without a search of the list. A table is a function of numbers, for it may stand in a slice of its own or be a part of an array. Assumes nothing.
use Rattle.std.specs.Prelude.{◌≡◌, List, ℕ, ◌-◌, ◌≤◌, ◌<◌, Bool, true, get_or, length, take}
use Rattle.buckets.specs.Search.{last_where}

-- the tables are right for the elements xs: by bucket its last element, and by element the one before it in its bucket
pub record Filed {A : Type 0} (in_bucket : ℕ → A → Bool) (d : A) (last before : ℕ → ℕ) (buckets : ℕ) (xs : List A) : Type 0 where
  pub lasts : (h : ℕ) → h < buckets → last h ≡ last_where (in_bucket h) 1 xs
  pub befores : (h b : ℕ) → 0 < b → b ≤ length xs → in_bucket h (get_or xs (b - 1) d) ≡ true → before b ≡ last_where (in_bucket h) 1 (take (b - 1) xs)
