-- What the code of this crate needs to know of the rows lent, and of an array that it makes. Where `rows::check` answers Sound all of the former holds (proofs/Giving.antt). Assumes nothing.
use Rattle.std.specs.Prelude.{ℕ, ◌*◌, ◌≤◌, ◌<◌, ◌≡◌, List, length, get_or}
use Rattle.names.specs.Words.{words, end_at}
use Rattle.forest.specs.Forest.{flat, rows_at}
use Rattle.forest.specs.Nested.{Nested}

-- the rows are n, nest, and are the words of the forest that is read from them
pub record GivenRows (rows : List ℕ) (n : ℕ) : Type 0 where
  pub bytes : length rows ≡ 16 * n
  pub some : 0 < n
  pub few : n ≤ 16384
  pub ends : end_at (words rows) 0 ≡ n
  pub nested : Nested (words rows) n
  pub same : flat 0 (rows_at (words rows) 0 n) ≡ words rows

-- an array with room for n entries, all 0
pub record Clear (entries : List ℕ) (n : ℕ) : Type 0 where
  pub room : n ≤ length entries
  pub zeros : (j : ℕ) → get_or entries j 0 ≡ 0
