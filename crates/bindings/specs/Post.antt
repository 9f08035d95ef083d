-- What the operations of a frame give. Assumes nothing.
use Rattle.std.specs.Prelude.{◌≡◌, List, ℕ, ◌+◌, ◌≤◌, ◌<◌, length}
use Rattle.steps.specs.Bindings.{Binding}
use Rattle.bindings.specs.Store.{Store, binds}

-- the array M with count bindings became M' with count', which are the list bs
pub record Kept (M' : List ℕ) (cap : ℕ) (bs : List Binding) (count' : ℕ) : Type 0 where
  pub store : Store M' cap count'
  pub list : binds M' cap count' ≡ bs

-- what an operation of the frame at `row` asks: the store, and room for the list that it gives
pub record Asked (M : List ℕ) (cap row count : ℕ) (bs : List Binding) : Type 0 where
  pub store : Store M cap count
  pub row_low : row < cap
  pub cap_low : cap ≤ 16384
  pub room : length bs < cap

-- what adding a binding to the frame at `row` asks
pub record Room (M : List ℕ) (cap row count : ℕ) : Type 0 where
  pub store : Store M cap count
  pub row_low : row < cap
  pub cap_low : cap ≤ 16384
  pub more : count + 1 < cap
