-- Tables as the sheet has them: a line a row, and what is answered for them. Assumes nothing.
use Rattle.std.specs.Prelude.{◌≡◌, List, [], ◌∷◌, ℕ}
use Rattle.names.specs.Bytes.{bytes_of}
use Rattle.names.specs.Laid.{joined, pairs_from}
use Rattle.steps.specs.Mode.{Switches}
use Rattle.steps.specs.Outcome.{Outcome, Room, outcome}

-- kind attr name end
pub data Line : Type 0 where
  row : (kind attr name end : ℕ) → Line

-- the words of some lines
unfoldable pub sheet : List Line → List ℕ
sheet [] = []
sheet (row k a n e ∷ ls) = k ∷ a ∷ n ∷ e ∷ sheet ls

abbrev pub room : (rows bindings : ℕ) → Room
room rows bindings = record { rows = rows; bindings = bindings }

-- a table, what is lent, and what is answered
pub record Plot : Type 0 where
  pub chosen : Switches
  pub names : List (List ℕ)
  pub table : List Line
  pub lent : Room
  pub answer : Outcome

-- every plot of a list is answered as it says, at the limits 16,384 and 128
abbrev pub Held : List Plot → Type 0
Held [] = Unit {0}
Held (p ∷ ps) = (outcome 16384 128 p.chosen (bytes_of (sheet p.table)) (bytes_of (pairs_from 0 p.names)) (joined p.names) p.lent ≡ p.answer) × Held ps
