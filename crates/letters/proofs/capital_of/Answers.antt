-- `letters::capital_of` meets its contract. Assumes nothing.
use Prim.Native.Nat.{ℕ, ◌/◌, ◌%◌}
use mathlib.Core.Path.{◌≡◌, ◌∙◌}
use native.Mathlib.Omega.{arith}
use Rattle.letters.proofs.Casing.{ascii, latin, cyrillic, between, beyond}
use Rattle.letters.proofs.capital_of.Goals as goal

pub returns-in-0-to-127 : goal.returns-in-0-to-127
returns-in-0-to-127 c = ascii _ _ (omega arith) c.flip.ensures

pub returns-in-128-to-255 : goal.returns-in-128-to-255
returns-in-128-to-255 c =
    let x : ℕ = c.entry.result in
    let small : x / 256 % 256 ≡ x / 256 = omega arith in
    latin _ _ (omega arith) (omega arith) (c.to_be_bytes.ensures ∙ rw small c.entry.ensures)

pub returns-in-1024-to-1119 : goal.returns-in-1024-to-1119
returns-in-1024-to-1119 c = let e = c.cyrillic_capital-c.ensures in cyrillic _ _ (omega arith) (omega arith) e.0 e.1 e.2

pub returns-in_default : goal.returns-in_default
returns-in_default c = between _ (omega arith) (omega arith)

pub returns-in_default-2 : goal.returns-in_default-2
returns-in_default-2 c = beyond _ (omega arith)
