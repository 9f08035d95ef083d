-- `letters::cyrillic_capital` meets its contract. Assumes nothing.
use Prim.Native.Nat.{◌<◌, ◌≤◌}
use native.Mathlib.Omega.{arith}
use borrow.Author.Tests.{le-leb, lt-leb}
use Rattle.letters.specs.Letters.{cyrillic_capital}
use Rattle.letters.proofs.cyrillic_capital.Goals as goal

pub returns-then-code-lt1072 : goal.returns-then-code-lt1072
unfolding cyrillic_capital
returns-then-code-lt1072 c =
    let small : c.args.code < 0x430 = omega arith in
    let second : c.args.code < 0x450 = omega arith in
    (rw (lt-leb 0x430 _ small, lt-leb 0x450 _ second), omega arith, omega arith)

pub returns-then-code-lt1104 : goal.returns-then-code-lt1104
unfolding cyrillic_capital
returns-then-code-lt1104 c =
    let small : 0x430 ≤ c.args.code = omega arith in
    let last : c.args.code ≤ 0x44F = omega arith in
    (rw (le-leb 0x430 _ small, le-leb _ 0x44F last), omega arith, omega arith)

pub returns : goal.returns
unfolding cyrillic_capital
returns c =
    let second : 0x450 ≤ c.args.code = omega arith in
    let small : 0x430 ≤ c.args.code = omega arith in
    let last : c.args.code ≤ 0x45F = omega arith in
    (rw (le-leb 0x430 _ small, lt-leb _ 0x44F second, le-leb 0x450 _ second, le-leb _ 0x45F last), omega arith, omega arith)
