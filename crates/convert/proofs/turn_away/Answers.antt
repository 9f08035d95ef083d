-- `convert::turn_away` meets its contract. Assumes nothing.
use mathlib.Core.Path.{ap₂}
use mathlib.Core.List.{[]}
use Prim.Native.Nat.{ℕ}
use native.Mathlib.Omega.{arith}
use Rattle.names.specs.Words.{words}
use Rattle.printer.specs.Print.{printed}
use Rattle.convert.proofs.Answering.{shows, shown_as}
use Rattle.convert.proofs.turn_away.Goals as goal

pub returns : goal.returns
unfolding words
returns c =
    shown_as _ _ _ _ (ap₂ (λ (x y : ℕ). printed x y [] []) c.number.ensures c.place.ensures) (shows _ _ _ _ c.print.ensures.0 (omega (arith, c.print.ensures.1)))
