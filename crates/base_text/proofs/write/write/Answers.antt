-- `base_text::write::write` meets its contract. Assumes nothing.
use Prim.Native.Nat.{◌+◌}
use mathlib.Core.Path.{◌≡◌}
use mathlib.Core.List.{◌++◌}
use native.Mathlib.Omega.{arith}
use lib.ListN.{length, length-append}
use Rattle.base_text.proofs.Pieces.{three_pieces}
use Rattle.base_text.proofs.Telling.{no_room, written}
use Rattle.base_text.proofs.write.write.Goals as goal

pub returns-then-out-c : goal.returns-then-out-c
returns-then-out-c c =
    let a = c.args in
    let size : length (a.base.now ++ (a.capitals.now ++ a.rest.now)) ≡ length a.base.now + length a.capitals.now + length a.rest.now = simp length-append (omega arith) in
    no_room _ _ _ size c.if-out-c.true

pub returns : goal.returns
returns c =
    let a = c.args in
    let size : length (a.base.now ++ (a.capitals.now ++ a.rest.now)) ≡ length a.base.now + length a.capitals.now + length a.rest.now = simp length-append (omega arith) in
    written _ _ _ size _ c.if-out-c.false (rw (c.copy.ensures, c.copy-2.ensures, c.copy-3.ensures) (three_pieces a.out.now a.base.now a.capitals.now a.rest.now))
