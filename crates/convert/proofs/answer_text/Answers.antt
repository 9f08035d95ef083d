-- `convert::answer_text` meets its contract. Assumes nothing.
use mathlib.Core.Path.{refl}
use native.Mathlib.Omega.{arith}
use Rattle.convert.proofs.Answering.{shown_as}
use Rattle.convert.proofs.Taking.{fault_text, sheet-text, fits16, fits8, fits}
use Rattle.convert.proofs.answer_text.Goals as goal

pub returns-in-Err : goal.returns-in-Err
returns-in-Err c = shown_as _ _ _ _ (fault_text _ _ _ _ c.in-Err.ensures) c.turn_away.ensures

pub returns-in-Ok : goal.returns-in-Ok
returns-in-Ok c =
    let u = c.in-Ok.ensures in
    let l = u.small in
    let rows = fits16 _ c.room-rows.result c.room-rows.result l.0 (omega (arith, c.room-rows.ensures)) refl in
    let pairs = fits8 _ c.room-pairs.result c.room-pairs.result l.1 (omega (arith, c.room-pairs.ensures)) refl in
    let text = fits _ c.room-text.result c.room-text.result l.2 (omega (arith, c.room-text.ensures)) refl in
    shown_as _ _ _ _ (sheet-text _ _ _ _ u rows pairs text) c.answer_sheet.ensures
