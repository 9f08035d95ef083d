-- `names::utf8::ascii_words` meets its contract. Assumes nothing.
use native.Mathlib.Omega.{arith}
use Rattle.names.proofs.AsciiWords.{wide, ascii_on}
use Rattle.names.proofs.utf8.ascii_words.Goals as goal

pub loop-word-preserved : goal.loop-word-preserved
loop-word-preserved c =
    let chunk = c.in-Some.ensures.cases in
    (omega (arith, wide _ c.type_inv.s c.loop-word.i _ _ chunk), ascii_on _ c.type_inv.s c.loop-word.i _ _ chunk _ c.from_le_bytes.ensures c.if-from_le_bytes-ne0.false c.loop-word.invariant.1)
