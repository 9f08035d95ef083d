-- `names::words::cell` meets its contract. Assumes nothing.
use mathlib.Core.Path.{◌∙◌, sym}
use Rattle.names.proofs.Cells.{word-at}
use borrow.Author.Rules.{rules}
use Rattle.names.proofs.words.cell.Goals as goal

pub returns : goal.returns
returns c = (c.word.ensures ∙ sym (word-at _ _ c.requires), search rules)
