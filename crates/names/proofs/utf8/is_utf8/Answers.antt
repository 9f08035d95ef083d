-- `names::utf8::is_utf8` meets its contract. Assumes nothing.
use mathlib.Core.Path.{◌∙◌}
use Rattle.names.proofs.Behind.{utf8_behind}
use Rattle.names.proofs.utf8.is_utf8.Goals as goal

pub returns : goal.returns
returns c = c.by_sequences.ensures ∙ utf8_behind _ _ c.ascii_words.ensures.0 c.ascii_words.ensures.1
