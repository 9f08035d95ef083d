-- `names::words::put_pair` meets its contract. Assumes nothing.
use Rattle.names.proofs.Storing.{two}
use Rattle.names.proofs.words.put_pair.Goals as goal

pub returns : goal.returns
returns c = two _ _ _ _ _ _ c.put_word.ensures c.put_word-2.ensures
