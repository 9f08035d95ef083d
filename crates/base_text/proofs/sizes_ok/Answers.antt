-- `base_text::sizes_ok` meets its contract. Assumes nothing.
use Rattle.base_text.proofs.sizes_ok.Goals as goal

pub returns : goal.returns
returns c = rw c.names_fit-named.ensures
