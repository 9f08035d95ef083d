-- `candidates::spell` meets its contract. Assumes nothing.
use native.Mathlib.Omega.{arith}
use Rattle.candidates.proofs.Writing.{accepted, long, front_is}
use Rattle.candidates.proofs.spell.Goals as goal

pub unwrap-count-requires : goal.unwrap-count-requires
unwrap-count-requires c = accepted _ _ _ _ c.requires.text_value.0 c.requires.text_value.1 _ _ _ _ (omega arith) c.text_of.ensures

pub slice_bounds-result-end : goal.slice_bounds-result-end
slice_bounds-result-end c = long _ _ _ _ c.requires.text_value.0 c.requires.text_value.1 _ _ _ _ (omega arith) c.text_of.ensures _ c.unwrap-count.ensures

pub returns : goal.returns
returns c = front_is _ _ _ _ c.requires.text_value.0 c.requires.text_value.1 _ _ _ _ (omega arith) c.text_of.ensures _ c.unwrap-count.ensures
