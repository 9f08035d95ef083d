-- `spelling::Names::bytes_of` meets its contract. Assumes nothing.
use mathlib.Core.Path.{sym, ◌∙◌}
use Rattle.spelling.proofs.Bytes.{no_bytes, bytes_by}
use Rattle.spelling.proofs.Names.bytes_of.Goals as goal

pub returns-then-not-is_name : goal.returns-then-not-is_name
returns-then-not-is_name c = sym (no_bytes _ _ _ (sym c.is_name.ensures ∙ c.if-not-is_name.true))

pub returns : goal.returns
returns c = bytes_by c.args.self.now.pairs.now c.args.k c.is_name.ensures c.if-not-is_name.false c.args.self.now.text.now c.pair_at-start.ensures.start.0 c.pair_at-start.ensures.len.0
