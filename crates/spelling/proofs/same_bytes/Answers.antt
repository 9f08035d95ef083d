-- `spelling::same_bytes` meets its contract. Assumes nothing.
use mathlib.Core.Path.{◌∙◌}
use Rattle.spelling.proofs.Bytes.{same-eq}
use Rattle.spelling.proofs.same_bytes.Goals as goal

pub returns : goal.returns
returns c = c.eq.ensures ∙ same-eq c.args.a.now c.args.b.now
