-- `printer::row` meets its contract. Assumes nothing.
use Rattle.std.proofs.Common.{◌+◌, ◌*◌, get_or, rules}
use Rattle.std.proofs.lemmas.List.FromFn.{fill_by_all}
use Rattle.names.specs.Words.{words}
use Rattle.printer.proofs.row.Goals as goal

pub returns : goal.returns
returns g c = fill_by_all (λ k. get_or (words c.args.bytes.now) (g.row.N * c.args.i + k) 0) c.loop-j.numbers g.row.N 0 c.loop-j.invariant.0 (search rules)
