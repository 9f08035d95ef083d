-- `made_names::sizes::below` meets its contract. Assumes nothing.
use Rattle.made_names.proofs.Sizing.{no_entries}
use Rattle.made_names.proofs.sizes.below.Goals as goal

pub name_all-requires : goal.name_all-requires
name_all-requires g c = no_entries c.args.checked.script.bindings.now c.args.checked.script.names.now g.row.L g.row.N c.requires.sizes.0 c.requires.bindings_bound
