-- `bindings::add_params` meets its contract. Assumes nothing.
use Rattle.uses.specs.Uses.{access_number}
use mathlib.Core.Path.{◌∙◌}
use Rattle.bindings.proofs.Uses.{wanted_by, is-set}
use Rattle.bindings.proofs.Closing.{two-first, two-second, two-kept}
use Rattle.bindings.proofs.add_params.Goals as goal

pub add_one-computed-requires-clause-asked : goal.add_one-computed-requires-clause-asked
add_one-computed-requires-clause-asked c = two-first c.args.made.now c.args.cap c.args.count (access_number c.args.access) c.args.x c.args.f c.requires

pub add_one-requires-clause-asked : goal.add_one-requires-clause-asked
add_one-requires-clause-asked c = rw (c.eq.ensures ∙ is-set c.args.access) (two-second c.args.made.now c.args.cap c.args.count (access_number c.args.access) c.args.x c.args.f c.requires _ _ c.add_one-computed.ensures.kept)

pub returns-clause-kept : goal.returns-clause-kept
returns-clause-kept c = two-kept c.args.made.now c.args.cap c.args.count (access_number c.args.access) c.args.x c.args.f c.requires _ _ c.add_one-computed.ensures.kept _ _ (wanted_by _ _ (c.eq.ensures ∙ is-set c.args.access) c.add_one.ensures.kept)
