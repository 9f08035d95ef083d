-- `base_text::front` meets its contract. Assumes nothing.
use mathlib.Core.Path.{sym, ◌∙◌}
use native.Mathlib.Omega.{arith}
use lib.ListN.{length}
use Rattle.base_text.specs.Refusals.{front_of}
use Rattle.base_text.proofs.Checking.{sized, bad_name_below}
use Rattle.base_text.proofs.front.Goals as goal

pub returns-then-not-sizes_ok : goal.returns-then-not-sizes_ok
unfolding front_of
returns-then-not-sizes_ok c = rw (sym c.sizes_ok.ensures ∙ c.if-not-sizes_ok.true)

pub first_bad_name-requires : goal.first_bad_name-requires
first_bad_name-requires c = (sized (length c.args.script.bindings.now) (length c.args.script.names.now) (length c.args.script.text.now) (sym c.sizes_ok.ensures ∙ c.if-not-sizes_ok.false)).few

pub overflow_cast-result : goal.overflow_cast-result
overflow_cast-result c =
    let s = sized (length c.args.script.bindings.now) (length c.args.script.names.now) (length c.args.script.text.now) (sym c.sizes_ok.ensures ∙ c.if-not-sizes_ok.false) in
    let l = bad_name_below c.args.script.names.now c.args.script.text.now c.in-Some.name (sym c.first_bad_name.ensures ∙ c.in-Some.is) in
    omega arith

pub returns-in-Some : goal.returns-in-Some
unfolding front_of
returns-in-Some c = rw (sym c.sizes_ok.ensures ∙ c.if-not-sizes_ok.false, sym c.first_bad_name.ensures ∙ c.in-Some.is)

pub returns : goal.returns
unfolding front_of
returns c = rw (sym c.sizes_ok.ensures ∙ c.if-not-sizes_ok.false, sym c.first_bad_name.ensures ∙ c.in_default.is)
