-- `inserted::Accessor::params_row` meets its contract. Assumes nothing.
use native.Mathlib.Omega.{arith}
use mathlib.Core.Path.{ap, sym, ◌∙◌}
use mathlib.Core.Bool.{Bool}
use Rattle.uses.specs.Uses.{access_number}
use Rattle.forest.specs.Forest.{size}
use Rattle.inserted.specs.Insertions.{param_if, params_row}
use Rattle.output.proofs.Writing.{then, named}
use Rattle.output.proofs.Held.{put_around}
use Rattle.inserted.proofs.Shapes.{size_params, is-set}
use Rattle.inserted.proofs.Accessor.params_row.Goals as goal

pub param_if-requires : goal.param_if-requires
param_if-requires c = let z = size_params (access_number c.args.self.access) c.args.self.property c.args.self.prop c.args.self.value in omega arith

pub param_if-requires-2 : goal.param_if-requires-2
param_if-requires-2 c =
    let z = size_params (access_number c.args.self.access) c.args.self.property c.args.self.prop c.args.self.value in
    let s = ap (λ (y : Bool). size (param_if y c.args.self.value)) (c.eq.ensures ∙ is-set c.args.self.access) in
    omega arith

pub close-requires : goal.close-requires
close-requires c =
    let z = size_params (access_number c.args.self.access) c.args.self.property c.args.self.prop c.args.self.value in
    let s = ap (λ (y : Bool). size (param_if y c.args.self.value)) (c.eq.ensures ∙ is-set c.args.self.access) in
    (omega arith, omega arith)

pub returns-clause-rows : goal.returns-clause-rows
unfolding params_row
returns-clause-rows c =
    let value = named (ap (λ (y : Bool). param_if y c.args.self.value) (sym (c.eq.ensures ∙ is-set c.args.self.access))) c.param_if-2.ensures.rows in
    put_around c.append.ensures.row (then c.param_if.ensures.rows value) c.close.ensures.end
