-- `emit::emit` meets its contract. Assumes nothing.
use mathlib.Core.Path.{◌≡◌, refl, ap, ◌∙◌}
use mathlib.Core.List.{List}
use Prim.Native.Nat.{ℕ}
use native.Mathlib.Omega.{arith}
use borrow.Author.Rules.{rules}
use denote.Ref.{MutBor}
use Rattle.output.specs.Output.{emit_rows}
use Rattle.emit_plan.specs.Plans.{emitted_of}
use Rattle.emit.proofs.Starting.{program_rows, program_room, program_pre}
use Rattle.output.proofs.Writing.{named}
use Rattle.emit.proofs.emit.Goals as goal

pub invariant_of-all : goal.invariant_of-all
invariant_of-all c =
    let v = c.args.walk.now in
    record { known = program_pre v.rows.now v.names.pairs.now v.names.text.now v c.program-start.ensures c.requires.ranged v.names.given c.requires.holds }

pub list-requires : goal.list-requires
list-requires c =
    let v = c.args.walk.now in
    let z = c.new-w.ensures.1 in
    let room = program_room v.rows.now v.names.pairs.now v.names.text.now v c.program-start.ensures c.requires.walk_bound in
    omega arith

pub returns : goal.returns
returns c =
    let v = c.args.walk.now in
    let n = c.new-w.ensures.1 in
    let o : c.new-w.result.rows.now ≡ c.args.out.now = ap (λ (r : MutBor (List ℕ)). r.now) c.new-w.ensures.0 in
    let left : c.finish.new.self.0 ≡ c.list.new.w.rows.now = c.finish.ensures.1 in
    let d = named (program_rows v.rows.now v.names.pairs.now v.names.text.now v c.program-start.ensures) c.list.ensures.rows in
    let whole : c.finish.new.self.0 ≡ emit_rows c.args.out.now 0 (emitted_of v) = left ∙ d.wrote ∙ rw (n, o) refl in
    record { next = omega (arith, c.finish.ensures.0, d.next); wrote = search rules }
