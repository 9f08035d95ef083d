-- `walks::unchanged` meets its contract. Assumes nothing.
use mathlib.Core.Path.{◌≡◌, refl, ap, ◌∙◌}
use mathlib.Core.List.{List}
use Prim.Native.Nat.{ℕ}
use native.Mathlib.Omega.{arith}
use borrow.Author.Rules.{rules}
use denote.Ref.{MutBor}
use lib.ListN.{length}
use Rattle.forest.specs.Forest.{table}
use Rattle.output.specs.Output.{emit_rows}
use Rattle.walks.proofs.Copying.{copied-table}
use Rattle.walks.proofs.Readying.{given-rows, no-room-copied, all-copied}
use Rattle.walks.proofs.unchanged.Goals as goal

pub returns-then-out_rows-rows : goal.returns-then-out_rows-rows
returns-then-out_rows-rows c = no-room-copied _ _ _ _ c.args.table.now.accepted c.requires _ _ (omega arith)

pub copy-requires : goal.copy-requires
copy-requires c =
    let g = given-rows _ _ _ _ c.args.table.now.accepted in
    let z = c.new-w.ensures.1 in
    let l : length c.new-w.result.rows.now ≡ length c.args.out_rows.now = ap (λ (r : MutBor (List ℕ)). length r.now) c.new-w.ensures.0 in omega (arith, g.bytes)

pub returns : goal.returns
returns c =
    let g = given-rows _ _ _ _ c.args.table.now.accepted in
    let z = c.new-w.ensures.1 in
    let o : c.new-w.result.rows.now ≡ c.args.out_rows.now = ap (λ (r : MutBor (List ℕ)). r.now) c.new-w.ensures.0 in
    let l : length c.new-w.result.rows.now ≡ length c.args.out_rows.now = ap length o in
    let d = copied-table g c.type_inv.out_rows (search rules) c.copy.ensures.rows z (omega (arith, g.bytes)) in
    let whole : c.finish.new.self.0 ≡ emit_rows c.args.out_rows.now 0 (table c.args.table.now.rows.now) = c.finish.ensures.1 ∙ d.wrote ∙ rw (z, o) refl in
    all-copied _ _ _ _ c.args.table.now.accepted c.requires _ _ _ _ (record { next = omega (arith, c.finish.ensures.0, d.next); wrote = search rules }) (omega arith)
