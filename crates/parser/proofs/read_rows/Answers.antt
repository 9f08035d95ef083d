-- `parser::read_rows` meets its contract. Assumes nothing.
use mathlib.Core.Path.{◌≡◌, refl, sym, ap, ◌∙◌}
use mathlib.Core.List.{List}
use Prim.Native.Nat.{ℕ, ◌+◌, ◌*◌, ◌≤◌}
use native.Mathlib.Omega.{arith}
use lib.ListN.{length}
use borrow.Author.Rules.{rules}
use denote.Ref.{MutBor}
use Rattle.output.specs.declared.writer.Writer.{Writer}
use Rattle.output.specs.Output.{put}
use Rattle.output.proofs.Writing.{length-put}
use Rattle.parser.proofs.Reading.{turn-start, turn_end, turn-fault, turn-full, turn-next}
use Rattle.parser.proofs.Sheets.{handed, or_none, or_some}
use Rattle.parser.proofs.Storing.{appended}
use Rattle.parser.proofs.read_rows.Goals as goal

-- what is left in the lent bytes is what the writer left there
left : {o p q : List ℕ} → o ≡ q → p ≡ o → p ≡ q
left e h = h ∙ e

pub loop-text-init : goal.loop-text-init
loop-text-init c =
    let o : c.new-w.result.rows.now ≡ c.args.rows.now = ap (λ (r : MutBor (List ℕ)). r.now) c.new-w.ensures.0 in
    record { turn = rw (o, c.new-w.ensures.1) (turn-start _ _ _); held = refl }

pub overflow_add-fault : goal.overflow_add-fault
overflow_add-fault c = omega (arith, c.loop-text.invariant.turn.left)

pub returns-in_err-row : goal.returns-in_err-row
returns-in_err-row c =
    let e = or_none c.read_row.result (sym c.ok_or.ensures.value ∙ c.in_err-row.was) in
    let d = turn-fault c.loop-text.invariant.turn c.in-Some.ensures (e.0 ∙ c.read_row.ensures) in
    rw (handed _ _ c.from_residual.ensures.1, e.1) (record { answer = d.0.answer; wrote = left d.0.wrote (search rules) }, d.1)

pub returns-then-w-ge-MOST_ROWS : goal.returns-then-w-ge-MOST_ROWS
returns-then-w-ge-MOST_ROWS c =
    let x = or_some c.read_row.result _ (sym c.ok_or.ensures.value ∙ c.in_ok-row.was) in
    let d = turn-full c.loop-text.invariant.turn c.in-Some.ensures _ (x ∙ c.read_row.ensures) c.if-w-ge-MOST_ROWS.true in
    (record { answer = d.0.answer; wrote = left d.0.wrote (search rules) }, d.1)

pub loop-text-preserved : goal.loop-text-preserved
loop-text-preserved c =
    let x = or_some c.read_row.result _ (sym c.ok_or.ensures.value ∙ c.in_ok-row.was) in
    let t = c.loop-text.invariant.turn in
    let o = c.loop-text.w.rows.now in
    let n = c.loop-text.w.at in
    let r = c.in_ok-row.row in
    let room : 16 * n + 16 ≤ length o = omega (arith, c.if-w-ge-MOST_ROWS.false, t.long, c.requires) in
    let wrote : c.append.new.self.rows.now ≡ put o n r.kind r.attr r.name r.end = ap (λ (w : Writer). w.rows.now) c.append.ensures.row in
    let next = turn-next t c.in-Some.ensures r (x ∙ c.read_row.ensures) _ c.if-w-ge-MOST_ROWS.false
    (wrote ∙ appended o n r.kind r.attr r.name r.end room) (ap length wrote ∙ length-put o n r.kind r.attr r.name r.end) in
    record { turn = rw c.append.ensures.next next; held = c.append.ensures.same_reference ∙ c.loop-text.invariant.held }

pub returns : goal.returns
returns c =
    let d = turn_end c.loop-text.invariant.turn c.in_default.ensures in
    (record { answer = d.0.answer; wrote = left d.0.wrote (search rules) }, d.1)
