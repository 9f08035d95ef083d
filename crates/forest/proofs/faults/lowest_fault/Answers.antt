-- `forest::faults::lowest_fault` meets its contract. Assumes nothing.
use Prim.Native.Nat.{ℕ, ◌+◌, ◌<◌, ◌≤◌, ◌%◌}
use mathlib.Core.Path.{◌≡◌, refl, sym, ap, ◌∙◌}
use lib.ListN.{get_or, set, length-set}
use Rattle.names.specs.Words.{words, end_at}
use Rattle.grammar.specs.Codes.{kind_number}
use Rattle.forest.specs.Faults.{kids}
use Rattle.forest.specs.Told.{told_in, says, top_mark, marks}
use Rattle.forest.proofs.Telling.{told-start}
use Rattle.forest.proofs.Visits.{early-read, late-read, listed-same, visit-start, visit-next, visit_done, bad-early, bad-late, end-within, kind-listed}
use native.Mathlib.Omega.{arith}
use Rattle.forest.proofs.faults.lowest_fault.Goals as goal

pub loop-row-init : goal.loop-row-init
loop-row-init c =
    let ws = words c.args.rows.now.bytes.now in
    let top : c.top_mark.result ≡ top_mark (end_at ws 0) c.args.rows.now.count = c.top_mark.ensures ∙ ap (λ (x : ℕ). top_mark x c.args.rows.now.count) c.end_at.ensures.0 in
    visit-start _ _ _ _ _ refl (λ j. ap (λ (x : ℕ). get_or (set c.args.marks.now 0 x) j 0) top ∙ told-start ws (marks ws) (top_mark (end_at ws 0) c.args.rows.now.count) c.args.marks.now (omega arith) c.requires.fresh.1 j)

-- a mark holds a place
low : (m : ℕ) → m % 16 < 16
low m = omega arith

pub returns-in-Some : goal.returns-in-Some
returns-in-Some c =
    let k = c.kind_at.result in
    let m = get_or c.loop-row.marks c.loop-row.row 0 in
    bad-early _ _ _ _ _ _ _ _ _ _ _ c.loop-row.invariant c.loop-row-test.true c.kind_at.ensures.0 c.attr_at-a.ensures.0 c.name_at-name.ensures.0 c.end_at-e.ensures.0 refl _
    (sym (early-read (m % 16) _ k _ c.from-place.ensures (low m) c.from-kind.ensures _ _ c.early_fault.ensures) ∙ c.in-Some.is)

pub mark_children-count-requires : goal.mark_children-count-requires
mark_children-count-requires c =
    let k = c.kind_at.result in
    let m = get_or c.loop-row.marks c.loop-row.row 0 in
    let none = sym (early-read (m % 16) _ k _ c.from-place.ensures (low m) c.from-kind.ensures _ _ c.early_fault.ensures) ∙ c.in_default.is in
    let l = c.loop-row.invariant.long ∙ length-set c.args.marks.now 0 c.top_mark.result in
    let within : c.end_at-e.result ≤ c.args.rows.now.count =
    end-within _ _ _ _ _ _ _ _ _ _ _ c.loop-row.invariant c.loop-row-test.true c.kind_at.ensures.0 c.attr_at-a.ensures.0 c.name_at-name.ensures.0 c.end_at-e.ensures.0 refl none in
    omega arith

pub returns-in-Some-late_fault : goal.returns-in-Some-late_fault
returns-in-Some-late_fault c =
    let k = c.kind_at.result in
    let m = get_or c.loop-row.marks c.loop-row.row 0 in
    let none = sym (early-read (m % 16) _ k _ c.from-place.ensures (low m) c.from-kind.ensures _ _ c.early_fault.ensures) ∙ c.in_default.is in
    let kind : kind_number c.from-kind.result ≡ k = c.from-kind.ensures ∙ listed-same k
    (kind-listed _ _ _ _ _ _ _ _ _ _ _ c.loop-row.invariant c.loop-row-test.true c.kind_at.ensures.0 c.attr_at-a.ensures.0 c.name_at-name.ensures.0 c.end_at-e.ensures.0 refl none) in
    bad-late _ _ _ _ _ _ _ _ _ _ _ c.loop-row.invariant c.loop-row-test.true c.kind_at.ensures.0 c.attr_at-a.ensures.0 c.name_at-name.ensures.0 c.end_at-e.ensures.0 refl _
    none c.mark_children-count.ensures.0 _ (sym (late-read (m % 16) _ k _ c.from-place.ensures (low m) kind _ _ _ _ c.late_fault.ensures) ∙ c.in-Some-late_fault.is)

pub loop-row-preserved : goal.loop-row-preserved
loop-row-preserved c =
    let k = c.kind_at.result in
    let m = get_or c.loop-row.marks c.loop-row.row 0 in
    let none = sym (early-read (m % 16) _ k _ c.from-place.ensures (low m) c.from-kind.ensures _ _ c.early_fault.ensures) ∙ c.in_default.is in
    let kind : kind_number c.from-kind.result ≡ k = c.from-kind.ensures ∙ listed-same k
    (kind-listed _ _ _ _ _ _ _ _ _ _ _ c.loop-row.invariant c.loop-row-test.true c.kind_at.ensures.0 c.attr_at-a.ensures.0 c.name_at-name.ensures.0 c.end_at-e.ensures.0 refl none) in
    let ws = words c.args.rows.now.bytes.now in
    let e = c.end_at-e.result in
    visit-next _ _ _ _ _ _ _ _ _ _ _ c.loop-row.invariant c.loop-row-test.true c.kind_at.ensures.0 c.attr_at-a.ensures.0 c.name_at-name.ensures.0 c.end_at-e.ensures.0 refl _
    none c.mark_children-count.ensures.0 (sym (late-read (m % 16) _ k _ c.from-place.ensures (low m) kind _ _ _ _ c.late_fault.ensures) ∙ c.in_default-late_fault.is) _ (omega (arith, c.loop-row.invariant.long))
    (λ j. c.mark_children-count.ensures.1 j ∙ ap (λ (x : ℕ). told_in (says ws x c.attr_at-a.result e) 0 (kids ws e (c.loop-row.row + 1) e) j (get_or c.loop-row.marks j 0)) kind)

pub returns : goal.returns
returns c = visit_done _ _ _ _ _ _ c.loop-row.invariant (omega arith)
