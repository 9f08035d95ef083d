-- From what was parsed to what is converted. Assumes nothing.
use mathlib.Core.Path.{◌≡◌, refl, sym, ap, ◌∙◌}
use mathlib.Core.List.{List, []}
use Prim.Native.Nat.{ℕ, ◌+◌, ◌*◌, ◌≤◌}
use native.Mathlib.Omega.{arith}
use lib.ListN.{length, take, drop}
use lib.Seq.{sets, sets-eq, take_at}
use Rattle.names.specs.Laid.{joined, pairs_from}
use Rattle.names.specs.Bytes.{bytes_of}
use Rattle.names.proofs.Laying.{pairs_long}
use Rattle.names.proofs.Storing.{length-bytes}
use Rattle.printer.specs.Print.{printed}
use Rattle.parser.specs.Parse.{Read, Read.sheet, Read.faulty, Lent, Told}
use Rattle.parser.specs.declared.FaultyLine.{FaultyLine}
use Rattle.parser.specs.declared.Sheet.{Sheet}
use Rattle.acts.specs.View.{switches_of}
use Rattle.std.proofs.Common.{Ok, Err}
use Rattle.convert.specs.Output.{answer, answer_to, outcome_for}

-- a run at the front
front : (bs l m : List ℕ) (n : ℕ) → m ≡ sets l 0 bs → length bs ≡ n → n ≤ length l → take n m ≡ bs
front bs l m n e f h =
    ap (take n) (e ∙ sets-eq bs l 0 (omega arith)) ∙ take_at bs (drop (0 + length bs) l) n f

-- a fault's text
pub fault_text : (x : Read) (n : ℕ) (b : Lent) (e : FaultyLine) → Told x n (Err e) b → printed 12 e.line [] [] ≡ answer_to x
fault_text (sheet w names ws) n b e t = absurd t.answer
fault_text (faulty k) n b e t = ap (λ (v : ℕ). printed 12 v [] []) t.answer

-- a sheet's text, from the fronts of what was lent
pub sheet-text : (x : Read) (n : ℕ) (b : Lent) (t : Sheet) → Told x n (Ok t) b
    → 16 * t.rows ≤ length b.rows₀ → 8 * t.names ≤ length b.pairs₀ → t.text ≤ length b.text₀
    → answer (outcome_for (switches_of t.switches) (take (16 * t.rows) b.rows) (take (8 * t.names) b.pairs) (take t.text b.text)) ≡ answer_to x
sheet-text (faulty l) n b t u h j g = absurd u.answer
sheet-text (sheet w names ws) n b t u h j g =
    let a = u.answer in
    let fr = front (bytes_of ws) b.rows₀ b.rows (16 * t.rows) a.rows_lie (omega (arith, length-bytes ws, a.fours, a.row_count)) h in
    let fn = front (bytes_of (pairs_from 0 names)) b.pairs₀ b.pairs (8 * t.names) a.names_lie (omega (arith, length-bytes (pairs_from 0 names), pairs_long 0 names, a.name_count)) j in
    let ft = front (joined names) b.text₀ b.text t.text a.text_lies (sym a.text_size) g in
    rw (fr, fn, ft, a.switched) refl

-- what was lent is long enough for what stands in it
pub fits16 : (k : ℕ) (x y : List ℕ) → k ≤ 1024 → 16384 ≤ length x → length y ≡ length x → 16 * k ≤ length y
fits16 k x y h i e = omega arith

pub fits8 : (k : ℕ) (x y : List ℕ) → k ≤ 131072 → 1048576 ≤ length x → length y ≡ length x → 8 * k ≤ length y
fits8 k x y h i e = omega arith

pub fits : (k : ℕ) (x y : List ℕ) → k ≤ 131072 → 131072 ≤ length x → length y ≡ length x → k ≤ length y
fits k x y h i e = omega arith
