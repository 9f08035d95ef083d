-- `numbers::Tables::choose` meets its contract. Assumes nothing.
use native.Mathlib.Omega.{arith}
use Prim.Native.Nat.{ℕ, ◌+◌, ◌≤◌, ◌<◌}
use mathlib.Core.Path.{◌≡◌, refl, sym}
use mathlib.Core.List.{List}
use lib.ListN.{length, get_or, length-set}
use Rattle.buckets.specs.Search.{first_where}
use Rattle.base_text.specs.Bindings.{records_in}
use Rattle.candidates.specs.Candidates.{candidate, behind}
use Rattle.candidates.specs.declared.Checked.{Checked}
use Rattle.numbers.specs.Tables.{is_text, Seeking}
use Rattle.numbers.specs.Lent.{base, known}
use Rattle.numbers.proofs.Entering.{entries-long}
use Rattle.numbers.proofs.Reaching.{reached_more, chosen_bare, seeks-on, chosen-later}
use Rattle.numbers.proofs.Looking.{few-entries, over_same}
use Rattle.numbers.proofs.Tables.choose.Goals as goal

abbrev Found : (b r : ℕ) → Checked → List ℕ → ℕ → Type 0
Found b r C n k = (r ≡ first_where (is_text (candidate (base C b) 1)) 1 (known C n k)) × (r ≤ k)

-- what was found is one of the entries
low : (C : Checked) (n : List ℕ) (k r : ℕ) → r ≤ k → r ≤ length (known C n k)
low C n k r h = omega (arith, entries-long C.script.bindings.now C.script.names.now C.script.text.now n k)

pub returns-then-bare-eq0 : goal.returns-then-bare-eq0
returns-then-bare-eq0 c =
    let R = c.requires.right in
    let F = over_same (Found c.args.b c.find_candidate-bare.result) c.taken-taken.ensures c.find_candidate-bare.ensures in
    record {
      same = refl;
      chosen = record { number = chosen_bare R.kept _ F.0 c.if-bare-eq0.true; kept = reached_more R.kept _ };
      long = refl;
    }

pub overflow_add-from : goal.overflow_add-from
overflow_add-from c =
    let R = c.requires.right in
    let F = over_same (Found c.args.b c.find_candidate-bare.result) c.taken-taken.ensures c.find_candidate-bare.ensures in
    let C = c.args.self.now.checked in
    let n = c.args.self.now.numbers.now in
    let s = seeks-on R.kept _ F.0 c.if-bare-eq0.false (low C n c.args.count _ F.1) in
    let l = few-entries C.sound _ R.stored.few in
    omega (arith, s.high, entries-long C.script.bindings.now C.script.names.now C.script.text.now n c.args.count)

pub free_number-n-requires : goal.free_number-n-requires
free_number-n-requires c =
    let R = c.requires.right in
    let F = over_same (Found c.args.b c.find_candidate-bare.result) c.taken-taken.ensures c.find_candidate-bare.ensures in
    let C = c.args.self.now.checked in
    let q = c.taken-taken.ensures in
    let s = seeks-on R.kept _ F.0 c.if-bare-eq0.false (low C c.args.self.now.numbers.now c.args.count _ F.1) in
    record {
      b_nonzero = over_same (λ (D : Checked) n k. (0 < c.args.b) × (c.args.b ≤ records_in D.script.bindings.now)) (sym q.0, sym q.1, sym q.2) c.requires.b_nonzero;
      seeking = over_same (λ D n k. Seeking (known D n k) (base D c.args.b) (get_or c.args.self.now.reached.now c.find_candidate-bare.result 0 + 1)) (sym q.0, sym q.1, sym q.2) s;
    }

pub returns : goal.returns
returns c =
    let R = c.requires.right in
    let r = c.args.self.now.reached.now in
    let F = over_same (Found c.args.b c.find_candidate-bare.result) c.taken-taken.ensures c.find_candidate-bare.ensures in
    let n = over_same (λ D m k. c.free_number-n.result ≡ behind (known D m k) (base D c.args.b)) c.taken-taken.ensures c.free_number-n.ensures in
    record {
      same = refl;
      chosen = record {
        number = n;
        kept =
            chosen-later R.kept _ F.0 c.if-bare-eq0.false (low c.args.self.now.checked c.args.self.now.numbers.now c.args.count _ F.1)
            (omega (arith, F.1, R.stored.few, R.reached_long)) _ n;
      };
      long = length-set r c.find_candidate-bare.result c.free_number-n.result;
    }
