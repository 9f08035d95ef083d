-- From an answer of `convert` to the text of the program. Assumes nothing.
use mathlib.Core.Path.{◌≡◌, sym, ap, ap₂, subst, ◌∙◌}
use mathlib.Core.Bool.{false}
use mathlib.Core.List.{List}
use Prim.Native.Nat.{ℕ, ◌+◌, ◌*◌, ◌/◌, ◌≤◌}
use native.Mathlib.Omega.{arith}
use lib.ListN.{length, take, drop, length-append}
use lib.Seq.{sets-eq, length-sets, take_at}
use Rattle.names.specs.Words.{words}
use Rattle.names.specs.Bytes.{bytes_of}
use Rattle.names.proofs.Storing.{length-bytes, front-words}
use Rattle.steps.specs.Mode.{Switches}
use Rattle.steps.specs.Outcome.{Outcome}
use Rattle.answer.specs.Converting.{outcome_as, outcome_of, number_in, place_in, row_words, record_words, at_front, Answers}
use Rattle.decimal.specs.Decimal.{Wrote}
use Rattle.printer.specs.Print.{printed}
use Rattle.convert.specs.Output.{answer, outcome_for, Shows}

-- the words at the front are all there
front_fits : (ws before after : List ℕ) (n : ℕ) → n ≡ 4 * length ws → after ≡ at_front ws before → n ≤ length after
front_fits ws before after n l q =
    omega (arith, length-bytes ws, ap length q, length-append (bytes_of ws) (drop (length (bytes_of ws)) before))

module _ (o : Outcome) (number place n m : ℕ) (rows rows' records records' : List ℕ) (a : Answers o number place n m rows rows' records records') where
  pub rows_fit : 16 * n ≤ length rows'
  rows_fit = front_fits (row_words o) rows rows' (16 * n) (omega (arith, a.counted)) a.rows_written

  pub records_fit : 12 * m ≤ length records'
  records_fit = front_fits (record_words o) records records' (12 * m) (omega (arith, a.listed)) a.bindings_written

  -- what is printed of them is the outcome's text
  pub told : printed number place (words (take (16 * n) rows')) (words (take (12 * m) records')) ≡ answer o
  told =
      ap₂ (λ (x y : ℕ). printed x y (words (take (16 * n) rows')) (words (take (12 * m) records'))) a.numbered a.placed
      ∙ ap₂ (λ (x y : List ℕ). printed (number_in o) (place_in o) x y)
      (front-words (row_words o) _ rows' (16 * n) (omega (arith, a.counted)) a.rows_written)
      (front-words (record_words o) _ records' (12 * m) (omega (arith, a.listed)) a.bindings_written)

-- the room that the program lends
pub lent-room : (w : Switches) (rows names text out_rows out_records : List ℕ) → 32768 ≡ length out_rows → 3072 ≡ length out_records
    → outcome_of w rows names text out_rows out_records ≡ outcome_for w rows names text
lent-room w rows names text out_rows out_records e f =
    ap₂ (λ (x y : ℕ). outcome_as false w rows names text (record { rows = x / 16; bindings = y / 12 })) (sym e) (sym f)

-- what was written whole stands at the front
pub shows : (l m bs : List ℕ) (r : ℕ) → Wrote l 0 bs r m → r ≤ length l → Shows bs r m
shows l m bs r w h =
    let e = sets-eq bs l 0 (omega (arith, w.next)) in
    record {
      shown = ap (take r) (w.wrote ∙ e) ∙ take_at bs (drop (0 + length bs) l) r (omega (arith, w.next));
      whole = omega (arith, ap length w.wrote, length-sets l 0 bs);
    }

pub shown_as : (x y : List ℕ) (r : ℕ) (out : List ℕ) → x ≡ y → Shows x r out → Shows y r out
shown_as x y r out e s = subst (λ (z : List ℕ). Shows z r out) e s

pub whole_of : (n : ℕ) (x : List ℕ) → n ≡ length x → length x ≤ n
whole_of n x e = omega arith
