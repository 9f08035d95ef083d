-- Steps of a writer, as forests. Assumes nothing.
use mathlib.Core.Path.{◌≡◌, ap, sym, ◌∙◌}
use mathlib.Core.List.{List}
use Prim.Native.Nat.{ℕ, ◌+◌, ◌*◌, ◌≤◌}
use native.Mathlib.Omega.{arith}
use lib.ListN.{length}
use lib.Seq.{sets}
use Rattle.names.specs.Words.{rows_in}
use Rattle.names.specs.Bytes.{bytes_of}
use Rattle.forest.specs.Forest.{Rows, Rows.none, Rows.node, size, flat}
use Rattle.output.specs.declared.writer.Writer.{Writer}
use Rattle.output.specs.Output.{Appended}
use Rattle.output.specs.Held.{rowed, closed, copied, Puts}
use Rattle.output.proofs.Writing.{leaf, nest}
use Rattle.output.proofs.Placing.{rows_bytes, emit-flat}

-- a row was put
pub put_row : {w w' : Writer} {k a n e : ℕ} → w' ≡ rowed w k a n e → Appended w.rows.now w.at k a n e w'.at w'.rows.now
put_row p = record { next = ap (λ (v : Writer). v.at) p; wrote = ap (λ (v : Writer). v.rows.now) p }

-- a row, its inside, and the row closed
pub put_around : {w w1 w2 w3 : Writer} {k a n : ℕ} {f : Rows} → w1 ≡ rowed w k a n 0 → Puts w1 f w2 → w3 ≡ closed w2 w.at → Puts w (node k a n f none) w3
put_around {w} {w1} {w2} {w3} {k} {a} {n} {f} p q c =
    let d = nest (put_row p) q (ap (λ (v : Writer). v.rows.now) c) in
    record { next = ap (λ (v : Writer). v.at) c ∙ d.next; wrote = d.wrote }

-- a row with nothing inside
pub put_leaf : {w w1 : Writer} {k a n : ℕ} → w1 ≡ rowed w k a n (w.at + 1) → Puts w (node k a n none none) w1
put_leaf p = leaf (put_row p)

-- rows copied that are those of a forest
pub put_copied : {w w' : Writer} {s : List ℕ} (f : Rows) → w' ≡ copied w s → s ≡ bytes_of (flat w.at f) → w.at * 16 + length s ≤ length w.rows.now → Puts w f w'
put_copied {w} {w'} {s} f p q h =
    let l : length s ≡ 16 * size f = ap length q ∙ rows_bytes f w.at in
    let n : w'.at ≡ w.at + rows_in s = ap (λ (v : Writer). v.at) p in
    record {
      next = omega arith;
      wrote = ap (λ (v : Writer). v.rows.now) p ∙ ap (sets w.rows.now (w.at * 16)) q ∙ sym (emit-flat f w.rows.now w.at (omega arith));
    }
