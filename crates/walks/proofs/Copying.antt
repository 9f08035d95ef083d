-- The bytes of a table are its rows, and records written one by one are the bindings that they stand for. Assumes nothing.
use mathlib.Core.Path.{◌≡◌, refl, sym, ap, subst, ◌∙◌}
use mathlib.Core.List.{List, [], ◌∷◌, ◌++◌}
use mir.Val.{Fits}
use mir.Syntax.{w8}
use Prim.Native.Nat.{ℕ, zero, suc, ◌+◌, ◌*◌, ◌-◌, ◌/◌, ◌%◌, ◌≤◌, ◌<◌}
use native.Mathlib.Omega.{arith}
use lib.ListN.{length, drop, get_or}
use lib.Seq.{sets-eq}
use Rattle.names.specs.Bytes.{le32, bytes_of}
use Rattle.names.specs.Words.{words, rows_in}
use Rattle.forest.specs.Forest.{size, flat, table}
use Rattle.output.specs.declared.writer.Writer.{Writer}
use Rattle.output.specs.Output.{Done, Recorded, Copied}
use Rattle.output.specs.Held.{copied, Puts}
use Rattle.output.proofs.Held.{put_copied}
use Rattle.output.proofs.Placing.{rows_bytes, emit-start}
use Rattle.output.proofs.Loops.{RecordsLeft, all_records_left, record_turn, no_records_left}
use Rattle.bindings.specs.Store.{use_at, property_at, frame_at, binds_from, binds}
use Rattle.refusals.specs.Given.{GivenRows}

-- four bytes are those of the word that they are
word_bytes : (a b c d : ℕ) → a < 256 → b < 256 → c < 256 → d < 256 → le32 (a + 256 * b + 65536 * c + 16777216 * d) ≡ a ∷ b ∷ c ∷ d ∷ []
unfolding le32
word_bytes a b c d ha hb hc hd =
    let e₁ : (a + 256 * b + 65536 * c + 16777216 * d) % 256 ≡ a = omega arith in
    let e₂ : (a + 256 * b + 65536 * c + 16777216 * d) / 256 % 256 ≡ b = omega arith in
    let e₃ : (a + 256 * b + 65536 * c + 16777216 * d) / 65536 % 256 ≡ c = omega arith in
    let e₄ : (a + 256 * b + 65536 * c + 16777216 * d) / 16777216 ≡ d = omega arith in
    rw (e₁, e₂, e₃, e₄)

-- and whole words of bytes are those bytes
bytes_words : (s : List ℕ) (n : ℕ) → length s ≡ 4 * n → ((i : ℕ) → get_or s i 0 < 256) → bytes_of (words s) ≡ s
unfolding words bytes_of
bytes_words [] n l h = refl
bytes_words (a ∷ []) n l h = absurd (omega arith)
bytes_words (a ∷ b ∷ []) n l h = absurd (omega arith)
bytes_words (a ∷ b ∷ c ∷ []) n l h = absurd (omega arith)
bytes_words (a ∷ b ∷ c ∷ d ∷ s) zero l h = absurd (omega arith)
bytes_words (a ∷ b ∷ c ∷ d ∷ s) (suc n) l h =
    rw (word_bytes a b c d (h 0) (h 1) (h 2) (h 3)) (ap (λ (x : List ℕ). a ∷ b ∷ c ∷ d ∷ x) (bytes_words s n (omega arith) (λ i. h (suc (suc (suc (suc i)))))))

-- the front of some bytes has bytes
in_front : (xs ys : List ℕ) → ((i : ℕ) → get_or (xs ++ ys) i 0 < 256) → (i : ℕ) → get_or xs i 0 < 256
in_front [] ys h i = omega arith
in_front (x ∷ xs) ys h zero = h zero
in_front (x ∷ xs) ys h (suc i) = in_front xs ys (λ j. h (suc j)) i

-- and so has what was copied to the front
pub in_copied : (xs ys : List ℕ) {new : List ℕ} → new ≡ xs → ((i : ℕ) → Fits w8 (get_or (new ++ ys) i 0)) → (i : ℕ) → get_or xs i 0 < 256
in_copied xs ys {new} e h = in_front xs ys (λ (i : ℕ). let b : get_or (new ++ ys) i 0 < 256 = omega (arith, (h i).fits) in rw (← e) b)

-- the bytes of a table's rows are its own
table_bytes : (rows : List ℕ) → GivenRows rows (rows_in rows) → ((i : ℕ) → get_or rows i 0 < 256) → bytes_of (flat 0 (table rows)) ≡ rows
table_bytes rows g h = ap bytes_of g.same ∙ bytes_words rows (4 * rows_in rows) (omega (arith, g.bytes)) h

-- a table's own bytes at the front are its rows
pub copied-front : (rows out out' : List ℕ) → GivenRows rows (rows_in rows) → ((i : ℕ) → get_or rows i 0 < 256) → length rows ≤ length out → out' ≡ rows ++ drop (length rows) out → Done out 0 (table rows) (rows_in rows) out'
copied-front rows out out' g h l q =
    let t = table_bytes rows g h in
    let d : 16 * size (table rows) ≡ length rows = sym (rows_bytes (table rows) 0) ∙ ap length t in
    record {
      next = omega (arith, d, g.bytes);
      wrote = q ∙ sym (emit-start (table rows) out (omega (arith, d)) ∙ rw (d, t));
    }

-- a table's own bytes, copied to the front of a writer's rows, are its rows
pub copied-table : {w w' : Writer} {rows out : List ℕ} → GivenRows rows (rows_in rows) → ((i : ℕ) → Fits w8 (get_or out i 0)) → out ≡ w'.rows.now → w' ≡ copied w rows → w.at ≡ 0
    → length rows ≤ length w.rows.now → Puts w (table rows) w'
copied-table {w} {w'} {rows} {out} g h q p z l =
    let e : out ≡ rows ++ drop (length rows) w.rows.now = q ∙ ap (λ (v : Writer). v.rows.now) p ∙ rw z (sets-eq rows w.rows.now 0 (omega arith) ∙ ap (λ (k : ℕ). rows ++ drop k w.rows.now) (omega arith)) in
    let b = in_copied rows (drop (length rows) w.rows.now) refl (subst (λ (o : List ℕ). (i : ℕ) → Fits w8 (get_or o i 0)) e h) in
    put_copied (table rows) p (rw z (sym (table_bytes rows g b))) (omega arith)

-- The records.
module _ (M : List ℕ) (cap count : ℕ) (before : List ℕ) where
  -- i records were written
  pub record Records (out : List ℕ) (i : ℕ) : Type 0 where
    pub few : i ≤ count
    pub rest : RecordsLeft before 0 (binds M cap count) out i (binds_from M cap (i + 1) (count - i))

  pub records-first : Records before 0
  records-first = let z : count - 0 ≡ count = omega arith in record { few = omega arith; rest = rw z (all_records_left before 0 (binds M cap count)) }

  pub records-next : (out out' : List ℕ) (i u x f r : ℕ) → Records out i → i < count → u ≡ use_at M cap (i + 1) → x ≡ property_at M cap (i + 1) → f ≡ frame_at M cap (i + 1) → Recorded out i u x f r out' → Records out' (i + 1)
  unfolding binds_from
  records-next out out' i u x f r s l qu qx qf d =
      let e : count - i ≡ suc (count - (i + 1)) = omega arith in
      let n : r ≡ i + 1 = d.next in
      record {
        few = omega arith;
        rest = rw (← n) (record_turn s.rest (rw (e, n, qu, qx, qf)) d);
      }

  pub records_end : (out : List ℕ) (i : ℕ) → Records out i → count ≤ i → Copied before 0 (binds M cap count) count out
  unfolding binds_from
  records_end out i s l =
      let z : count - i ≡ 0 = omega arith in
      let e : i ≡ count = omega (arith, s.few) in
      rw e at (no_records_left s.rest (rw z))
