-- Where `rows::check` answers Sound, the code of this crate may be called. Assumes nothing.
use mathlib.Core.Path.{◌≡◌, ap, sym, ◌∙◌}
use mathlib.Core.List.{List}
use Prim.Native.Nat.{ℕ, ◌*◌}
use native.Mathlib.Omega.{arith}
use lib.ListN.{length}
use Rattle.names.specs.Words.{words, end_at, rows_in, names_in}
use Rattle.forest.specs.Forest.{Rows, Rows.none, Rows.node, size, flat, table, Table}
use Rattle.rows.specs.Sound.{SoundTable}
use Rattle.rows.specs.Refusals.{checked, Sound}
use Rattle.forest.proofs.Accepting.{length-flat}
use Rattle.rows.proofs.Soundness.{sound, words_long}
use Rattle.spelling.specs.Spelling.{GivenNames}
use Rattle.refusals.specs.Given.{GivenRows}

-- row 0 of a whole table ends at the row count
root_end : (names : ℕ) (f : Rows) (n : ℕ) → Table names f → length (flat 0 f) ≡ 4 * n → end_at (flat 0 f) 0 ≡ n
unfolding flat size
root_end names none n t l = absurd t
root_end names (node k a m i none) n t l = omega (arith, length-flat 0 (node k a m i none))
root_end names (node k a m i (node k' a' m' i' s)) n t l = absurd t

module _ (row_limit depth_limit : ℕ) (rows names text : List ℕ) where
  pub sound_rows : SoundTable row_limit depth_limit rows names text → GivenRows rows (rows_in rows)
  sound_rows s =
      let l : length (words rows) ≡ 4 * rows_in rows = words_long rows (4 * rows_in rows) (omega (arith, s.sizes.row_bytes)) in
      record {
        bytes = s.sizes.row_bytes;
        some = s.sizes.some;
        few = omega (arith, s.sizes.few);
        ends = ap (λ (ws : List ℕ). end_at ws 0) (sym s.same) ∙ root_end (names_in names) (table rows) (rows_in rows) s.shaped (ap length s.same ∙ l);
        nested = s.nested;
        same = s.same;
      }

  pub sound_names : SoundTable row_limit depth_limit rows names text → GivenNames names text
  sound_names s = s.named

  -- what `refusal` requires
  pub given : checked row_limit depth_limit rows names text ≡ Sound → GivenRows rows (rows_in rows) × GivenNames names text
  given h = let s = sound row_limit depth_limit rows names text h in (sound_rows s, sound_names s)
