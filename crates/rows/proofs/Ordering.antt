-- The refusals in their order, by what each of the searches answers; and what the sizes give. Assumes nothing.
use Rattle.std.specs.Prelude.{Option, Err, None}
use mathlib.Core.Path.{◌≡◌, ap, sym, ◌∙◌}
use mathlib.Core.Bool.{Bool, true, false, ◌&&◌}
use mathlib.Core.List.{List}
use Prim.Native.Nat.{ℕ, ◌*◌, ◌%◌, ◌<◌, ◌≤◌}
use native.Mathlib.Omega.{arith}
use borrow.Author.Tests.{ltb-true, leb-true, eqb-true, lt-ltb, le-leb, eq-eqb}
use lib.ListN.{length}
use lib.Dec.{eqb, ltb, leb}
use Rattle.names.specs.Words.{words, end_at, rows_in, names_in}
use Rattle.names.specs.Names.{first_bad_name}
use Rattle.names.specs.Answered.{unless_found}
use Rattle.forest.specs.Faults.{first_fault}
use Rattle.forest.specs.Told.{first_deep}
use Rattle.rows.specs.Sound.{GoodSizes}
use Rattle.rows.specs.Refusals.{limited, sizes_ok, first_made, checked, Checked, Sound}
use Rattle.names.proofs.Bools.{and_left, and_right, and_both}
use Rattle.names.proofs.GoodNames.{name-sizes}
use Rattle.forest.proofs.Accepting.{none-faulty}
use Rattle.forest.proofs.Descent.{first-lowest}
use Rattle.rows.specs.declared.Unsound.TheVariants.{Malformed, BadName, BadRow, TooDeep, MadeBinding}
use Rattle.forest.specs.declared.BadRow.{BadRow as RowFault}
use Rattle.forest.specs.declared.Fault.{Fault}

module _ (row_limit depth_limit : ℕ) (rows names text : List ℕ) where
  abbrev pub SizesOk : Bool → Type 0
  SizesOk b = sizes_ok (limited row_limit) (length rows) (length names) (length text) ≡ b

  pub is-checked : (bad made deep : Option ℕ) (fault : Option RowFault) → SizesOk true
      → first_bad_name names text ≡ bad → first_fault (words rows) (rows_in rows) (names_in names) ≡ fault
      → first_deep (words rows) (limited depth_limit) (rows_in rows) ≡ deep → first_made (words rows) (rows_in rows) ≡ made
      → unless_found BadName bad (unless_found (λ (bad : RowFault). BadRow bad.fault bad.row) fault (unless_found TooDeep deep (unless_found MadeBinding made Sound))) ≡ checked row_limit depth_limit rows names text
  unfolding checked
  is-checked bad made deep fault s qn qf qd qm = rw (s, qn, qf, qd, qm)

  pub is_malformed : SizesOk false → Err Malformed ≡ checked row_limit depth_limit rows names text
  unfolding checked
  is_malformed s = rw s

  pub good-sizes : SizesOk true → GoodSizes row_limit rows names text
  good-sizes h =
      let h3 = and_left (eqb (length rows % 16) 0 && ltb 0 (length rows) && leb (length rows) (16 * limited row_limit)) _ h in
      let n = name-sizes (length names) (length text) (and_right (eqb (length rows % 16) 0 && ltb 0 (length rows) && leb (length rows) (16 * limited row_limit)) _ h) in
      let h2 = and_left (eqb (length rows % 16) 0 && ltb 0 (length rows)) _ h3 in
      let row_words : length rows % 16 ≡ 0 = eqb-true _ _ (and_left (eqb (length rows % 16) 0) _ h2) in
      let some : 0 < length rows = ltb-true _ _ (and_right (eqb (length rows % 16) 0) _ h2) in
      let few : length rows ≤ 16 * limited row_limit = leb-true _ _ (and_right (eqb (length rows % 16) 0 && ltb 0 (length rows)) _ h3) in
      let name_words = n.whole in
      let few_names = n.few in
      record {
        row_bytes = omega arith;
        some = omega arith;
        few = omega arith;
        name_bytes = omega arith;
        few_names = omega arith;
        short = n.short;
      }

  pub sizes-good : GoodSizes row_limit rows names text → SizesOk true
  sizes-good g =
      let a = g.row_bytes in
      let b = g.some in
      let c = g.few in
      let d = g.name_bytes in
      let e = g.few_names in
      and_both
      (and_both (and_both (eq-eqb (length rows % 16) 0 (omega arith)) (lt-ltb 0 (length rows) (omega arith))) (le-leb (length rows) (16 * limited row_limit) (omega arith)))
      (and_both (and_both (eq-eqb (length names % 8) 0 (omega arith)) (le-leb (length names) 32768 (omega arith))) (le-leb (length text) 65535 g.short))

-- a bad row, by the fault that the code has
pub bad-by : {fault told : Fault} {row : ℕ} {c : Checked} → fault ≡ told → Err (BadRow told row) ≡ c → Err (BadRow fault row) ≡ c
bad-by {fault} {told} {row} q h = ap (λ (x : Fault). Err (BadRow x row)) q ∙ h

-- the depth's limit as the code has it
pub deep-at : (ws : List ℕ) (limit n : ℕ) (r : Option ℕ) {most : ℕ} → most ≡ limited limit → r ≡ first_deep ws most n → r ≡ first_deep ws (limited limit) n
deep-at ws limit n r {most} q h = h ∙ ap (λ (x : ℕ). first_deep ws x n) q

-- where no row has a fault, each ends within the table
pub ends-within : (ws : List ℕ) (n names : ℕ) → 0 < n → first_fault ws n names ≡ None → (i : ℕ) → i < n → end_at ws i ≤ n
ends-within ws n names some h i l = (none-faulty ws n names (sym (first-lowest ws n names some) ∙ h) i l).inside
