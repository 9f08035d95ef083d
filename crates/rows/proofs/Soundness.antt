-- The checks accept exactly the tables that `SoundTable` describes: `sound` one way, `accepts` the other. Assumes nothing.
use Rattle.std.specs.Prelude.{Option, Some, None, Err}
use mathlib.Core.Path.{◌≡◌, refl, ap, sym, subst, ◌∙◌}
use mathlib.Core.Bool.{Bool, true, false, cond}
use mathlib.Core.List.{List, [], ◌∷◌}
use Prim.Native.Nat.{ℕ, zero, suc, ◌*◌, ◌<◌, ◌≤◌}
use native.Mathlib.Omega.{arith}
use borrow.Author.Tests.{ltb-false, le-ltb}
use lib.ListN.{length}
use Rattle.names.specs.Words.{words, rows_in, names_in}
use Rattle.names.specs.Answered.{unless_found}
use Rattle.names.specs.Names.{bad_name, first_bad_name, GoodName}
use Rattle.grammar.specs.Grammar.{made_row}
use Rattle.forest.specs.Forest.{Rows, size, flat, table, Table, DepthWithin, NoRow}
use Rattle.forest.specs.Nested.{Nested}
use Rattle.forest.specs.Faults.{first_fault}
use Rattle.forest.specs.Told.{depth_at, first_deep, lowest_fault}
use Rattle.rows.specs.Sound.{GoodSizes, SoundTable}
use Rattle.rows.specs.Refusals.{limited, sizes_ok, first_made, checked, Checked, Sound}
use Rattle.names.proofs.Seeking.{first-none, none_first}
use Rattle.names.proofs.GoodNames.{good-name, name-good}
use Rattle.forest.proofs.Nesting.{Fit}
use Rattle.forest.proofs.Accepting.{none-faulty, end0, inside0, shape, accepted, nested, length-flat, flat-one}
use Rattle.forest.proofs.Completing.{complete}
use Rattle.forest.proofs.Descent.{first-lowest}
use Rattle.forest.proofs.Levels.{depth_within, within_depth, rows_no, no_rows}
use Rattle.rows.proofs.Ordering.{SizesOk, is-checked, good-sizes, sizes-good}
use Rattle.rows.specs.declared.Unsound.{Unsound}
use Rattle.rows.specs.declared.Unsound.TheVariants.{Malformed, BadName, BadRow, TooDeep, MadeBinding}
use Rattle.forest.specs.declared.BadRow.{BadRow as RowFault}

pub words_long : (s : List ℕ) (n : ℕ) → length s ≡ 4 * n → length (words s) ≡ n
unfolding words
words_long [] n h = omega arith
words_long (a ∷ []) n h = absurd (omega arith)
words_long (a ∷ b ∷ []) n h = absurd (omega arith)
words_long (a ∷ b ∷ c ∷ []) n h = absurd (omega arith)
words_long (a ∷ b ∷ c ∷ d ∷ r) zero h = absurd (omega arith)
words_long (a ∷ b ∷ c ∷ d ∷ r) (suc n) h = ap suc (words_long r n (omega arith))

-- what the answer Sound says of each test
record Passed (row_limit depth_limit : ℕ) (rows names text : List ℕ) : Type 0 where
  sizes : SizesOk row_limit depth_limit rows names text true
  named : first_bad_name names text ≡ None
  fine : first_fault (words rows) (rows_in rows) (names_in names) ≡ None
  shallow : first_deep (words rows) (limited depth_limit) (rows_in rows) ≡ None
  plain : first_made (words rows) (rows_in rows) ≡ None

never : {A : Type 0} → ◌≡◌ {A = ℕ} 0 1 → A
never h = absurd (omega arith)

if_sized : (b : Bool) (c : Checked) → cond b c (Err Malformed) ≡ Sound → (b ≡ true) × (c ≡ Sound)
if_sized true c h = (refl, h)
if_sized false c h = never (cc)

-- where the answer is that the table is sound, a test found nothing
if_none : {A : Type 0} (refusal : A → Unsound) (found : Option A) (c : Checked) → unless_found refusal found c ≡ Sound → (found ≡ None) × (c ≡ Sound)
if_none refusal (Some bad) c h = never (cc)
if_none refusal None c h = (refl, h)

passed : (row_limit depth_limit : ℕ) (rows names text : List ℕ) → checked row_limit depth_limit rows names text ≡ Sound → Passed row_limit depth_limit rows names text
unfolding checked
passed row_limit depth_limit rows names text h =
    let h1 = if_sized (sizes_ok (limited row_limit) (length rows) (length names) (length text)) _ h in
    let h4 = if_none BadName (first_bad_name names text) _ h1.1 in
    let h2 = if_none (λ (bad : RowFault). BadRow bad.fault bad.row) (first_fault (words rows) (rows_in rows) (names_in names)) _ h4.1 in
    let h3 = if_none TooDeep (first_deep (words rows) (limited depth_limit) (rows_in rows)) _ h2.1 in
    let h5 = if_none MadeBinding (first_made (words rows) (rows_in rows)) _ h3.1 in
    record { sizes = h1.0; named = h4.0; fine = h2.0; shallow = h3.0; plain = h5.0 }

-- a table without a fault, whatever its depth
module _ (rows : List ℕ) (names : ℕ) (bytes : length rows ≡ 16 * rows_in rows) (some : 0 < rows_in rows) (fine : first_fault (words rows) (rows_in rows) names ≡ None) where
  ok : (i : ℕ) → i < rows_in rows → Fit (words rows) (rows_in rows) names i
  ok = none-faulty (words rows) (rows_in rows) names (sym (first-lowest (words rows) (rows_in rows) names some) ∙ fine)

  long : length (words rows) ≡ 4 * rows_in rows
  long = words_long rows (4 * rows_in rows) (omega arith)

  pub fine_table : (flat 0 (table rows) ≡ words rows) × Table names (table rows)
  fine_table = accepted (words rows) (rows_in rows) names ok some long

  pub fine_nested : Nested (words rows) (rows_in rows)
  fine_nested = nested (words rows) (rows_in rows) names ok some long

  pub fine_depth : (most : ℕ) → ((i : ℕ) → i < rows_in rows → depth_at (words rows) i ≤ most) → DepthWithin most 0 (table rows)
  fine_depth most = depth_within (words rows) (rows_in rows) fine_nested some (end0 (words rows) (rows_in rows) names ok some) (shape (words rows) (rows_in rows) names ok some long) (inside0 (words rows) (rows_in rows) names ok some long).whole most

  pub depth_fine : (most : ℕ) → DepthWithin most 0 (table rows) → (i : ℕ) → i < rows_in rows → depth_at (words rows) i ≤ most
  depth_fine most = within_depth (words rows) (rows_in rows) fine_nested some (end0 (words rows) (rows_in rows) names ok some) (shape (words rows) (rows_in rows) names ok some long) (inside0 (words rows) (rows_in rows) names ok some long).whole most

module _ (row_limit depth_limit : ℕ) (rows names text : List ℕ) where
  -- an accepted table is sound
  pub sound : checked row_limit depth_limit rows names text ≡ Sound → SoundTable row_limit depth_limit rows names text
  unfolding first_bad_name first_deep first_made
  sound h =
      let p = passed row_limit depth_limit rows names text h in
      let g : GoodSizes row_limit rows names text = good-sizes row_limit depth_limit rows names text p.sizes in
      let t = fine_table rows (names_in names) g.row_bytes g.some p.fine in
      let nest : Nested (words rows) (rows_in rows) = fine_nested rows (names_in names) g.row_bytes g.some p.fine in
      record {
        sizes = g;
        named = λ k a b. good-name names text k (first-none (bad_name names text) (names_in names) 1 p.named k (omega arith) (omega arith));
        same = t.0;
        only = λ f q. flat-one 0 f (table rows) (q ∙ sym t.0);
        shaped = t.1;
        shallow = fine_depth rows (names_in names) g.row_bytes g.some p.fine (limited depth_limit) (λ i l. ltb-false _ _ (first-none _ (rows_in rows) 0 p.shallow i (omega arith) (omega arith)));
        plain = rows_no (words rows) (rows_in rows) nest made_row (λ j l. first-none _ (rows_in rows) 0 p.plain j (omega arith) (omega arith));
        nested = nest;
      }

  -- every well-formed forest within the limits is accepted, in whatever bytes it stands
  pub accepts : (f : Rows) → flat 0 f ≡ words rows → GoodSizes row_limit rows names text → ((k : ℕ) → 0 < k → k ≤ names_in names → GoodName names text k)
      → Table (names_in names) f → DepthWithin (limited depth_limit) 0 f → NoRow made_row f → checked row_limit depth_limit rows names text ≡ Sound
  unfolding first_bad_name first_deep first_made
  accepts f q g named shaped shallow plain =
      let a = g.row_bytes in
      let sized : size f ≡ rows_in rows = omega (arith, length-flat 0 f, ap length q, words_long rows (4 * rows_in rows) (omega arith)) in
      let fine : first_fault (words rows) (rows_in rows) (names_in names) ≡ None =
      first-lowest (words rows) (rows_in rows) (names_in names) g.some
      ∙ ap (λ (x : ℕ). lowest_fault (words rows) x (names_in names)) (sym sized) ∙ ap (λ (ws : List ℕ). lowest_fault ws (size f) (names_in names)) (sym q) ∙ complete (names_in names) f shaped in
      let same : f ≡ table rows = flat-one 0 f (table rows) (q ∙ sym (fine_table rows (names_in names) g.row_bytes g.some fine).0) in
      let nest : Nested (words rows) (rows_in rows) = fine_nested rows (names_in names) g.row_bytes g.some fine in
      sym (is-checked row_limit depth_limit rows names text None None None None (sizes-good row_limit depth_limit rows names text g)
      (none_first (bad_name names text) (names_in names) 1 (λ k x y. name-good names text k (named k (omega arith) (omega arith))))
      fine
      (none_first _ (rows_in rows) 0 (λ i x y. le-ltb _ _ (depth_fine rows (names_in names) g.row_bytes g.some fine (limited depth_limit) (subst (λ (t : Rows). DepthWithin (limited depth_limit) 0 t) same shallow) i (omega arith))))
      (none_first _ (rows_in rows) 0 (λ i x y. no_rows (words rows) (rows_in rows) nest made_row (subst (λ (t : Rows). NoRow made_row t) same plain) i (omega arith))))
