-- Of the answer: its place is a name or a row of the table. Of a well-formed row: its name is one of the table's. Assumes nothing.
use Rattle.std.specs.Prelude.{Option, Some, None, Err}
use mathlib.Core.Path.{◌≡◌, refl, sym, subst, ◌∙◌}
use mathlib.Core.Bool.{Bool, true, false, cond, ◌&&◌, ◌||◌, not}
use mathlib.Core.List.{List}
use mathlib.Core.Logic.{⊎_elim}
use Prim.Native.Nat.{ℕ, zero, suc, ◌+◌, ◌<◌, ◌≤◌}
use native.Mathlib.Omega.{arith}
use borrow.Author.Tests.{ltb-true, leb-true, eqb-true}
use lib.Dec.{eqb, ltb, leb}
use lib.ListN.{length}
use Rattle.names.specs.Words.{words, rows_in, names_in}
use Rattle.grammar.specs.Kinds.{Declarator, Ident, Member, Function, Class, Other, Opaque}
use Rattle.grammar.specs.Grammar.{made_row, names_one, name_ok}
use Rattle.forest.specs.Faults.{told, first_fault}
use Rattle.forest.specs.declared.Fault.{Fault}
use Rattle.forest.specs.Told.{fault_at, first_deep, lowest_from, lowest_fault}
use Rattle.names.specs.Answered.{or_else, unless_found}
use Rattle.names.specs.Names.{bad_name, first_bad_name}
use Rattle.rows.specs.Sound.{GoodSizes}
use Rattle.rows.specs.Refusals.{unsound_place, place_for, limited, sizes_ok, first_made, four, faulty, three, five, checked, Checked, Sound}
use Rattle.names.proofs.Seeking.{first_below}
use Rattle.forest.proofs.Descent.{first-lowest}
use Rattle.rows.proofs.Ordering.{SizesOk, good-sizes}
use Rattle.rows.specs.declared.Unsound.{Unsound}
use Rattle.rows.specs.declared.Unsound.TheVariants.{Malformed, BadName, BadRow, TooDeep, MadeBinding}
use Rattle.forest.specs.declared.BadRow.{BadRow as RowFault}
use Rattle.names.proofs.Bools.{or_cases}

below_cases : (F : Option Fault) (i k : ℕ) (later : Option RowFault) (bad : RowFault) → (later ≡ Some bad → bad.row < k) → i < k → or_else (told F i) later ≡ Some bad → bad.row < k
below_cases (Some fault) i k later bad ih l h = let q : i ≡ bad.row = cc in omega arith
below_cases None i k later bad ih l h = ih h

pub lowest_below : (ws : List ℕ) (n names f i : ℕ) (bad : RowFault) → lowest_from ws n names f i ≡ Some bad → bad.row < i + f
unfolding lowest_from
lowest_below ws n names zero i bad h = absurd (let z : ◌≡◌ {A = ℕ} 0 1 = cc in omega arith)
lowest_below ws n names (suc f) i bad h =
    below_cases (fault_at ws n names i) i (i + suc f) (lowest_from ws n names f (i + 1)) bad (λ q. let l = lowest_below ws n names f (i + 1) bad q in omega arith) (omega arith) h

-- a row that is told, of n rows
fault_below : (ws : List ℕ) (n names : ℕ) (bad : RowFault) → 0 < n → first_fault ws n names ≡ Some bad → bad.row < n
unfolding lowest_fault
fault_below ws n names bad some h = let l : bad.row < 0 + n = lowest_below ws n names n 0 bad (sym (first-lowest ws n names some) ∙ h) in omega arith

-- a refusal of what a test found, or a later answer, each with a place of at most n
found-place : {A : Type 0} (refusal : A → Unsound) (found : Option A) (c : Checked) (n : ℕ) → ((a : A) → found ≡ Some a → unsound_place (refusal a) ≤ n) → place_for c ≤ n → place_for (unless_found refusal found c) ≤ n
found-place refusal (Some a) c n h k = h a refl
found-place refusal None c n h k = k

-- the place of an answer is at most 16,384
pub place-small : (row_limit depth_limit : ℕ) (rows names text : List ℕ) → place_for (checked row_limit depth_limit rows names text) ≤ 16384
unfolding checked first_bad_name first_deep first_made
place-small row_limit depth_limit rows names text = go (sizes_ok (limited row_limit) (length rows) (length names) (length text)) refl
  where
    rest : Checked
    rest = four names text (faulty rows names (three depth_limit rows (five rows Sound)))

    go : (b : Bool) → SizesOk row_limit depth_limit rows names text b → place_for (cond b rest (Err Malformed)) ≤ 16384
    go false q = omega arith
    go true q =
        let g : GoodSizes row_limit rows names text = good-sizes row_limit depth_limit rows names text q in
        found-place BadName (first_bad_name names text) _ 16384 (λ r h. let l = first_below (bad_name names text) (names_in names) 1 r h in omega arith)
        (found-place (λ (bad : RowFault). BadRow bad.fault bad.row) (first_fault (words rows) (rows_in rows) (names_in names)) _ 16384 (λ bad h. let l = fault_below (words rows) (rows_in rows) (names_in names) bad g.some h in omega arith)
        (found-place TooDeep (first_deep (words rows) (limited depth_limit) (rows_in rows)) _ 16384 (λ r h. let l = first_below _ (rows_in rows) 0 r h in omega arith)
        (found-place MadeBinding (first_made (words rows) (rows_in rows)) _ 16384 (λ r h. let l = first_below _ (rows_in rows) 0 r h in omega arith) (omega arith))))

-- Names are in range: an Ident, Member or Declarator that is no row of a result names one of the names, and a Function or Class has one of them or 0.
named_of : (m p q : Bool) → m ≡ false → (m || (p && q) || false || false || false) ≡ true → (p ≡ true) × (q ≡ true)
named_of false true true a h = (refl, refl)
named_of false true false a h = absurd (let z : ◌≡◌ {A = ℕ} 0 1 = cc in omega arith)
named_of false false q a h = absurd (let z : ◌≡◌ {A = ℕ} 0 1 = cc in omega arith)
named_of true p q a h = absurd (let z : ◌≡◌ {A = ℕ} 0 1 = cc in omega arith)

-- the rule of a name, at a kind, by whether the row is one of a result, the name is not 0, and it is none past the names
abbrev rule : (kind name : ℕ) (m p q : Bool) → Bool
rule kind name m p q =
    m || (names_one kind && p && q) || ((eqb kind Function || eqb kind Class) && q) || (eqb kind Other || eqb kind Opaque)
    || (not (names_one kind) && not (eqb kind Function) && not (eqb kind Class) && eqb name 0)

pub named_in_range : (k a name names : ℕ) → name_ok k a name names ≡ true → made_row k a ≡ false → names_one k ≡ true → (0 < name) × (name ≤ names)
named_in_range k a name names ok made one =
    ⊎_elim
    (λ h. ⊎_elim (λ e. at Declarator (λ m p q. refl) (eqb-true k Declarator e)) (λ e. at Ident (λ m p q. refl) (eqb-true k Ident e)) (or_cases (eqb k Declarator) _ h))
    (λ e. at Member (λ m p q. refl) (eqb-true k Member e))
    (or_cases (eqb k Declarator || eqb k Ident) _ one)
  where
    at : (c : ℕ) → ((m p q : Bool) → rule c name m p q ≡ (m || (p && q) || false || false || false)) → k ≡ c → (0 < name) × (name ≤ names)
    at c same q =
        let here : rule c name (made_row k a) (ltb 0 name) (leb name names) ≡ true = subst (λ (x : ℕ). rule x name (made_row k a) (ltb 0 name) (leb name names) ≡ true) q ok in
        let r = named_of (made_row k a) (ltb 0 name) (leb name names) made (sym (same (made_row k a) (ltb 0 name) (leb name names)) ∙ here) in
        (ltb-true 0 name r.0, leb-true name names r.1)
