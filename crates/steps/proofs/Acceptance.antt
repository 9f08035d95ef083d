-- What acceptance gives, over the bytes lent: the owner rule (demand 3) and the bounds. Assumes nothing.
use Rattle.std.specs.Prelude.{Option, Some, None, Ok, Err}
use mathlib.Core.Path.{◌≡◌, refl, ap, sym, subst, ◌∙◌}
use mathlib.Core.List.{List}
use Prim.Native.Nat.{ℕ, ◌+◌, ◌*◌, ◌≤◌, ◌<◌, ◌^◌}
use mathlib.Core.Bool.{Bool, true, false, cond, ◌&&◌}
use lib.Dec.{leb}
use lib.ListN.{length}
use native.Mathlib.Omega.{arith}
use borrow.Author.Tests.{leb-true, le-leb}
use Rattle.names.specs.Words.{rows_in, names_in}
use Rattle.forest.specs.Forest.{Rows, Rows.none, Rows.node, size, flat, table}
use Rattle.rows.specs.Sound.{SoundTable}
use Rattle.names.specs.Names.{same_name, bytes_of, same_bytes}
use Rattle.rows.specs.Refusals.{checked, Checked, Sound}
use Rattle.forest.proofs.Accepting.{length-flat}
use Rattle.rows.proofs.Soundness.{sound, words_long}
use Rattle.steps.specs.Mode.{Switches}
use Rattle.steps.specs.Naming.{Names, same_as}
use Rattle.steps.specs.Steps.{Result, steps}
use Rattle.steps.specs.Refusals.{six, seven, eight}
use Rattle.steps.specs.Outcome.{Outcome, Outcome.refused, Outcome.converted, Room, names_of, records, unless_refused, unless_at, within, outcome}
use Rattle.steps.specs.Accepted.{Accepted}
use Rattle.steps.specs.Owners.{OwnersKept, Calm, Home.at_top, home_one, home_more, builder, arrows_on}
use Rattle.steps.proofs.Records.{AllSound}
use Rattle.steps.proofs.Shaped.{Rooted, rooted}
use Rattle.steps.proofs.Bounds.{Bounded, bounded, kept}
use Rattle.names.proofs.Bools.{and_parts}

-- name 0 is the same as name 0
pub same-zero : (N : Names) → same_as N 0 0 ≡ true
unfolding same_as same_name bytes_of same_bytes
same-zero N = refl

module _ (row_limit depth_limit : ℕ) (w : Switches) (rows names text : List ℕ) (A : Accepted row_limit depth_limit w rows names text) where
  abbrev N : Names
  N = names_of names text

  table-sound : SoundTable row_limit depth_limit rows names text
  table-sound = sound row_limit depth_limit rows names text A.sound

  -- row 0 is a Program
  root : Rooted (names_in names) (table rows)
  root = rooted (names_in names) (table rows) table-sound.shaped table-sound.plain

  pub table-size : size (table rows) ≡ rows_in rows
  table-size =
      let S = table-sound in
      let b = S.sizes.row_bytes in
      omega (arith, length-flat 0 (table rows), ap length S.same, words_long rows (4 * rows_in rows) (omega arith))

  -- Bounds, for any switches: fewer bindings than rows, every record within refusal 11's tests, at most 8 rows for each row and 11 for each binding, so at most 19 times the rows.
  pub record Within (r : Result) : Type 0 where
    pub few : length r.bindings < rows_in rows
    pub in_range : AllSound (names_in names) (rows_in rows) r.bindings
    pub rows-by : size r.rows ≤ 8 * rows_in rows + 11 * length r.bindings
    pub rows_few : size r.rows ≤ 19 * rows_in rows

  pub result_within : Within (steps N w (table rows))
  unfolding size
  result_within =
      let g = root in
      let i : Rows = g.inside in
      let b : Bounded (names_in names) i (steps N w (node 0 0 0 i none)) = bounded N w (names_in names) i g.shape.wf g.shape.named in
      let e : 1 + size i + 0 ≡ rows_in rows = sym (ap size g.root) ∙ table-size in
      let e₁ : 1 + size i ≡ rows_in rows = omega arith in
      subst (λ (t : Rows). Within (steps N w t)) (sym g.root)
      (record { few = omega (arith, b.few); in_range = rw e₁ at b.sound; rows-by = omega (arith, b.rows); rows_few = omega (arith, b.rows, b.few) })

  -- no cursor of 32 bits wraps
  pub result_small : size (steps N w (table rows)).rows < 2 ^ 32
  result_small = let few = table-sound.sizes.few in omega (arith, result_within.rows_few)

calm_in : (i : Rows) → Calm at_top at_top false (node 0 0 0 i none) → Calm at_top at_top false i
unfolding Calm home_one home_more builder
calm_in i h = h.1

-- Demand 3: for every table accepted with arrows on and both async switches off that meets the premises, whatever room is lent.
pub owner_rule : (row_limit depth_limit : ℕ) (rows names text : List ℕ) → Accepted row_limit depth_limit arrows_on rows names text → Calm at_top at_top false (table rows)
    → OwnersKept (table rows) (steps (names_of names text) arrows_on (table rows))
owner_rule row_limit depth_limit rows names text A Q =
    let g : Rooted (names_in names) (table rows) = root row_limit depth_limit arrows_on rows names text A in
    subst (λ (t : Rows). OwnersKept t (steps (names_of names text) arrows_on t)) (sym g.root)
    (kept (names_of names text) (same-zero (names_of names text)) g.inside g.shape.wf (calm_in g.inside (subst (Calm at_top at_top false) g.root Q)))

-- Acceptance is what the outcome says: a table is accepted exactly if its outcome is the result within the room.
unless_refused_no : (c : Checked) (o : Outcome) (rows bindings : List ℕ) → unless_refused c o ≡ converted rows bindings → (c ≡ Sound) × (o ≡ converted rows bindings)
unless_refused_no (Ok sound) o rows bindings h = (refl, h)
unless_refused_no (Err unsound) o rows bindings h = absurd (let z : ◌≡◌ {A = ℕ} 0 1 = cc in omega arith)

unless_at_no : (n : ℕ) (f : Option ℕ) (o : Outcome) (rows bindings : List ℕ) → unless_at n f o ≡ converted rows bindings → (f ≡ None) × (o ≡ converted rows bindings)
unless_at_no n None o rows bindings h = (refl, h)
unless_at_no n (Some r) o rows bindings h = absurd (let z : ◌≡◌ {A = ℕ} 0 1 = cc in omega arith)

within_yes : (b : Bool) (xs ys rows bindings : List ℕ) → cond b (converted xs ys) (refused 9 0) ≡ converted rows bindings → (b ≡ true) × ((rows ≡ xs) × (bindings ≡ ys))
within_yes true xs ys rows bindings h = (refl, ((cc), (cc)))
within_yes false xs ys rows bindings h = absurd (let z : ◌≡◌ {A = ℕ} 0 1 = cc in omega arith)

module _ (row_limit depth_limit : ℕ) (w : Switches) (rows names text : List ℕ) (room : Room) where
  abbrev R : Result
  R = steps (names_of names text) w (table rows)

  -- what a conversion says
  pub record Converted (out bindings : List ℕ) : Type 0 where
    pub accepted : Accepted row_limit depth_limit w rows names text
    pub rows_are : out ≡ flat 0 R.rows
    pub bindings_are : bindings ≡ records R.bindings
    pub rows_fit : size R.rows ≤ room.rows
    pub bindings-fit : length R.bindings ≤ room.bindings

  pub converts : (out bindings : List ℕ) → outcome row_limit depth_limit w rows names text room ≡ converted out bindings → Converted out bindings
  unfolding outcome within
  converts out bindings h =
      let h1 = unless_refused_no (checked row_limit depth_limit rows names text) _ out bindings h in
      let h6 = unless_at_no 6 (six w (table rows)) _ out bindings h1.1 in
      let h7 = unless_at_no 7 (seven w (table rows)) _ out bindings h6.1 in
      let h8 = unless_at_no 8 (eight (names_of names text) w (table rows)) _ out bindings h7.1 in
      let h9 = within_yes (leb (size R.rows) room.rows && leb (length R.bindings) room.bindings) _ _ out bindings h8.1 in
      let fit = and_parts (leb (size R.rows) room.rows) (leb (length R.bindings) room.bindings) h9.0 in
      record {
        accepted = record { sound = h1.0; six-none = h6.0; seven-none = h7.0; eight-none = h8.0 };
        rows_are = h9.1.0;
        bindings_are = h9.1.1;
        rows_fit = leb-true _ _ fit.0;
        bindings-fit = leb-true _ _ fit.1;
      }

  -- an accepted table is converted wherever there is room for its result, and refused by 9 nowhere else
  pub accepted_converts : Accepted row_limit depth_limit w rows names text → size R.rows ≤ room.rows → length R.bindings ≤ room.bindings
      → outcome row_limit depth_limit w rows names text room ≡ converted (flat 0 R.rows) (records R.bindings)
  unfolding outcome within
  accepted_converts A fits fitb = rw (A.sound, A.six-none, A.seven-none, A.eight-none, le-leb _ _ fits, le-leb _ _ fitb)
