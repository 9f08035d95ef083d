-- What the walks ask of an accepted table, and what they make of it: the result of the steps. Assumes nothing.
use mathlib.Core.Path.{◌≡◌, sym, ap, subst, ◌∙◌}
use mathlib.Core.Bool.{Bool, true, false, ◌||◌}
use mathlib.Core.List.{List, []}
use Prim.Native.Nat.{ℕ, ◌+◌, ◌*◌, ◌/◌, ◌≤◌, ◌<◌, ◌^◌}
use native.Mathlib.Omega.{arith}
use borrow.Author.Tests.{le-leb, leb-true, leb-false}
use lib.Dec.{leb}
use lib.ListN.{length}
use Rattle.names.specs.Words.{rows_in}
use Rattle.forest.specs.Forest.{Rows, size, table}
use Rattle.rows.specs.Sound.{SoundTable}
use Rattle.rows.proofs.Soundness.{sound}
use Rattle.steps.specs.Mode.{Switches, enabled, async_only}
use Rattle.steps.specs.Naming.{Names}
use Rattle.steps.specs.Slots.{free}
use Rattle.steps.specs.AfterSuper.{copy}
use Rattle.steps.specs.Bindings.{Binding}
use Rattle.steps.specs.Context.{start, spot, made_c}
use Rattle.steps.specs.Fused.{emit_s, steps_s}
use Rattle.steps.specs.Steps.{Result, steps}
use Rattle.steps.specs.Outcome.{names_of}
use Rattle.steps.specs.Accepted.{Accepted}
use Rattle.steps.proofs.Contexts.{steps-same}
use Rattle.steps.proofs.Fusing.{steps_fused}
use Rattle.steps.proofs.Acceptance.{table-size, result_within, result_small}
use Rattle.output.specs.Output.{Done, Copied}
use Rattle.output.proofs.Writing.{named}
use Rattle.output.proofs.Recording.{none-copied}
use Rattle.bindings.specs.Store.{binds}
use Rattle.bindings.specs.Filed.{Filed, behind}
use Rattle.bindings.proofs.Arrays.{binds-length}
use Rattle.acts.specs.View.{switches_of}
use Rattle.plan.specs.Ranged.{Ranged}
use Rattle.emit_plan.specs.Plans.{Holds, emitted}
use Rattle.emit_plan.specs.declared.Walk.{Walk}
use Rattle.refusals.specs.Given.{GivenRows}
use Rattle.walks.specs.Ready.{Ready, Collected, Unchanged}
use Rattle.answer.specs.Converting.{outcome_of, Answers}
use Rattle.answer.proofs.Answering.{full-rows, full-bindings, converted-all}
use Rattle.refusals.proofs.Giving.{sound_rows}

-- whether the mode changes rows, by the two flags that the code has
pub flags : (w : Switches) (e o b : Bool) → e ≡ enabled w → o ≡ async_only w → (e || o) ≡ b → (enabled w || async_only w) ≡ b
flags w e o b p q h = rw (← p, ← q) h

-- "Disabled: rows copied, no bindings."
pub steps-off : (N : Names) (w : Switches) (t : Rows) → (enabled w || async_only w) ≡ false → steps N w t ≡ record { rows = t; bindings = [] }
unfolding steps
steps-off N w t q = rw q

-- the rows that the second walk writes, and the bindings of the first
pub steps_on : (N : Names) (w : Switches) (t : Rows) → (enabled w || async_only w) ≡ true
    → steps N w t ≡ record { rows = emit_s N w (made_c N w t) 0 copy (spot start free) (spot start free) 0 t; bindings = made_c N w t }
steps_on N w t q = steps-same N w t ∙ steps_fused N w t ∙ (unfold steps_s in rw q)

module _ (w : Switches) (rows names text : List ℕ) (A : Accepted 16384 128 w rows names text) where
  table-sound : SoundTable 16384 128 rows names text
  table-sound = sound 16384 128 rows names text A.sound

  pub given-rows : GivenRows rows (rows_in rows)
  given-rows = sound_rows 16384 128 rows names text table-sound

  -- the whole table is a list of siblings
  pub given-range : Ranged rows 0 (rows_in rows)
  given-range =
      let g = given-rows in
      record {
        bytes = g.bytes;
        few = g.few;
        nested = g.nested;
        range = record { ordered = omega arith; within = omega arith; closed = λ j x y. g.nested.inside j y };
      }

  -- a table that is its own result
  module _ (same : Unchanged w rows names text) (out_rows out_bindings : List ℕ) where
    copied-rows : (steps (names_of names text) w (table rows)).rows ≡ table rows
    copied-rows = ap (λ (r : Result). r.rows) same

    no_bindings : (steps (names_of names text) w (table rows)).bindings ≡ []
    no_bindings = ap (λ (r : Result). r.bindings) same

    result-size : size (steps (names_of names text) w (table rows)).rows ≡ rows_in rows
    result-size = ap size copied-rows ∙ table-size 16384 128 w rows names text A

    pub no-room-copied : length out_rows / 16 < rows_in rows → Answers (outcome_of w rows names text out_rows out_bindings) 9 0 0 0 out_rows out_rows out_bindings out_bindings
    no-room-copied l = full-rows w rows names text out_rows out_bindings A (rows_in rows) (sym result-size) l

    pub all-copied : (out_rows' : List ℕ) (r : ℕ) → Done out_rows 0 (table rows) r out_rows' → rows_in rows ≤ length out_rows / 16
        → Answers (outcome_of w rows names text out_rows out_bindings) 0 0 r 0 out_rows out_rows' out_bindings out_bindings
    all-copied out_rows' r d l =
        let e : Done out_rows 0 (steps (names_of names text) w (table rows)).rows r out_rows' = named copied-rows d in
        converted-all w rows names text out_rows out_bindings A out_rows' out_bindings r 0 e
        (subst (λ (bs : List Binding). Copied out_bindings 0 bs 0 out_bindings) (sym no_bindings) (none-copied out_bindings 0))
        (omega (arith, result-size, e.next)) (omega arith)

-- a mode that changes rows
module _ (w : Switches) (rows names text : List ℕ) (on : (enabled w || async_only w) ≡ true) where
  -- the names of the table, and its result
  abbrev N : Names
  N = names_of names text

  abbrev R : Result
  R = steps N w (table rows)

  -- the bindings of the result are those of the first walk
  bindings_are : R.bindings ≡ made_c N w (table rows)
  bindings_are = ap (λ (r : Result). r.bindings) (steps_on N w (table rows) on)

  -- and its rows those of the second, over these bindings
  rows_are : (bs : List Binding) → bs ≡ made_c N w (table rows) → R.rows ≡ emit_s N w bs 0 copy (spot start free) (spot start free) 0 (table rows)
  rows_are bs q = ap (λ (r : Result). r.rows) (steps_on N w (table rows) on) ∙ ap (λ (cs : List Binding). emit_s N w cs 0 copy (spot start free) (spot start free) 0 (table rows)) (sym q)

-- room for all of the bindings
pub bindings_few : (w : Switches) (rows names text made : List ℕ) (cap : ℕ) → Accepted 16384 128 w rows names text → Ready w rows names text made cap → length (made_c (names_of names text) w (table rows)) < cap
bindings_few w rows names text made cap A S =
    omega (arith, (result_within 16384 128 w rows names text A).few, ap length (bindings_are w rows names text S.on), S.fits)

-- the answer by a walk over no bytes, which counts
pub counted-room : (room : ℕ) {f : Rows} {total : ℕ} {after : List ℕ} → Done [] 0 f total after → leb total room ≡ leb (size f) room
counted-room room {f} {total} d = let q : total ≡ size f = omega (arith, d.next) in rw q

-- the array with the bindings of the first walk, and what the second walk then writes
module _ (rows names text : List ℕ) (v : Walk) (C : Collected rows names text v) where
  -- the switches of the walk
  abbrev w : Switches
  w = switches_of v.switches

  -- the rows that it writes
  abbrev made-rows : Rows
  made-rows = emitted rows names text v

  -- they are those of the result
  rows_made : (steps (names_of names text) w (table rows)).rows ≡ made-rows
  rows_made = rows_are w rows names text C.on (binds v.bindings.made.now v.bindings.cap v.bindings.count) C.kept.list

  -- the bindings of the array are those of the result
  bindings_made : binds v.bindings.made.now v.bindings.cap v.bindings.count ≡ (steps (names_of names text) w (table rows)).bindings
  bindings_made = C.kept.list ∙ sym (bindings_are w rows names text C.on)

  -- and so many
  counted : v.bindings.count ≡ length (steps (names_of names text) w (table rows)).bindings
  counted = sym (binds-length v.bindings.made.now v.bindings.cap 1 v.bindings.count) ∙ ap length bindings_made

  -- with much room the rows fit, and need not be counted
  pub much_room : (room : ℕ) → 8 * rows_in rows + 11 * v.bindings.count ≤ room → true ≡ leb (size made-rows) room
  much_room room l = sym (le-leb (size made-rows) room (omega (arith, (result_within 16384 128 w rows names text C.accepted).rows-by, ap size rows_made, counted)))

  -- what the second walk asks of the table and of the array, and that no cursor wraps
  pub walk_asks : Ranged rows 0 (rows_in rows) × (Holds names text v (rows_in rows) × (size made-rows < 2 ^ 32))
  walk_asks = (
    given-range w rows names text C.accepted,
    (
      record { filed = subst (Filed names text (behind v.bindings.cap v.bindings.made.now) v.bindings.cap) (sym C.kept.list) C.filed; rows_low = C.fits },
      subst (λ (t : Rows). size t < 2 ^ 32) rows_made
          (result_small 16384 128 w rows names text C.accepted),
    ),
  )

  module _ (out_rows out_bindings : List ℕ) where
    -- too many rows
    pub no-room-rows : leb (size made-rows) (length out_rows / 16) ≡ false → Answers (outcome_of w rows names text out_rows out_bindings) 9 0 0 0 out_rows out_rows out_bindings out_bindings
    no-room-rows l = full-rows w rows names text out_rows out_bindings C.accepted (size made-rows) (sym (ap size rows_made)) (leb-false (size made-rows) (length out_rows / 16) l)

    -- too many bindings
    pub no-room-bindings : length out_bindings / 12 < v.bindings.count → Answers (outcome_of w rows names text out_rows out_bindings) 9 0 0 0 out_rows out_rows out_bindings out_bindings
    no-room-bindings l = full-bindings w rows names text out_rows out_bindings C.accepted v.bindings.count counted l

    -- all of it is written
    pub all-written : (out_rows' out_bindings' : List ℕ) (written recorded : ℕ) → Done out_rows 0 made-rows written out_rows' → Copied out_bindings 0 (binds v.bindings.made.now v.bindings.cap v.bindings.count) recorded out_bindings'
        → leb (size made-rows) (length out_rows / 16) ≡ true → v.bindings.count ≤ length out_bindings / 12
        → Answers (outcome_of w rows names text out_rows out_bindings) 0 0 written recorded out_rows out_rows' out_bindings out_bindings'
    all-written out_rows' out_bindings' written recorded d b l m =
        let n = leb-true (size made-rows) (length out_rows / 16) l in
        let e = subst (λ (bs : List Binding). Copied out_bindings 0 bs recorded out_bindings') bindings_made b in
        converted-all w rows names text out_rows out_bindings C.accepted out_rows' out_bindings' written recorded (named rows_made d) e
        (omega (arith, d.next)) (omega (arith, counted, e.next))
