-- Refusals 6, 7 and 8 in their order, by what each of the passes answers; and what their answer is to the whole outcome. Assumes nothing.
use mathlib.Core.Path.{◌≡◌, refl, ap, sym, ◌∙◌}
use mathlib.Core.Bool.{Bool, true, false, cond, not, ◌||◌}
use mathlib.Core.List.{List}
use Prim.Native.Nat.{ℕ, ◌+◌, ◌*◌, ◌≤◌}
use native.Mathlib.Omega.{arith}
use lib.ListN.{length}
use Rattle.std.specs.Prelude.{Ok, Err, Option, Some, None}
use Rattle.names.specs.Words.{words, kind_at, name_at, rows_in}
use Rattle.names.specs.First.{first}
use Rattle.names.specs.Answered.{unless_found}
use Rattle.forest.specs.Forest.{Rows, Rows.none, Rows.node, size, rows_at, table}
use Rattle.rows.specs.Refusals.{checked, Sound}
use Rattle.forest.proofs.Accepting.{length-flat}
use Rattle.rows.proofs.Soundness.{words_long}
use Rattle.steps.specs.declared.ArrowFunctionConverterMode.{ArrowFunctionConverterMode}
use Rattle.steps.specs.declared.ArrowFunctionConverterMode.TheVariants.{Disabled, Enabled, AsyncOnly}
use Rattle.steps.specs.Mode.{Switches, mode_of, is_disabled, is_enabled, is_async_only, enabled, async_only}
use Rattle.steps.specs.Naming.{named_arguments}
use Rattle.steps.specs.Refusals.{seek, alone, sixes, outer, sevens, eights, unless_off, six, seven, eight}
use Rattle.steps.specs.Outcome.{Outcome, Outcome.refused, names_of, unless_at}
use Rattle.steps.specs.Accepted.{Accepted}
use Rattle.steps.proofs.Seeks.{by_rows, seek_below}
use Rattle.refusals.specs.Given.{GivenRows}
use Rattle.refusals.specs.Hits.{field_rule}
use Rattle.refusals.specs.Refused.{Answer, number_of, place_for, turned_away, binds_arguments, name_rule}
use Rattle.refusals.specs.declared.Refused.{Refused}
use Rattle.refusals.specs.declared.Refused.TheVariants.{SuperNotAllowed, FieldHolds, NamedArguments}

-- the three refusals in their order
abbrev pub in_turn : (f6 f7 f8 : Option ℕ) → Answer
in_turn f6 f7 f8 = unless_found SuperNotAllowed f6 (unless_found FieldHolds f7 (unless_found NamedArguments f8 (Ok tt)))

-- the first of the rows that binds `arguments` is the forest's
pub eight_rows : (rows names text : List ℕ) (n : ℕ) → GivenRows rows n →
    first (λ j. binds_arguments names text (kind_at (words rows) j) (name_at (words rows) j)) n 0 ≡ seek (name_rule names text) tt tt 0 (rows_at (words rows) 0 n)
unfolding name_rule
eight_rows rows names text n g = by_rows (λ k a m. binds_arguments names text k m) (words rows) n (rows_at (words rows) 0 n) g.same (words_long rows (4 * n) (omega (arith, g.bytes)))

-- a test that never holds
never : (o : ℕ) (t : Rows) → seek (alone (λ k a n i. false)) tt tt o t ≡ None
unfolding seek
never o none = refl
never o (node k a n i s) = rw (never (o + 1) i, never (o + 1 + size i) s)

module _ (names text : List ℕ) (t : Rows) where
  -- the answer by the three passes: `only` says AsyncOnly
  abbrev pub answer : (only : Bool) → Answer
  answer only =
      in_turn (seek sixes outer outer 0 t) (seek (field_rule only) tt tt 0 t) (cond only (seek (name_rule names text) tt tt 0 t) None)

  on : (w : Switches) (e : Bool) → enabled w ≡ e → async_only w ≡ not e → turned_away (names_of names text) w t ≡ answer (not e)
  unfolding turned_away six seven eight sevens eights field_rule name_rule named_arguments
  on w true p q = rw (p, q, never 0 t)
  on w false p q = rw (p, q)

  off : (w : Switches) → enabled w ≡ false → async_only w ≡ false → turned_away (names_of names text) w t ≡ Ok tt
  unfolding turned_away six seven eight
  off w p q = rw (p, q)

  pub by_mode : (m : ArrowFunctionConverterMode) (w : Switches) → m ≡ mode_of w → turned_away (names_of names text) w t ≡ cond (is_disabled m) (Ok tt) (answer (is_async_only m))
  unfolding enabled async_only
  by_mode Disabled w q = off w (ap is_enabled (sym q)) (ap is_async_only (sym q))
  by_mode Enabled w q = on w true (ap is_enabled (sym q)) (ap is_async_only (sym q))
  by_mode AsyncOnly w q = on w false (ap is_enabled (sym q)) (ap is_async_only (sym q))

  module _ (m : ArrowFunctionConverterMode) (w : Switches) (q : m ≡ mode_of w) where
    pub turned-off : is_disabled m ≡ true → Ok tt ≡ turned_away (names_of names text) w t
    turned-off d = sym (by_mode m w q ∙ rw d)

    pub turned_on : (only : Bool) (f6 f7 f8 : Option ℕ) → is_disabled m ≡ false → only ≡ is_async_only m
        → seek sixes outer outer 0 t ≡ f6 → seek (field_rule only) tt tt 0 t ≡ f7 → cond only (seek (name_rule names text) tt tt 0 t) None ≡ f8
        → in_turn f6 f7 f8 ≡ turned_away (names_of names text) w t
    turned_on only f6 f7 f8 d o q6 q7 q8 = sym (by_mode m w q ∙ rw (d, ← o, q6, q7, q8))

    -- 8 is looked for in AsyncOnly alone
    pub turned_plain : (only : Bool) (f6 f7 : Option ℕ) → is_disabled m ≡ false → only ≡ is_async_only m → seek sixes outer outer 0 t ≡ f6 → seek (field_rule only) tt tt 0 t ≡ f7 → only ≡ false
        → in_turn f6 f7 None ≡ turned_away (names_of names text) w t
    turned_plain only f6 f7 d o q6 q7 z = turned_on only f6 f7 None d o q6 q7 (rw z)

    pub turned-only : (only : Bool) (f6 f7 f8 : Option ℕ) → is_disabled m ≡ false → only ≡ is_async_only m → seek sixes outer outer 0 t ≡ f6 → seek (field_rule only) tt tt 0 t ≡ f7 → only ≡ true → seek (name_rule names text) tt tt 0 t ≡ f8
        → in_turn f6 f7 f8 ≡ turned_away (names_of names text) w t
    turned-only only f6 f7 f8 d o q6 q7 z q8 = turned_on only f6 f7 f8 d o q6 q7 (rw z q8)

-- what the answer is to the outcome
abbrev pub unless_turned : Answer → Outcome → Outcome
unless_turned (Ok u) other = other
unless_turned (Err r) other = refused (number_of r) (place_for r)

in_order : (f6 f7 f8 : Option ℕ) (other : Outcome) → unless_turned (in_turn f6 f7 f8) other ≡ unless_at 6 f6 (unless_at 7 f7 (unless_at 8 f8 other))
in_order (Some r) f7 f8 other = refl
in_order None (Some r) f8 other = refl
in_order None None (Some r) other = refl
in_order None None None other = refl

none_of : (f6 f7 f8 : Option ℕ) → in_turn f6 f7 f8 ≡ Ok tt → (f6 ≡ None) × ((f7 ≡ None) × (f8 ≡ None))
none_of (Some r) f7 f8 h = absurd (cc)
none_of None (Some r) f8 h = absurd (cc)
none_of None None (Some r) h = absurd (cc)
none_of None None None h = (refl, (refl, refl))

module _ (w : Switches) (rows names text : List ℕ) where
  -- the middle of `outcome`
  pub turned_outcome : (other : Outcome) → unless_turned (turned_away (names_of names text) w (table rows)) other
      ≡ unless_at 6 (six w (table rows)) (unless_at 7 (seven w (table rows)) (unless_at 8 (eight (names_of names text) w (table rows)) other))
  unfolding turned_away
  turned_outcome other = in_order (six w (table rows)) (seven w (table rows)) (eight (names_of names text) w (table rows)) other

  -- a table that is neither checked away nor turned away is accepted
  pub accepted : (row_limit depth_limit : ℕ) → checked row_limit depth_limit rows names text ≡ Sound → turned_away (names_of names text) w (table rows) ≡ Ok tt → Accepted row_limit depth_limit w rows names text
  unfolding turned_away
  accepted row_limit depth_limit s h =
      let n = none_of (six w (table rows)) (seven w (table rows)) (eight (names_of names text) w (table rows)) h in
      record { sound = s; six-none = n.0; seven-none = n.1.0; eight-none = n.1.1 }

-- The place of an answer is a row of the table, at most 16,384.
unless-off : (w : Switches) (f : Option ℕ) (r : ℕ) → unless_off w f ≡ Some r → f ≡ Some r
unless-off w f r = go (enabled w || async_only w)
  where
    go : (b : Bool) → cond b f None ≡ Some r → f ≡ Some r
    go true h = h
    go false h = absurd (cc)

place_cases : (f6 f7 f8 : Option ℕ) (n : ℕ) (t : Refused) → in_turn f6 f7 f8 ≡ Err t → ((r : ℕ) → f6 ≡ Some r → r ≤ n) → ((r : ℕ) → f7 ≡ Some r → r ≤ n) → ((r : ℕ) → f8 ≡ Some r → r ≤ n) → place_for t ≤ n
place_cases (Some r) f7 f8 n t q h6 h7 h8 = let e : SuperNotAllowed r ≡ t = cc in rw (← e) (h6 r refl)
place_cases None (Some r) f8 n t q h6 h7 h8 = let e : FieldHolds r ≡ t = cc in rw (← e) (h7 r refl)
place_cases None None (Some r) n t q h6 h7 h8 = let e : NamedArguments r ≡ t = cc in rw (← e) (h8 r refl)
place_cases None None None n t q h6 h7 h8 = absurd (cc)

pub place-small : (w : Switches) (rows names text : List ℕ) → GivenRows rows (rows_in rows) → (r : Refused) → turned_away (names_of names text) w (table rows) ≡ Err r → place_for r ≤ 16384
unfolding turned_away six seven eight
place-small w rows names text g r q =
    let sized : size (table rows) ≤ 16384 = omega (arith, length-flat 0 (table rows), ap length g.same, words_long rows (4 * rows_in rows) (omega (arith, g.bytes)), g.few) in
    place_cases (six w (table rows)) (seven w (table rows)) (eight (names_of names text) w (table rows)) 16384 r q
    (λ r h. let l = seek_below sixes outer outer 0 (table rows) r (unless-off w _ r h) in omega arith)
    (λ r h. let l = seek_below (sevens w) tt tt 0 (table rows) r (unless-off w _ r h) in omega arith)
    (λ r h. let l = seek_below (eights (names_of names text) w) tt tt 0 (table rows) r (unless-off w _ r h) in omega arith)
