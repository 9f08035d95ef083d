-- Change request No. 3: one of 21 to 25 is answered exactly where 2 was, at the same place, and every other answer is the same (`five_exactly`); so 2 is never answered (`two_retired`).
-- Assumes nothing.
use Rattle.std.specs.Prelude.{Option, Some, None, Err}
use mathlib.Core.Path.{◌≡◌, refl, ap, sym, subst, ◌∙◌}
use mathlib.Core.Bool.{Bool, true, false, cond}
use mathlib.Core.List.{List}
use Prim.Native.Nat.{ℕ, ◌<◌, ◌≤◌}
use native.Mathlib.Omega.{arith}
use lib.ListN.{length}
use Rattle.names.specs.Words.{words, rows_in, names_in}
use Rattle.names.specs.Names.{first_bad_name}
use Rattle.names.specs.Answered.{unless_found}
use Rattle.forest.specs.Faults.{first_fault}
use Rattle.forest.specs.Bad.{row_of}
use Rattle.forest.specs.Told.{first_deep}
use Rattle.rows.specs.Refusals.{limited, sizes_ok, first_made, checked, Sound}
use Rattle.forest.proofs.Classes.{first-bad}
use Rattle.rows.proofs.Five.{fault-five}
use Rattle.steps.specs.Mode.{Switches}
use Rattle.steps.specs.Outcome.{Outcome, Outcome.refused, Outcome.converted, Room, unless_refused, unless_at, outcome}
use Rattle.steps.specs.Former.{former_outcome, FiveExactly}
use Rattle.steps.proofs.Refusing.{RefusedBy, later, later-by}
use Rattle.rows.specs.declared.Unsound.TheVariants.{Malformed, BadName, BadRow, TooDeep, MadeBinding}
use Rattle.forest.specs.declared.BadRow.{BadRow as RowFault}

-- neither 2 nor one of the five
abbrev Other : ℕ → Type 0
Other number = (number < 21) × (number ≡ 2 → ⊥)

number_same : {n m p q : ℕ} → refused n p ≡ refused m q → n ≡ m
number_same h = cc

place_same : {n m p q : ℕ} → refused n p ≡ refused m q → p ≡ q
place_same h = cc

not_converted : {rows bindings : List ℕ} {n p : ℕ} → converted rows bindings ≡ refused n p → ⊥
not_converted h = let z : ◌≡◌ {A = ℕ} 0 1 = cc in omega arith

-- an answer that is the same, and one of the five
same : (o : Outcome) → RefusedBy Other o → FiveExactly o o
same (refused number place) h = record {
  was_two = λ p five. let small = h.0 in let least = five.least in let z : number ≡ five.number = number_same five.told in absurd (omega arith);
  is-five = λ p q. absurd (h.1 (number_same q));
  others = λ n. refl;
}
same (converted rows bindings) h = record {
  was_two = λ p five. absurd (not_converted five.told);
  is-five = λ p q. absurd (not_converted q);
  others = λ n. refl;
}

one_of-five : (number row : ℕ) → 21 ≤ number → number ≤ 25 → FiveExactly (refused number row) (refused 2 row)
one_of-five number row least most = record {
  was_two = λ p five. ap (refused 2) (place_same five.told);
  is-five = λ p q. record { number = number; least = least; most = most; told = ap (refused number) (place_same q) };
  others = λ n. absurd (n row refl);
}

by_tests : (sized : Bool) (named : Option ℕ) (fault : Option RowFault) (deep made : Option ℕ) (rest : Outcome) → RefusedBy Other rest
    → FiveExactly (unless_refused (cond sized (unless_found BadName named (unless_found (λ (bad : RowFault). BadRow bad.fault bad.row) fault (unless_found TooDeep deep (unless_found MadeBinding made Sound)))) (Err Malformed)) rest)
    (cond sized (unless_at 4 named (unless_at 2 (row_of fault) (unless_at 3 deep (unless_at 5 made rest)))) (refused 1 0))
by_tests false named fault deep made rest h = same (refused 1 0) (omega arith, λ q. omega arith)
by_tests true (Some name) fault deep made rest h = same (refused 4 name) (omega arith, λ q. omega arith)
by_tests true None (Some bad) deep made rest h = one_of-five _ bad.row (fault-five bad.fault).0 (fault-five bad.fault).1
by_tests true None None (Some row) made rest h = same (refused 3 row) (omega arith, λ q. omega arith)
by_tests true None None None (Some row) rest h = same (refused 5 row) (omega arith, λ q. omega arith)
by_tests true None None None None rest h = same rest h

-- what has changed is not 2
never-two : (now before : Outcome) (place : ℕ) → FiveExactly now before → now ≡ refused 2 place → ⊥
never-two now before place five h = never place (sym (five.others never) ∙ h)
  where
    never : (p : ℕ) → before ≡ refused 2 p → ⊥
    never p q = let f = five.is-five p q in let least = f.least in let z : 2 ≡ f.number = number_same (sym h ∙ f.told) in omega arith

module _ (row_limit depth_limit : ℕ) (w : Switches) (rows names text : List ℕ) (room : Room) where
  pub five_exactly : FiveExactly (outcome row_limit depth_limit w rows names text room) (former_outcome row_limit depth_limit w rows names text room)
  unfolding outcome former_outcome checked
  five_exactly =
      let sized = sizes_ok (limited row_limit) (length rows) (length names) (length text) in
      let fault = first_fault (words rows) (rows_in rows) (names_in names) in
      let deep = first_deep (words rows) (limited depth_limit) (rows_in rows) in
      let made = first_made (words rows) (rows_in rows) in
      let rest = later w rows names text room in
      subst
      (λ (bad : Option ℕ). FiveExactly (outcome row_limit depth_limit w rows names text room) (cond sized (unless_at 4 (first_bad_name names text) (unless_at 2 bad (unless_at 3 deep (unless_at 5 made rest)))) (refused 1 0)))
      (first-bad (words rows) (names_in names) (rows_in rows))
      (by_tests sized (first_bad_name names text) fault deep made rest
      (later-by Other (omega arith, λ q. omega arith) (omega arith, λ q. omega arith) (omega arith, λ q. omega arith) (omega arith, λ q. omega arith) w rows names text room))

  -- 2 is never given again
  pub two_retired : (place : ℕ) → outcome row_limit depth_limit w rows names text room ≡ refused 2 place → ⊥
  two_retired place h = never-two _ _ place five_exactly h
