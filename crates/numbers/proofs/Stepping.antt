-- One binding more has its number. Assumes nothing.
use Prim.Native.Nat.{ℕ, ◌+◌, ◌-◌, ◌%◌, ◌≤◌, ◌<◌}
use mathlib.Core.Path.{◌≡◌, refl, ap, sym, subst, ◌∙◌}
use mathlib.Core.List.{List, [], ◌∷◌, ◌++◌}
use native.Mathlib.Omega.{arith}
use native.Mathlib.Nat.{mod-lt}
use lib.ListN.{length, get_or, set, length-set}
use Rattle.names.specs.Words.{names_in}
use Rattle.spelling.specs.Hash.{hash_of}
use Rattle.base_text.specs.Bindings.{records_in}
use Rattle.base_text.specs.Refusals.{base_text}
use Rattle.candidates.specs.Candidates.{candidate}
use Rattle.numbers.specs.Entries.{entries}
use Rattle.numbers.specs.Tables.{Found, Reached, Chosen, Numbering, Named}
use Rattle.numbers.proofs.Entering.{entries-long, entries_next, found_new}

module _ {bindings names text lasts befores reached numbers : List ℕ} {count : ℕ} (N : Numbering bindings names text lasts befores reached numbers count) (b n : ℕ) (some : 0 < b) (at : count + 1 ≡ names_in names + b) (few : b ≤ records_in bindings)
    {reached' : List ℕ} (C : Chosen bindings names text numbers count b n reached') (long : length reached' ≡ length reached) where
  abbrev base : List ℕ
  base = base_text b bindings names text

  abbrev numbers' : List ℕ
  numbers' = set numbers (count + 1) n

  abbrev h : ℕ
  h = hash_of (candidate base n) % length lasts

  -- the entries with it
  pub next : entries bindings names text numbers' (count + 1) ≡ entries bindings names text numbers count ++ (candidate base n ∷ [])
  next =
      let z : count + 1 - 1 ≡ count = omega arith in
      entries_next bindings names text numbers b (count + 1) n at some (omega (arith, N.stored.numbers_long)) ∙ ap (λ (m : ℕ). entries bindings names text numbers m ++ (candidate base n ∷ [])) z

  abbrev lasts' : List ℕ
  lasts' = set lasts h (count + 1)

  abbrev befores' : List ℕ
  befores' = set befores (count + 1) (get_or lasts h 0)

  pub numbering_next : Numbering bindings names text lasts' befores' reached' numbers' (count + 1)
  numbering_next = record {
    stored = record {
      some = omega (arith, N.stored.some, length-set lasts h (count + 1));
      befores_long = omega (arith, N.stored.befores_long, length-set befores (count + 1) (get_or lasts h 0));
      numbers_long = omega (arith, N.stored.numbers_long, length-set numbers (count + 1) n);
      few = omega arith;
      found =
          subst (λ (xs : List (List ℕ)). Found lasts' befores' xs) (sym next)
          (found_new lasts befores N.stored.found (candidate base n) h (count + 1) refl (mod-lt (hash_of (candidate base n)) N.stored.some) (ap (λ (m : ℕ). m + 1) (entries-long bindings names text numbers count))
          (omega (arith, N.stored.befores_long)));
    };
    reached_long = omega (arith, N.reached_long, long);
    kept = subst (Reached reached') (sym next) C.kept;
  }

  pub named-next : (r : ℕ) → r ≡ length (candidate base n) → r ≤ 281 → Named bindings names text count b r numbers numbers'
  named-next r q l = record {
    stores = ap (set numbers (count + 1)) C.number;
    counted = q ∙ ap (λ (m : ℕ). length (candidate base m)) C.number;
    short = l;
  }
