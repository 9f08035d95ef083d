-- What 1 and 4 leave of names and text. Assumes nothing.
use mathlib.Core.Path.{◌≡◌}
use mathlib.Core.Bool.{false, true, ◌&&◌, ◌||◌}
use mathlib.Core.List.{List}
use Prim.Native.Nat.{ℕ, ◌+◌, ◌%◌, ◌≤◌}
use native.Mathlib.Omega.{arith}
use borrow.Author.Tests.{eqb-true, leb-true, ltb-false, le-ltb, eqb-false, ne_eqb, not-false}
use lib.Dec.{eqb, ltb, leb}
use lib.ListN.{length}
use Rattle.names.specs.Names.{start_of, length_of, names_fit, bad_name, GoodName}
use Rattle.names.proofs.Bools.{and_left, and_right, or_left, or_right}

-- what 1 leaves of names and text, of so many bytes
pub record NameSizes (names text : ℕ) : Type 0 where
  pub whole : names % 8 ≡ 0
  pub few : names ≤ 32768
  pub short : text ≤ 65535

pub name-sizes : (names text : ℕ) → names_fit names text ≡ true → NameSizes names text
name-sizes names text h =
    let h2 = and_left (eqb (names % 8) 0 && leb names 32768) _ h in
    record {
      whole = eqb-true _ _ (and_left (eqb (names % 8) 0) _ h2);
      few = leb-true _ _ (and_right (eqb (names % 8) 0) _ h2);
      short = leb-true _ _ (and_right (eqb (names % 8) 0 && leb names 32768) _ h);
    }

pub good-name : (names text : List ℕ) (k : ℕ) → bad_name names text k ≡ false → GoodName names text k
unfolding bad_name
good-name names text k h =
    let s = start_of names k in
    let l = length_of names k in
    let h2 = or_left (ltb (length text) (s + l) || (eqb l 0 || ltb 255 l)) _ h in
    let h1 = or_right (ltb (length text) (s + l)) (eqb l 0 || ltb 255 l) h2 in
    let zero-not = eqb-false l 0 (or_left (eqb l 0) _ h1) in
    record {
      within = ltb-false _ _ (or_left (ltb (length text) (s + l)) _ h2);
      some = omega arith;
      short = ltb-false _ _ (or_right (eqb l 0) _ h1);
      spelled = not-false _ (or_right (ltb (length text) (s + l) || (eqb l 0 || ltb 255 l)) _ h);
    }

pub name-good : (names text : List ℕ) (k : ℕ) → GoodName names text k → bad_name names text k ≡ false
unfolding bad_name
name-good names text k g =
    let a = g.some in
    rw (le-ltb (length text) (start_of names k + length_of names k) g.within, ne_eqb (length_of names k) 0 (λ q. omega arith), le-ltb 255 (length_of names k) g.short, g.spelled)
