-- `base_text::spell::spell` meets its contract. Assumes nothing.
use mathlib.Core.Path.{◌≡◌, ◌∙◌}
use mathlib.Core.Bool.{true}
use Prim.Native.Nat.{ℕ, ◌≤◌, ◌<◌, ◌-◌, ◌+◌}
use mathlib.Core.List.{List}
use native.Mathlib.Omega.{arith}
use borrow.Author.Tests.{ne_eqb}
use lib.ListN.{length, take, drop}
use Rattle.std.specs.Prelude.{Some}
use Rattle.names.specs.Names.{bytes_of, start_of, length_of}
use Rattle.uses.specs.Uses.{use_number}
use Rattle.base_text.specs.Bases.{property_ok}
use Rattle.base_text.proofs.Short.{base_short, Good, good-bytes}
use Rattle.base_text.proofs.Checking.{NameAt, name-at}
use Rattle.names.specs.Names.{GoodName}
use Rattle.names.proofs.GoodNames.{good-name}
use borrow.Author.Rules.{rules}
use Rattle.base_text.proofs.Pieces.{cut}
use Rattle.base_text.proofs.Telling.{bare, named}
use Rattle.base_text.proofs.spell.spell.Goals as goal

-- the bytes of name k, cut from the text
part : (names text : List ℕ) (k start n : ℕ) → 0 < k → start ≡ start_of names k → n ≡ length_of names k → take (start + n - start) (drop start text) ≡ bytes_of names text k
unfolding bytes_of
part names text k start n some p q = let z : k ≡ 0 → ⊥ = λ e. omega arith in cut start n text ∙ rw (ne_eqb k 0 z, p, q)

pub write-requires : goal.write-requires
write-requires c = let l : length c.base_of-base.result.now ≤ 13 = rw c.base_of-base.ensures (base_short (use_number c.args.binding.usage)) in omega arith

pub slice_bounds-spell_property-end : goal.slice_bounds-spell_property-end
slice_bounds-spell_property-end c =
    let a = c.args in
    let k = c.in-Some.k in
    let e : property_ok a.names.now a.text.now (Some k) ≡ true = rw c.in-Some.is at c.requires.1 in
    let n : NameAt a.names.now a.text.now k = name-at a.names.now a.text.now k e in
    let g : GoodName a.names.now a.text.now k = good-name a.names.now a.text.now k n.good in
    let h : c.pair_at-start.result.0 + c.pair_at-start.result.1 ≤ length a.text.now = rw (c.pair_at-start.ensures.start.0, c.pair_at-start.ensures.len.0) g.within in
    search rules

pub spell_property-requires : goal.spell_property-requires
spell_property-requires c =
    let a = c.args in
    let k = c.in-Some.k in
    let e : property_ok a.names.now a.text.now (Some k) ≡ true = rw c.in-Some.is at c.requires.1 in
    let g : Good (bytes_of a.names.now a.text.now k) = good-bytes a.names.now a.text.now k (name-at a.names.now a.text.now k e) in
    let q = part a.names.now a.text.now k _ _ (name-at a.names.now a.text.now k e).some c.pair_at-start.ensures.start.0 c.pair_at-start.ensures.len.0 in
    (rw c.base_of-base.ensures (base_short (use_number a.binding.usage)), rw q g.some, rw q g.few)

pub returns-in_default : goal.returns-in_default
returns-in_default c = bare _ _ _ _ _ _ _ _ c.in_default.is (rw c.base_of-base.ensures at c.write.ensures)

pub returns : goal.returns
returns c =
    let a = c.args in
    let k = c.in-Some.k in
    let e : property_ok a.names.now a.text.now (Some k) ≡ true = rw c.in-Some.is at c.requires.1 in
    let q = part a.names.now a.text.now k _ _ (name-at a.names.now a.text.now k e).some c.pair_at-start.ensures.start.0 c.pair_at-start.ensures.len.0 in
    named _ _ _ _ _ _ k _ _ c.in-Some.is (rw (q, c.base_of-base.ensures) at c.spell_property.ensures)
