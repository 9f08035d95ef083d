-- `rows::check` meets its contract. Assumes nothing.
use Prim.Native.Nat.{ℕ}
use mathlib.Core.Bool.{Bool, true}
use mathlib.Core.List.{List}
use mathlib.Core.Path.{◌≡◌, refl, sym, ap, ◌∙◌}
use lib.ListN.{length}
use Rattle.rows.specs.Sound.{GoodSizes}
use Rattle.rows.specs.Refusals.{sizes_ok, limited}
use Rattle.rows.proofs.Ordering.{SizesOk, is-checked, is_malformed, good-sizes, deep-at, ends-within}
use Rattle.rows.proofs.check.Goals as goal

-- what the test of the sizes says, of the rows' limit in force
module _ (row_limit : ℕ) (rows names text : List ℕ) {most : ℕ} {b : Bool} (e : most ≡ limited row_limit) (s : b ≡ sizes_ok most (length rows) (length names) (length text)) where
  sized : SizesOk row_limit 0 rows names text b
  sized = ap (λ (x : ℕ). sizes_ok x (length rows) (length names) (length text)) (sym e) ∙ sym s

  good : b ≡ true → GoodSizes row_limit rows names text
  good h = good-sizes row_limit 0 rows names text (sized ∙ h)

pub returns-then-not-sizes_ok : goal.returns-then-not-sizes_ok
returns-then-not-sizes_ok c =
    let a = c.args in
    is_malformed _ a.limits.depth _ _ _ (sized a.limits.rows a.rows.now a.names.now a.text.now c.capped-most.ensures.0 c.sizes_ok.ensures ∙ c.if-not-sizes_ok.true)

pub returns-in-Some : goal.returns-in-Some
returns-in-Some c =
    let a = c.args in
    let sizes = sized a.limits.rows a.rows.now a.names.now a.text.now c.capped-most.ensures.0 c.sizes_ok.ensures ∙ c.if-not-sizes_ok.false in
    is-checked _ _ _ _ _ _ _ _ _ sizes (sym c.first_bad_name.ensures ∙ c.in-Some.is) refl refl refl

pub returns-in-Some-first_fault : goal.returns-in-Some-first_fault
returns-in-Some-first_fault c =
    let a = c.args in
    let sizes = sized a.limits.rows a.rows.now a.names.now a.text.now c.capped-most.ensures.0 c.sizes_ok.ensures ∙ c.if-not-sizes_ok.false in
    let named = sym c.first_bad_name.ensures ∙ c.in_default.is in
    is-checked _ _ _ _ _ _ _ _ _ sizes named (sym c.first_fault.ensures ∙ c.in-Some-first_fault.is) refl refl

pub first_deep-requires : goal.first_deep-requires
first_deep-requires c =
    let a = c.args in
    let g = good a.limits.rows a.rows.now a.names.now a.text.now c.capped-most.ensures.0 c.sizes_ok.ensures c.if-not-sizes_ok.false in
    ends-within _ _ _ g.some (sym c.first_fault.ensures ∙ c.in_default-first_fault.is)

pub returns-in-Some-first_deep : goal.returns-in-Some-first_deep
returns-in-Some-first_deep c =
    let a = c.args in
    let sizes = sized a.limits.rows a.rows.now a.names.now a.text.now c.capped-most.ensures.0 c.sizes_ok.ensures ∙ c.if-not-sizes_ok.false in
    let named = sym c.first_bad_name.ensures ∙ c.in_default.is in
    let fine = sym c.first_fault.ensures ∙ c.in_default-first_fault.is in
    let deep = sym (deep-at _ _ _ _ c.capped-deepest.ensures.0 c.first_deep.ensures) ∙ c.in-Some-first_deep.is in
    is-checked _ _ _ _ _ _ _ _ _ sizes named fine deep refl

pub returns-in-Some-first_made : goal.returns-in-Some-first_made
returns-in-Some-first_made c =
    let a = c.args in
    let sizes = sized a.limits.rows a.rows.now a.names.now a.text.now c.capped-most.ensures.0 c.sizes_ok.ensures ∙ c.if-not-sizes_ok.false in
    let named = sym c.first_bad_name.ensures ∙ c.in_default.is in
    let fine = sym c.first_fault.ensures ∙ c.in_default-first_fault.is in
    let deep = sym (deep-at _ _ _ _ c.capped-deepest.ensures.0 c.first_deep.ensures) ∙ c.in_default-first_deep.is in
    is-checked _ _ _ _ _ _ _ _ _ sizes named fine deep (sym c.first_made.ensures ∙ c.in-Some-first_made.is)

pub returns : goal.returns
returns c =
    let a = c.args in
    let sizes = sized a.limits.rows a.rows.now a.names.now a.text.now c.capped-most.ensures.0 c.sizes_ok.ensures ∙ c.if-not-sizes_ok.false in
    let named = sym c.first_bad_name.ensures ∙ c.in_default.is in
    let fine = sym c.first_fault.ensures ∙ c.in_default-first_fault.is in
    let deep = sym (deep-at _ _ _ _ c.capped-deepest.ensures.0 c.first_deep.ensures) ∙ c.in_default-first_deep.is in
    is-checked _ _ _ _ _ _ _ _ _ sizes named fine deep (sym c.first_made.ensures ∙ c.in_default-first_made.is)
