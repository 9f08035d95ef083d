-- The first rows below a row, by the words of the table. Assumes nothing.
use Prim.Native.Nat.{ℕ, ◌+◌, ◌≤◌, ◌<◌}
use mathlib.Core.Path.{◌≡◌, sym, subst, ap, ◌∙◌}
use mathlib.Core.Bool.{Bool, true, false, ◌&&◌, ◌||◌}
use mathlib.Core.List.{List}
use native.Mathlib.Omega.{arith}
use lib.Dec.{eqb}
use Rattle.std.specs.Prelude.{Option, Some, None, MatchOption}
use Rattle.grammar.specs.Kinds.{Call, Super, Member, Computed}
use Rattle.names.specs.Words.{words, kind_at, attr_at, name_at, end_at}
use Rattle.forest.specs.Forest.{Rows, Rows.none, Rows.node, rows_at}
use Rattle.forest.proofs.Walking.{rows_none, rows_step, inner}
use Rattle.steps.specs.Super.{first_super, first_access, first_name, first_inside}
use Rattle.steps.specs.AfterSuper.{super_call}
use Rattle.below.specs.declared.Node.{Node}
use Rattle.below.specs.Below.{At, children, property_of}
use Rattle.below.specs.First.{FirstIs, FirstOf}

-- row i ends right after itself: it has no children
pub childless : (ws : List ℕ) (i e : ℕ) → e ≡ end_at ws i → e ≤ i + 1 → children ws i ≡ none
childless ws i e q h = rows_none ws (i + 1) (end_at ws i) (subst (λ (x : ℕ). x ≤ i + 1) q h)

-- row i has a child: the next row is one of the rows
pub next : (rows : List ℕ) (n i e : ℕ) → At rows n i → e ≡ end_at (words rows) i → i + 1 < e → At rows n (i + 1)
next rows n i e at q h = record {
  bytes = at.bytes;
  few = at.few;
  nested = at.nested;
  row = let up = at.nested.inside i at.row in omega arith;
}

-- its children are that row, with its own below it, and the rows after it
pub parent : (rows : List ℕ) (n i e : ℕ) → At rows n i → e ≡ end_at (words rows) i → i + 1 < e
    → children (words rows) i ≡ node (kind_at (words rows) (i + 1)) (attr_at (words rows) (i + 1)) (name_at (words rows) (i + 1)) (children (words rows) (i + 1)) (rows_at (words rows) (end_at (words rows) (i + 1)) (end_at (words rows) i))
parent rows n i e at q h = rows_step (words rows) n at.nested (i + 1) (end_at (words rows) i) (inner (words rows) n at.nested i at.row) (subst (λ (x : ℕ). i + 1 < x) q h)

-- what is said of the first of some rows, by the first child that was read
module _ {rows : List ℕ} {i : ℕ} {child : Node} (f : FirstIs rows i child) where
  abbrev kind : ℕ
  kind = kind_at (words child.rows.now) child.at

  abbrev own : Rows
  own = children (words child.rows.now) child.at

  pub super_first : eqb kind Super ≡ first_super (children (words rows) i)
  unfolding first_super
  super_first = rw (f.same, f.first)

  pub access_first : (eqb kind Member || eqb kind Computed) && first_super own ≡ first_access (children (words rows) i)
  unfolding first_access
  access_first = rw (f.same, f.first)

  pub call_first : eqb kind Call && first_super own ≡ super_call (children (words rows) i)
  unfolding super_call
  call_first = rw (f.same, f.first)

  pub name_first : name_at (words child.rows.now) child.at ≡ first_name (children (words rows) i)
  unfolding first_name
  name_first = rw (f.same, f.first)

  pub inside_first : own ≡ first_inside (children (words rows) i)
  unfolding first_inside
  inside_first = rw (f.same, f.first)

  -- its property, by whether it is `super.p` or `super[k]`
  module _ {access : Bool} (p : access ≡ ((eqb kind Member || eqb kind Computed) && first_super own)) where
    pub property_yes : {x : ℕ} → access ≡ true → x ≡ name_at (words child.rows.now) child.at → Some x ≡ property_of (children (words rows) i)
    property_yes t q = rw (sym (p ∙ access_first) ∙ t) (ap Some (q ∙ name_first))

    pub property_no : access ≡ false → None ≡ property_of (children (words rows) i)
    property_no t = rw (sym (p ∙ access_first) ∙ t)

-- where there is no first child
pub property_none : (rows : List ℕ) (i : ℕ) {answer : Option Node} → answer ≡ None → FirstOf rows i answer → None ≡ property_of (children (words rows) i)
unfolding first_access
property_none rows i q h = let e : children (words rows) i ≡ none = subst (FirstOf rows i) q h in rw e

-- what is asked of the first child: no where there is none
pub super_of : (rows : List ℕ) (i : ℕ) (answer : Option Node) {r : Bool} → FirstOf rows i answer
    → MatchOption answer (r ≡ false) (λ child. r ≡ eqb (kind_at (words child.rows.now) child.at) Super) → r ≡ first_super (children (words rows) i)
unfolding first_super
super_of rows i None h q = rw h q
super_of rows i (Some child) f q = q ∙ super_first f

pub call_of : (rows : List ℕ) (i : ℕ) (answer : Option Node) {r : Bool} → FirstOf rows i answer
    → MatchOption answer (r ≡ false) (λ child. r ≡ (eqb (kind_at (words child.rows.now) child.at) Call && first_super (children (words child.rows.now) child.at)))
    → r ≡ super_call (children (words rows) i)
unfolding super_call
call_of rows i None h q = rw h q
call_of rows i (Some child) f q = q ∙ call_first f

-- a name of it, or 0
pub name_of : (rows : List ℕ) (i : ℕ) (answer : Option Node) {r : ℕ} → FirstOf rows i answer
    → MatchOption answer (r ≡ 0) (λ child. (r ≡ name_at (words child.rows.now) child.at) × (r < 4294967296))
    → (r ≡ first_name (children (words rows) i)) × (r < 4294967296)
unfolding first_name
name_of rows i None h q = (rw h q, omega arith)
name_of rows i (Some child) f q = (q.0 ∙ name_first f, q.1)

pub deep_of : (rows : List ℕ) (i : ℕ) (answer : Option Node) {r : ℕ} → FirstOf rows i answer
    → MatchOption answer (r ≡ 0) (λ child. (r ≡ first_name (children (words child.rows.now) child.at)) × (r < 4294967296))
    → (r ≡ first_name (first_inside (children (words rows) i))) × (r < 4294967296)
unfolding first_name first_inside
deep_of rows i None h q = (rw h q, omega arith)
deep_of rows i (Some child) f q = (q.0 ∙ ap first_name (inside_first f), q.1)
