-- Kinds as the code has them, and the words of rows that they are made of. Assumes nothing.
use mathlib.Core.Path.{◌≡◌, refl, sym, ap, ◌∙◌}
use mathlib.Core.Bool.{Bool, true, false, cond, false≢true}
use Prim.Native.Nat.{ℕ}
use borrow.Author.Tests.{ne_eqb}
use denote.Enum.Declared.{tag_of}
use denote.Enum.Bare.{sameb, false_same}
use lib.Dec.{eqb}
use Rattle.grammar.specs.Codes.{kind_number, listed}
use Rattle.grammar.specs.Grammar.{kind_ok}
use Rattle.grammar.specs.contracts.kind.Kind.{the_type}
use Rattle.grammar.specs.declared.kind.Kind.{Kind}
use Rattle.grammar.specs.declared.kind.Kind.TheVariants as kinds

-- a word that is no kind of the list is none of them
unlisted : (k n : ℕ) → kind_ok k ≡ false → kind_ok n ≡ true → k ≡ n → ⊥
unlisted k n e f p = false≢true (sym e ∙ ap kind_ok p ∙ f)

-- so a test for a kind of the list says the same of what a row's word says as of the word
pub test_listed : (k n : ℕ) → kind_ok n ≡ true → eqb (listed k) n ≡ eqb k n
test_listed k n f = go (kind_ok k) refl
  where
    go : (b : Bool) → kind_ok k ≡ b → eqb (cond b k 7) n ≡ eqb k n
    go true q = refl
    go false q = ne_eqb 7 n (unlisted 7 n refl f) ∙ sym (ne_eqb k n (unlisted k n q f))

-- the number of `r as u32`
pub kind_tag : (r : Kind) → tag_of the_type r ≡ kind_number r
kind_tag kinds.Program = refl
kind_tag kinds.ExprStmt = refl
kind_tag kinds.Var = refl
kind_tag kinds.Declarator = refl
kind_tag kinds.Return = refl
kind_tag kinds.Block = refl
kind_tag kinds.Other = refl
kind_tag kinds.Unlisted = refl
kind_tag kinds.Opaque = refl
kind_tag kinds.This = refl
kind_tag kinds.Super = refl
kind_tag kinds.Ident = refl
kind_tag kinds.Member = refl
kind_tag kinds.Computed = refl
kind_tag kinds.Call = refl
kind_tag kinds.Assign = refl
kind_tag kinds.Arrow = refl
kind_tag kinds.Function = refl
kind_tag kinds.Params = refl
kind_tag kinds.Body = refl
kind_tag kinds.Class = refl
kind_tag kinds.Method = refl
kind_tag kinds.Field = refl
kind_tag kinds.StaticBlock = refl
kind_tag kinds.Object = refl
kind_tag kinds.Property = refl
kind_tag kinds.Sequence = refl
kind_tag kinds.Arguments = refl
kind_tag kinds.Target = refl

-- what `r == x` says of kinds
pub same_number : (r x : Kind) → sameb the_type r x ≡ eqb (kind_number r) (kind_number x)
same_number r x = rw (kind_tag r, kind_tag x)

-- .. where r is made of the word k,
pub same_kind : (k : ℕ) (r x : Kind) → kind_number r ≡ listed k → kind_ok (kind_number x) ≡ true → sameb the_type r x ≡ eqb k (kind_number x)
same_kind k r x h f = same_number r x ∙ ap (λ (n : ℕ). eqb n (kind_number x)) h ∙ test_listed k (kind_number x) f

-- what the arm of x says of that word,
pub is_kind : (k : ℕ) (r x : Kind) → kind_number r ≡ listed k → kind_ok (kind_number x) ≡ true → r ≡ x → k ≡ kind_number x
is_kind k r x h f p = go (kind_ok k) refl
  where
    go : (b : Bool) → kind_ok k ≡ b → k ≡ kind_number x
    go true q = sym (rw q at h) ∙ ap kind_number p
    go false q = absurd (unlisted 7 (kind_number x) refl f (sym (rw q at h) ∙ ap kind_number p))

-- and what the arms after x say
pub not_kind : (k : ℕ) (r x : Kind) → kind_number r ≡ listed k → kind_ok (kind_number x) ≡ true → (r ≡ x → ⊥) → eqb k (kind_number x) ≡ false
not_kind k r x h f p = sym (same_kind k r x h f) ∙ false_same the_type tt r x p
