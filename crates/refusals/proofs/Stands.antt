-- Refusal 6: what rows are told, by numbers, and the first Super that its owner does not allow. Assumes nothing.
use mathlib.Core.Path.{◌≡◌, refl, ap, sym, ◌∙◌}
use mathlib.Core.List.{List}
use Prim.Native.Nat.{ℕ, ◌+◌, ◌*◌, ◌%◌, ◌≤◌}
use mathlib.Core.Bool.{Bool, true, false, cond, not, ◌&&◌, ◌||◌}
use lib.Dec.{eqb}
use lib.ListN.{get_or, replicate, length-replicate}
use native.Mathlib.Omega.{arith}
use borrow.Author.Tests.{ne_eqb}
use denote.Enum.Declared.{tag_of}
use mir.Val.{bool_byte as from_bool}
use Rattle.grammar.specs.Kinds.{Program, Call, Function, Field, Method, Property, StaticBlock}
use Rattle.grammar.specs.Codes.{listed}
use Rattle.grammar.proofs.Listed.{test_listed}
use Rattle.names.specs.Words.{words, kind_at, attr_at}
use Rattle.forest.specs.Told.{told_by, first_then}
use Rattle.names.specs.First.{first}
use Rattle.names.proofs.Zeros.{zeros}
use Rattle.forest.specs.Forest.{rows_at}
use Rattle.rows.proofs.Soundness.{words_long}
use Rattle.forest.proofs.Telling.{told-zero}
use Rattle.steps.specs.Mode.{bit}
use Rattle.steps.specs.Refusals.{Keeper, Keeper.plain, Keeper.builder, Keeper.method, Keeper.member, method_holder, seek, sixes, outer}
use Rattle.steps.proofs.Told.{tells, by-told, seek_as}
use Rattle.refusals.specs.Given.{GivenRows, Clear}
use Rattle.refusals.specs.contracts.standing.Sort.{the_type}
use Rattle.refusals.specs.declared.standing.Sort.{Sort}
use Rattle.refusals.specs.declared.standing.Sort.TheVariants.{Plain, Builder, MethodLike, Member}
use Rattle.refusals.specs.Standing.{keeper_of, keeper_no, keeper_at, stand_no, stand_at, owner_for, stand_for, stand_told, super_bad}

-- a Stand's number stands for it
back : (o : Keeper) (m c : Bool) → stand_at (stand_no (record { owner = o; of_method = m; called = c })) ≡ record { owner = o; of_method = m; called = c }
unfolding stand_at stand_no keeper_no keeper_at bit
back plain true true = refl
back plain true false = refl
back plain false true = refl
back plain false false = refl
back builder true true = refl
back builder true false = refl
back builder false true = refl
back builder false false = refl
back method true true = refl
back method true false = refl
back method false true = refl
back method false false = refl
back member true true = refl
back member true false = refl
back member false true = refl
back member false false = refl

-- P: Program, F: Function, S: StaticBlock, L: Field, B: it has a key, A: a constructor, M: method-like
owner_cases : (first P F S L B A M : Bool) (o : Keeper) →
    cond first (cond P plain (cond F (cond A builder (cond M method plain)) (cond S member (cond L (cond B o member) o)))) (cond P plain (cond F (cond A builder (cond M method plain)) (cond (S || L) member o)))
    ≡ cond P plain (cond F (cond A builder (cond M method plain)) (cond S member (cond (L && not (first && B)) member o)))
owner_cases true true F S L B A M o = refl
owner_cases true false true S L B A M o = refl
owner_cases true false false true L B A M o = refl
owner_cases true false false false true true A M o = refl
owner_cases true false false false true false A M o = refl
owner_cases true false false false false B A M o = refl
owner_cases false true F S L B A M o = refl
owner_cases false false true S L B A M o = refl
owner_cases false false false true L B A M o = refl
owner_cases false false false false true B A M o = refl
owner_cases false false false false false B A M o = refl

-- the owner as the code finds it
pub owner_is : (first : Bool) (v k a : ℕ) →
    owner_for first v k a ≡ keeper_no (cond (eqb k Program) plain
    (cond (eqb k Function) (cond (bit 4 a) builder (cond (bit 4 v) method plain))
    (cond (eqb k StaticBlock) member (cond (eqb k Field && not (first && bit 1 a)) member (keeper_at (v % 4))))))
unfolding owner_for stand_at
owner_is first v k a = ap keeper_no (owner_cases first (eqb k Program) (eqb k Function) (eqb k StaticBlock) (eqb k Field) (bit 1 a) (bit 4 a) (bit 4 v) (keeper_at (v % 4)))

-- a row's word may be none of the list
pub owner_listed : (first : Bool) (v k a : ℕ) → owner_for first v (listed k) a ≡ owner_for first v k a
owner_listed first v k a =
    owner_is first v (listed k) a ∙ rw (test_listed k Program refl, test_listed k Function refl, test_listed k StaticBlock refl, test_listed k Field refl) (sym (owner_is first v k a))

pub holder_listed : (k a : ℕ) → method_holder (listed k) a ≡ method_holder k a
holder_listed k a = rw (test_listed k Method refl, test_listed k Property refl)

and-true : (x : Bool) → x ≡ (x && true)
and-true true = refl
and-true false = refl

bits : (o : ℕ) (m c : Bool) → o + cond m 4 0 + cond c 8 0 ≡ o + 4 * from_bool m + 8 * from_bool c
bits o true true = refl
bits o true false = refl
bits o false true = refl
bits o false false = refl

-- a sort's number is the one that the code gives it
tag_is : (o : Sort) → tag_of the_type o ≡ keeper_no (keeper_of o)
unfolding keeper_no
tag_is Plain = refl
tag_is Builder = refl
tag_is MethodLike = refl
tag_is Member = refl

stand-cases : (first : Bool) (v k a : ℕ) → stand_for first v k a ≡ owner_for first v k a + cond (method_holder k a && not (first && bit 1 a)) 4 0 + cond (first && eqb k Call) 8 0
unfolding stand_for stand_no owner_for sixes
stand-cases true v k a = refl
stand-cases false v k a = ap (λ (x : Bool). owner_for false v k a + cond x 4 0 + 0) (and-true (method_holder k a))

-- what is told as the code finds it
pub stand_is : (first : Bool) (v k a : ℕ) (o : Sort) → keeper_no (keeper_of o) ≡ owner_for first v k a
    → tag_of the_type o + 4 * from_bool (method_holder k a && not (first && bit 1 a)) + 8 * from_bool (first && eqb k Call) ≡ stand_for first v k a
stand_is first v k a o q = rw (tag_is o, q) (sym (stand-cases first v k a ∙ bits _ _ _))

steady : (v k a pos : ℕ) → stand_told v k a (pos + 1) ≡ stand_told v k a 1
steady v k a pos = rw (ne_eqb (pos + 1) 0 (λ e. omega arith))

-- what row p, which was told v, tells its child at position pos
abbrev pub told_from : List ℕ → ℕ → ℕ → ℕ → ℕ → ℕ
told_from ws v p pos c = stand_told v (kind_at ws p) (attr_at ws p) pos

-- what row j is told
abbrev pub stand_of : List ℕ → ℕ → ℕ
stand_of ws j = told_by ws (told_from ws) 0 j j

-- an array of m zeros serves n rows, n at most m
pub clear : (m n : ℕ) → n ≤ m → Clear (replicate m 0) n
clear m n h = record { room = omega (arith, length-replicate {A = ℕ} m 0); zeros = zeros m }

-- it holds what rows have been told before row 0 is met
pub clear_told : (ws R : List ℕ) (n : ℕ) → Clear R n → (j : ℕ) → get_or R j 0 ≡ told_by ws (told_from ws) 0 0 j
clear_told ws R n c j = c.zeros j ∙ told-zero ws (told_from ws) 0 j

-- the test of row i, of the words and the array that the code read
pub bad-same : (ws R : List ℕ) (i k : ℕ) (r : Bool) → ((j : ℕ) → get_or R j 0 ≡ told_by ws (told_from ws) 0 i j) → k ≡ kind_at ws i → r ≡ super_bad (get_or R i 0) k → super_bad (stand_of ws i) (kind_at ws i) ≡ r
bad-same ws R i k r h qk q = sym (q ∙ ap (λ (x : ℕ). super_bad x k) (h i) ∙ ap (super_bad (stand_of ws i)) qk)

-- what the code tells the children of row i
pub says : (ws : List ℕ) (v i k a one more : ℕ) → k ≡ kind_at ws i → a ≡ attr_at ws i → one ≡ stand_for true v k a → more ≡ stand_for false v k a → told_from ws v i ≡ first_then one more
says ws v i k a one more qk qa q₁ q₂ =
    sym (ap (λ (x : ℕ). first_then x more) q₁
    ∙ ap (first_then (stand_for true v k a)) q₂
    ∙ ap (λ (x : ℕ). first_then (stand_for true v x a) (stand_for false v x a)) qk
    ∙ ap (λ (x : ℕ). first_then (stand_for true v (kind_at ws i) x) (stand_for false v (kind_at ws i) x)) qa)

abbrev bad : ℕ → ℕ → ℕ → ℕ → Bool
bad v k a n = super_bad v k

-- the first Super of the rows whose owner does not allow it is the forest's
pub six_rows : (rows : List ℕ) (n : ℕ) → GivenRows rows n →
    first (λ j. super_bad (stand_of (words rows) j) (kind_at (words rows) j)) n 0 ≡ seek sixes outer outer 0 (rows_at (words rows) 0 n)
unfolding stand_at keeper_at bit super_bad stand_for
six_rows rows n g =
    by-told stand_told bad steady (words rows) n 0 g.nested g.some g.ends (words_long rows (4 * n) (omega (arith, g.bytes))) g.same
    ∙ sym (seek_as sixes (tells stand_told bad steady) stand_at
    (λ v k a n i. unfold sixes in refl)
    (λ v k a. unfold sixes in back _ _ _)
    (λ v k a. unfold sixes in back _ _ _)
    0 0 0 (rows_at (words rows) 0 n))
