-- Refusal 7's test of a Field, over the forest and over the words. Assumes nothing.
use mathlib.Core.Path.{◌≡◌, refl, ap, sym, ◌∙◌}
use mathlib.Core.List.{List, [], ◌∷◌, ◌++◌, append_assoc}
use Prim.Native.Nat.{ℕ, zero, suc, ◌+◌, ◌*◌, ◌-◌}
use mathlib.Core.Bool.{Bool, true, false, cond, ◌&&◌, ◌||◌, or-false}
use lib.Dec.{eqb, ltb}
use lib.ListN.{length, get_or, drop}
use lib.Seq.{drop_at}
use native.Mathlib.Omega.{arith}
use native.Mathlib.Nat.{add-zero}
use borrow.Author.Tests.{lt-ltb, le-ltb}
use Rattle.grammar.specs.Kinds.{Super, Arrow, Field}
use Rattle.forest.specs.Forest.{Rows, Rows.none, Rows.node, size, flat}
use Rattle.forest.proofs.Accepting.{length-flat}
use Rattle.steps.specs.Mode.{bit}
use Rattle.steps.specs.Refusals.{holds, past_first, value_of}

-- one of the m rows whose words come first is a Super, or with b an Arrow
unfoldable pub any_of : Bool → ℕ → List ℕ → Bool
any_of b zero ws = false
any_of b (suc m) [] = false
any_of b (suc m) (k ∷ []) = false
any_of b (suc m) (k ∷ a ∷ []) = false
any_of b (suc m) (k ∷ a ∷ n ∷ []) = false
any_of b (suc m) (k ∷ a ∷ n ∷ e ∷ ws) = eqb k Super || b && eqb k Arrow || any_of b m ws

or-three : (x y z w : Bool) → (x || (y || (z || w))) ≡ (x || y || z || w)
or-three true y z w = refl
or-three false true z w = refl
or-three false false z w = refl

any_flat : (b : Bool) (o : ℕ) (r : Rows) (m : ℕ) (ws : List ℕ) → any_of b (size r + m) (flat o r ++ ws) ≡ (holds b r || any_of b m ws)
unfolding any_of holds flat size
any_flat b o none m ws = let e : 0 + m ≡ m = omega arith in ap (λ (x : ℕ). any_of b x ws) e
any_flat b o (node k a n i s) m ws =
    let e : 1 + size i + size s + m ≡ suc (size i + (size s + m)) = omega arith in
    rw (e, append_assoc (flat (o + 1) i) (flat (o + 1 + size i) s) ws, any_flat b (o + 1) i (size s + m) (flat (o + 1 + size i) s ++ ws), any_flat b (o + 1 + size i) s m ws)
    (or-three (eqb k Super || b && eqb k Arrow) (holds b i) (holds b s) (any_of b m ws))

any_all : (b : Bool) (o : ℕ) (r : Rows) (m : ℕ) (ws : List ℕ) → m ≡ size r → any_of b m (flat o r ++ ws) ≡ holds b r
unfolding any_of
any_all b o r m ws q = ap (λ (x : ℕ). any_of b x (flat o r ++ ws)) (q ∙ sym (add-zero (size r))) ∙ any_flat b o r 0 ws ∙ or-false (holds b r)

-- after the key, whose end is its fourth word
unfoldable pub past_key : Bool → (o e : ℕ) → List ℕ → Bool
past_key b o e ws = cond (ltb (o + 1) e) (any_of b (e - get_or ws 3 0) (drop (4 * (get_or ws 3 0 - (o + 1))) ws)) false

-- row o is a Field that 7 names: ws are the words after its own
unfoldable pub field_bad : Bool → (o k a n e : ℕ) → List ℕ → Bool
field_bad b o k a n e ws = eqb k Field && cond (bit 4 a) (cond (bit 1 a) (past_key b o e ws) (any_of b (e - (o + 1)) ws)) false

past_same : (b : Bool) (o : ℕ) (i : Rows) (ws : List ℕ) → past_key b o (o + 1 + size i) (flat (o + 1) i ++ ws) ≡ holds b (past_first i)
unfolding past_key past_first holds size flat
past_same b o none ws = rw (le-ltb (o + 1) (o + 1 + 0) (omega arith))
past_same b o (node k a n i s) ws =
    let d : ℕ = o + 1 + 1 + size i in
    let D : List ℕ = k ∷ a ∷ n ∷ (o + 1 + 1 + size i) ∷ flat (o + 1 + 1) i in
    let l : length D ≡ 4 * (o + 1 + 1 + size i - (o + 1)) = omega (arith, length-flat (o + 1 + 1) i) in
    rw (lt-ltb (o + 1) (o + 1 + (1 + size i + size s)) (omega arith), append_assoc (flat (o + 1 + 1) i) (flat (o + 1 + 1 + size i) s) ws)
    (ap (any_of b (o + 1 + (1 + size i + size s) - d)) (drop_at D (flat d s ++ ws) (4 * (d - (o + 1))) l) ∙ any_all b d s _ ws (omega arith))

value_cases : (b : Bool) (a : ℕ) (i : Rows) (x y : Bool) → bit 4 a ≡ x → bit 1 a ≡ y → cond x (cond y (holds b (past_first i)) (holds b i)) false ≡ holds b (value_of a i)
unfolding value_of holds
value_cases b a i true true p q = rw (p, q)
value_cases b a i true false p q = rw (p, q)
value_cases b a i false y p q = rw p

pub field_same : (b : Bool) (o k a n : ℕ) (i : Rows) (ws : List ℕ) → field_bad b o k a n (o + 1 + size i) (flat (o + 1) i ++ ws) ≡ (eqb k Field && holds b (value_of a i))
unfolding field_bad
field_same b o k a n i ws =
    rw (past_same b o i ws, any_all b (o + 1) i (o + 1 + size i - (o + 1)) ws (omega arith)) (ap (λ (x : Bool). eqb k Field && x) (value_cases b a i (bit 4 a) (bit 1 a) refl refl))
