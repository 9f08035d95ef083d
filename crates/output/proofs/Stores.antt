-- Runs of bytes that are written into a list. Assumes nothing.
use mathlib.Core.Path.{◌≡◌, refl, sym, ap, ◌∙◌}
use mathlib.Core.List.{List, [], ◌∷◌, append_assoc}
use Prim.Native.Nat.{ℕ, suc, ◌+◌, ◌-◌, ◌≤◌, ◌<◌}
use native.Mathlib.Omega.{arith}
use lib.ListN.{length, set, take, drop}
use lib.Seq.{sets, sets-eq, set_comm, set-set, drop-drop}
use borrow.Rule.Slice.PartMut.{put_mid}
use Rattle.names.specs.Bytes.{le32}
use Rattle.names.proofs.Storing.{length-le32}

-- a store before a run
set-sets : (vs l : List ℕ) (i j a : ℕ) → i < j → sets (set l i a) j vs ≡ set (sets l j vs) i a
set-sets [] l i j a h = refl
set-sets (v ∷ vs) l i j a h =
    let ne : i ≡ j → ⊥ = λ e. omega arith in
    rw (set_comm l i j a v ne) (set-sets vs (set l j v) i (suc j) a (omega arith))

-- two runs apart
sets-sets : (us l : List ℕ) (i j : ℕ) (vs : List ℕ) → i + length us ≤ j → sets (sets l i us) j vs ≡ sets (sets l j vs) i us
sets-sets [] l i j vs h = refl
sets-sets (u ∷ us) l i j vs h =
    sets-sets us (set l i u) (suc i) j vs (omega arith)
    ∙ ap (λ (m : List ℕ). sets m (suc i) us) (set-sets vs l i j u (omega arith))

-- a run over a run
sets_over : (us vs l : List ℕ) (i : ℕ) → length us ≡ length vs → sets (sets l i us) i vs ≡ sets l i vs
sets_over [] [] l i h = refl
sets_over [] (v ∷ vs) l i h = absurd (omega arith)
sets_over (u ∷ us) [] l i h = absurd (omega arith)
sets_over (u ∷ us) (v ∷ vs) l i h =
    ap (λ (m : List ℕ). sets m (suc i) vs) (sym (set-sets us (set l i u) i (suc i) v (omega arith)) ∙ ap (λ (m : List ℕ). sets m (suc i) us) (set-set l i u v))
    ∙ sets_over us vs (set l i v) (suc i) (omega arith)

-- two words apart, and a word over a word
pub words-apart : (o : List ℕ) (i j x y : ℕ) → i + 4 ≤ j → sets (sets o j (le32 y)) i (le32 x) ≡ sets (sets o i (le32 x)) j (le32 y)
words-apart o i j x y h = sym (sets-sets (le32 x) o i j (le32 y) (omega (arith, length-le32 x)))

pub word_over : (o : List ℕ) (i x y : ℕ) → sets (sets o i (le32 x)) i (le32 y) ≡ sets o i (le32 y)
word_over o i x y = sets_over (le32 x) (le32 y) o i (length-le32 x ∙ sym (length-le32 y))

-- a part of a list that became the run s
pub run : (o ys s : List ℕ) (b : ℕ) → b + length s ≤ length o → ys ≡ s → put_mid b (b + length s - b) o ys ≡ sets o b s
run o ys s b h q =
    let e : b + length s - b ≡ length s = omega arith in
    rw (e, q, drop-drop (length s) b o) (sym (sets-eq s o b h ∙ append_assoc (take b o) s (drop (b + length s) o)))
