-- A row that is appended where there is room is its four words, stored one after the other. Assumes nothing.
use mathlib.Core.Path.{◌≡◌, refl, sym, ap, ◌∙◌}
use mathlib.Core.List.{List, [], ◌∷◌}
use Prim.Native.Nat.{ℕ, ◌+◌, ◌*◌, ◌≤◌}
use native.Mathlib.Omega.{arith}
use lib.ListN.{length}
use lib.Seq.{sets}
use Rattle.names.specs.Bytes.{le32, bytes_of}
use Rattle.names.proofs.Storing.{two, runs}
use Rattle.output.specs.Output.{put}
use Rattle.output.proofs.Writing.{put_in}

four : (o p q r s : List ℕ) (i a b c d : ℕ) → p ≡ sets o i (le32 a) → q ≡ sets p (i + 4) (le32 b) → r ≡ sets q (i + 8) (le32 c) → s ≡ sets r (i + 12) (le32 d)
    → s ≡ sets o i (bytes_of (a ∷ b ∷ c ∷ d ∷ []))
four o p q r s i a b c d e f g h =
    let m : i + 8 + 4 ≡ i + 12 = omega arith in
    let x = two o p q i a b e f in
    two q r s (i + 8) c d g (rw m h)
    ∙ ap (λ (l : List ℕ). sets l (i + 8) (bytes_of (c ∷ d ∷ []))) x
    ∙ sym (runs (a ∷ b ∷ []) (c ∷ d ∷ []) o i (i + 8) (omega arith))

pub appended : (o : List ℕ) (n k a m e : ℕ) → 16 * n + 16 ≤ length o → put o n k a m e ≡ sets o (16 * n) (bytes_of (k ∷ a ∷ m ∷ e ∷ []))
appended o n k a m e h =
    let same : n * 16 ≡ 16 * n = omega arith in
    put_in o n k a m e (omega arith)
    ∙ four o _ _ _ _ (n * 16) k a m e refl refl refl refl
    ∙ ap (λ (i : ℕ). sets o i (bytes_of (k ∷ a ∷ m ∷ e ∷ []))) same
