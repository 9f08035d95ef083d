-- Words stored as bytes, one after the other, and read back. Assumes nothing.
use mathlib.Core.Path.{◌≡◌, refl, sym, ap, ◌∙◌}
use mathlib.Core.List.{List, [], ◌∷◌, ◌++◌, append_assoc}
use Prim.Native.Nat.{ℕ, suc, ◌+◌, ◌-◌, ◌*◌, ◌/◌, ◌%◌, ◌≤◌, ◌<◌}
use native.Mathlib.Omega.{arith}
use lib.ListN.{length, set, take, drop, length-append}
use lib.Seq.{sets, sets-eq, take_at, drop-drop}
use borrow.Rule.Slice.PartMut.{put_mid}
use Rattle.names.specs.Words.{words}
use Rattle.names.specs.Bytes.{le32, bytes_of}

-- a word's bytes in the place of four bytes are four stores
pub four-le : (o ys : List ℕ) (b x : ℕ) → b + 4 ≤ length o → x < 4294967296
    → ys ≡ x % 256 ∷ x / 256 % 256 ∷ x / 65536 % 256 ∷ x / 16777216 % 256 ∷ [] → put_mid b (b + 4 - b) o ys ≡ sets o b (le32 x)
unfolding le32
four-le o ys b x h l q =
    let e : b + 4 - b ≡ 4 = omega arith in
    let top : x / 16777216 % 256 ≡ x / 16777216 = omega arith in
    rw (e, q, top, drop-drop 4 b o) (sym (sets-eq (le32 x) o b h ∙ append_assoc (take b o) (le32 x) (drop (b + 4) o)))

pub length-le32 : (x : ℕ) → length (le32 x) ≡ 4
unfolding le32
length-le32 x = refl

-- a run that is written in two parts
pub sets-append : (us vs l : List ℕ) (i : ℕ) → sets l i (us ++ vs) ≡ sets (sets l i us) (i + length us) vs
sets-append [] vs l i = let e : i + 0 ≡ i = omega arith in rw e
sets-append (u ∷ us) vs l i = let e : i + suc (length us) ≡ suc i + length us = omega arith in rw e (sets-append us vs (set l i u) (suc i))

-- a word, and the words after it
one : (x : ℕ) (xs o : List ℕ) (i : ℕ) → sets o i (bytes_of (x ∷ xs)) ≡ sets (sets o i (le32 x)) (i + 4) (bytes_of xs)
unfolding bytes_of
one x xs o i = sets-append (le32 x) (bytes_of xs) o i ∙ ap (λ (n : ℕ). sets (sets o i (le32 x)) (i + n) (bytes_of xs)) (length-le32 x)

-- two words
pub two : (o p q : List ℕ) (i a b : ℕ) → p ≡ sets o i (le32 a) → q ≡ sets p (i + 4) (le32 b) → q ≡ sets o i (bytes_of (a ∷ b ∷ []))
unfolding bytes_of
two o p q i a b e f =
    f ∙ ap (λ (m : List ℕ). sets m (i + 4) (le32 b)) e
    ∙ sym (one a (b ∷ []) o i ∙ one b [] (sets o i (le32 a)) (i + 4))

-- the bytes of words, and of more words
pub bytes-append : (xs ys : List ℕ) → bytes_of (xs ++ ys) ≡ bytes_of xs ++ bytes_of ys
unfolding bytes_of
bytes-append [] ys = refl
bytes-append (x ∷ xs) ys = rw (bytes-append xs ys) (sym (append_assoc (le32 x) (bytes_of xs) (bytes_of ys)))

-- four bytes for each word
pub length-bytes : (xs : List ℕ) → length (bytes_of xs) ≡ 4 * length xs
unfolding bytes_of
length-bytes [] = refl
length-bytes (x ∷ xs) = omega (arith, length-append (le32 x) (bytes_of xs), length-le32 x, length-bytes xs)

-- the bytes of words read back as those words
pub words-bytes : (ws : List ℕ) → words (bytes_of ws) ≡ ws
unfolding words bytes_of le32
words-bytes [] = refl
words-bytes (x ∷ ws) =
    let e : x % 256 + 256 * (x / 256 % 256) + 65536 * (x / 65536 % 256) + 16777216 * (x / 16777216) ≡ x = omega arith in
    rw (e, words-bytes ws)

-- and so do those that stand before other bytes
pub words_before : (ws rest : List ℕ) → words (bytes_of ws ++ rest) ≡ ws ++ words rest
unfolding words bytes_of le32
words_before [] rest = refl
words_before (x ∷ ws) rest =
    let e : x % 256 + 256 * (x / 256 % 256) + 65536 * (x / 65536 % 256) + 16777216 * (x / 16777216) ≡ x = omega arith in
    rw (e, words_before ws rest)

-- and where they stand at the front, so do the bytes there
pub front-words : (ws rest after : List ℕ) (n : ℕ) → 4 * length ws ≡ n → after ≡ bytes_of ws ++ rest → words (take n after) ≡ ws
front-words ws rest after n l q =
    ap (λ (m : List ℕ). words (take n m)) q
    ∙ ap words (take_at (bytes_of ws) rest n (length-bytes ws ∙ l))
    ∙ words-bytes ws

-- some words, and the words after them
pub runs : (xs ys o : List ℕ) (i j : ℕ) → i + 4 * length xs ≡ j → sets o i (bytes_of (xs ++ ys)) ≡ sets (sets o i (bytes_of xs)) j (bytes_of ys)
runs xs ys o i j e =
    ap (sets o i) (bytes-append xs ys)
    ∙ sets-append (bytes_of xs) (bytes_of ys) o i
    ∙ ap (λ (n : ℕ). sets (sets o i (bytes_of xs)) n (bytes_of ys)) (ap (λ (n : ℕ). i + n) (length-bytes xs) ∙ e)
