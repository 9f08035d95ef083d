-- What made names are to one another and to the names of the table, the number behind each, and that the lookup finds them. Assumes nothing.
use Prim.Native.Nat.{ℕ, zero, suc, ◌+◌, ◌*◌, ◌-◌, ◌≤◌, ◌<◌}
use mathlib.Core.Path.{◌≡◌, refl, sym, ap, ◌∙◌}
use mathlib.Core.Bool.{Bool, true, false, cond, ◌&&◌, false≢true}
use mathlib.Core.List.{List, [], ◌∷◌, ◌++◌, append_assoc, append-nil}
use native.Mathlib.Omega.{arith}
use borrow.Author.Tests.{ltb-true, leb-true, ne_eqb, lt-ltb, le-leb}
use lib.Dec.{ltb, leb}
use lib.ListN.{length, take, drop, get_or, length-append, length-take, length-drop, get_or-append}
use lib.Seq.{length-take-le, take_all, take_at, take-append-le, drop-append-le, get_or-append-add, get_or-take}
use Rattle.names.specs.Words.{words, names_in}
use Rattle.names.specs.Names.{start_of, length_of, bytes_of, same_bytes}
use Rattle.names.specs.Bytes.{bytes_of as word_bytes}
use Rattle.names.specs.Laid.{joined, pairs_from}
use Rattle.names.proofs.Bools.{and_left, and_right, and_both, or-true}
use Rattle.names.proofs.Storing.{length-bytes, words_before}
use Rattle.names.proofs.Laying.{pairs_long, laid_name, laid_part, laid_within}
use Rattle.spelling.proofs.Hashing.{same_self}
use Rattle.base_text.specs.Bindings.{records_in}
use Rattle.base_text.specs.Refusals.{base_text, unless, front_of}
use Rattle.std.specs.Prelude.{Result, Ok, Err}
use Rattle.base_text.specs.declared.Refusal.{Refusal}
use Rattle.base_text.specs.declared.Refusal.TheVariants.{NoRoom}
use Rattle.candidates.specs.Candidates.{candidate, taken, made_name, make_all}
use Rattle.candidates.specs.MadeNames.{names_from, names_of, bases_from, bases_of, made_names, taken_for, behind_of}
use Rattle.candidates.specs.Faults.{first_fault}
use Rattle.candidates.proofs.Laws.{frees, bound, at_least_one, smallest}
use Rattle.numbers.proofs.Making.{names_long}
use Rattle.lookup.specs.Parts.{lies, spells, spelling_of, part_of}
use Rattle.made_names.specs.Naming.{counts, pair_count, byte_count, fits, named, Makes}
use Rattle.made_names.specs.declared.Made.{Made}

-- What stands in a list is taken by it.
taken-has : (ts : List (List ℕ)) (k : ℕ) → k < length ts → taken ts (get_or ts k []) ≡ true
unfolding taken
taken-has [] k h = absurd (omega arith)
taken-has (t ∷ ts) zero h = rw (same_self t)
taken-has (t ∷ ts) (suc k) h = rw (taken-has ts k (omega arith)) (or-true (same_bytes t (get_or ts k [])))

-- The made names of some base texts: one for each, made with the ones before it taken, and so free.
all_count : (ts bs : List (List ℕ)) → length (make_all ts bs) ≡ length bs
unfolding make_all
all_count ts [] = refl
all_count ts (b ∷ bs) = ap suc (all_count (ts ++ (made_name ts b ∷ [])) bs)

all_at : (ts bs : List (List ℕ)) (k : ℕ) → k < length bs → get_or (make_all ts bs) k [] ≡ made_name (ts ++ take k (make_all ts bs)) (get_or bs k [])
unfolding make_all
all_at ts [] k h = absurd (omega arith)
all_at ts (b ∷ bs) zero h = ap (λ (xs : List (List ℕ)). made_name xs b) (sym (append-nil ts))
all_at ts (b ∷ bs) (suc k) h =
    all_at (ts ++ (made_name ts b ∷ [])) bs k (omega arith)
    ∙ ap (λ (xs : List (List ℕ)). made_name xs (get_or bs k [])) (append_assoc ts (made_name ts b ∷ []) (take k (make_all (ts ++ (made_name ts b ∷ [])) bs)))

module _ (ts bs : List (List ℕ)) where
  all_free : (k : ℕ) → k < length bs → taken (ts ++ take k (make_all ts bs)) (get_or (make_all ts bs) k []) ≡ false
  all_free k h =
      ap (taken (ts ++ take k (make_all ts bs))) (all_at ts bs k h)
      ∙ frees (ts ++ take k (make_all ts bs)) (get_or bs k [])

  -- neither one before it nor one that was taken is the same
  none_before : (i j : ℕ) → i < j → j < length bs → get_or (make_all ts bs) i [] ≡ get_or (make_all ts bs) j [] → ⊥
  none_before i j l h e =
      let made = make_all ts bs in
      let n : length (ts ++ take j made) ≡ length ts + j = length-append ts (take j made) ∙ ap (λ (m : ℕ). length ts + m) (length-take-le j made (omega (arith, all_count ts bs))) in
      let a : get_or (ts ++ take j made) (length ts + i) [] ≡ get_or made j [] = get_or-append-add ts (take j made) i [] ∙ get_or-take j made i [] l ∙ e in
      false≢true (sym (all_free j h) ∙ ap (taken (ts ++ take j made)) (sym a) ∙ taken-has (ts ++ take j made) (length ts + i) (omega arith))

  none-taken : (i j : ℕ) → i < length ts → j < length bs → get_or ts i [] ≡ get_or (make_all ts bs) j [] → ⊥
  none-taken i j l h e =
      let made = make_all ts bs in
      let n = length-append ts (take j made) in
      let a : get_or (ts ++ take j made) i [] ≡ get_or made j [] = get_or-append ts (take j made) [] i l ∙ e in
      false≢true (sym (all_free j h) ∙ ap (taken (ts ++ take j made)) (sym a) ∙ taken-has (ts ++ take j made) i (omega arith))

-- Names and base texts by their numbers.
names_at : (names text : List ℕ) (k n i : ℕ) → i < n → get_or (names_from names text k n) i [] ≡ bytes_of names text (k + i)
unfolding names_from
names_at names text k zero i h = absurd (omega arith)
names_at names text k (suc n) zero h = let e : k + 0 ≡ k = omega arith in rw e
names_at names text k (suc n) (suc i) h = let e : k + 1 + i ≡ k + suc i = omega arith in names_at names text (k + 1) n i (omega arith) ∙ ap (bytes_of names text) e

module _ (bindings names text : List ℕ) where
  bases-count : (b n : ℕ) → length (bases_from bindings names text b n) ≡ n
  unfolding bases_from
  bases-count b zero = refl
  bases-count b (suc n) = ap suc (bases-count (b + 1) n)

  bases-at : (b n i : ℕ) → i < n → get_or (bases_from bindings names text b n) i [] ≡ base_text (b + i) bindings names text
  unfolding bases_from
  bases-at b zero i h = absurd (omega arith)
  bases-at b (suc n) zero h = let e : b + 0 ≡ b = omega arith in rw e
  bases-at b (suc n) (suc i) h =
      let e : b + 1 + i ≡ b + suc i = omega arith in
      bases-at (b + 1) n i (omega arith) ∙ ap (λ (m : ℕ). base_text m bindings names text) e

  -- "in binding order and without gaps": one name for each binding
  pub made-count : length (made_names bindings names text) ≡ records_in bindings
  made-count = all_count (names_of names text) (bases_of bindings names text) ∙ bases-count 1 (records_in bindings)

  -- "A made name is an underscore and the base text; if that is taken, the smallest whole number from 2 up that frees it is put behind it."
  pub made_at : (b : ℕ) → 0 < b → b ≤ records_in bindings
      → get_or (made_names bindings names text) (b - 1) [] ≡ candidate (base_text b bindings names text) (behind_of bindings names text b)
  unfolding behind_of
  made_at b p h =
      let e : 1 + (b - 1) ≡ b = omega arith in
      all_at (names_of names text) (bases_of bindings names text) (b - 1) (omega (arith, bases-count 1 (records_in bindings)))
      ∙ ap (made_name (taken_for bindings names text b)) (bases-at 1 (records_in bindings) (b - 1) (omega arith) ∙ ap (λ (m : ℕ). base_text m bindings names text) e)

  -- "Taken means equal to a name of the table or to a made name with a lower number." The made name of a binding is free of these.
  pub made-free : (b : ℕ) → 0 < b → b ≤ records_in bindings → taken (taken_for bindings names text b) (get_or (made_names bindings names text) (b - 1) []) ≡ false
  made-free b p h = all_free (names_of names text) (bases_of bindings names text) (b - 1) (omega (arith, bases-count 1 (records_in bindings)))

  -- "Prove that no two bindings, .. share a spelling"
  pub no_two : (i j : ℕ) → i < j → j < records_in bindings → get_or (made_names bindings names text) i [] ≡ get_or (made_names bindings names text) j [] → ⊥
  no_two i j l h e = none_before (names_of names text) (bases_of bindings names text) i j l (omega (arith, bases-count 1 (records_in bindings))) e

  -- "and no binding and name, share a spelling"
  pub no_name : (k j : ℕ) → 0 < k → k ≤ names_in names → j < records_in bindings → bytes_of names text k ≡ get_or (made_names bindings names text) j [] → ⊥
  no_name k j p q h e =
      let z : 1 + (k - 1) ≡ k = omega arith in
      none-taken (names_of names text) (bases_of bindings names text) (k - 1) j
      (omega (arith, names_long names text 1 (names_in names)))
      (omega (arith, bases-count 1 (records_in bindings)))
      (names_at names text 1 (names_in names) (k - 1) (omega arith) ∙ ap (bytes_of names text) z ∙ e)

  -- "the number put behind is never more than names and bindings together plus one": the names, the bindings before it, and one
  pub number_bound : (b : ℕ) → 0 < b → behind_of bindings names text b ≤ names_in names + b
  unfolding behind_of
  number_bound b p =
      let made = made_names bindings names text in
      omega (arith, bound (taken_for bindings names text b) (base_text b bindings names text), length-append (names_of names text) (take (b - 1) made), length-take (b - 1) made, names_long names text 1 (names_in names))

  pub number_below : (b : ℕ) → 0 < b → b ≤ records_in bindings → behind_of bindings names text b ≤ names_in names + records_in bindings + 1
  number_below b p h = omega (arith, number_bound b p)

  -- 1, which stands for none, or "whole number from 2 up"
  pub number-some : (b : ℕ) → 1 ≤ behind_of bindings names text b
  unfolding behind_of
  number-some b = at_least_one (taken_for bindings names text b) (base_text b bindings names text)

  -- "the smallest whole number .. that frees it": each smaller number, and the bare form, which is 1, gives what is taken
  pub number_smallest : (b j : ℕ) → 1 ≤ j → j < behind_of bindings names text b → taken (taken_for bindings names text b) (candidate (base_text b bindings names text) j) ≡ true
  unfolding behind_of
  number_smallest b j p h = smallest (taken_for bindings names text b) (base_text b bindings names text) j p h

-- The lookup, where the pairs and the text of some names stand before what else was lent.
module _ (made : List (List ℕ)) (rest more : List ℕ) (number : ℕ) (some : 0 < number) (few : number ≤ length made) where
  laid_start : start_of (word_bytes (pairs_from 0 made) ++ rest) number ≡ length (joined (take (number - 1) made))
  laid_start =
      ap (λ (ws : List ℕ). get_or ws (2 * (number - 1)) 0) (words_before (pairs_from 0 made) rest)
      ∙ get_or-append (pairs_from 0 made) (words rest) 0 (2 * (number - 1)) (omega (arith, pairs_long 0 made))
      ∙ (laid_name 0 made (number - 1) (omega arith)).0
      ∙ omega arith

  laid_bytes : length_of (word_bytes (pairs_from 0 made) ++ rest) number ≡ length (get_or made (number - 1) [])
  laid_bytes =
      ap (λ (ws : List ℕ). get_or ws (2 * (number - 1) + 1) 0) (words_before (pairs_from 0 made) rest)
      ∙ get_or-append (pairs_from 0 made) (words rest) 0 (2 * (number - 1) + 1) (omega (arith, pairs_long 0 made))
      ∙ (laid_name 0 made (number - 1) (omega arith)).1

  laid_lies : lies (word_bytes (pairs_from 0 made) ++ rest) (joined made ++ more) number ≡ true
  unfolding lies
  laid_lies =
      let pairs = word_bytes (pairs_from 0 made) ++ rest in
      let high : number ≤ names_in pairs = omega (arith, length-append (word_bytes (pairs_from 0 made)) rest, length-bytes (pairs_from 0 made), pairs_long 0 made) in
      let inside : start_of pairs number + length_of pairs number ≤ length (joined made ++ more) =
      omega (arith, laid_start, laid_bytes, laid_within made (number - 1) (omega arith), length-append (joined made) more) in
      and_both (and_both (lt-ltb 0 number some) (le-leb number (names_in pairs) high)) (le-leb (start_of pairs number + length_of pairs number) (length (joined made ++ more)) inside)

  laid_spelled : part_of (word_bytes (pairs_from 0 made) ++ rest) (joined made ++ more) number ≡ get_or made (number - 1) []
  laid_spelled =
      let s = length (joined (take (number - 1) made)) in
      let n = length (get_or made (number - 1) []) in
      let w : s + n ≤ length (joined made) = laid_within made (number - 1) (omega arith) in
      rw (laid_lies, laid_start, laid_bytes, drop-append-le s (joined made) more (omega arith))
      (take-append-le n (drop s (joined made)) more (omega (arith, length-drop s (joined made))) ∙ laid_part made (number - 1) (omega arith))

-- Where a name of the table has a spelling, that is its bytes.
pub name-spelled : (names text : List ℕ) (k : ℕ) → lies names text k ≡ true → (0 < k) × (k ≤ names_in names) × (part_of names text k ≡ bytes_of names text k)
unfolding lies bytes_of
name-spelled names text k t =
    let inside = leb (start_of names k + length_of names k) (length text) in
    let a = and_left (ltb 0 k && leb k (names_in names)) inside t in
    let p : 0 < k = ltb-true 0 k (and_left (ltb 0 k) (leb k (names_in names)) a) in
    (p, leb-true k (names_in names) (and_right (ltb 0 k) (leb k (names_in names)) a), rw (t, ne_eqb k 0 (λ z. omega arith)))

-- An acceptance counts the made names and their bytes.
module _ (bindings names text : List ℕ) (pair_room text_room pairs bytes : ℕ) (answer : Result Made Refusal) (right : answer ≡ named bindings names text pair_room text_room) (yes : answer ≡ Ok (counts pairs bytes)) where
  pub made_counts : (pairs ≡ length (made_names bindings names text)) × (bytes ≡ length (joined (made_names bindings names text)))
  unfolding named
  made_counts =
      let made = made_names bindings names text in
      go (length made) (length (joined made)) (front_of bindings names text) (first_fault bindings names text) (fits pair_room text_room made) (sym yes ∙ right)
    where
      go : (x y : ℕ) (f g : Result (Unit {0}) Refusal) (b : Bool) → Ok (counts pairs bytes) ≡ unless f (unless g (cond b (Ok (counts x y)) (Err NoRoom))) → (pairs ≡ x) × (bytes ≡ y)
      go x y (Ok p) (Ok q) true e = (ap pair_count e, ap byte_count e)
      go x y (Ok p) (Ok q) false e = cc
      go x y (Ok p) (Err r) b e = cc
      go x y (Err r) g b e = cc

-- "The spelling of an Ident is handed back as a part of the script's text or of the made text": where the maker has answered, an Ident of attr 1 and number b is spelled as binding b is named.
module _ (bindings names text : List ℕ) {answer : Result Made Refusal} {lent lent' out out' : List ℕ}
    (M : Makes answer (named bindings names text (length lent) (length out)) (made_names bindings names text) lent lent' out out')
    (pairs bytes : ℕ) (yes : answer ≡ Ok (counts pairs bytes)) where
  -- the pairs and the text stand at the front
  pub pairs_front : lent' ≡ word_bytes (pairs_from 0 (made_names bindings names text)) ++ drop (8 * pairs) lent
  pairs_front =
      let made = made_names bindings names text in
      let n = made_counts bindings names text (length lent) (length out) pairs bytes answer M.right yes in
      let c : pair_count answer ≡ pairs = ap pair_count yes in
      M.pairs_left
      ∙ ap (λ (m : ℕ). take (8 * m) (word_bytes (pairs_from 0 made)) ++ drop (8 * m) lent) c
      ∙ ap (λ (xs : List ℕ). xs ++ drop (8 * pairs) lent) (take_all (8 * pairs) (word_bytes (pairs_from 0 made)) (omega (arith, n.0, length-bytes (pairs_from 0 made), pairs_long 0 made)))

  pub text_front : out' ≡ joined (made_names bindings names text) ++ drop bytes out
  text_front =
      let made = made_names bindings names text in
      let n = made_counts bindings names text (length lent) (length out) pairs bytes answer M.right yes in
      let c : byte_count answer ≡ bytes = ap byte_count yes in
      M.text_left
      ∙ ap (λ (m : ℕ). take m (joined made) ++ drop m out) c
      ∙ ap (λ (xs : List ℕ). xs ++ drop bytes out) (take_all bytes (joined made) (omega (arith, n.1)))

  -- over all that was lent
  pub looked_up : (b : ℕ) → 0 < b → b ≤ records_in bindings
      → (spells 1 b names text lent' out' ≡ true) × (spelling_of 1 b names text lent' out' ≡ get_or (made_names bindings names text) (b - 1) [])
  looked_up b p h =
      let made = made_names bindings names text in
      let few : b ≤ length made = omega (arith, made-count bindings names text) in
      rw (pairs_front, text_front) (laid_lies made (drop (8 * pairs) lent) (drop bytes out) b p few, laid_spelled made (drop (8 * pairs) lent) (drop bytes out) b p few)

  -- and over the counted pairs and bytes alone
  pub looked_up_cut : (b : ℕ) → 0 < b → b ≤ records_in bindings
      → (spells 1 b names text (take (8 * pairs) lent') (take bytes out') ≡ true)
      × (spelling_of 1 b names text (take (8 * pairs) lent') (take bytes out') ≡ get_or (made_names bindings names text) (b - 1) [])
  looked_up_cut b p h =
      let made = made_names bindings names text in
      let n = made_counts bindings names text (length lent) (length out) pairs bytes answer M.right yes in
      let few : b ≤ length made = omega (arith, made-count bindings names text) in
      let e : take (8 * pairs) lent' ≡ word_bytes (pairs_from 0 made) ++ [] =
      ap (take (8 * pairs)) pairs_front
      ∙ take_at (word_bytes (pairs_from 0 made)) (drop (8 * pairs) lent) (8 * pairs) (omega (arith, n.0, length-bytes (pairs_from 0 made), pairs_long 0 made))
      ∙ sym (append-nil (word_bytes (pairs_from 0 made))) in
      let f : take bytes out' ≡ joined made ++ [] = ap (take bytes) text_front ∙ take_at (joined made) (drop bytes out) bytes (sym n.1) ∙ sym (append-nil (joined made)) in
      rw (e, f) (laid_lies made [] [] b p few, laid_spelled made [] [] b p few)

  -- "no two bindings, and no binding and name, share a spelling", as the lookup spells them: bindings b and c, name k of the table and binding b
  pub bindings_apart : (b c : ℕ) → 0 < b → b < c → c ≤ records_in bindings → spelling_of 1 b names text lent' out' ≡ spelling_of 1 c names text lent' out' → ⊥
  bindings_apart b c p l h e =
      no_two bindings names text (b - 1) (c - 1) (omega arith) (omega arith) (sym (looked_up b p (omega arith)).1 ∙ e ∙ (looked_up c (omega arith) h).1)

  pub name-apart : (k b : ℕ) → spells 0 k names text lent' out' ≡ true → 0 < b → b ≤ records_in bindings
      → spelling_of 0 k names text lent' out' ≡ spelling_of 1 b names text lent' out' → ⊥
  name-apart k b t p h e =
      let r = name-spelled names text k t in
      no_name bindings names text k (b - 1) r.0 r.1 (omega arith) (sym r.2 ∙ e ∙ (looked_up b p h).1)
