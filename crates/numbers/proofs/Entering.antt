-- The entries: those of an array of numbers, one more, and what they are of the made names. Assumes nothing.
use Prim.Native.Nat.{ℕ, zero, suc, ◌+◌, ◌-◌, ◌%◌, ◌≤◌, ◌<◌}
use mathlib.Core.Path.{◌≡◌, refl, ap, sym, subst, ◌∙◌}
use mathlib.Core.Bool.{Bool, true, false}
use mathlib.Core.List.{List, [], ◌∷◌, ◌++◌}
use native.Mathlib.Omega.{arith}
use borrow.Author.Tests.{eqb-true, eq-eqb, ltb-true, ltb-false, le-leb, lt-leb}
use lib.Dec.{ltb}
use lib.ListN.{length, take, drop, get_or, set, length-append, length-set, get_or-append}
use lib.Seq.{get_or-set_same, get_or-set_other, take_at}
use Rattle.decimal.specs.Decimal.{Wrote}
use Rattle.decimal.proofs.Writing.{sets-front}
use Rattle.names.specs.Words.{names_in}
use Rattle.names.specs.Names.{bytes_of}
use Rattle.spelling.specs.Hash.{hash_of}
use Rattle.buckets.specs.Filed.{Filed}
use Rattle.buckets.proofs.Filing.{filed_new}
use Rattle.base_text.specs.Refusals.{base_text}
use Rattle.candidates.specs.Candidates.{candidate}
use Rattle.candidates.specs.MadeNames.{names_from}
use Rattle.numbers.specs.Entries.{entry_at, entries}
use Rattle.numbers.specs.Tables.{in_bucket, Found}

module _ (bindings names text : List ℕ) where
  abbrev known : List ℕ → ℕ → List (List ℕ)
  known numbers count = entries bindings names text numbers count

  pub entries-long : (numbers : List ℕ) (count : ℕ) → length (known numbers count) ≡ count
  unfolding entries
  entries-long numbers zero = refl
  entries-long numbers (suc e) = length-append (known numbers e) (entry_at bindings names text numbers (suc e) ∷ []) ∙ (let i = entries-long numbers e in omega arith)

  -- entry e is at its place
  pub entry_in : (numbers : List ℕ) (count e : ℕ) → 0 < e → e ≤ count → get_or (known numbers count) (e - 1) [] ≡ entry_at bindings names text numbers e
  unfolding entries
  entry_in numbers zero e a b = absurd (omega arith)
  entry_in numbers (suc c) e a b = go (ltb c e) refl (λ l. entry_in numbers c e a l)
    where
      at_end : (xs : List (List ℕ)) (r : List ℕ) (i : ℕ) → i ≡ length xs → get_or (xs ++ (r ∷ [])) i [] ≡ r
      at_end [] r i q = rw q
      at_end (x ∷ xs) r zero q = absurd (omega arith)
      at_end (x ∷ xs) r (suc i) q = at_end xs r i (omega arith)

      go : (t : Bool) → ltb c e ≡ t → (e ≤ c → get_or (known numbers c) (e - 1) [] ≡ entry_at bindings names text numbers e)
          → get_or (known numbers c ++ (entry_at bindings names text numbers (suc c) ∷ [])) (e - 1) [] ≡ entry_at bindings names text numbers e
      go true z ih =
          let l = ltb-true c e z in
          let q : suc c ≡ e = omega arith in
          at_end (known numbers c) (entry_at bindings names text numbers (suc c)) (e - 1) (omega (arith, entries-long numbers c)) ∙ ap (entry_at bindings names text numbers) q
      go false z ih =
          let l = ltb-false c e z in
          get_or-append (known numbers c) (entry_at bindings names text numbers (suc c) ∷ []) [] (e - 1) (omega (arith, entries-long numbers c)) ∙ ih l

  -- a number stored for a later entry changes no earlier one
  entry_other : (numbers : List ℕ) (i v e : ℕ) → e < i → entry_at bindings names text (set numbers i v) e ≡ entry_at bindings names text numbers e
  unfolding entry_at
  entry_other numbers i v e l = rw (get_or-set_other numbers i e v 0 (λ z. omega arith))

  pub entries-other : (numbers : List ℕ) (i v count : ℕ) → count < i → known (set numbers i v) count ≡ known numbers count
  unfolding entries
  entries-other numbers i v zero l = refl
  entries-other numbers i v (suc c) l = rw (entries-other numbers i v c (omega arith), entry_other numbers i v (suc c) l)

  -- an entry is a name, or a made name
  pub entry_name : (numbers : List ℕ) (e : ℕ) → e ≤ names_in names → entry_at bindings names text numbers e ≡ bytes_of names text e
  unfolding entry_at
  entry_name numbers e l = rw (le-leb e (names_in names) l)

  pub entry_made : (numbers : List ℕ) (e : ℕ) → names_in names < e → entry_at bindings names text numbers e ≡ candidate (base_text (e - names_in names) bindings names text) (get_or numbers e 0)
  unfolding entry_at
  entry_made numbers e l = rw (lt-leb e (names_in names) l)

  -- the entries with the number n stored for the next one, binding b
  pub entries_next : (numbers : List ℕ) (b e n : ℕ) → e ≡ names_in names + b → 0 < b → e < length numbers
      → known (set numbers e n) e ≡ known numbers (e - 1) ++ (candidate (base_text b bindings names text) n ∷ [])
  unfolding entries
  entries_next numbers b zero n q p l = absurd (omega arith)
  entries_next numbers b (suc c) n q p l =
      let d : suc c - names_in names ≡ b = omega arith in
      let z : suc c - 1 ≡ c = omega arith in
      rw (entries-other numbers (suc c) n c (omega arith), entry_made (set numbers (suc c) n) (suc c) (omega arith), d, get_or-set_same numbers (suc c) n 0 l, z)

  -- the first entries are the names
  pub names_snoc : (k n : ℕ) → names_from names text k (suc n) ≡ names_from names text k n ++ (bytes_of names text (k + n) ∷ [])
  unfolding names_from
  names_snoc k zero = let z : k + 0 ≡ k = omega arith in rw z
  names_snoc k (suc n) = let z : (k + 1) + n ≡ k + suc n = omega arith in ap (λ (l : List (List ℕ)). bytes_of names text k ∷ l) (names_snoc (k + 1) n ∙ rw z)

  pub entries_names : (numbers : List ℕ) (n : ℕ) → n ≤ names_in names → known numbers n ≡ names_from names text 1 n
  unfolding entries names_from
  entries_names numbers zero l = refl
  entries_names numbers (suc n) l =
      let z : 1 + n ≡ suc n = omega arith in
      rw (entries_names numbers n (omega arith), entry_name numbers (suc n) l) (sym (names_snoc 1 n ∙ rw z))

-- a spelling is in the bucket of its number, and in no other
pub in-bucket : (r : List ℕ) (buckets h : ℕ) → h ≡ hash_of r % buckets → in_bucket buckets h r ≡ true
unfolding in_bucket
in-bucket r buckets h at = eq-eqb (hash_of r % buckets) h (sym at)

pub its_bucket : (r : List ℕ) (buckets h g : ℕ) → h ≡ hash_of r % buckets → in_bucket buckets g r ≡ true → h ≡ g
unfolding in_bucket
its_bucket r buckets h g at z = at ∙ eqb-true (hash_of r % buckets) g z

-- an entry more by its bucket
pub found_new : (lasts befores : List ℕ) {xs : List (List ℕ)} → Found lasts befores xs → (r : List ℕ) (h e : ℕ) → h ≡ hash_of r % length lasts → h < length lasts → length xs + 1 ≡ e → e < length befores
    → Found (set lasts h e) (set befores e (get_or lasts h 0)) (xs ++ (r ∷ []))
found_new lasts befores {xs} F r h e at l n b =
    subst (λ (m : ℕ). Filed (in_bucket m) [] (λ g. get_or (set lasts h e) g 0) (λ j. get_or (set befores e (get_or lasts h 0)) j 0) m (xs ++ (r ∷ []))) (sym (length-set lasts h e))
    (filed_new F r h e n l (in-bucket r (length lasts) h at) (λ g z. its_bucket r (length lasts) h g at z)
    (λ g. get_or (set lasts h e) g 0) (λ j. get_or (set befores e (get_or lasts h 0)) j 0) (get_or-set_same lasts h e 0 l) (λ g k o. get_or-set_other lasts h g e 0 (λ z. o (sym z)))
    (get_or-set_same befores e (get_or lasts h 0) 0 b) (λ j k. get_or-set_other befores e j (get_or lasts h 0) 0 (λ z. omega arith)))

-- a made name in room enough stands at the front
pub at_front : {o o' s : List ℕ} {r : ℕ} → Wrote o 0 s r o' → 288 ≡ length o → r ≤ 281 → take r o' ≡ s
at_front {o} {o'} {s} {r} w l k =
    let q : r ≡ length s = w.next ∙ (omega arith) in
    ap (take r) (w.wrote ∙ sets-front s o (omega (arith, q))) ∙ take_at s (drop (length s) o) r (sym q)

pub front_long : {o o' s : List ℕ} {r : ℕ} → Wrote o 0 s r o' → 288 ≡ length o → r ≤ 281 → r ≡ length (take r o')
front_long {o} {o'} {s} {r} w l k = w.next ∙ (omega arith) ∙ sym (ap length (at_front w l k))
