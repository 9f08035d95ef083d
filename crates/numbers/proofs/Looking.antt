-- An entry looked for along its bucket. Assumes nothing.
use Prim.Native.Nat.{ℕ, ◌+◌, ◌%◌, ◌≤◌, ◌<◌}
use mathlib.Core.Path.{◌≡◌, refl, ap, sym, subst, ◌∙◌}
use mathlib.Core.Bool.{Bool, true, false, true≢false}
use mathlib.Core.List.{List}
use native.Mathlib.Omega.{arith}
use lib.ListN.{length, get_or}
use Rattle.names.specs.Words.{names_in}
use Rattle.names.specs.Names.{same_bytes}
use Rattle.spelling.specs.Hash.{hash_of}
use Rattle.spelling.proofs.Hashing.{same-list}
use Rattle.buckets.specs.Search.{first_where}
use Rattle.buckets.specs.Along.{members, Each, Last}
use Rattle.buckets.proofs.Walking.{each_member, last_member}
use Rattle.base_text.specs.Bindings.{records_in}
use Rattle.base_text.proofs.Checking.{fronted}
use Rattle.candidates.specs.Candidates.{candidate, behind}
use Rattle.candidates.specs.Faults.{Sound}
use Rattle.candidates.specs.declared.Checked.{Checked}
use Rattle.numbers.specs.Entries.{entry_at, entries}
use Rattle.numbers.specs.Tables.{is_text, in_bucket, Seeking, Stored}
use Rattle.numbers.proofs.Searching.{is_found, not_found, seeking_next, seeking_done}
use Rattle.numbers.proofs.Entering.{entries-long, entry_in, in-bucket}

-- a spelling is looked for in its bucket
outside : (x : List ℕ) (buckets h : ℕ) → h ≡ hash_of x % buckets → (r : List ℕ) → in_bucket buckets h r ≡ false → is_text x r ≡ false
outside x buckets h at r e = go (same_bytes r x) refl
  where
    go : (t : Bool) → same_bytes r x ≡ t → t ≡ false
    go true z = absurd (true≢false (sym (in-bucket r buckets h (at ∙ ap (λ (l : List ℕ). hash_of l % buckets) (sym (same-list r x z)))) ∙ e))
    go false z = refl

module _ {bindings names text lasts befores numbers : List ℕ} {count : ℕ} (S : Stored bindings names text lasts befores numbers count) (x : List ℕ) where
  abbrev xs : List (List ℕ)
  xs = entries bindings names text numbers count

  module _ (h : ℕ) (at : h ≡ hash_of x % length lasts) (l : h < length lasts) where
    -- the entries of a bucket are among those that are taken
    pub in_bucket_each : (P : ℕ → Type 0) → ((e : ℕ) → 0 < e → e ≤ count → get_or befores e 0 < e → P e) → Each P (members lasts befores h)
    in_bucket_each P f = each_member S.found h l lasts befores refl (λ e. refl) P (λ e n m k. f e n (omega (arith, entries-long bindings names text numbers count)) k)

    -- the first of them that is x is the first of all
    pub first_found : (Answers : ℕ → Bool → Type 0) → ((e : ℕ) (t : Bool) → 0 < e → e ≤ count → Answers e t → t ≡ same_bytes (entry_at bindings names text numbers e) x)
        → (r : ℕ) → Last Answers (members lasts befores h) 0 r → (r ≡ first_where (is_text x) 1 xs) × (r ≤ count)
    first_found Answers f r q =
        let k = last_member S.found h l lasts befores refl (λ e. refl) (is_text x) (outside x (length lasts) h at) Answers
        (λ e t n m a. let i : e ≤ count = omega (arith, entries-long bindings names text numbers count) in
        f e t n i a ∙ ap (λ (s : List ℕ). same_bytes s x) (sym (entry_in bindings names text numbers count e n i))) r q in
        (k.0, omega (arith, k.1, entries-long bindings names text numbers count))

-- there are few entries
pub few-entries : {bindings names text : List ℕ} → Sound bindings names text → (count : ℕ) → count ≤ names_in names + records_in bindings → count ≤ 69631
few-entries {bindings} {names} {text} s count l =
    let f = (fronted bindings names text s.front).sizes in
    omega (arith, f.records, f.few)

-- what is so of a script, its numbers and a count is so of the same ones
pub over_same : (P : Checked → List ℕ → ℕ → Type 0) {C C' : Checked} {n n' : List ℕ} {k k' : ℕ} → (C ≡ C') × (n ≡ n') × (k ≡ k') → P C n k → P C' n' k'
over_same P {C} {C'} {n} {n'} {k} {k'} q p =
    subst (λ (x : Checked). P x n' k') q.0 (subst (λ (x : List ℕ). P C x k') q.1 (subst (P C n) q.2 p))

-- The loop over the numbers of a base.
module _ {ts : List (List ℕ)} {base : List ℕ} {n e : ℕ} (S : Seeking ts base n) (q : e ≡ first_where (is_text (candidate base n)) 1 ts) where
  pub tried_next : (e ≡ 0 → ⊥) → Seeking ts base (n + 1)
  tried_next k = seeking_next S (is_found (candidate base n) ts e q k)

  pub tried_done : e ≡ 0 → n ≡ behind ts base
  tried_done z = seeking_done S (not_found (candidate base n) ts e q z)

  pub tried_high : (e ≡ 0 → ⊥) → n ≤ length ts
  tried_high k = omega (arith, (tried_next k).high)
