-- The made names written one after the other, and what an answer leaves. Assumes nothing.
use Prim.Native.Nat.{ℕ, zero, suc, ◌+◌, ◌-◌, ◌*◌, ◌/◌, ◌≤◌, ◌<◌}
use mathlib.Core.Path.{◌≡◌, refl, ap, sym, ◌∙◌}
use mathlib.Core.List.{List, [], ◌∷◌, ◌++◌}
use native.Mathlib.Omega.{arith}
use borrow.Author.Tests.{le-leb, lt-leb}
use lib.ListN.{length, take, drop, get_or}
use lib.Seq.{sets, take_all}
use Rattle.names.specs.Words.{names_in}
use Rattle.names.specs.Bytes.{bytes_of}
use Rattle.names.specs.Laid.{joined, pairs_from}
use Rattle.names.proofs.Storing.{sets-append, runs, length-bytes}
use Rattle.names.proofs.Laying.{pairs_long}
use Rattle.decimal.specs.Decimal.{Wrote}
use Rattle.decimal.proofs.Writing.{sets-front}
use Rattle.base_text.specs.Bindings.{records_in}
use Rattle.base_text.specs.Refusals.{base_text}
use Rattle.std.specs.Prelude.{Ok, Err}
use Rattle.base_text.specs.declared.Refusal.TheVariants.{NoRoom}
use Rattle.candidates.specs.Candidates.{candidate}
use Rattle.candidates.specs.MadeNames.{made_names}
use Rattle.numbers.specs.Entries.{made_from}
use Rattle.numbers.specs.Tables.{Numbered}
use Rattle.made_names.specs.Naming.{counts, fitted, Makes}
use Rattle.made_names.specs.Laying.{Laid}

-- The loop, with the names of k bindings written up to byte `at`: what is left to be written gives what there was to write.
pub record Writing (bindings names text numbers pairs₀ pairs out₀ out : List ℕ) (at k : ℕ) : Type 0 where
  pub few : k ≤ records_in bindings
  pub low : at ≤ 281 * k
  pub same-pairs : length pairs ≡ length pairs₀
  pub same_out : length out ≡ length out₀
  pub paired : sets pairs₀ 0 (bytes_of (pairs_from 0 (made_from bindings names text numbers 1 (records_in bindings)))) ≡ sets pairs (8 * k) (bytes_of (pairs_from at (made_from bindings names text numbers (k + 1) (records_in bindings - k))))
  pub written : sets out₀ 0 (joined (made_from bindings names text numbers 1 (records_in bindings))) ≡ sets out at (joined (made_from bindings names text numbers (k + 1) (records_in bindings - k)))

module _ (bindings names text numbers : List ℕ) where
  abbrev made : ℕ → ℕ → List (List ℕ)
  made b n = made_from bindings names text numbers b n

  pub writing_start : {pairs out : List ℕ} → Writing bindings names text numbers pairs pairs out out 0 0
  writing_start {pairs} {out} =
      let z : records_in bindings - 0 ≡ records_in bindings = omega arith in
      record {
        few = omega arith;
        low = omega arith;
        same-pairs = refl;
        same_out = refl;
        paired = rw z;
        written = rw z;
      }

  module _ {pairs₀ pairs out₀ out : List ℕ} {at k : ℕ} (W : Writing bindings names text numbers pairs₀ pairs out₀ out at k) where
    pub writing-done : records_in bindings ≤ k → Laid bindings names text numbers pairs₀ pairs out₀ out
    unfolding made_from pairs_from joined bytes_of
    writing-done l =
        let f = W.few in
        let z : records_in bindings - k ≡ 0 = omega arith in
        record {
          paired = sym (W.paired ∙ ap (λ (m : ℕ). sets pairs (8 * k) (bytes_of (pairs_from at (made (k + 1) m)))) z);
          written = sym (W.written ∙ ap (λ (m : ℕ). sets out at (joined (made (k + 1) m))) z);
        }

    module _ (l : k < records_in bindings) {pairs' out' : List ℕ} {end : ℕ} (n : ℕ) (number : n ≡ get_or numbers (names_in names + (k + 1)) 0) (wrote : Wrote out at (candidate (base_text (k + 1) bindings names text) n) end out')
        (short : end ≤ at + 281) (kept : length out' ≡ length out) (keeps : length pairs' ≡ length pairs) (pair : pairs' ≡ sets pairs (8 * k) (bytes_of (at ∷ (end - at) ∷ []))) where
      abbrev m : List ℕ
      m = candidate (base_text (k + 1) bindings names text) n

      -- the names that are left begin with this one
      split : made (k + 1) (records_in bindings - k) ≡ m ∷ made (k + 1 + 1) (records_in bindings - (k + 1))
      unfolding made_from
      split = let z : records_in bindings - k ≡ suc (records_in bindings - (k + 1)) = omega arith in rw (z, number)

      pub writing-next : Writing bindings names text numbers pairs₀ pairs' out₀ out' end (k + 1)
      unfolding joined pairs_from
      writing-next =
          let w : end ≡ at + length m = wrote.next in
          let d : end - at ≡ length m = omega arith in
          let e : 8 * k + 4 * 2 ≡ 8 * (k + 1) = omega arith in
          record {
            few = omega arith;
            low = omega (arith, W.low);
            same-pairs = keeps ∙ W.same-pairs;
            same_out = kept ∙ W.same_out;
            paired =
                W.paired ∙ ap (λ (x : List (List ℕ)). sets pairs (8 * k) (bytes_of (pairs_from at x))) split
                ∙ runs (at ∷ length m ∷ []) (pairs_from (at + length m) (made (k + 1 + 1) (records_in bindings - (k + 1)))) pairs (8 * k) (8 * (k + 1)) e
                ∙ rw (← w, ← d, ← pair);
            written =
                W.written ∙ ap (λ (x : List (List ℕ)). sets out at (joined x)) split
                ∙ sets-append m (joined (made (k + 1 + 1) (records_in bindings - (k + 1)))) out at
                ∙ rw (← wrote.wrote, ← w);
          }

-- what is answered, over the numbers of all names
module _ (bindings names text : List ℕ) {bytes : ℕ} {numbers : List ℕ} (N : Numbered bindings names text bytes numbers) where
  made-long : (b n : ℕ) → length (made_from bindings names text numbers b n) ≡ n
  unfolding made_from
  made-long b zero = refl
  made-long b (suc n) = ap suc (made-long (b + 1) n)

  count : length (made_names bindings names text) ≡ records_in bindings
  count = sym (ap length N.made) ∙ made-long 1 (records_in bindings)

  pub no_pairs : (pairs out : List ℕ) → length pairs / 8 < records_in bindings → Makes (Err NoRoom) (fitted (length pairs) (length out) (made_names bindings names text)) (made_names bindings names text) pairs pairs out out
  no_pairs pairs out l = record { right = rw (lt-leb (length (made_names bindings names text)) (length pairs / 8) (omega (arith, count))); pairs_left = refl; text_left = refl }

  pub no_text : (pairs out : List ℕ) → records_in bindings ≤ length pairs / 8 → length out < bytes
      → Makes (Err NoRoom) (fitted (length pairs) (length out) (made_names bindings names text)) (made_names bindings names text) pairs pairs out out
  no_text pairs out l k =
      record {
        right = rw (le-leb (length (made_names bindings names text)) (length pairs / 8) (omega (arith, count)), lt-leb (length (joined (made_names bindings names text))) (length out) (omega (arith, N.counted)));
        pairs_left = refl;
        text_left = refl;
      }

  front_of : (bs o : List ℕ) (n : ℕ) → length bs ≡ n → n ≤ length o → sets o 0 bs ≡ take n bs ++ drop n o
  front_of bs o n q l = sets-front bs o (omega (arith, q)) ∙ ap (λ (m : ℕ). bs ++ drop m o) q ∙ ap (λ (x : List ℕ). x ++ drop n o) (sym (take_all n bs (omega (arith, q))))

  pub all_made : {pairs pairs' out out' : List ℕ} → records_in bindings ≤ length pairs / 8 → bytes ≤ length out → Laid bindings names text numbers pairs pairs' out out' → (n m : ℕ) → n ≡ records_in bindings → m ≡ bytes
      → Makes (Ok (counts n m)) (fitted (length pairs) (length out) (made_names bindings names text)) (made_names bindings names text) pairs pairs' out out'
  all_made {pairs} {pairs'} {out} {out'} l k L n m a b =
      let c : n ≡ length (made_names bindings names text) = a ∙ sym count in
      let d : m ≡ length (joined (made_names bindings names text)) = b ∙ N.counted in
      record {
        right =
            sym (rw (le-leb (length (made_names bindings names text)) (length pairs / 8) (omega (arith, count)), le-leb (length (joined (made_names bindings names text))) (length out) (omega (arith, N.counted)), ← c, ← d));
        pairs_left =
            L.paired ∙ ap (λ (x : List (List ℕ)). sets pairs 0 (bytes_of (pairs_from 0 x))) N.made
            ∙ front_of (bytes_of (pairs_from 0 (made_names bindings names text))) pairs (8 * n) (omega (arith, length-bytes (pairs_from 0 (made_names bindings names text)), pairs_long 0 (made_names bindings names text), c)) (omega arith);
        text_left = L.written ∙ ap (λ (x : List (List ℕ)). sets out 0 (joined x)) N.made ∙ front_of (joined (made_names bindings names text)) out m (sym d) (omega arith);
      }
