-- Refusal 7: the next hit from a row on, and the first Field whose value reaches it. Assumes nothing.
use Rattle.std.specs.Prelude.{Option, Some, None}
use mathlib.Core.Path.{◌≡◌, refl, ap, sym, subst, ◌∙◌}
use mathlib.Core.List.{List}
use Prim.Native.Nat.{ℕ, zero, suc, ◌+◌, ◌*◌, ◌-◌, ◌≤◌, ◌<◌}
use mathlib.Core.Bool.{Bool, true, false, cond, ◌&&◌, ◌||◌}
use mathlib.Core.Logic.{⊎_elim}
use lib.Dec.{eqb, ltb}
use lib.ListN.{length, get_or, drop, set, length-set}
use lib.Seq.{drop-drop, get_or-drop, get_or-set_same, get_or-set_other}
use native.Mathlib.Omega.{arith}
use native.Mathlib.Nat.{eq-or-lt_of_le}
use borrow.Author.Tests.{ltb-true, lt-ltb, le-ltb}
use Rattle.grammar.specs.Kinds.{Field}
use Rattle.names.specs.Words.{words, kind_at, attr_at, name_at, end_at}
use Rattle.names.specs.First.{first}
use Rattle.forest.specs.Nested.{Nested}
use Rattle.forest.specs.Forest.{rows_at}
use Rattle.names.proofs.Bools.{lt_or_ge, cond-le}
use Rattle.rows.proofs.Soundness.{words_long}
use Rattle.steps.specs.Mode.{bit}
use Rattle.steps.specs.Refusals.{seek, holds, value_of}
use Rattle.steps.proofs.Seeks.{drop-four, by-ends}
use Rattle.steps.proofs.Fields.{any_of, past_key, field_bad, field_same}
use Rattle.refusals.specs.Given.{GivenRows}
use Rattle.refusals.specs.Hits.{hit, next_hit, value_from, holds_at, field_rule}

module _ (ws : List ℕ) (b : Bool) where
  low-at : (x : Bool) (i m : ℕ) → i + 1 ≤ m → i ≤ cond x i m
  low-at true i m h = omega arith
  low-at false i m h = omega arith

  pub hit-low : (f i : ℕ) → i ≤ next_hit ws b f i
  unfolding next_hit
  hit-low zero i = omega arith
  hit-low (suc f) i = low-at (hit b (kind_at ws i)) i (next_hit ws b f (i + 1)) (hit-low f (i + 1))

  pub hit-high : (f i : ℕ) → next_hit ws b f i ≤ i + f
  unfolding next_hit
  hit-high zero i = omega arith
  hit-high (suc f) i = let l = hit-high f (i + 1) in cond-le (hit b (kind_at ws i)) i (next_hit ws b f (i + 1)) (i + suc f) (omega arith) (omega arith)

  any_at : (x : Bool) (i m r : ℕ) (rest : Bool) → rest ≡ ltb r (i + suc m) → (x || rest) ≡ ltb (cond x i r) (i + suc m)
  any_at true i m r rest h = sym (lt-ltb i (i + suc m) (omega arith))
  any_at false i m r rest h = h

  -- of the m rows from j on one is a hit exactly if the next hit is one of them
  pub any_next : (m d j : ℕ) → length ws ≡ 4 * (j + m + d) → any_of b m (drop (4 * j) ws) ≡ ltb (next_hit ws b (m + d) j) (j + m)
  unfolding any_of next_hit
  any_next zero d j l = sym (le-ltb (next_hit ws b (0 + d) j) (j + 0) (omega (arith, hit-low (0 + d) j)))
  any_next (suc m) d j l =
      let s : suc m + d ≡ suc (m + d) = omega arith in
      let e : j + 1 + m ≡ j + suc m = omega arith in
      rw (drop-four ws j (omega arith), s)
      (any_at (hit b (kind_at ws j)) j m (next_hit ws b (m + d) (j + 1)) (any_of b m (drop (4 * (j + 1)) ws)) (any_next m d (j + 1) (omega arith) ∙ ap (ltb (next_hit ws b (m + d) (j + 1))) e))

  module _ (n i : ℕ) (good : Nested ws n) (here : i < n) (long : length ws ≡ 4 * n) (next : ℕ → ℕ) (known : (j : ℕ) → i < j → j < n → next j ≡ next_hit ws b (n - j) j) where
    abbrev e : ℕ
    e = end_at ws i

    abbrev a : ℕ
    a = attr_at ws i

    reach-more : (s : ℕ) → i < s → s < e → (ltb s e && ltb (next s) e) ≡ any_of b (e - s) (drop (4 * s) ws)
    reach-more s x l =
        let inside : e ≤ n = good.inside i here in
        let f : e - s + (n - e) ≡ n - s = omega arith in
        let g : s + (e - s) ≡ e = omega arith in
        let in-n : s < n = omega arith in
        let k : next s ≡ next_hit ws b (n - s) s = known s x in-n in
        let all : length ws ≡ 4 * (s + (e - s) + (n - e)) = omega arith in
        rw (lt-ltb s e l, k) (sym (any_next (e - s) (n - e) s all ∙ ap (λ (z : ℕ). ltb (next_hit ws b z s) (s + (e - s))) f ∙ ap (ltb (next_hit ws b (n - s) s)) g))

    reach-done : (s : ℕ) → s ≤ e → e ≤ s → (ltb s e && ltb (next s) e) ≡ any_of b (e - s) (drop (4 * s) ws)
    unfolding any_of
    reach-done s x l = let z : e - s ≡ 0 = omega arith in rw (le-ltb s e l, z)

    reach : (s : ℕ) → i < s → s ≤ e → (ltb s e && ltb (next s) e) ≡ any_of b (e - s) (drop (4 * s) ws)
    reach s x y = ⊎_elim (λ l. reach-more s x l) (λ l. reach-done s y l) (lt_or_ge s e)

    key-cases : (t : Bool) → ltb (i + 1) e ≡ t → (ltb (cond t (end_at ws (i + 1)) e) e && ltb (next (cond t (end_at ws (i + 1)) e)) e) ≡ past_key b i e (drop (4 * (i + 1)) ws)
    unfolding past_key
    key-cases false q = rw (q, le-ltb e e (omega arith))
    key-cases true q =
        let l : i + 1 < e = ltb-true (i + 1) e q in
        let x : ℕ = end_at ws (i + 1) in
        let inside : e ≤ n = good.inside i here in
        let past : i + 1 < end_at ws (i + 1) = good.ahead (i + 1) (omega arith) in
        let within : end_at ws (i + 1) ≤ e = good.nested i (i + 1) here (omega arith) l in
        let to : 4 * (i + 1) + 4 * (end_at ws (i + 1) - (i + 1)) ≡ 4 * end_at ws (i + 1) = omega arith in
        rw (q, get_or-drop (4 * (i + 1)) ws 3 0)
        (reach (end_at ws (i + 1)) (omega arith) within
        ∙ ap (any_of b (e - end_at ws (i + 1))) (sym (drop-drop (4 * (end_at ws (i + 1) - (i + 1))) (4 * (i + 1)) ws ∙ ap (λ (z : ℕ). drop z ws) to)))

    value_cases : (x y : Bool) → (ltb (cond x (cond y (cond (ltb (i + 1) e) (end_at ws (i + 1)) e) (i + 1)) e) e && ltb (next (cond x (cond y (cond (ltb (i + 1) e) (end_at ws (i + 1)) e) (i + 1)) e)) e)
        ≡ cond x (cond y (past_key b i e (drop (4 * (i + 1)) ws)) (any_of b (e - (i + 1)) (drop (4 * (i + 1)) ws))) false
    value_cases false y = rw (le-ltb e e (omega arith))
    value_cases true false = reach (i + 1) (omega arith) (omega (arith, good.ahead i here))
    value_cases true true = key-cases (ltb (i + 1) e) refl

    -- the test that the code makes is the one over the words
    pub holds-is : (m : ℕ) → holds_at ws next i ≡ field_bad b i (kind_at ws i) (attr_at ws i) m (end_at ws i) (drop (4 * (i + 1)) ws)
    unfolding holds_at value_from field_bad
    holds-is m = ap (λ (x : Bool). eqb (kind_at ws i) Field && x) (value_cases (bit 4 a) (bit 1 a))

  -- row j is a Field that 7 names
  abbrev pub test : ℕ → Bool
  test j = field_bad b j (kind_at ws j) (attr_at ws j) (name_at ws j) (end_at ws j) (drop (4 * (j + 1)) ws)

  -- the visit from the last row on, before row i, with an array of m entries: the next hits of the rows that were visited, and the first Field among them
  pub record Since (n m : ℕ) (next : List ℕ) (low : ℕ) (found : Option ℕ) (i : ℕ) : Type 0 where
    pub left : i ≤ n
    pub size : length next ≡ m
    pub room : n ≤ m
    pub lowest : low ≡ next_hit ws b (n - i) i
    pub known : (j : ℕ) → i ≤ j → j < n → get_or next j 0 ≡ next_hit ws b (n - j) j
    pub same : found ≡ first test (n - i) i

  pub since_start : (n : ℕ) (next : List ℕ) → n ≤ length next → Since n (length next) next n None n
  unfolding next_hit first
  since_start n next l = let z : n - n ≡ 0 = omega arith in record { left = omega arith; size = refl; room = l; lowest = rw z; known = λ j x y. absurd (omega arith); same = rw z }

  module _ (n m : ℕ) (next : List ℕ) (low : ℕ) (found : Option ℕ) (i : ℕ) (h : 0 < i) (s : Since n m next low found i) where
    abbrev j : ℕ
    j = i - 1

    count : n - j ≡ suc (n - i)
    count = omega (arith, s.left)

    after : j + 1 ≡ i
    after = omega arith

    pub low-next : (low' : ℕ) → low' ≡ cond (hit b (kind_at ws j)) j low → low' ≡ next_hit ws b (n - j) j
    unfolding next_hit
    low-next low' q = q ∙ rw (count, after) (ap (cond (hit b (kind_at ws j)) j) s.lowest)

    known_next : (low' : ℕ) → low' ≡ next_hit ws b (n - j) j → (q : ℕ) → j ≤ q → q < n → get_or (set next j low') q 0 ≡ next_hit ws b (n - q) q
    known_next low' e q x y =
        ⊎_elim
        (λ z. subst (λ (p : ℕ). get_or (set next j low') p 0 ≡ next_hit ws b (n - p) p) z (get_or-set_same next j low' 0 (omega (arith, s.left, s.size, s.room)) ∙ e))
        (λ z. get_or-set_other next j q low' 0 (λ u. omega arith) ∙ s.known q (omega arith) y)
        (eq-or-lt_of_le x)

    first_next : first test (n - j) j ≡ cond (test j) (Some j) (first test (n - i) i)
    unfolding first
    first_next = ap (λ (x : ℕ). first test x j) count ∙ ap (λ (x : ℕ). cond (test j) (Some j) (first test (n - i) x)) after

    pub since-next : Nested ws n → length ws ≡ 4 * n → (low' : ℕ) → low' ≡ cond (hit b (kind_at ws j)) j low → (here : Bool) → here ≡ holds_at ws (λ p. get_or (set next j low') p 0) j
        → (found' : Option ℕ) → found' ≡ cond here (Some j) found → Since n m (set next j low') low' found' j
    since-next good long low' q here r found' f =
        let e = low-next low' q in
        let k = known_next low' e in
        let t : here ≡ test j = r ∙ holds-is n j good (omega (arith, s.left)) long (λ p. get_or (set next j low') p 0) (λ p x y. k p (omega arith) y) (name_at ws j) in
        record {
          left = omega (arith, s.left);
          size = length-set next j low' ∙ s.size;
          room = s.room;
          lowest = e;
          known = k;
          same = f ∙ ap (λ (x : Bool). cond x (Some j) found) t ∙ sym (first_next ∙ ap (cond (test j) (Some j)) (sym s.same));
        }

  pub since_end : (n m : ℕ) (next : List ℕ) (low : ℕ) (found : Option ℕ) (i : ℕ) → Since n m next low found i → i ≤ 0 → found ≡ first test n 0
  since_end n m next low found i s h =
      let z : i ≡ 0 = omega arith in
      let m : n - i ≡ n = omega arith in
      s.same ∙ ap (λ (x : ℕ). first test x i) m ∙ ap (first test n) z

-- the first Field of the rows whose value holds a hit is the forest's
pub seven_rows : (rows : List ℕ) (n : ℕ) (b : Bool) → GivenRows rows n → first (test (words rows) b) n 0 ≡ seek (field_rule b) tt tt 0 (rows_at (words rows) 0 n)
unfolding field_rule
seven_rows rows n b g = by-ends (field_bad b) (λ k a n i. eqb k Field && holds b (value_of a i)) (field_same b) (words rows) n (rows_at (words rows) 0 n) g.same (words_long rows (4 * n) (omega (arith, g.bytes)))
