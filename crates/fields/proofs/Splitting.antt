-- Laws of lines, fields and numbers, as the code meets them. Assumes nothing.
use Rattle.std.proofs.Common.{None, Some, Option, MatchOption}
use Rattle.std.specs.Option.{option_or, is_some}
use denote.Ref.{Bor}
use Rattle.std.specs.List.{position_or_len}
use Rattle.std.proofs.lemmas.List.{drop_all}
use Rattle.std.specs.Cmp.Lexicographic.{pointwise}
use mathlib.Core.Path.{◌≡◌, refl, sym, ap, ◌∙◌}
use mathlib.Core.Bool.{Bool, true, false, cond, ◌&&◌, false≢true}
use mathlib.Core.Logic.{◌⊎◌, inl, inr}
use mathlib.Core.List.{List, [], ◌∷◌, ◌++◌}
use Prim.Native.Nat.{ℕ, suc, ◌+◌, ◌*◌, ◌-◌, ◌≤◌, ◌<◌}
use native.Mathlib.Omega.{arith}
use native.Mathlib.Numerals.{add-one}
use lib.ListN.{length, get_or, drop, take, length-drop, length-append}
use lib.Seq.{drop-cons, take_all}
use lib.Dec.{ltb, eqb}
use borrow.Author.Tests.{lt-ltb, le-ltb, eq-eqb, ne_eqb, ltb-true, ltb-false, eqb-true}
use Rattle.fields.specs.Fields.{up_to, push, split, fields, row_of, row_words, digits_of, number, Parted, Lined, same_bytes, is_bit, bit_of, switches_ok, three_bits}

none_some : {A : Type 0} {x : A} → Some x ≡ None → ⊥
none_some h = let z : ◌≡◌ {A = ℕ} 0 1 = cc in omega arith

some_same : {x y : ℕ} → Some x ≡ Some y → x ≡ y
some_same h = cc

-- splitting, by the first b
module _ (b : ℕ) where
  upto_yes : (c : ℕ) (u : List ℕ) → eqb c b ≡ true → up_to b (c ∷ u) ≡ []
  unfolding up_to
  upto_yes c u q = rw q

  upto_no : (c : ℕ) (u : List ℕ) → eqb c b ≡ false → up_to b (c ∷ u) ≡ c ∷ up_to b u
  unfolding up_to
  upto_no c u q = rw q

  abbrev first : List ℕ → ℕ
  first s = position_or_len (λ c. eqb c b) s

  first_is : (s : List ℕ) → first s ≡ length (up_to b s)
  unfolding up_to
  first_is [] = refl
  first_is (c ∷ s) = go (eqb c b) refl (first_is s)
    where
      go : (t : Bool) → eqb c b ≡ t → first s ≡ length (up_to b s) → first (c ∷ s) ≡ length (cond t [] (c ∷ up_to b s))
      go true q ih = rw q
      go false q ih = rw q (omega (arith, ih))

  upto_low : (s : List ℕ) → length (up_to b s) ≤ length s
  unfolding up_to
  upto_low [] = omega arith
  upto_low (c ∷ s) = go (eqb c b) (upto_low s)
    where
      go : (t : Bool) → length (up_to b s) ≤ length s → length (cond t [] (c ∷ up_to b s)) ≤ suc (length s)
      go true ih = omega arith
      go false ih = omega arith

  found : (s : List ℕ) → length (up_to b s) < length s
      → (up_to b s ≡ take (length (up_to b s)) s) × (s ≡ up_to b s ++ (b ∷ drop (suc (length (up_to b s))) s))
  found [] h = absurd (omega arith)
  found (c ∷ s) h = go (eqb c b) refl (found s)
    where
      go : (t : Bool) → eqb c b ≡ t → (length (up_to b s) < length s → (up_to b s ≡ take (length (up_to b s)) s) × (s ≡ up_to b s ++ (b ∷ drop (suc (length (up_to b s))) s)))
          → (up_to b (c ∷ s) ≡ take (length (up_to b (c ∷ s))) (c ∷ s)) × (c ∷ s ≡ up_to b (c ∷ s) ++ (b ∷ drop (suc (length (up_to b (c ∷ s)))) (c ∷ s)))
      go true q ih = let e : c ≡ b = eqb-true c b q in rw (upto_yes c s q) (refl, ap (λ x. x ∷ s) e)
      go false q ih =
          let r = ih (omega (arith, ap length (upto_no c s q))) in
          rw (upto_no c s q) (ap (λ x. c ∷ x) r.0, ap (λ x. c ∷ x) r.1)

  -- where `position` finds the first b, and where it finds none
  module _ (s : List ℕ) {r : Option ℕ} (e : r ≡ cond (ltb (first s) (length s)) (Some (first s)) None) where
    pub parted : (i : ℕ) → r ≡ Some i → Parted b s (take i s) (take (length s - (i + 1)) (drop (i + 1) s))
    parted i q = go (ltb (first s) (length s)) refl (sym q ∙ e)
      where
        go : (t : Bool) → ltb (first s) (length s) ≡ t → Some i ≡ cond t (Some (first s)) None → Parted b s (take i s) (take (length s - (i + 1)) (drop (i + 1) s))
        go false h k = absurd (none_some k)
        go true h k =
            let z : i ≡ length (up_to b s) = some_same k ∙ first_is s in
            let l : i < length s = omega (arith, ltb-true _ _ h, first_is s) in
            let f = found s (omega arith) in
            rw (z, add-one, take_all (length s - suc (length (up_to b s))) (drop (suc (length (up_to b s))) s) (omega (arith, length-drop (suc (length (up_to b s))) s)))
            (record { before = f.0; whole = f.1 ∙ ap (λ (x : List ℕ). x ++ (b ∷ drop (suc (length (up_to b s))) s)) f.0 })

    pub unparted : r ≡ None → length (up_to b s) ≡ length s
    unparted q = go (ltb (first s) (length s)) refl (sym q ∙ e)
      where
        go : (t : Bool) → ltb (first s) (length s) ≡ t → None ≡ cond {A = Option ℕ} t (Some (first s)) None → length (up_to b s) ≡ length s
        go true h k = absurd (none_some (sym k))
        go false h k = omega (arith, ltb-false _ _ h, first_is s, upto_low s)

  upto_whole : (s : List ℕ) → length (up_to b s) ≡ length s → up_to b s ≡ s
  unfolding up_to
  upto_whole [] h = refl
  upto_whole (c ∷ s) h = go (eqb c b) refl (upto_whole s)
    where
      go : (t : Bool) → eqb c b ≡ t → (length (up_to b s) ≡ length s → up_to b s ≡ s) → up_to b (c ∷ s) ≡ c ∷ s
      go true q ih = absurd (omega (arith, h, ap length (upto_yes c s q)))
      go false q ih = upto_no c s q ∙ ap (λ (l : List ℕ). c ∷ l) (ih (omega (arith, h, ap length (upto_no c s q))))

  past : (x y : List ℕ) → y ≡ drop (suc (length x)) (x ++ (b ∷ y))
  past [] y = refl
  past (c ∷ x) y = past x y

  split-parted : (last : List (List ℕ)) (x y : List ℕ) → up_to b (x ++ (b ∷ y)) ≡ x → split b last (x ++ (b ∷ y)) ≡ x ∷ split b last y
  unfolding split push
  split-parted last [] y h = rw (eq-eqb b b refl)
  split-parted last (c ∷ x) y h = go (eqb c b) refl (split-parted last x y)
    where
      go : (t : Bool) → eqb c b ≡ t → (up_to b (x ++ (b ∷ y)) ≡ x → split b last (x ++ (b ∷ y)) ≡ x ∷ split b last y) → split b last (c ∷ (x ++ (b ∷ y))) ≡ (c ∷ x) ∷ split b last y
      go true q ih = absurd (omega (arith, ap length h, ap length (upto_yes c (x ++ (b ∷ y)) q)))
      go false q ih =
          let k : c ∷ up_to b (x ++ (b ∷ y)) ≡ c ∷ x = sym (upto_no c (x ++ (b ∷ y)) q) ∙ h in
          rw (q, ih cc)

  split_whole : (u : List ℕ) → length (up_to b u) ≡ length u → split b ([] ∷ []) u ≡ u ∷ []
  unfolding split push
  split_whole [] h = refl
  split_whole (c ∷ u) h = go (eqb c b) refl (split_whole u)
    where
      go : (t : Bool) → eqb c b ≡ t → (length (up_to b u) ≡ length u → split b ([] ∷ []) u ≡ u ∷ []) → split b ([] ∷ []) (c ∷ u) ≡ (c ∷ u) ∷ []
      go true q ih = absurd (omega (arith, h, ap length (upto_yes c u q)))
      go false q ih = rw (q, ih (omega (arith, h, ap length (upto_no c u q))))

  line_whole : (u : List ℕ) → 0 < length u → length (up_to b u) ≡ length u → split b [] u ≡ u ∷ []
  unfolding split push
  line_whole [] z h = absurd (omega arith)
  line_whole (c ∷ []) z h = go (eqb c b) refl
    where
      go : (t : Bool) → eqb c b ≡ t → split b [] (c ∷ []) ≡ (c ∷ []) ∷ []
      go true q = absurd (omega (arith, h, ap length (upto_yes c [] q)))
      go false q = rw q
  line_whole (c ∷ (d ∷ u)) z h = go (eqb c b) refl (line_whole (d ∷ u) (omega arith))
    where
      go : (t : Bool) → eqb c b ≡ t → (length (up_to b (d ∷ u)) ≡ length (d ∷ u) → split b [] (d ∷ u) ≡ (d ∷ u) ∷ []) → split b [] (c ∷ (d ∷ u)) ≡ (c ∷ (d ∷ u)) ∷ []
      go true q ih = absurd (omega (arith, h, ap length (upto_yes c (d ∷ u) q)))
      go false q ih = rw (q, ih (omega (arith, h, ap length (upto_no c (d ∷ u) q))))

  pub parts : (last : List (List ℕ)) {s x y : List ℕ} → Parted b s x y → split b last s ≡ x ∷ split b last y
  parts last {s} {x} {y} p = rw p.whole (split-parted last x y (ap (up_to b) (sym p.whole) ∙ p.before))

-- lines
pub lined : {s x y : List ℕ} → Parted 10 s x y → Lined s x y
lined {s} {x} {y} p =
    let n : length s ≡ length x + suc (length y) = ap length p.whole ∙ length-append x (10 ∷ y) in
    record { before = p.before; behind = rw (p.whole, add-one) (past 10 x y); first = parts 10 [] p; shorter = omega arith; fits = omega arith }

pub last_lined : (s : List ℕ) → 0 < length s → length (up_to 10 s) ≡ length s → Lined s s []
unfolding split
last_lined s z h = record { before = upto_whole 10 s h; behind = sym (drop_all (length s + 1) s (omega arith)); first = line_whole 10 s z h; shorter = z; fits = omega arith }

pub lined_or : (s e : Bor (List ℕ)) → e.now ≡ [] → 0 < length s.now → (r : Option (Bor (List ℕ) × Bor (List ℕ)))
    → MatchOption r (length (up_to 10 s.now) ≡ length s.now) (λ p. Parted 10 s.now p.0.now p.1.now) → MatchOption (option_or r (Some (s, e))) (s.now ≡ []) (λ p. Lined s.now p.0.now p.1.now)
lined_or s e z h None m = rw z (last_lined s.now h m)
lined_or s e z h (Some p) m = lined m

-- fields: there is always one
many : (a b c d u : List ℕ) → None ≡ row_of (a ∷ (b ∷ (c ∷ (d ∷ split 32 ([] ∷ []) u))))
unfolding row_of split push
many a b c d [] = refl
many a b c d (x ∷ u) = go (eqb x 32) (split 32 ([] ∷ []) u)
  where
    go : (t : Bool) (v : List (List ℕ)) → None ≡ row_of (a ∷ (b ∷ (c ∷ (d ∷ cond t ([] ∷ v) (push x v)))))
    go true v = refl
    go false [] = refl
    go false (y ∷ v) = refl

pub row-one : (s : List ℕ) → length (up_to 32 s) ≡ length s → None ≡ row_of (fields s)
unfolding row_of
row-one s h = rw (split_whole 32 s h)

module _ {s a r : List ℕ} (p : Parted 32 s a r) where
  pub row-two : length (up_to 32 r) ≡ length r → None ≡ row_of (fields s)
  unfolding row_of
  row-two h = rw (parts 32 ([] ∷ []) p, split_whole 32 r h)

  module _ {b t : List ℕ} (q : Parted 32 r b t) where
    pub row-three : length (up_to 32 t) ≡ length t → None ≡ row_of (fields s)
    unfolding row_of
    row-three h = rw (parts 32 ([] ∷ []) p, parts 32 ([] ∷ []) q, split_whole 32 t h)

    module _ {c d : List ℕ} (o : Parted 32 t c d) where
      module _ (v : Option (Bor (List ℕ) × Bor (List ℕ))) (n : MatchOption v (length (up_to 32 d) ≡ length d) (λ x. Parted 32 d x.0.now x.1.now)) where
        pub row-many : is_some v ≡ true → None ≡ row_of (fields s)
        row-many h = go v n h
          where
            go : (v : Option (Bor (List ℕ) × Bor (List ℕ))) → MatchOption v (length (up_to 32 d) ≡ length d) (λ x. Parted 32 d x.0.now x.1.now) → is_some v ≡ true → None ≡ row_of (fields s)
            go None n h = absurd (false≢true h)
            go (Some x) n h = rw (parts 32 ([] ∷ []) p, parts 32 ([] ∷ []) q, parts 32 ([] ∷ []) o, parts 32 ([] ∷ []) n) (many _ _ _ _ _)

        pub row-four : is_some v ≡ false → row_words (number a) (number b) (number c) (number d) ≡ row_of (fields s)
        unfolding row_of
        row-four h = go v n h
          where
            go : (v : Option (Bor (List ℕ) × Bor (List ℕ))) → MatchOption v (length (up_to 32 d) ≡ length d) (λ x. Parted 32 d x.0.now x.1.now) → is_some v ≡ false
                → row_words (number a) (number b) (number c) (number d) ≡ row_of (fields s)
            go None n h = rw (parts 32 ([] ∷ []) p, parts 32 ([] ∷ []) q, parts 32 ([] ∷ []) o, split_whole 32 d n)
            go (Some x) n h = absurd (false≢true (sym h))

-- four numbers of which one is bad, or none
pub first_no : {a : Option ℕ} (b c d : Option ℕ) → a ≡ None → None ≡ row_words a b c d
first_no b c d e = rw e

pub second_no : {a b : Option ℕ} {k : ℕ} (c d : Option ℕ) → a ≡ Some k → b ≡ None → None ≡ row_words a b c d
second_no c d e f = rw (e, f)

pub third_no : {a b c : Option ℕ} {k l : ℕ} (d : Option ℕ) → a ≡ Some k → b ≡ Some l → c ≡ None → None ≡ row_words a b c d
third_no d e f g = rw (e, f, g)

pub fourth_no : {a b c d : Option ℕ} {k l m : ℕ} → a ≡ Some k → b ≡ Some l → c ≡ Some m → d ≡ None → None ≡ row_words a b c d
fourth_no e f g h = rw (e, f, g, h)

pub all_four : {a b c d : Option ℕ} {k l m n : ℕ} → a ≡ Some k → b ≡ Some l → c ≡ Some m → d ≡ Some n → Some (record { kind = k; attr = l; name = m; end = n }) ≡ row_words a b c d
all_four e f g h = rw (e, f, g, h)

-- numbers
pub number-start : (s : List ℕ) → 0 < length s → (1 < length s → get_or s 0 0 ≡ 48 → ⊥) → number s ≡ digits_of 0 (drop 0 s)
unfolding number
number-start [] h k = absurd (omega arith)
number-start (c ∷ []) h k = refl
number-start (c ∷ (d ∷ s)) h k = rw (ne_eqb c 48 (k (omega arith)))

pub number_empty : (s : List ℕ) → length s ≡ 0 → number s ≡ None
unfolding number
number_empty [] h = refl
number_empty (c ∷ s) h = absurd (omega arith)

pub number-zero : (s : List ℕ) → 1 < length s → get_or s 0 0 ≡ 48 → number s ≡ None
unfolding number
number-zero [] h k = absurd (omega arith)
number-zero (c ∷ []) h k = absurd (omega arith)
number-zero (c ∷ (d ∷ s)) h k = rw (eq-eqb c 48 k)

module _ (s : List ℕ) (i v : ℕ) (h : i < length s) where
  pub digit_none : (get_or s i 0 < 48) ⊎ (57 < get_or s i 0) → digits_of v (drop i s) ≡ None
  unfolding digits_of
  digit_none (inl e) = rw (drop-cons s i 0 h, lt-ltb (get_or s i 0) 48 e)
  digit_none (inr e) = rw (drop-cons s i 0 h, le-ltb (get_or s i 0) 48 (omega arith), lt-ltb 57 (get_or s i 0) e)

  module _ (d : 48 ≤ get_or s i 0) (e : get_or s i 0 ≤ 57) where
    pub digit_big : 4294967295 < v * 10 + (get_or s i 0 - 48) → digits_of v (drop i s) ≡ None
    unfolding digits_of
    digit_big k = rw (drop-cons s i 0 h, le-ltb (get_or s i 0) 48 d, le-ltb 57 (get_or s i 0) e, lt-ltb 4294967295 (v * 10 + (get_or s i 0 - 48)) k)

    pub digit_next : v * 10 + (get_or s i 0 - 48) ≤ 4294967295 → digits_of v (drop i s) ≡ digits_of (v * 10 + (get_or s i 0 - 48)) (drop (i + 1) s)
    unfolding digits_of
    digit_next k = rw (drop-cons s i 0 h, le-ltb (get_or s i 0) 48 d, le-ltb 57 (get_or s i 0) e, le-ltb 4294967295 (v * 10 + (get_or s i 0 - 48)) k, add-one)

pub digit_end : (s : List ℕ) (i v : ℕ) → length s ≤ i → digits_of v (drop i s) ≡ Some v
unfolding digits_of
digit_end s i v k = rw (drop_all i s k)

-- `==`
pub same_is : (a b : List ℕ) → pointwise eqb a b ≡ same_bytes a b
unfolding same_bytes
same_is [] [] = refl
same_is [] (y ∷ b) = refl
same_is (x ∷ a) [] = refl
same_is (x ∷ a) (y ∷ b) = go (eqb x y) (same_is a b)
  where
    go : (t : Bool) → pointwise eqb a b ≡ same_bytes a b → (t && pointwise eqb a b) ≡ cond t (same_bytes a b) false
    go true e = e
    go false e = refl

pub same_lengths : (a b : List ℕ) → (length a ≡ length b → ⊥) → false ≡ same_bytes a b
unfolding same_bytes
same_lengths [] [] h = absurd (h refl)
same_lengths [] (y ∷ b) h = refl
same_lengths (x ∷ a) [] h = refl
same_lengths (x ∷ a) (y ∷ b) h = go (eqb x y) (same_lengths a b (λ e. h (ap suc e)))
  where
    go : (t : Bool) → false ≡ same_bytes a b → false ≡ cond t (same_bytes a b) false
    go true e = e
    go false e = refl

pub switches-short : (s : List ℕ) → (length s ≡ 5 → ⊥) → false ≡ switches_ok s
unfolding switches_ok
switches-short s h = rw (ne_eqb (length s) 5 h)

-- three switches, where the line is theirs
abbrev pub all_of : Option Bool → Option Bool → Option Bool → Option (Bool × Bool × Bool)
all_of (Some x) (Some y) (Some z) = Some (x, y, z)
all_of (Some x) (Some y) None = None
all_of (Some x) None z = None
all_of None y z = None

module _ (s : List ℕ) where
  pub switches_long : (length s ≡ 5 → ⊥) → None ≡ three_bits s
  switches_long h = rw (← switches-short s h)

  abbrev on : ℕ → Bool
  on k = eqb (get_or s k 0) 49

  abbrev three : Option (Bool × Bool × Bool)
  three = Some (on 0, on 2, on 4)

  pub switches_apart : (get_or s 1 0 ≡ 32 → get_or s 3 0 ≡ 32 → ⊥) → None ≡ three_bits s
  unfolding switches_ok
  switches_apart h = go (eqb (length s) 5) (is_bit (get_or s 0 0)) (eqb (get_or s 1 0) 32) refl (is_bit (get_or s 2 0)) (eqb (get_or s 3 0) 32) refl (is_bit (get_or s 4 0))
    where
      go : (n x p : Bool) → eqb (get_or s 1 0) 32 ≡ p → (y q : Bool) → eqb (get_or s 3 0) 32 ≡ q → (z : Bool) → None ≡ cond (cond n (x && p && y && q && z) false) three None
      go false x p e y q f z = refl
      go true false p e y q f z = refl
      go true true false e y q f z = refl
      go true true true e false q f z = refl
      go true true true e true false f z = refl
      go true true true e true true f z = absurd (h (eqb-true _ _ e) (eqb-true _ _ f))

  module _ (h : length s ≡ 5) (i : get_or s 1 0 ≡ 32) (j : get_or s 3 0 ≡ 32) where
    five : three_bits s ≡ all_of (bit_of (get_or s 0 0)) (bit_of (get_or s 2 0)) (bit_of (get_or s 4 0))
    unfolding switches_ok
    five = rw (h, i, j) (go (is_bit (get_or s 0 0)) (is_bit (get_or s 2 0)) (is_bit (get_or s 4 0)))
      where
        go : (x y z : Bool) → cond (x && true && y && true && z) three None ≡ all_of (cond x (Some (on 0)) None) (cond y (Some (on 2)) None) (cond z (Some (on 4)) None)
        go true true true = refl
        go true true false = refl
        go true false z = refl
        go false y z = refl

    module _ {a : Option Bool} (p : a ≡ bit_of (get_or s 0 0)) where
      pub first_bad : a ≡ None → None ≡ three_bits s
      first_bad x = sym (five ∙ rw (← p, x))

      module _ {b : Option Bool} (q : b ≡ bit_of (get_or s 2 0)) {x : Bool} (e : a ≡ Some x) where
        pub second_bad : b ≡ None → None ≡ three_bits s
        second_bad y = sym (five ∙ rw (← p, ← q, e, y))

        module _ {c : Option Bool} (r : c ≡ bit_of (get_or s 4 0)) {y : Bool} (f : b ≡ Some y) where
          pub third_bad : c ≡ None → None ≡ three_bits s
          third_bad z = sym (five ∙ rw (← p, ← q, ← r, e, f, z))

          pub all_good : {z : Bool} → c ≡ Some z → Some (x, y, z) ≡ three_bits s
          all_good g = sym (five ∙ rw (← p, ← q, ← r, e, f, g))
