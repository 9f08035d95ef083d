-- The made names, binding by binding. Assumes nothing.
use Prim.Native.Nat.{ℕ, zero, suc, ◌+◌, ◌-◌, ◌*◌, ◌%◌, ◌≤◌, ◌<◌}
use mathlib.Core.Path.{◌≡◌, refl, ap, sym, subst, ◌∙◌}
use mathlib.Core.List.{List, [], ◌∷◌, ◌++◌, append_assoc, append-nil}
use native.Mathlib.Omega.{arith}
use native.Mathlib.Nat.{mod-lt}
use lib.ListN.{length, get_or, set, length-append, length-set}
use lib.Seq.{get_or-set_same, get_or-set_other}
use Rattle.names.specs.Words.{names_in}
use Rattle.names.specs.Names.{bytes_of}
use Rattle.names.specs.Laid.{joined}
use Rattle.names.proofs.Laying.{joined-append}
use Rattle.spelling.specs.Hash.{hash_of}
use Rattle.base_text.specs.Bindings.{records_in}
use Rattle.base_text.specs.Refusals.{base_text}
use Rattle.candidates.specs.Candidates.{candidate, behind, make_all}
use Rattle.candidates.specs.declared.Checked.{Checked}
use Rattle.candidates.specs.MadeNames.{names_from, names_of, bases_from, bases_of, made_names}
use Rattle.numbers.specs.Entries.{entries, made_from}
use Rattle.numbers.specs.Tables.{Found, Reached, Numbering, Named, Empty, Numbered}
use Rattle.numbers.specs.declared.Tables.{Tables}
use Rattle.numbers.specs.Lent.{named, records, put, Same, Fits, Right, Blank}
use Rattle.numbers.proofs.Entering.{entries_names, entries_next, names_snoc, found_new}
use Rattle.numbers.proofs.Reaching.{reached_none, reached_more}

-- The names in their buckets, k of them.
pub record Entering (names text lasts befores : List ℕ) (buckets room k : ℕ) : Type 0 where
  pub few : k ≤ names_in names
  pub same_lasts : length lasts ≡ buckets
  pub same_befores : length befores ≡ room
  pub found : Found lasts befores (names_from names text 1 k)

module _ (names text : List ℕ) where
  pub names_long : (k n : ℕ) → length (names_from names text k n) ≡ n
  unfolding names_from
  names_long k zero = refl
  names_long k (suc n) = ap suc (names_long (k + 1) n)

  pub entering_done : {lasts befores : List ℕ} {buckets room k : ℕ} → Entering names text lasts befores buckets room k → names_in names ≤ k → Found lasts befores (names_of names text)
  entering_done {lasts} {befores} {k = k} N l = let f = N.few in let q : k ≡ names_in names = omega arith in subst (λ (m : ℕ). Found lasts befores (names_from names text 1 m)) q N.found

  pub entering_start : {lasts befores : List ℕ} → Found lasts befores [] → Entering names text lasts befores (length lasts) (length befores) 0
  unfolding names_from
  entering_start f = record { few = omega arith; same_lasts = refl; same_befores = refl; found = f }

  module _ {lasts befores : List ℕ} {buckets room k : ℕ} (N : Entering names text lasts befores buckets room k) (l : k < names_in names) (s : 0 < buckets) (r : names_in names < room) where
    abbrev h : ℕ
    h = hash_of (bytes_of names text (k + 1)) % length lasts

    abbrev lasts' : List ℕ
    lasts' = set lasts h (k + 1)

    abbrev befores' : List ℕ
    befores' = set befores (k + 1) (get_or lasts h 0)

    pub entering_next : Entering names text lasts' befores' buckets room (k + 1)
    entering_next =
        let one : 1 + k ≡ k + 1 = omega arith in
        let q : names_from names text 1 (k + 1) ≡ names_from names text 1 k ++ (bytes_of names text (k + 1) ∷ []) =
        ap (names_from names text 1) (let z : k + 1 ≡ suc k = omega arith in z) ∙ names_snoc [] names text 1 k ∙ ap (λ (m : ℕ). names_from names text 1 k ++ (bytes_of names text m ∷ [])) one in
        record {
          few = omega arith;
          same_lasts = length-set lasts h (k + 1) ∙ N.same_lasts;
          same_befores = length-set befores (k + 1) (get_or lasts h 0) ∙ N.same_befores;
          found =
              subst (λ (xs : List (List ℕ)). Found lasts' befores' xs) (sym q)
              (found_new lasts befores N.found (bytes_of names text (k + 1)) h (k + 1) refl (mod-lt (hash_of (bytes_of names text (k + 1))) (omega (arith, N.same_lasts))) (ap (λ (m : ℕ). m + 1) (names_long 1 k))
              (omega (arith, N.same_befores)));
        }

  -- names hold nothing of the numbers behind them
  reached_names : {reached : List ℕ} → ((e : ℕ) → get_or reached e 0 ≡ 0) → (k n : ℕ) → Reached reached (names_from names text k n)
  unfolding names_from
  reached_names z k zero = reached_none _ z
  reached_names {reached} z k (suc n) = subst (Reached reached) (sym (names_snoc [] names text k n)) (reached_more (reached_names z k n) (bytes_of names text (k + n)))

-- The same of the tables, which are otherwise as they were.
pub record Filing (t t' : Tables) (k : ℕ) : Type 0 where
  pub same : Same t t'
  pub reached : t'.reached.now ≡ t.reached.now
  pub numbers : t'.numbers.now ≡ t.numbers.now
  pub entering : Entering t.checked.script.names.now t.checked.script.text.now t'.lasts.now t'.befores.now (length t.lasts.now) (length t.befores.now) k

pub filing_start : {t : Tables} → Found t.lasts.now t.befores.now [] → Filing t t 0
filing_start f = record {
  same = record { lasts = refl; befores = refl; reached = refl; numbers = refl; script = refl; long = (refl, refl, refl, refl) };
  reached = refl;
  numbers = refl;
  entering = entering_start _ _ f;
}

pub filing_next : {t t' u : Tables} {k : ℕ} → Filing t t' k → k < named t → Fits t (named t) → u ≡ put t' (bytes_of t.checked.script.names.now t.checked.script.text.now (k + 1)) (k + 1) → Filing t u (k + 1)
filing_next {t} {t'} {u} {k} F l m q =
    let S = F.same in
    rw q
    (record {
      same = record {
        lasts = S.lasts;
        befores = S.befores;
        reached = S.reached;
        numbers = S.numbers;
        script = S.script;
        long = (length-set t'.lasts.now _ _ ∙ S.long.0, length-set t'.befores.now _ _ ∙ S.long.1, S.long.2, S.long.3);
      };
      reached = F.reached;
      numbers = F.numbers;
      entering = entering_next _ _ F.entering l m.some m.inside;
    })

-- The numbers of the first k bindings.
module _ (bindings names text : List ℕ) where
  made_snoc : (numbers : List ℕ) (b n : ℕ) → made_from bindings names text numbers b (suc n) ≡ made_from bindings names text numbers b n ++ (candidate (base_text (b + n) bindings names text) (get_or numbers (names_in names + (b + n)) 0) ∷ [])
  unfolding made_from
  made_snoc numbers b zero = let z : b + 0 ≡ b = omega arith in rw z
  made_snoc numbers b (suc n) =
      let z : (b + 1) + n ≡ b + suc n = omega arith in
      ap (λ (l : List (List ℕ)). candidate (base_text b bindings names text) (get_or numbers (names_in names + b) 0) ∷ l) (made_snoc numbers (b + 1) n ∙ rw z)

  -- a number stored for a later binding changes no earlier name
  made_other : (numbers : List ℕ) (i v b n : ℕ) → names_in names + (b + n) ≤ i → made_from bindings names text (set numbers i v) b n ≡ made_from bindings names text numbers b n
  unfolding made_from
  made_other numbers i v b zero l = refl
  made_other numbers i v b (suc n) l = rw (get_or-set_other numbers i (names_in names + b) v 0 (λ z. omega arith), made_other numbers i v (b + 1) n (omega arith))

  -- The loop over the bindings, k of which have their number.
  pub record Made (lasts befores reached numbers : List ℕ) (bytes k : ℕ) : Type 0 where
    pub few : k ≤ records_in bindings
    pub numbering : Numbering bindings names text lasts befores reached numbers (names_in names + k)
    pub rest : made_names bindings names text ≡ made_from bindings names text numbers 1 k ++ make_all (entries bindings names text numbers (names_in names + k)) (bases_from bindings names text (k + 1) (records_in bindings - k))
    pub counted : bytes ≡ length (joined (made_from bindings names text numbers 1 k))
    pub short : bytes ≤ 281 * k

  pub made-start : {lasts befores lasts₁ befores₁ reached numbers : List ℕ} → Empty bindings names lasts befores reached numbers → length lasts₁ ≡ length lasts → length befores₁ ≡ length befores → Found lasts₁ befores₁ (names_of names text)
      → Made lasts₁ befores₁ reached numbers 0 0
  unfolding made_from joined
  made-start {lasts} {befores} {lasts₁} {befores₁} {reached} {numbers} E a b F =
      let n : names_in names + 0 ≡ names_in names = omega arith in
      let e : entries bindings names text numbers (names_in names + 0) ≡ names_of names text = ap (entries bindings names text numbers) n ∙ entries_names bindings names text numbers (names_in names) (omega arith) in
      record {
        few = omega arith;
        numbering = record {
          stored = record {
            some = omega (arith, E.some);
            befores_long = omega (arith, E.befores_long);
            numbers_long = E.numbers_long;
            few = omega arith;
            found = subst (λ (xs : List (List ℕ)). Found lasts₁ befores₁ xs) (sym e) F;
          };
          reached_long = E.reached_long;
          kept = subst (Reached reached) (sym e) (reached_names names text E.none_reached 1 (names_in names));
        };
        rest =
            let z : records_in bindings - 0 ≡ records_in bindings = omega arith in
            sym (ap (λ (m : ℕ). make_all (entries bindings names text numbers (names_in names + 0)) (bases_from bindings names text 1 m)) z ∙ ap (λ (xs : List (List ℕ)). make_all xs (bases_of bindings names text)) e);
        counted = refl;
        short = omega arith;
      }

  module _ {lasts befores reached numbers : List ℕ} {bytes k : ℕ} (M : Made lasts befores reached numbers bytes k) where
    module _ (l : k < records_in bindings) {lasts' befores' reached' numbers' : List ℕ} {more : ℕ} (N : Numbering bindings names text lasts' befores' reached' numbers' (names_in names + k + 1))
        (D : Named bindings names text (names_in names + k) (k + 1) more numbers numbers') where
      abbrev ts : List (List ℕ)
      ts = entries bindings names text numbers (names_in names + k)

      abbrev base : List ℕ
      base = base_text (k + 1) bindings names text

      abbrev v : ℕ
      v = behind ts base

      abbrev next : List (List ℕ)
      next = bases_from bindings names text (k + 1 + 1) (records_in bindings - (k + 1))

      made_one : made_from bindings names text numbers' 1 (k + 1) ≡ made_from bindings names text numbers 1 k ++ (candidate base v ∷ [])
      made_one =
          let z : k + 1 ≡ suc k = omega arith in
          let o : 1 + k ≡ k + 1 = omega arith in
          let a : names_in names + (k + 1) ≡ names_in names + k + 1 = omega arith in
          ap (λ (x : List ℕ). made_from bindings names text x 1 (k + 1)) D.stores
          ∙ ap (made_from bindings names text (set numbers (names_in names + k + 1) v) 1) z
          ∙ made_snoc (set numbers (names_in names + k + 1) v) 1 k
          ∙ rw (made_other numbers (names_in names + k + 1) v 1 k (omega arith), o, a, get_or-set_same numbers (names_in names + k + 1) v 0 (omega (arith, M.numbering.stored.numbers_long)))

      -- the entries with it
      entries-one : entries bindings names text numbers' (names_in names + k + 1) ≡ ts ++ (candidate base v ∷ [])
      entries-one =
          let z : names_in names + k + 1 - 1 ≡ names_in names + k = omega arith in
          ap (λ (x : List ℕ). entries bindings names text x (names_in names + k + 1)) D.stores
          ∙ entries_next bindings names text numbers (k + 1) (names_in names + k + 1) v (omega arith) (omega arith) (omega (arith, M.numbering.stored.numbers_long))
          ∙ ap (λ (m : ℕ). entries bindings names text numbers m ++ (candidate base v ∷ [])) z

      pub made-next : Made lasts' befores' reached' numbers' (bytes + more) (k + 1)
      unfolding bases_from make_all joined
      made-next =
          let z : records_in bindings - k ≡ suc (records_in bindings - (k + 1)) = omega arith in
          let a : names_in names + (k + 1) ≡ names_in names + k + 1 = omega arith in
          record {
            few = omega arith;
            numbering = subst (Numbering bindings names text lasts' befores' reached' numbers') (sym a) N;
            rest =
                M.rest ∙ ap (λ (m : ℕ). made_from bindings names text numbers 1 k ++ make_all ts (bases_from bindings names text (k + 1) m)) z
                ∙ sym (append_assoc (made_from bindings names text numbers 1 k) (candidate base v ∷ []) (make_all (ts ++ (candidate base v ∷ [])) next))
                ∙ ap (λ (x : List (List ℕ)). x ++ make_all (ts ++ (candidate base v ∷ [])) next) (sym made_one)
                ∙ ap (λ (x : List (List ℕ)). made_from bindings names text numbers' 1 (k + 1) ++ make_all x next) (sym entries-one ∙ ap (entries bindings names text numbers') (sym a));
            counted =
                let j = joined-append (made_from bindings names text numbers 1 k) (candidate base v ∷ []) in
                let w : joined (candidate base v ∷ []) ≡ candidate base v ++ [] = refl in
                let m = length-append (joined (made_from bindings names text numbers 1 k)) (candidate base v ++ []) in
                omega (arith, M.counted, D.counted, ap (λ (x : List (List ℕ)). length (joined x)) made_one, ap length j, m, length-append (candidate base v) []);
            short = omega (arith, M.short, D.short);
          }

    pub made_all : records_in bindings ≤ k → Numbered bindings names text bytes numbers
    unfolding bases_from make_all
    made_all l =
        let f = M.few in
        let q : k ≡ records_in bindings = omega arith in
        let z : records_in bindings - k ≡ 0 = omega arith in
        let r : made_names bindings names text ≡ made_from bindings names text numbers 1 k =
        M.rest ∙ ap (λ (m : ℕ). made_from bindings names text numbers 1 k ++ make_all (entries bindings names text numbers (names_in names + k)) (bases_from bindings names text (k + 1) m)) z
        ∙ append-nil (made_from bindings names text numbers 1 k) in
        record {
          made = ap (made_from bindings names text numbers 1) (sym q) ∙ sym r;
          counted = M.counted ∙ ap (λ (x : List (List ℕ)). length (joined x)) (sym r);
          short = omega (arith, M.short);
        }

-- The same of the tables.
same_on : {t t' u : Tables} → Same t t' → Same t' u → Same t u
same_on S R = record {
  lasts = R.lasts ∙ S.lasts;
  befores = R.befores ∙ S.befores;
  reached = R.reached ∙ S.reached;
  numbers = R.numbers ∙ S.numbers;
  script = R.script ∙ S.script;
  long = (R.long.0 ∙ S.long.0, R.long.1 ∙ S.long.1, R.long.2 ∙ S.long.2, R.long.3 ∙ S.long.3);
}

pub record Numbers (t t' : Tables) (bytes k : ℕ) : Type 0 where
  pub same : Same t t'
  pub made : Made t.checked.script.bindings.now t.checked.script.names.now t.checked.script.text.now t'.lasts.now t'.befores.now t'.reached.now t'.numbers.now bytes k

pub numbers-start : {t t' : Tables} → Blank t → Same t t' → Found t'.lasts.now t'.befores.now (names_of t.checked.script.names.now t.checked.script.text.now) → t'.reached.now ≡ t.reached.now → t'.numbers.now ≡ t.numbers.now → Numbers t t' 0 0
numbers-start {t} {t'} B S F r n = record {
  same = S;
  made = rw (r, n) (made-start _ _ _ B S.long.0 S.long.1 F);
}

-- what is so of a script is so of the same one
over_script : (P : Checked → Type 0) {C D : Checked} → C ≡ D → P C → P D
over_script P q p = subst P q p

pub numbers-right : {t t' : Tables} {bytes k : ℕ} → Numbers t t' bytes k → Right t' (named t + k)
numbers-right {t} {t'} {k = k} N =
    over_script (λ (C : Checked). Numbering C.script.bindings.now C.script.names.now C.script.text.now t'.lasts.now t'.befores.now t'.reached.now t'.numbers.now (named t + k)) (sym N.same.script) N.made.numbering

pub numbers-next : {t t' u : Tables} {bytes k more : ℕ} → Numbers t t' bytes k → k < records t → Same t' u → Right u (named t + k + 1)
    → Named t'.checked.script.bindings.now t'.checked.script.names.now t'.checked.script.text.now (named t + k) (k + 1) more t'.numbers.now u.numbers.now → Numbers t u (bytes + more) (k + 1)
numbers-next {t} {t'} {u} {k = k} {more} N l S R D =
    let T = same_on N.same S in
    record {
      same = T;
      made = made-next _ _ _ N.made l
          (over_script (λ (C : Checked). Numbering C.script.bindings.now C.script.names.now C.script.text.now u.lasts.now u.befores.now u.reached.now u.numbers.now (named t + k + 1)) T.script R)
          (over_script (λ (C : Checked). Named C.script.bindings.now C.script.names.now C.script.text.now (named t + k) (k + 1) more t'.numbers.now u.numbers.now) N.same.script D);
    }
