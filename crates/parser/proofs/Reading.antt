-- The loops over row lines and name lines: what is left gives what there was. Assumes nothing.
use mathlib.Core.Path.{◌≡◌, refl, sym, ap, ◌∙◌}
use mathlib.Core.Bool.{Bool, true, false, cond}
use mathlib.Core.List.{List, [], ◌∷◌}
use Prim.Native.Nat.{ℕ, ◌+◌, ◌*◌, ◌≤◌, ◌<◌}
use native.Mathlib.Omega.{arith}
use lib.ListN.{length, length-append}
use lib.Seq.{sets}
use lib.Dec.{leb}
use borrow.Author.Tests.{le-leb, lt-leb}
use Rattle.names.specs.Laid.{joined, pairs_from}
use Rattle.names.specs.Bytes.{bytes_of}
use Rattle.names.proofs.Storing.{sets-append, runs}
use Rattle.fields.specs.Headers.{row_header}
use Rattle.fields.specs.Fields.{split, fields, lines, row_of, Lined, same_bytes}
use Rattle.decimal.specs.Decimal.{Wrote}
use Rattle.parser.specs.Parse.{add_row, wrong, rows_from, words_from, RowsRead, SmallLines, has_rows, names_in, after_names, NamesRead}
use Rattle.fields.specs.declared.Row.{Row}
use Rattle.std.proofs.Common.{None, Some, Ok}
use denote.Ref.{Bor}

-- Rows.
pub record Turn (s : List ℕ) (k : ℕ) (rows₀ rows p : List ℕ) (n : ℕ) : Type 0 where
  pub few : n ≤ 1024
  pub long : length rows ≡ length rows₀
  pub left : n + length p ≤ length s
  pub same : rows_from 0 k (lines s) ≡ rows_from n k (lines p)
  pub wrote : sets rows₀ 0 (bytes_of (words_from 0 (lines s))) ≡ sets rows (16 * n) (bytes_of (words_from n (lines p)))

pub turn-start : (s : List ℕ) (k : ℕ) (rows : List ℕ) → Turn s k rows rows s 0
turn-start s k rows = record { few = omega arith; long = refl; left = omega arith; same = refl; wrote = refl }

module _ {s : List ℕ} {k : ℕ} {rows₀ rows p : List ℕ} {n : ℕ} (t : Turn s k rows₀ rows p n) where
  rest : List (List ℕ) → List ℕ
  rest x = sets rows (16 * n) (bytes_of (words_from n x))

  pub turn_end : p ≡ [] → RowsRead s k rows₀ (Ok n) rows × SmallLines k (Ok n)
  unfolding rows_from words_from bytes_of rest split
  turn_end h =
      let e : lines p ≡ [] = ap lines h in
      (record { answer = sym (t.same ∙ ap (rows_from n k) e); wrote = sym (t.wrote ∙ ap rest e) }, t.few)

  module _ {l q : List ℕ} (e : Lined p l q) where
    pub turn-fault : None ≡ row_of (fields l) → RowsRead s k rows₀ (wrong (k + n)) rows × SmallLines k (wrong (k + n))
    unfolding rows_from words_from bytes_of rest
    turn-fault f = (
      record {
        answer = sym (t.same ∙ ap (rows_from n k) e.first ∙ rw (← f));
        wrote = sym (t.wrote ∙ ap rest e.first ∙ none (leb 1024 n));
      },
      omega (arith, t.few),
    )
      where
        none : (b : Bool) → sets rows (16 * n) (bytes_of (cond b [] (add_row (row_of (fields l)) (words_from (n + 1) (lines q))))) ≡ rows
        none true = refl
        none false = rw (← f)

    module _ (r : Row) (f : Some r ≡ row_of (fields l)) where
      pub turn-full : 1024 ≤ n → RowsRead s k rows₀ (wrong (k + n)) rows × SmallLines k (wrong (k + n))
      unfolding rows_from words_from bytes_of rest
      turn-full g = (
        record {
          answer = sym (t.same ∙ ap (rows_from n k) e.first ∙ rw (← f, le-leb 1024 n g));
          wrote = sym (t.wrote ∙ ap rest e.first ∙ rw (le-leb 1024 n g));
        },
        omega (arith, t.few),
      )

      pub turn-next : (after : List ℕ) → n < 1024 → after ≡ sets rows (16 * n) (bytes_of (r.kind ∷ r.attr ∷ r.name ∷ r.end ∷ [])) → length after ≡ length rows → Turn s k rows₀ after q (n + 1)
      unfolding rows_from words_from rest
      turn-next after g w v = record {
        few = omega arith;
        long = v ∙ t.long;
        left = omega (arith, t.left, e.shorter);
        same = t.same ∙ ap (rows_from n k) e.first ∙ rw (← f, lt-leb 1024 n g);
        wrote = t.wrote ∙ ap rest e.first ∙ rw (lt-leb 1024 n g, ← f)
            (runs (r.kind ∷ r.attr ∷ r.name ∷ r.end ∷ []) (words_from (n + 1) (lines q)) rows (16 * n) (16 * (n + 1)) (omega arith)
            ∙ ap (λ (m : List ℕ). sets m (16 * (n + 1)) (bytes_of (words_from (n + 1) (lines q)))) (sym w));
      }

-- Names.
pub record Naming (s pairs₀ text₀ pairs text p : List ℕ) (k t : ℕ) : Type 0 where
  pub few : k + length p ≤ length s
  pub short : t + length p ≤ length s
  pub long : length pairs ≡ length pairs₀
  pub wide : length text ≡ length text₀
  pub found : has_rows (lines s) ≡ has_rows (lines p)
  pub rest : after_names (lines s) ≡ after_names (lines p)
  pub all : length (lines s) ≡ k + length (lines p)
  pub counted : length (names_in (lines s)) ≡ k + length (names_in (lines p))
  pub sized : length (joined (names_in (lines s))) ≡ t + length (joined (names_in (lines p)))
  pub paired : sets pairs₀ 0 (bytes_of (pairs_from 0 (names_in (lines s)))) ≡ sets pairs (8 * k) (bytes_of (pairs_from t (names_in (lines p))))
  pub laid : sets text₀ 0 (joined (names_in (lines s))) ≡ sets text t (joined (names_in (lines p)))

pub naming_start : (s pairs text : List ℕ) → Naming s pairs text pairs text s 0 0
naming_start s pairs text = record {
  few = omega arith;
  short = omega arith;
  long = refl;
  wide = refl;
  found = refl;
  rest = refl;
  all = omega arith;
  counted = omega arith;
  sized = omega arith;
  paired = refl;
  laid = refl;
}

module _ {s pairs₀ text₀ pairs text p : List ℕ} {k t : ℕ} (n : Naming s pairs₀ text₀ pairs text p k t) where
  pub naming_none : p ≡ [] → NamesRead s pairs₀ text₀ (wrong (4 + k)) pairs text
  unfolding has_rows names_in joined pairs_from bytes_of split
  naming_none h =
      let e : lines p ≡ [] = ap lines h in record {
        answer = record { lost = n.found ∙ ap has_rows e; line = omega (arith, n.all, ap length e); low = omega (arith, n.few) };
        paired = sym (n.paired ∙ ap (λ (x : List (List ℕ)). sets pairs (8 * k) (bytes_of (pairs_from t (names_in x)))) e);
        laid = sym (n.laid ∙ ap (λ (x : List (List ℕ)). sets text t (joined (names_in x))) e);
      }

  module _ {l q : List ℕ} (x : Lined p l q) where
    no_more : true ≡ same_bytes l row_header → names_in (lines p) ≡ []
    unfolding names_in
    no_more y = rw (x.first, ← y)

    pub naming-ends : (r : Bor (List ℕ)) → r.now ≡ q → true ≡ same_bytes l row_header → NamesRead s pairs₀ text₀ (Ok (record { count = k; text = t; rest = r })) pairs text
    unfolding has_rows after_names joined pairs_from bytes_of
    naming-ends r w y =
        let z = no_more y in record {
          answer = record {
            found = n.found ∙ rw (x.first, ← y);
            starts = ap lines w ∙ sym (n.rest ∙ rw (x.first, ← y));
            inside = omega (arith, ap length w, x.shorter, n.few);
            counted = omega (arith, n.counted, ap length z);
            long = omega (arith, n.sized, ap (λ (v : List (List ℕ)). length (joined v)) z);
            few = omega (arith, n.few);
            short = omega (arith, n.short);
          };
          paired = sym (n.paired ∙ ap (λ (v : List (List ℕ)). sets pairs (8 * k) (bytes_of (pairs_from t v))) z);
          laid = sym (n.laid ∙ ap (λ (v : List (List ℕ)). sets text t (joined v)) z);
        }

    more : false ≡ same_bytes l row_header → names_in (lines p) ≡ l ∷ names_in (lines q)
    unfolding names_in
    more y = rw (x.first, ← y)

    pub naming-next : (pairs' text' : List ℕ) (u : ℕ) → false ≡ same_bytes l row_header
        → pairs' ≡ sets pairs (8 * k) (bytes_of (t ∷ length l ∷ [])) → length pairs' ≡ length pairs → Wrote text t l u text' → length text' ≡ length text
        → Naming s pairs₀ text₀ pairs' text' q (k + 1) u
    unfolding has_rows after_names joined pairs_from
    naming-next pairs' text' u y c v w z =
        let m = more y in
        let g : t + length l ≡ u = sym w.next in
        let names = names_in (lines q) in
        record {
          few = omega (arith, n.few, x.shorter);
          short = omega (arith, n.short, w.next, x.fits);
          long = v ∙ n.long;
          wide = z ∙ n.wide;
          found = n.found ∙ rw (x.first, ← y);
          rest = n.rest ∙ rw (x.first, ← y);
          all = omega (arith, n.all, ap length x.first);
          counted = omega (arith, n.counted, ap length m);
          sized = omega (arith, n.sized, ap (λ (f : List (List ℕ)). length (joined f)) m, length-append l (joined names), w.next);
          paired = n.paired ∙ ap (λ (f : List (List ℕ)). sets pairs (8 * k) (bytes_of (pairs_from t f))) m
              ∙ ap (λ (f : ℕ). sets pairs (8 * k) (bytes_of (t ∷ length l ∷ pairs_from f names))) g
              ∙ runs (t ∷ length l ∷ []) (pairs_from u names) pairs (8 * k) (8 * (k + 1)) (omega arith)
              ∙ ap (λ (f : List ℕ). sets f (8 * (k + 1)) (bytes_of (pairs_from u names))) (sym c);
          laid = n.laid ∙ ap (λ (f : List (List ℕ)). sets text t (joined f)) m
              ∙ sets-append l (joined names) text t
              ∙ ap (λ (f : ℕ). sets (sets text t l) f (joined names)) g
              ∙ ap (λ (f : List ℕ). sets f u (joined names)) (sym w.wrote);
        }
