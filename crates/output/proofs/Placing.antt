-- What is written where there is room for it: the bytes of the forest's words, or of the records, in place, and all else as it was. Assumes nothing.
use mathlib.Core.Path.{◌≡◌, refl, sym, ap, ◌∙◌}
use mathlib.Core.List.{List, [], ◌∷◌, ◌++◌}
use Prim.Native.Nat.{ℕ, ◌+◌, ◌*◌, ◌≤◌}
use native.Mathlib.Omega.{arith}
use lib.ListN.{length, take, drop}
use lib.Seq.{sets, sets-eq}
use Rattle.names.specs.Bytes.{le32, bytes_of}
use Rattle.names.proofs.Storing.{length-le32, sets-append, bytes-append, length-bytes}
use Rattle.forest.specs.Forest.{Rows, Rows.none, Rows.node, size, flat}
use Rattle.forest.proofs.Accepting.{length-flat}
use Rattle.steps.specs.Bindings.{Binding, Binding.bind}
use Rattle.steps.specs.Outcome.{records}
use Rattle.output.specs.Output.{put, emit_rows, put_record, emit_records, Done, Copied}
use Rattle.output.proofs.Writing.{put_in, length-put, length-emit, emit_empty}
use Rattle.output.proofs.Recording.{record_in, length_record}

-- The rows.
pub rows_bytes : (f : Rows) (o : ℕ) → length (bytes_of (flat o f)) ≡ 16 * size f
rows_bytes f o = omega (arith, length-bytes (flat o f), length-flat o f)

bytes_node : (o k a n : ℕ) (i s : Rows)
    → bytes_of (flat o (node k a n i s))
    ≡ le32 k ++ (le32 a ++ (le32 n ++ (le32 (o + 1 + size i) ++ (bytes_of (flat (o + 1) i) ++ bytes_of (flat (o + 1 + size i) s)))))
unfolding flat bytes_of
bytes_node o k a n i s = rw (bytes-append (flat (o + 1) i) (flat (o + 1 + size i) s))

pub emit-flat : (f : Rows) (o : List ℕ) (r : ℕ) → 16 * (r + size f) ≤ length o → emit_rows o r f ≡ sets o (r * 16) (bytes_of (flat r f))
unfolding emit_rows size
emit-flat none o r h = unfold flat bytes_of in refl
emit-flat (node k a n i s) o r h =
    let e = r + 1 + size i in
    let o1 = put o r k a n e in
    let l1 : length o1 ≡ length o = length-put o r k a n e in
    let l2 : length (emit_rows o1 (r + 1) i) ≡ length o = length-emit i o1 (r + 1) ∙ l1 in
    let p5 : r * 16 + 4 + 4 + 4 + 4 + 16 * size i ≡ (r + 1 + size i) * 16 = omega arith in
    let p4 : r * 16 + 4 + 4 + 4 + 4 ≡ (r + 1) * 16 = omega arith in
    let p3 : r * 16 + 4 + 4 + 4 ≡ r * 16 + 12 = omega arith in
    let p2 : r * 16 + 4 + 4 ≡ r * 16 + 8 = omega arith in
    emit-flat s (emit_rows o1 (r + 1) i) e (omega arith)
    ∙ ap (λ (m : List ℕ). sets m (e * 16) (bytes_of (flat e s)))
    (emit-flat i o1 (r + 1) (omega arith) ∙ ap (λ (m : List ℕ). sets m ((r + 1) * 16) (bytes_of (flat (r + 1) i))) (put_in o r k a n e (omega arith)))
    ∙ sym
    (rw (bytes_node r k a n i s, sets-append (le32 k), sets-append (le32 a), sets-append (le32 n), sets-append (le32 e), sets-append (bytes_of (flat (r + 1) i)))
    (rw (length-le32 k, length-le32 a, length-le32 n, length-le32 e, rows_bytes i (r + 1), p5, p4, p3, p2)))

-- a forest from row r on, where it fits: what stood before it and after it stays
pub emit-place : (f : Rows) (o : List ℕ) (r : ℕ) → 16 * (r + size f) ≤ length o
    → emit_rows o r f ≡ take (16 * r) o ++ bytes_of (flat r f) ++ drop (16 * (r + size f)) o
emit-place f o r h =
    let b : r * 16 ≡ 16 * r = omega arith in
    let e : 16 * r + length (bytes_of (flat r f)) ≡ 16 * (r + size f) = omega (arith, rows_bytes f r) in
    emit-flat f o r h ∙ rw b (sets-eq (bytes_of (flat r f)) o (16 * r) (omega arith) ∙ rw e)

-- the whole forest, where it fits
pub emit-start : (f : Rows) (o : List ℕ) → 16 * size f ≤ length o → emit_rows o 0 f ≡ bytes_of (flat 0 f) ++ drop (16 * size f) o
emit-start f o h =
    let z : 0 + size f ≡ size f = omega arith in
    rw z at (emit-place f o 0 (omega arith))

-- A walk that wrote all of it, and one over no bytes, which only counts.
pub whole : {before after : List ℕ} {f : Rows} {r : ℕ} → Done before 0 f r after → 16 * size f ≤ length before → after ≡ bytes_of (flat 0 f) ++ drop (16 * size f) before
whole {before} {after} {f} {r} d h = d.wrote ∙ emit-start f before h

pub dry : {after : List ℕ} {f : Rows} {at r : ℕ} → Done [] at f r after → (r ≡ at + size f) × (after ≡ [])
dry {after} {f} {at} {r} d = (d.next, d.wrote ∙ emit_empty f at)

-- The records.
length-of : (bs : List Binding) → length (records bs) ≡ 3 * length bs
unfolding records
length-of [] = refl
length-of (bind u x f ∷ bs) = omega (arith, length-of bs)

pub records-bytes : (bs : List Binding) → length (bytes_of (records bs)) ≡ 12 * length bs
records-bytes bs = omega (arith, length-bytes (records bs), length-of bs)

records-flat : (bs : List Binding) (o : List ℕ) (r : ℕ) → 12 * (r + length bs) ≤ length o → emit_records o r bs ≡ sets o (r * 12) (bytes_of (records bs))
unfolding emit_records records bytes_of
records-flat [] o r h = refl
records-flat (bind u x f ∷ bs) o r h =
    let p3 : r * 12 + 4 + 4 + 4 ≡ (r + 1) * 12 = omega arith in
    let p2 : r * 12 + 4 + 4 ≡ r * 12 + 8 = omega arith in
    records-flat bs (put_record o r u x f) (r + 1) (omega (arith, length_record o r u x f))
    ∙ ap (λ (m : List ℕ). sets m ((r + 1) * 12) (bytes_of (records bs))) (record_in o r u x f (omega arith))
    ∙ sym (rw (sets-append (le32 u), sets-append (le32 x), sets-append (le32 f)) (rw (length-le32 u, length-le32 x, length-le32 f, p3, p2)))

-- a list of bindings from record r on, where it fits
pub records-place : (bs : List Binding) (o : List ℕ) (r : ℕ) → 12 * (r + length bs) ≤ length o
    → emit_records o r bs ≡ take (12 * r) o ++ bytes_of (records bs) ++ drop (12 * (r + length bs)) o
records-place bs o r h =
    let b : r * 12 ≡ 12 * r = omega arith in
    let e : 12 * r + length (bytes_of (records bs)) ≡ 12 * (r + length bs) = omega (arith, records-bytes bs) in
    records-flat bs o r h ∙ rw b (sets-eq (bytes_of (records bs)) o (12 * r) (omega arith) ∙ rw e)

-- the whole list, where it fits
pub records-start : (bs : List Binding) (o : List ℕ) → 12 * length bs ≤ length o → emit_records o 0 bs ≡ bytes_of (records bs) ++ drop (12 * length bs) o
records-start bs o h =
    let z : 0 + length bs ≡ length bs = omega arith in
    rw z at (records-place bs o 0 (omega arith))

pub whole_copy : {before after : List ℕ} {bs : List Binding} {r : ℕ} → Copied before 0 bs r after → 12 * length bs ≤ length before → after ≡ bytes_of (records bs) ++ drop (12 * length bs) before
whole_copy {before} {after} {bs} {r} d h = d.wrote ∙ records-start bs before h
