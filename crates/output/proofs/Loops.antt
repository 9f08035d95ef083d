-- A loop that writes a forest, or a list of records, piece by piece: what is left to do gives what there was to do. Assumes nothing.
use mathlib.Core.Path.{◌≡◌, refl, sym, ap, ◌∙◌}
use mathlib.Core.List.{List, [], ◌∷◌}
use Prim.Native.Nat.{ℕ, ◌+◌, ◌<◌, ◌^◌}
use native.Mathlib.Omega.{arith}
use lib.ListN.{length}
use Rattle.forest.specs.Forest.{Rows, Rows.none, size}
use Rattle.steps.specs.Joining.{join}
use Rattle.steps.specs.Bindings.{Binding, Binding.bind}
use Rattle.output.specs.Output.{emit_rows, emit_records, Done, Recorded, Copied}
use Rattle.output.proofs.Writing.{emit-join, kept, nothing}
use Rattle.output.proofs.Recording.{length_record, none-copied}
use Rattle.steps.proofs.Sizes.{size-join}

-- the rows left, written from row w on into the bytes out, give what all of them, written from row `at` on, gave
pub record Left (before : List ℕ) (at : ℕ) (all : Rows) (out : List ℕ) (w : ℕ) (left : Rows) : Type 0 where
  pub counts : w + size left ≡ at + size all
  pub writes : emit_rows out w left ≡ emit_rows before at all
  pub long : length out ≡ length before

-- at the start
pub all_left : (o : List ℕ) (at : ℕ) (f : Rows) → Left o at f o at f
all_left o at f = record { counts = refl; writes = refl; long = refl }

-- a turn
pub turn : {before out out' : List ℕ} {at w r : ℕ} {all left f g : Rows} → Left before at all out w left → left ≡ join f g → Done out w f r out' → Left before at all out' r g
turn {before} {out} {out'} {at} {w} {r} {all} {left} {f} {g} t q d = record {
  counts = omega (arith, ap size q, size-join f g, d.next, t.counts);
  writes = rw (d.wrote, d.next) (sym (emit-join f g out w) ∙ sym (ap (emit_rows out w) q) ∙ t.writes);
  long = kept d ∙ t.long;
}

-- its room
pub room_left : {before out : List ℕ} {at w : ℕ} {all left : Rows} (f g : Rows) → Left before at all out w left → left ≡ join f g → at + size all < 2 ^ 32 → w + (size f + size g) < 2 ^ 32
room_left f g t q h = omega (arith, ap size q, size-join f g, t.counts)

-- at the end
pub none_left : {before out : List ℕ} {at w : ℕ} {all left : Rows} → Left before at all out w left → left ≡ none → Done before at all w out
none_left {before} {out} {at} {w} {all} {left} t q = record {
  next = (nothing out w).next ∙ ap (λ (f : Rows). w + size f) (sym q) ∙ t.counts;
  wrote = (nothing out w).wrote ∙ ap (emit_rows out w) (sym q) ∙ t.writes;
}

-- the same for records
pub record RecordsLeft (before : List ℕ) (at : ℕ) (all : List Binding) (out : List ℕ) (w : ℕ) (left : List Binding) : Type 0 where
  pub counts : w + length left ≡ at + length all
  pub writes : emit_records out w left ≡ emit_records before at all
  pub long : length out ≡ length before

pub all_records_left : (o : List ℕ) (at : ℕ) (bs : List Binding) → RecordsLeft o at bs o at bs
all_records_left o at bs = record { counts = refl; writes = refl; long = refl }

pub record_turn : {before out out' : List ℕ} {at w u x f r : ℕ} {all left bs : List Binding}
    → RecordsLeft before at all out w left → left ≡ bind u x f ∷ bs → Recorded out w u x f r out' → RecordsLeft before at all out' r bs
unfolding emit_records
record_turn {before} {out} {out'} {at} {w} {u} {x} {f} {r} {all} {left} {bs} t q d = record {
  counts = omega (arith, ap length q, d.next, t.counts);
  writes = rw (d.wrote, d.next) (sym (ap (emit_records out w) q) ∙ t.writes);
  long = ap length d.wrote ∙ length_record out w u x f ∙ t.long;
}

pub no_records_left : {before out : List ℕ} {at w : ℕ} {all left : List Binding} → RecordsLeft before at all out w left → left ≡ [] → Copied before at all w out
no_records_left {before} {out} {at} {w} {all} {left} t q = record {
  next = (none-copied out w).next ∙ ap (λ (bs : List Binding). w + length bs) (sym q) ∙ t.counts;
  wrote = (none-copied out w).wrote ∙ ap (emit_records out w) (sym q) ∙ t.writes;
}
