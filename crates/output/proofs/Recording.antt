-- The laws of writing records, and the steps by which a loop shows that it wrote a list of them. Assumes nothing.
use mathlib.Core.Path.{◌≡◌, refl, ap, ◌∙◌}
use mathlib.Core.Bool.{Bool, true, false, cond}
use mathlib.Core.List.{List, [], ◌∷◌, ◌++◌}
use Prim.Native.Nat.{ℕ, suc, ◌+◌, ◌*◌, ◌≤◌, ◌<◌}
use native.Mathlib.Omega.{arith}
use lib.ListN.{length, length-append}
use lib.Seq.{length-sets}
use lib.Dec.{leb}
use borrow.Author.Tests.{le-leb, lt-leb}
use Rattle.steps.specs.Bindings.{Binding, Binding.bind}
use Rattle.output.specs.Output.{with_record, put_record, emit_records, Recorded, Copied}

record-at : (o : List ℕ) (r u x f : ℕ) (b : Bool) → leb (r * 12 + 12) (length o) ≡ b → put_record o r u x f ≡ cond b (with_record o r u x f) o
unfolding put_record
record-at o r u x f b q = rw q

pub record_in : (o : List ℕ) (r u x f : ℕ) → r * 12 + 12 ≤ length o → put_record o r u x f ≡ with_record o r u x f
record_in o r u x f h = record-at o r u x f true (le-leb _ _ h)

pub record_out : (o : List ℕ) (r u x f : ℕ) → length o < r * 12 + 12 → put_record o r u x f ≡ o
record_out o r u x f h = record-at o r u x f false (lt-leb _ _ h)

-- nothing changes the length
pub length_record : (o : List ℕ) (r u x f : ℕ) → length (put_record o r u x f) ≡ length o
length_record o r u x f = go (leb (r * 12 + 12) (length o)) refl
  where
    go : (b : Bool) → leb (r * 12 + 12) (length o) ≡ b → length (put_record o r u x f) ≡ length o
    go true q = rw (record-at o r u x f true q) (simp length-sets)
    go false q = rw (record-at o r u x f false q)

pub length-records : (bs : List Binding) (o : List ℕ) (r : ℕ) → length (emit_records o r bs) ≡ length o
unfolding emit_records
length-records [] o r = refl
length-records (bind u x f ∷ bs) o r = length-records bs _ _ ∙ length_record o r u x f

-- where not one record fits, nothing changes
pub records_out : (bs : List Binding) (o : List ℕ) (r : ℕ) → length o < r * 12 + 12 → emit_records o r bs ≡ o
unfolding emit_records
records_out [] o r h = refl
records_out (bind u x f ∷ bs) o r h = rw (record_out o r u x f h) (records_out bs o (r + 1) (omega arith))

pub records_empty : (bs : List Binding) (r : ℕ) → emit_records [] r bs ≡ []
records_empty bs r = records_out bs [] r (omega arith)

-- one list, then another
pub records-append : (bs cs : List Binding) (o : List ℕ) (r : ℕ) → emit_records o r (bs ++ cs) ≡ emit_records (emit_records o r bs) (r + length bs) cs
unfolding emit_records
records-append [] cs o r = let e : r + 0 ≡ r = omega arith in rw e
records-append (bind u x f ∷ bs) cs o r =
    let e : r + suc (length bs) ≡ r + 1 + length bs = omega arith in
    rw e (records-append bs cs (put_record o r u x f) (r + 1))

-- The steps: no record, one, and one after the other.
pub none-copied : (o : List ℕ) (at : ℕ) → Copied o at [] at o
unfolding emit_records
none-copied o at = record { next = omega arith; wrote = refl }

pub one-copied : {o o' : List ℕ} {at u x f r : ℕ} → Recorded o at u x f r o' → Copied o at (bind u x f ∷ []) r o'
unfolding emit_records
one-copied {o} {o'} {at} {u} {x} {f} {r} p = record { next = p.next; wrote = p.wrote }

pub both-copied : {o o1 o2 : List ℕ} {at mid next : ℕ} {bs cs : List Binding} → Copied o at bs mid o1 → Copied o1 mid cs next o2 → Copied o at (bs ++ cs) next o2
both-copied {o} {o1} {o2} {at} {mid} {next} {bs} {cs} p q = record {
  next = omega (arith, length-append bs cs, p.next, q.next);
  wrote = rw (records-append bs cs o at, ← p.wrote, ← p.next) q.wrote;
}

-- a writer keeps the length
pub copy-kept : {o o' : List ℕ} {at r : ℕ} {bs : List Binding} → Copied o at bs r o' → length o' ≡ length o
copy-kept {o} {o'} {at} {r} {bs} d = ap length d.wrote ∙ length-records bs o at
