-- What the writers do to the bytes of an output: rows of four words and records of three, each written where it lies whole in the bytes and left out where it does not. Assumes nothing.
use Rattle.std.specs.Prelude.{◌≡◌, cond, List, [], ◌∷◌, ℕ, ◌+◌, ◌*◌, length, leb}
use Rattle.std.proofs.lemmas.List.Edits.{sets}
use Rattle.names.specs.Bytes.{le32}
use Rattle.forest.specs.Forest.{Rows, Rows.none, Rows.node, size}
use Rattle.steps.specs.Bindings.{Binding, Binding.bind}

-- the bytes o with row r written: "each four u32: kind, attr, name, end"
abbrev pub with_row : (o : List ℕ) (r k a n e : ℕ) → List ℕ
with_row o r k a n e =
    sets (sets (sets (sets o (r * 16) (le32 k)) (r * 16 + 4) (le32 a)) (r * 16 + 8) (le32 n)) (r * 16 + 12) (le32 e)

-- row r, where it lies whole in the bytes
unfoldable pub put : (o : List ℕ) (r k a n e : ℕ) → List ℕ
put o r k a n e = cond (leb (r * 16 + 16) (length o)) (with_row o r k a n e) o

-- the end of row r, where the row lies whole in the bytes
unfoldable pub set_end : (o : List ℕ) (r e : ℕ) → List ℕ
set_end o r e = cond (leb (r * 16 + 16) (length o)) (sets o (r * 16 + 12) (le32 e)) o

-- a forest, its first row at r: row by row, in preorder
unfoldable pub emit_rows : (o : List ℕ) (r : ℕ) → Rows → List ℕ
emit_rows o r none = o
emit_rows o r (node k a n i s) = emit_rows (emit_rows (put o r k a n (r + 1 + size i)) (r + 1) i) (r + 1 + size i) s

-- the bytes o with record r written
abbrev pub with_record : (o : List ℕ) (r u x f : ℕ) → List ℕ
with_record o r u x f = sets (sets (sets o (r * 12) (le32 u)) (r * 12 + 4) (le32 x)) (r * 12 + 8) (le32 f)

-- record r, where it lies whole in the bytes: "use, property name number or 0, frame's input row"
unfoldable pub put_record : (o : List ℕ) (r u x f : ℕ) → List ℕ
put_record o r u x f = cond (leb (r * 12 + 12) (length o)) (with_record o r u x f) o

-- a list of bindings, the first one's record at r
unfoldable pub emit_records : (o : List ℕ) (r : ℕ) → List Binding → List ℕ
emit_records o r [] = o
emit_records o r (bind u x f ∷ bs) = emit_records (put_record o r u x f) (r + 1) bs

-- row `at` was appended, and r is the next row
pub record Appended (before : List ℕ) (at k a n e r : ℕ) (after : List ℕ) : Type 0 where
  pub next : r ≡ at + 1
  pub wrote : after ≡ put before at k a n e

-- the forest f was written from row `at` on, and r is the next row
pub record Done (before : List ℕ) (at : ℕ) (f : Rows) (r : ℕ) (after : List ℕ) : Type 0 where
  pub next : r ≡ at + size f
  pub wrote : after ≡ emit_rows before at f

-- record `at` was written, and r is the next record
pub record Recorded (before : List ℕ) (at u x f r : ℕ) (after : List ℕ) : Type 0 where
  pub next : r ≡ at + 1
  pub wrote : after ≡ put_record before at u x f

-- the bindings bs were written from record `at` on, and r is the next record
pub record Copied (before : List ℕ) (at : ℕ) (bs : List Binding) (r : ℕ) (after : List ℕ) : Type 0 where
  pub next : r ≡ at + length bs
  pub wrote : after ≡ emit_records before at bs
