-- The four tables as the struct holds them that is lent them, with the script whose names and bindings they are for. Assumes nothing.
use Rattle.std.specs.Prelude.{ℕ, ◌%◌, ◌<◌, ◌^◌, ◌≡◌, List, length, get_or, set}
use denote.Ref.{at_last}
use Rattle.names.specs.Words.{names_in}
use Rattle.spelling.specs.Hash.{hash_of}
use Rattle.base_text.specs.Bindings.{records_in}
use Rattle.base_text.specs.Refusals.{base_text}
use Rattle.candidates.specs.declared.Checked.{Checked}
use Rattle.candidates.specs.MadeNames.{names_of}
use Rattle.numbers.specs.Entries.{entry_at, entries}
use Rattle.numbers.specs.Tables.{Stored, Numbering, Empty, Chosen, Named, Numbered}
use Rattle.numbers.specs.declared.Tables.{Tables}

-- the base text of binding b, and the first entries, so many
abbrev pub base : Checked → (b : ℕ) → List ℕ
base c b = base_text b c.script.bindings.now c.script.names.now c.script.text.now

abbrev pub known : Checked → (numbers : List ℕ) (count : ℕ) → List (List ℕ)
known c numbers count = entries c.script.bindings.now c.script.names.now c.script.text.now numbers count

-- entry e, from 1
abbrev pub entry : Checked → (numbers : List ℕ) (e : ℕ) → List ℕ
entry c numbers e = entry_at c.script.bindings.now c.script.names.now c.script.text.now numbers e

-- the names of the script, and how many names and bindings it has
abbrev pub own_names : Tables → List (List ℕ)
own_names t = names_of t.checked.script.names.now t.checked.script.text.now

abbrev pub named : Tables → ℕ
named t = names_in t.checked.script.names.now

abbrev pub records : Tables → ℕ
records t = records_in t.checked.script.bindings.now

-- the same tables are held, as long as they were, for the same script
pub record Same (t t' : Tables) : Type 0 where
  pub lasts : t'.lasts.ghost_name ≡ t.lasts.ghost_name
  pub befores : t'.befores.ghost_name ≡ t.befores.ghost_name
  pub reached : t'.reached.ghost_name ≡ t.reached.ghost_name
  pub numbers : t'.numbers.ghost_name ≡ t.numbers.ghost_name
  pub script : t'.checked ≡ t.checked
  pub long : (length t'.lasts.now ≡ length t.lasts.now) × (length t'.befores.now ≡ length t.befores.now) × (length t'.reached.now ≡ length t.reached.now) × (length t'.numbers.now ≡ length t.numbers.now)

-- there is room for entry e
pub record Fits (t : Tables) (e : ℕ) : Type 0 where
  pub some : 0 < length t.lasts.now
  pub inside : e < length t.befores.now
  pub low : e < 2 ^ 32

-- entry e, which is x, is put into its bucket
abbrev pub put : (t : Tables) (x : List ℕ) (e : ℕ) → Tables
put t x e = record {
  lasts = at_last t.lasts (set t.lasts.now (hash_of x % length t.lasts.now) e);
  befores = at_last t.befores (set t.befores.now e (get_or t.lasts.now (hash_of x % length t.lasts.now) 0));
  reached = t.reached;
  numbers = t.numbers;
  checked = t.checked;
}

-- how far numbers are known to be taken is told anew
abbrev pub reaching : Tables → List ℕ → Tables
reaching t r = record { lasts = t.lasts; befores = t.befores; reached = at_last t.reached r; numbers = t.numbers; checked = t.checked }

-- the tables but for `reached` are right for the first `count` entries
abbrev pub Held : Tables → (count : ℕ) → Type 0
Held t count = Stored t.checked.script.bindings.now t.checked.script.names.now t.checked.script.text.now t.lasts.now t.befores.now t.numbers.now count

-- all four are right for them
abbrev pub Right : Tables → (count : ℕ) → Type 0
Right t count = Numbering t.checked.script.bindings.now t.checked.script.names.now t.checked.script.text.now t.lasts.now t.befores.now t.reached.now t.numbers.now count

-- they have no entry, with room for all
abbrev pub Blank : Tables → Type 0
Blank t = Empty t.checked.script.bindings.now t.checked.script.names.now t.lasts.now t.befores.now t.reached.now t.numbers.now

-- n is the number behind binding b's name, after `count` entries, and `reached` is right once that name is an entry
abbrev pub Chooses : Tables → (count b n : ℕ) (reached : List ℕ) → Type 0
Chooses t count b n reached = Chosen t.checked.script.bindings.now t.checked.script.names.now t.checked.script.text.now t.numbers.now count b n reached

-- that number is stored, and the name has so many bytes
abbrev pub NumbersOne : (t t' : Tables) (count b bytes : ℕ) → Type 0
NumbersOne t t' count b bytes = Named t.checked.script.bindings.now t.checked.script.names.now t.checked.script.text.now count b bytes t.numbers.now t'.numbers.now

-- the numbers behind all names are stored, which have so many bytes together
abbrev pub NumbersAll : (t t' : Tables) (bytes : ℕ) → Type 0
NumbersAll t t' bytes = Numbered t.checked.script.bindings.now t.checked.script.names.now t.checked.script.text.now bytes t'.numbers.now
