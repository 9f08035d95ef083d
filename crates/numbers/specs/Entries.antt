-- What is taken, as numbered entries: the names of the table, then the made names, each told by its binding and the number behind it. Assumes nothing.
use Rattle.std.specs.Prelude.{ℕ, zero, suc, ◌+◌, ◌-◌, cond, List, [], ◌∷◌, ◌++◌, get_or, leb}
use Rattle.names.specs.Words.{names_in}
use Rattle.names.specs.Names.{bytes_of}
use Rattle.base_text.specs.Refusals.{base_text}
use Rattle.candidates.specs.Candidates.{candidate}

-- entry e, from 1; `numbers` holds by entry the number that stands behind a made name, 1 for none
unfoldable pub entry_at : (bindings names text numbers : List ℕ) (e : ℕ) → List ℕ
entry_at bindings names text numbers e =
    cond (leb e (names_in names)) (bytes_of names text e) (candidate (base_text (e - names_in names) bindings names text) (get_or numbers e 0))

-- the first entries, so many
unfoldable pub entries : (bindings names text numbers : List ℕ) (count : ℕ) → List (List ℕ)
entries bindings names text numbers zero = []
entries bindings names text numbers (suc e) = entries bindings names text numbers e ++ (entry_at bindings names text numbers (suc e) ∷ [])

-- the made names of n bindings from number b on, by the numbers that are stored for them
unfoldable pub made_from : (bindings names text numbers : List ℕ) (b n : ℕ) → List (List ℕ)
made_from bindings names text numbers b zero = []
made_from bindings names text numbers b (suc n) =
    candidate (base_text b bindings names text) (get_or numbers (names_in names + b) 0) ∷ made_from bindings names text numbers (b + 1) n
