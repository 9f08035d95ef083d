-- The names of a table, the base texts of its bindings, and the names that are made for these. Assumes nothing.
use Rattle.std.specs.Prelude.{ℕ, zero, suc, ◌+◌, ◌-◌, List, [], ◌∷◌, ◌++◌, take}
use Rattle.names.specs.Words.{names_in}
use Rattle.names.specs.Names.{bytes_of}
use Rattle.base_text.specs.Bindings.{records_in}
use Rattle.base_text.specs.Refusals.{base_text}
use Rattle.candidates.specs.Candidates.{behind, make_all}

-- n names from number k on; "a name of the table": every pair of the list
unfoldable pub names_from : (names text : List ℕ) (k n : ℕ) → List (List ℕ)
names_from names text k zero = []
names_from names text k (suc n) = bytes_of names text k ∷ names_from names text (k + 1) n

abbrev pub names_of : (names text : List ℕ) → List (List ℕ)
names_of names text = names_from names text 1 (names_in names)

-- the base texts of n bindings from number b on
unfoldable pub bases_from : (bindings names text : List ℕ) (b n : ℕ) → List (List ℕ)
bases_from bindings names text b zero = []
bases_from bindings names text b (suc n) = base_text b bindings names text ∷ bases_from bindings names text (b + 1) n

abbrev pub bases_of : (bindings names text : List ℕ) → List (List ℕ)
bases_of bindings names text = bases_from bindings names text 1 (records_in bindings)

-- the made names, "in binding order"
abbrev pub made_names : (bindings names text : List ℕ) → List (List ℕ)
made_names bindings names text = make_all (names_of names text) (bases_of bindings names text)

-- what is taken for binding b, from 1: "a name of the table or .. a made name with a lower number"
abbrev pub taken_for : (bindings names text : List ℕ) (b : ℕ) → List (List ℕ)
taken_for bindings names text b = names_of names text ++ take (b - 1) (made_names bindings names text)

-- the number that is put behind the name of binding b, from 1; 1 stands for no number
unfoldable pub behind_of : (bindings names text : List ℕ) (b : ℕ) → ℕ
behind_of bindings names text b = behind (taken_for bindings names text b) (base_text b bindings names text)
