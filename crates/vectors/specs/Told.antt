-- What the last line of a replay says. Assumes nothing.
use Rattle.std.specs.Prelude.{ℕ, List, ◌++◌, codes}
use Rattle.std.specs.Fmt.{decimal}
use Rattle.vectors.specs.declared.cases.Tally.{Tally}

-- how many cases there are of what, and how many of them differ
abbrev pub tally_text : Tally → List ℕ
tally_text t = decimal t.cases ++ codes " " ++ t.what.now ++ codes ", " ++ decimal t.differ ++ codes " differ"
