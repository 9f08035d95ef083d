-- What a writer is once it has put a row or a forest, copied rows, or closed a row. Assumes nothing.
use Rattle.std.specs.Prelude.{List, ℕ, ◌+◌, ◌*◌}
use Rattle.std.proofs.lemmas.List.Edits.{sets}
use denote.Ref.{at_last}
use Rattle.names.specs.Words.{rows_in}
use Rattle.forest.specs.Forest.{Rows}
use Rattle.output.specs.declared.writer.Writer.{Writer}
use Rattle.output.specs.Output.{put, set_end, Done}

-- the same rows, lent as they were, with one more of them written, and the next row's number
abbrev pub rowed : (w : Writer) (k a n e : ℕ) → Writer
rowed w k a n e = record { rows = at_last w.rows (put w.rows.now w.at k a n e); at = w.at + 1 }

-- the same rows with the end of row r set to the next row's number
abbrev pub closed : (w : Writer) (r : ℕ) → Writer
closed w r = record { rows = at_last w.rows (set_end w.rows.now r w.at); at = w.at }

-- the same rows with the rows that the bytes s are behind those put, in these bytes, and the next row's number
abbrev pub copied : (w : Writer) (s : List ℕ) → Writer
copied w s = record { rows = at_last w.rows (sets w.rows.now (w.at * 16) s); at = w.at + rows_in s }

-- the forest f was written behind what w has put, and w' is the writer then
abbrev pub Puts : (w : Writer) (f : Rows) (w' : Writer) → Type 0
Puts w f w' = Done w.rows.now w.at f w'.at w'.rows.now
