-- Kinds and places as the code has them, and their numbers: a row's kind is a word of a table, and a row's place is kept as a byte. Assumes nothing.
use Rattle.std.specs.Prelude.{ℕ, cond, ltb}
use Rattle.grammar.specs.Grammar.{kind_ok}
use Rattle.grammar.specs.declared.kind.Kind.{Kind}
use Rattle.grammar.specs.declared.kind.Kind.TheVariants as kinds
use Rattle.grammar.specs.declared.place.Place.{Place}
use Rattle.grammar.specs.declared.place.Place.TheVariants as places

-- the number of a kind; 7 is none of the list's
abbrev pub kind_number : Kind → ℕ
kind_number kinds.Program = 0
kind_number kinds.ExprStmt = 1
kind_number kinds.Var = 2
kind_number kinds.Declarator = 3
kind_number kinds.Return = 4
kind_number kinds.Block = 5
kind_number kinds.Other = 6
kind_number kinds.Unlisted = 7
kind_number kinds.Opaque = 8
kind_number kinds.This = 9
kind_number kinds.Super = 10
kind_number kinds.Ident = 11
kind_number kinds.Member = 12
kind_number kinds.Computed = 13
kind_number kinds.Call = 14
kind_number kinds.Assign = 15
kind_number kinds.Arrow = 16
kind_number kinds.Function = 17
kind_number kinds.Params = 18
kind_number kinds.Body = 19
kind_number kinds.Class = 20
kind_number kinds.Method = 21
kind_number kinds.Field = 22
kind_number kinds.StaticBlock = 23
kind_number kinds.Object = 24
kind_number kinds.Property = 25
kind_number kinds.Sequence = 26
kind_number kinds.Arguments = 27
kind_number kinds.Target = 28

-- what a row's word says: a kind of the list, or none
abbrev pub listed : ℕ → ℕ
listed k = cond (kind_ok k) k 7

-- the number of a place
abbrev pub place_number : Place → ℕ
place_number places.Nowhere = 0
place_number places.Top = 1
place_number places.Statement = 2
place_number places.Expression = 3
place_number places.Object = 4
place_number places.Declarator = 5
place_number places.Params = 6
place_number places.Body = 7
place_number places.Member = 8
place_number places.Target = 9
place_number places.Other = 10
place_number places.Opaque = 11
place_number places.Property = 12
place_number places.Assigned = 13
place_number places.Function = 14
place_number places.Constructor = 15

-- what a byte says: a place, or none
abbrev pub placed : ℕ → ℕ
placed n = cond (ltb n 16) n 0
