-- The kinds of rows, by the request's table "kind | children, attr" (docs/FORMAT.md, "Rows"). Assumes nothing.
use Rattle.std.specs.Prelude.{ℕ}

abbrev pub Program : ℕ
Program = 0

abbrev pub ExprStmt : ℕ
ExprStmt = 1

abbrev pub Var : ℕ
Var = 2

abbrev pub Declarator : ℕ
Declarator = 3

abbrev pub Return : ℕ
Return = 4

abbrev pub Block : ℕ
Block = 5

abbrev pub Other : ℕ
Other = 6

abbrev pub Opaque : ℕ
Opaque = 8

abbrev pub This : ℕ
This = 9

abbrev pub Super : ℕ
Super = 10

abbrev pub Ident : ℕ
Ident = 11

abbrev pub Member : ℕ
Member = 12

abbrev pub Computed : ℕ
Computed = 13

abbrev pub Call : ℕ
Call = 14

abbrev pub Assign : ℕ
Assign = 15

abbrev pub Arrow : ℕ
Arrow = 16

abbrev pub Function : ℕ
Function = 17

abbrev pub Params : ℕ
Params = 18

abbrev pub Body : ℕ
Body = 19

abbrev pub Class : ℕ
Class = 20

abbrev pub Method : ℕ
Method = 21

abbrev pub Field : ℕ
Field = 22

abbrev pub StaticBlock : ℕ
StaticBlock = 23

abbrev pub Object : ℕ
Object = 24

abbrev pub Property : ℕ
Property = 25

abbrev pub Sequence : ℕ
Sequence = 26

abbrev pub Arguments : ℕ
Arguments = 27

abbrev pub Target : ℕ
Target = 28
