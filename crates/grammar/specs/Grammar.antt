-- The grammar of section "Rows": what stands where, attr, name, number of children. Assumes nothing.
use Rattle.std.specs.Prelude.{ℕ, ◌+◌, ◌/◌, ◌%◌, Bool, cond, ◌||◌, ◌&&◌, not, eqb, ltb, leb}
use Rattle.grammar.specs.Kinds.{Program, ExprStmt, Var, Declarator, Return, Block, Other, Opaque, This, Super, Ident, Member, Computed, Call, Assign, Arrow, Function, Params, Body, Class, Method, Field, StaticBlock, Object, Property, Sequence, Arguments, Target}

abbrev pub bit0 : ℕ → Bool
bit0 a = eqb (a % 2) 1

abbrev pub bit1 : ℕ → Bool
bit1 a = eqb (a / 2 % 2) 1

abbrev pub bit2 : ℕ → Bool
bit2 a = eqb (a / 4 % 2) 1

abbrev pub bit3 : ℕ → Bool
bit3 a = eqb (a / 8 % 2) 1

-- "the kinds": 0 to 28 without 7
abbrev pub kind_ok : ℕ → Bool
kind_ok k = leb k 28 && not (eqb k 7)

-- "Expressions are 8 to 17, 20, 24, 26, 27", of which Super has places of its own
abbrev pub expression : ℕ → Bool
expression k = eqb k Opaque || eqb k This || (leb Ident k && leb k Function) || eqb k Class || eqb k Object || eqb k Sequence || eqb k Arguments

-- "statements 1, 2, 4, 5, 6, and 17 or 20 with bit 3": those that are statements by their kind alone
abbrev pub statement_kind : ℕ → Bool
statement_kind k = eqb k ExprStmt || eqb k Var || (leb Return k && leb k Other)

-- the kinds whose children are statements
abbrev pub list_kind : ℕ → Bool
list_kind k = eqb k Program || eqb k Block || eqb k Body || eqb k StaticBlock

-- The places in which a row can stand under its parent.
abbrev pub no_place : ℕ
no_place = 0

-- row 0
abbrev pub top_place : ℕ
top_place = 1

abbrev pub statement_place : ℕ
statement_place = 2

abbrev pub expression_place : ℕ
expression_place = 3

-- "first child of Member, Computed or Call": an expression or Super
abbrev pub object_place : ℕ
object_place = 4

abbrev pub declarator_place : ℕ
declarator_place = 5

abbrev pub params_place : ℕ
params_place = 6

abbrev pub body_place : ℕ
body_place = 7

-- a Class's Method, Field or StaticBlock
abbrev pub member_place : ℕ
member_place = 8

abbrev pub target_place : ℕ
target_place = 9

-- under Other: "statements, expressions, Targets"
abbrev pub other_place : ℕ
other_place = 10

-- under Opaque: "expressions, Targets"
abbrev pub opaque_place : ℕ
opaque_place = 11

-- under Object: "Properties, expressions"
abbrev pub property_place : ℕ
property_place = 12

-- under Target: "Ident, Member, Computed or Opaque"
abbrev pub assigned_place : ℕ
assigned_place = 13

-- a Function that is a static Method's or a Property method's
abbrev pub function_place : ℕ
function_place = 14

-- "the last child of a non-static Method": a Function that may be a constructor
abbrev pub constructor_place : ℕ
constructor_place = 15

-- The place of the child at position pos, from 0, under a row of kind k and attr a: column "children" of the table, in three parts.
unfoldable pub place_in_class : ℕ → ℕ → ℕ
place_in_class k a =
    cond (eqb k Method && bit1 a) function_place
    (cond (eqb k Method) constructor_place
    (cond (eqb k Field) expression_place
    (cond (eqb k Object) property_place
    (cond (eqb k Property && bit1 a) function_place
    (cond (eqb k Property) expression_place
    (cond (eqb k Target) assigned_place no_place))))))

unfoldable pub place_in_function : ℕ → ℕ → ℕ → ℕ
place_in_function k a pos =
    cond (eqb k Assign) expression_place
    (cond ((eqb k Arrow || eqb k Function) && eqb pos 0) params_place
    (cond (eqb k Arrow && bit1 a) expression_place
    (cond (eqb k Arrow || eqb k Function) body_place
    (cond (eqb k Class && bit0 a && eqb pos 0) expression_place
    (cond (eqb k Class) member_place
    (cond ((eqb k Method || eqb k Property) && bit0 a && eqb pos 0) expression_place (place_in_class k a)))))))

unfoldable pub place_of : ℕ → ℕ → ℕ → ℕ
place_of k a pos =
    cond (list_kind k) statement_place
    (cond (eqb k ExprStmt || eqb k Declarator || eqb k Return || eqb k Sequence) expression_place
    (cond (eqb k Var || eqb k Params) declarator_place
    (cond (eqb k Other) other_place
    (cond (eqb k Opaque) opaque_place
    (cond (leb Member k && leb k Call && eqb pos 0) object_place
    (cond (leb Member k && leb k Call) expression_place
    (cond (eqb k Assign && eqb pos 0) target_place (place_in_function k a pos))))))))

-- what may stand in a place, by its kind
abbrev pub fits : ℕ → ℕ → Bool
fits place k =
    (eqb place top_place && eqb k Program)
    || (eqb place statement_place && (statement_kind k || eqb k Function || eqb k Class))
    || (eqb place expression_place && expression k)
    || (eqb place object_place && (expression k || eqb k Super))
    || (eqb place declarator_place && eqb k Declarator)
    || (eqb place params_place && eqb k Params)
    || (eqb place body_place && eqb k Body)
    || (eqb place member_place && (leb Method k && leb k StaticBlock))
    || (eqb place target_place && eqb k Target)
    || (eqb place other_place && (statement_kind k || expression k || eqb k Target))
    || (eqb place opaque_place && (expression k || eqb k Target))
    || (eqb place property_place && (expression k || eqb k Property))
    || (eqb place assigned_place && (eqb k Opaque || (leb Ident k && leb k Computed)))
    || ((eqb place function_place || eqb place constructor_place) && eqb k Function)

-- "17 or 20 with bit 3, which they carry only there": set in a statement's place, either way under Other, clear elsewhere
abbrev pub declaration_ok : ℕ → ℕ → Bool
declaration_ok a place =
    (eqb place statement_place && bit3 a)
    || eqb place other_place
    || (not (eqb place statement_place) && not (eqb place other_place) && not (bit3 a))

-- "Bit 2 of Function stands alone, on the last child of a non-static Method."
abbrev pub constructor_ok : ℕ → ℕ → Bool
constructor_ok a place = not (bit2 a) || (eqb a 4 && eqb place constructor_place)

-- the attrs of each kind; "Other attr bits are 0"
abbrev pub attr_ok : ℕ → ℕ → ℕ → Bool
attr_ok k a place =
    (eqb k Var && ltb a 3)
    || ((eqb k Declarator || eqb k Block || eqb k Ident || eqb k Member || eqb k Arguments) && ltb a 2)
    || (eqb k Other || eqb k Opaque)
    || (eqb k Assign && ltb a 16)
    || ((eqb k Arrow || eqb k Method || eqb k Property) && ltb a 4)
    || (eqb k Function && ltb a 16 && declaration_ok a place && constructor_ok a place)
    || (eqb k Class && ltb a 10 && not (bit1 a) && not (bit2 a) && declaration_ok a place)
    || (eqb k Field && ltb a 8)
    || ((eqb k Program || eqb k ExprStmt || eqb k Return || eqb k This || eqb k Super || eqb k Computed || eqb k Call || eqb k Params || eqb k Body || eqb k StaticBlock || eqb k Object || eqb k Sequence || eqb k Target)
    && eqb a 0)

-- how many children a row has; plurals allow none
abbrev pub count_ok : ℕ → ℕ → ℕ → Bool
count_ok k a count =
    (list_kind k || eqb k Var || eqb k Other || eqb k Opaque || eqb k Params || eqb k Object)
    || ((eqb k ExprStmt || eqb k Member || eqb k Target) && eqb count 1)
    || ((eqb k Declarator || eqb k Return) && ltb count 2)
    || ((eqb k This || eqb k Super || eqb k Ident || eqb k Arguments) && eqb count 0)
    || ((eqb k Computed || eqb k Assign || eqb k Arrow || eqb k Function) && eqb count 2)
    || (eqb k Call && ltb 0 count)
    || (eqb k Class && (not (bit0 a) || ltb 0 count))
    || ((eqb k Method || eqb k Property) && eqb count (1 + a % 2))
    || (eqb k Field && eqb count (a % 2 + a / 4 % 2))
    || (eqb k Sequence && ltb 1 count)

-- refusal 5: "attr 1 on Declarator, Ident or Member, or an Arguments row"
abbrev pub made_row : ℕ → ℕ → Bool
made_row k a = (eqb a 1 && (eqb k Declarator || eqb k Ident || eqb k Member)) || eqb k Arguments

-- the kinds that name a name
abbrev pub names_one : ℕ → Bool
names_one k = eqb k Declarator || eqb k Ident || eqb k Member

-- "Ident, Member and Declarator with attr 0 name a name; Function and Class may have 0; Other and Opaque hold any number; all else has 0." "2 tests no name on a row that 5 names": since request No. 3 it is 25 that tests names.
abbrev pub name_ok : ℕ → ℕ → ℕ → ℕ → Bool
name_ok k a name names =
    made_row k a
    || (names_one k && ltb 0 name && leb name names)
    || ((eqb k Function || eqb k Class) && leb name names)
    || (eqb k Other || eqb k Opaque)
    || (not (names_one k) && not (eqb k Function) && not (eqb k Class) && eqb name 0)
