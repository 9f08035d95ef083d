-- Places. Assumes nothing.
use mathlib.Core.Path.{◌≡◌}
use mathlib.Core.Bool.{Bool, true, false, cond, ◌&&◌, ◌||◌}
use Prim.Native.Nat.{ℕ, ◌<◌}
use borrow.Author.Tests.{ne_eqb}
use lib.Dec.{eqb, leb, lit<}
use Rattle.grammar.specs.Kinds.{ExprStmt, Var, Declarator, Return, Other, Opaque, Member, Call, Assign, Arrow, Function, Params, Class, Method, Field, Object, Property, Sequence, Target}
use Rattle.grammar.specs.Grammar.{list_kind, bit0, bit1, place_of, place_in_function, place_in_class}

pick : (b : Bool) (x y : ℕ) → x < 16 → y < 16 → cond b x y < 16
pick true x y h k = h
pick false x y h k = k

class_small : (k a : ℕ) → place_in_class k a < 16
unfolding place_in_class
class_small k a =
    pick (eqb k Method && bit1 a) 14 _ (lit< tt)
    (pick (eqb k Method) 15 _ (lit< tt)
    (pick (eqb k Field) 3 _ (lit< tt)
    (pick (eqb k Object) 12 _ (lit< tt)
    (pick (eqb k Property && bit1 a) 14 _ (lit< tt)
    (pick (eqb k Property) 3 _ (lit< tt)
    (pick (eqb k Target) 13 0 (lit< tt) (lit< tt)))))))

function_small : (k a pos : ℕ) → place_in_function k a pos < 16
unfolding place_in_function
function_small k a pos =
    pick (eqb k Assign) 3 _ (lit< tt)
    (pick ((eqb k Arrow || eqb k Function) && eqb pos 0) 6 _ (lit< tt)
    (pick (eqb k Arrow && bit1 a) 3 _ (lit< tt)
    (pick (eqb k Arrow || eqb k Function) 7 _ (lit< tt)
    (pick (eqb k Class && bit0 a && eqb pos 0) 3 _ (lit< tt)
    (pick (eqb k Class) 8 _ (lit< tt)
    (pick ((eqb k Method || eqb k Property) && bit0 a && eqb pos 0) 3 _ (lit< tt) (class_small k a)))))))

-- there are 16 places
pub place-small : (k a pos : ℕ) → place_of k a pos < 16
unfolding place_of
place-small k a pos =
    pick (list_kind k) 2 _ (lit< tt)
    (pick (eqb k ExprStmt || eqb k Declarator || eqb k Return || eqb k Sequence) 3 _ (lit< tt)
    (pick (eqb k Var || eqb k Params) 5 _ (lit< tt)
    (pick (eqb k Other) 10 _ (lit< tt)
    (pick (eqb k Opaque) 11 _ (lit< tt)
    (pick (leb Member k && leb k Call && eqb pos 0) 4 _ (lit< tt)
    (pick (leb Member k && leb k Call) 3 _ (lit< tt)
    (pick (eqb k Assign && eqb pos 0) 9 _ (lit< tt) (function_small k a pos))))))))

-- a later child's place is that of the second
pub later_all : (k a pos : ℕ) → (pos ≡ 0 → ⊥) → place_of k a 1 ≡ place_of k a pos
unfolding place_of place_in_function
later_all k a pos h = rw (ne_eqb pos 0 h)
