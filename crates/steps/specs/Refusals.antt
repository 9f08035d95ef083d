-- Refusals 6, 7 and 8 of "Turned away", over the forest of a table: each is the first row of which a test holds. Assumes nothing.
use Rattle.std.specs.Prelude.{ℕ, ◌+◌, Bool, true, false, cond, not, ◌&&◌, ◌||◌, eqb, Option, Some, None}
use Rattle.grammar.specs.Kinds.{Program, Declarator, Super, Call, Arrow, Function, Class, Method, Field, StaticBlock, Property}
use Rattle.names.specs.Answered.{or_else}
use Rattle.forest.specs.Forest.{Rows, Rows.none, Rows.node, size}
use Rattle.steps.specs.Mode.{Switches, bit, enabled, async_only}
use Rattle.steps.specs.Naming.{Names, named_arguments}

-- A test of rows, given what a row is told from outward; `one` and `more` say what its first child and its later ones are told.
pub record Rule (C : Type 0) : Type 0 where
  pub bad : C → (k a n : ℕ) → Rows → Bool
  pub one : C → (k a : ℕ) → C
  pub more : C → (k a : ℕ) → C

-- the first row such that the test holds: x is told to the first row, y to the later ones, o is the first row's number
unfoldable pub seek : {C : Type 0} → Rule C → (x y : C) → ℕ → Rows → Option ℕ
seek R x y o none = None
seek R x y o (node k a n i s) =
    or_else (cond (R.bad x k a n i) (Some o) None)
    (or_else (seek R (R.one x k a) (R.more x k a) (o + 1) i)
    (seek R y y (o + 1 + size i) s))

-- a test that asks nothing from outward
abbrev pub alone : ((k a n : ℕ) → Rows → Bool) → Rule (Unit {0})
alone t = record { bad = λ x. t; one = λ x k a. tt; more = λ x k a. tt }

-- 6. "Owner: outward, past Arrows, the nearest Function, StaticBlock, Field value or Program." Four sorts: Program or a Function that is not method-like, a constructor,
-- another method-like Function, a StaticBlock or a Field's value.
pub data Keeper : Type 0 where
  plain builder method member : Keeper

-- what a row is told: its owner, and how it stands
pub record Stand : Type 0 where
  pub owner : Keeper
  -- last child of a Method, or of a Property with bit 1
  pub of_method : Bool
  -- first child of a Call
  pub called : Bool

abbrev pub keeper_of : ℕ → Bool → Keeper
keeper_of a m = cond (bit 4 a) builder (cond m method plain)

-- the owner of a row's first child, and of its later ones; a Field's key has the Field's own
abbrev pub keep_one : Stand → (k a : ℕ) → Keeper
keep_one x k a = cond (eqb k Program) plain (cond (eqb k Function) (keeper_of a x.of_method) (cond (eqb k StaticBlock) member (cond (eqb k Field) (cond (bit 1 a) x.owner member) x.owner)))

abbrev pub keep_more : Stand → (k a : ℕ) → Keeper
keep_more x k a = cond (eqb k Program) plain (cond (eqb k Function) (keeper_of a x.of_method) (cond (eqb k StaticBlock || eqb k Field) member x.owner))

-- "Method-like: last child of a Method, or of a Property with bit 1."
abbrev pub method_holder : (k a : ℕ) → Bool
method_holder k a = eqb k Method || eqb k Property && bit 2 a

-- "A called Super wants a constructor; any other wants a method-like Function, a StaticBlock or a Field."
unfoldable pub allows : Keeper → (called : Bool) → Bool
allows plain c = false
allows builder c = true
allows method c = not c
allows member c = not c

-- "first Super row: its owner (below) does not allow it"
unfoldable pub sixes : Rule Stand
sixes = record {
  bad = λ x k a n i. eqb k Super && not (allows x.owner x.called);
  one = λ x k a. record { owner = keep_one x k a; of_method = method_holder k a && not (bit 1 a); called = eqb k Call };
  more = λ x k a. record { owner = keep_more x k a; of_method = method_holder k a; called = false };
}

abbrev pub outer : Stand
outer = record { owner = plain; of_method = false; called = false }

-- 7: "first Field row: its value holds a Super, or in AsyncOnly an Arrow, at any depth"
unfoldable pub holds : (arrows : Bool) → Rows → Bool
holds b none = false
holds b (node k a n i s) = eqb k Super || b && eqb k Arrow || holds b i || holds b s

unfoldable pub past_first : Rows → Rows
past_first none = none
past_first (node k a n i s) = s

-- the value of a Field, which stands behind its key
unfoldable pub value_of : ℕ → Rows → Rows
value_of a i = cond (bit 4 a) (cond (bit 1 a) (past_first i) i) none

unfoldable pub sevens : Switches → Rule (Unit {0})
sevens w = alone (λ k a n i. eqb k Field && holds (async_only w) (value_of a i))

-- 8: "first row: AsyncOnly, and a Declarator, Function or Class named `arguments`"
unfoldable pub eights : Names → Switches → Rule (Unit {0})
eights N w = alone (λ k a n i. async_only w && (eqb k Declarator || eqb k Function || eqb k Class) && named_arguments N n)

-- "Disabled gives no 6, 7, 8."
abbrev pub unless_off : Switches → Option ℕ → Option ℕ
unless_off w f = cond (enabled w || async_only w) f None

unfoldable pub six : Switches → Rows → Option ℕ
six w t = unless_off w (seek sixes outer outer 0 t)

unfoldable pub seven : Switches → Rows → Option ℕ
seven w t = unless_off w (seek (sevens w) tt tt 0 t)

unfoldable pub eight : Names → Switches → Rows → Option ℕ
eight N w t = unless_off w (seek (eights N w) tt tt 0 t)
