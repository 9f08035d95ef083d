-- What the code says of a kind it says of each number that stands for it: a row's word may be none of the list. Assumes nothing.
use mathlib.Core.Path.{◌≡◌, refl}
use mathlib.Core.Bool.{Bool}
use Prim.Native.Nat.{ℕ}
use Rattle.grammar.specs.Codes.{listed}
use Rattle.grammar.specs.Kinds.{Program, ExprStmt, Call, Body, StaticBlock}
use Rattle.grammar.proofs.Listed.{test_listed}
use Rattle.steps.specs.Acts.{Op}
use Rattle.steps.specs.Bindings.{closes}
use Rattle.steps.specs.Fused.{met_of, direct_of, anew, pass_of}

pub closes_listed : (sl k : ℕ) → closes sl (listed k) ≡ closes sl k
unfolding closes
closes_listed sl k = rw (test_listed k Program refl, test_listed k StaticBlock refl, test_listed k Body refl)

met_listed : (sc k : ℕ) (sup : Bool) → met_of sc (listed k) sup ≡ met_of sc k sup
unfolding met_of
met_listed sc k sup = rw (test_listed k Call refl)

direct_listed : (sc k : ℕ) (called : Bool) → direct_of sc (listed k) called ≡ direct_of sc k called
unfolding direct_of
direct_listed sc k called = rw (test_listed k ExprStmt refl)

anew_listed : (sl k m : ℕ) → anew sl (listed k) m ≡ anew sl k m
unfolding anew
anew_listed sl k m = rw (closes_listed sl k)

pub pass_listed : (b sc sl k m : ℕ) (sup called : Bool) (op : Op) → pass_of b sc sl (listed k) m sup called op ≡ pass_of b sc sl k m sup called op
unfolding pass_of
pass_listed b sc sl k m sup called op = rw (met_listed, direct_listed, anew_listed)
