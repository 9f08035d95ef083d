-- What the code's maker of bindings holds, and the names that it is given. Assumes nothing.
use Rattle.std.specs.Prelude.{List, ℕ}
use Rattle.spelling.specs.declared.Names.{Names}
use Rattle.steps.specs.Naming.{Names as Named}
use Rattle.steps.specs.Outcome.{names_of}
use Rattle.steps.specs.Bindings.{Binding}
use Rattle.bindings.specs.Store.{binds}
use Rattle.bindings.specs.Filed.{Filed, behind}
use Rattle.bindings.specs.declared.maker.Maker.{Maker}

-- the names of a table, as the steps have them
abbrev pub named_of : Names → Named
named_of n = names_of n.pairs.now n.text.now

-- the bindings of a maker
abbrev pub list_of : Maker → List Binding
list_of m = binds m.made.now m.cap m.count

-- what stands behind its ten tables
abbrev pub behind_of : Maker → List ℕ
behind_of m = behind m.cap m.made.now

-- the two tables there are right for its bindings
abbrev pub FiledOf : Names → Maker → Type 0
FiledOf n m = Filed n.pairs.now n.text.now (behind_of m) m.cap (list_of m)
