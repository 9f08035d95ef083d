-- Change request No. 3: the number of a bad row is one of 21 to 25, in the order of the classes. Assumes nothing.
use mathlib.Core.Path.{◌≡◌, refl}
use Prim.Native.Nat.{◌+◌, ◌≤◌}
use native.Mathlib.Omega.{arith}
use Rattle.forest.specs.Faults.{fault_number, class_of}
use Rattle.forest.specs.declared.Fault.{Fault}
use Rattle.forest.specs.declared.Fault.TheVariants.{Kind, Attr, End, Place, Name}

pub fault-five : (f : Fault) → (21 ≤ fault_number f) × (fault_number f ≤ 25)
fault-five Kind = (omega arith, omega arith)
fault-five Attr = (omega arith, omega arith)
fault-five End = (omega arith, omega arith)
fault-five Place = (omega arith, omega arith)
fault-five Name = (omega arith, omega arith)

-- the lowest class has the lowest number
pub class_number : (f : Fault) → fault_number f ≡ 20 + class_of f
class_number Kind = refl
class_number Attr = refl
class_number End = refl
class_number Place = refl
class_number Name = refl
