-- `below::Node::look` meets its contract. Assumes nothing.
use mathlib.Core.Path.{ap, ◌∙◌}
use native.Mathlib.Omega.{arith}
use Rattle.steps.specs.Super.{first_super, first_access, first_name, first_inside}
use Rattle.steps.specs.AfterSuper.{super_call}
use Rattle.below.specs.Below.{property_of}
use Rattle.below.proofs.Firsts.{super_first, access_first, call_first, inside_first}
use Rattle.below.proofs.Node.look.Goals as goal

pub returns-in-Some : goal.returns-in-Some
returns-in-Some c =
    let first = c.in-Some.ensures in
    record {
      asked = record {
        supered = c.is_super.ensures ∙ super_first first;
        accessed = c.is_access.ensures ∙ access_first first;
        deep = c.property.ensures ∙ ap property_of (inside_first first);
      };
      called = c.is_super_call.ensures ∙ call_first first;
      named = c.first_name.ensures.0 ∙ ap first_name (inside_first first);
      small = c.first_name.ensures.1;
    }

pub returns-in-None : goal.returns-in-None
unfolding first_super first_access first_name first_inside super_call
returns-in-None c =
    let none = c.in-None.ensures in
    record {
      asked = record {
        supered = rw none;
        accessed = rw none;
        deep = rw none;
      };
      called = rw none;
      named = rw none;
      small = omega arith;
    }
