-- What the structs of this crate stand for. Assumes nothing.
use Rattle.steps.specs.Mode.{Switches}
use Rattle.steps.specs.Acts.{Ctx}
use Rattle.acts.specs.declared.switches.Switches.{Switches as Lent}
use Rattle.acts.specs.declared.context.Context.{Context}

abbrev pub switches_of : Lent → Switches
switches_of w = record { arrows = w.arrow_function; async = w.async_to_generator; asyncgen = w.async_generator_functions }

abbrev pub context_of : Context → Ctx
context_of c = record { takes_this = c.takes_this; this_at = c.this_at; takes_super = c.takes_super; super_at = c.super_at; takes_arguments = c.takes_arguments; arguments_at = c.arguments_at }
