-- Module 1, Mode. Assumes nothing.
use Rattle.std.specs.Prelude.{ℕ, ◌/◌, ◌%◌, Bool, true, false, cond, ◌&&◌, ◌||◌, eqb}
use Rattle.steps.specs.declared.ArrowFunctionConverterMode.{ArrowFunctionConverterMode}
use Rattle.steps.specs.declared.ArrowFunctionConverterMode.TheVariants.{Disabled, Enabled, AsyncOnly}

-- the bit of an attr whose value is j: 1, 2, 4 or 8 for bits 0 to 3
unfoldable pub bit : ℕ → ℕ → Bool
bit j a = eqb (a / j % 2) 1

-- "three switches of the target choose the mode": arrows, async-to-generator, async generators
pub record Switches : Type 0 where
  pub arrows : Bool
  pub async : Bool
  pub asyncgen : Bool

-- "Arrow switch on: Enabled. Else either async switch: AsyncOnly. Else Disabled"
abbrev pub mode_of : Switches → ArrowFunctionConverterMode
mode_of w = cond w.arrows Enabled (cond (w.async || w.asyncgen) AsyncOnly Disabled)

abbrev pub switches : (arrows async asyncgen : Bool) → Switches
switches arrows async asyncgen = record { arrows = arrows; async = async; asyncgen = asyncgen }

abbrev pub is_disabled : ArrowFunctionConverterMode → Bool
is_disabled Disabled = true
is_disabled Enabled = false
is_disabled AsyncOnly = false

abbrev pub is_enabled : ArrowFunctionConverterMode → Bool
is_enabled Disabled = false
is_enabled Enabled = true
is_enabled AsyncOnly = false

abbrev pub is_async_only : ArrowFunctionConverterMode → Bool
is_async_only Disabled = false
is_async_only Enabled = false
is_async_only AsyncOnly = true

unfoldable pub enabled : Switches → Bool
enabled w = is_enabled (mode_of w)

unfoldable pub async_only : Switches → Bool
async_only w = is_async_only (mode_of w)

-- "\"Moved\" means async and its switch on: async generators for a generator, async-to-generator otherwise." `will_transform_async_function` of the Rust
abbrev pub moves : (async-switch asyncgen-switch async generator : Bool) → Bool
moves async-switch asyncgen-switch async generator = async && cond generator asyncgen-switch async-switch

-- of a Function, by its attr
unfoldable pub moved_function : Switches → ℕ → Bool
moved_function w a = moves w.async w.asyncgen (bit 1 a) (bit 2 a)

-- of an Arrow, which is no generator: its bit 1 says "expression"
unfoldable pub moved_arrow : Switches → ℕ → Bool
moved_arrow w a = moves w.async w.asyncgen (bit 1 a) false
