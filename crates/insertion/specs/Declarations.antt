-- The Declarators of a frame's Var, by the bindings' array. Assumes nothing.
use Rattle.std.specs.Prelude.{List, Bool, cond, false, ◌&&◌, ℕ, ◌≤◌, ◌<◌, eqb}
use Rattle.forest.specs.Forest.{Rows}
use Rattle.steps.specs.TopInsertion.{arguments_decl, accessor_decls, param_numbers, this_decl}
use Rattle.bindings.specs.Store.{binds, this_at, arguments_at, first_at, next_at, Store}
use Rattle.bindings.specs.declared.frame.Frame.{Frame}

-- what a frame's Var is written from: the array with its count bindings, and the frame's row
pub record Held (M : List ℕ) (cap count frame : ℕ) : Type 0 where
  pub store : Store M cap count
  pub frame_low : frame < cap
  pub cap_low : cap ≤ 16384

-- "accessors by first use", the last of them before the rows t
abbrev pub frame_accessors : List ℕ → (cap count frame : ℕ) → Rows → Rows
frame_accessors M cap count f t = accessor_decls f 1 (param_numbers f 1 (binds M cap count)) (binds M cap count) t

-- "arguments (guarded at Program), accessors by first use, this": the numbers of the captures stand in the array
unfoldable pub frame_decls : List ℕ → (cap count frame : ℕ) (g l : Bool) → Rows
frame_decls M cap count f g l = arguments_decl (arguments_at M cap f) g (frame_accessors M cap count f (this_decl (this_at M cap f) l))

-- both, of a frame as the code has it
abbrev pub accessors_in : Frame → Rows → Rows
accessors_in s t = frame_accessors s.bindings.made.now s.bindings.cap s.bindings.count s.row t

abbrev pub decls_in : Frame → (g l : Bool) → Rows
decls_in s g l = frame_decls s.bindings.made.now s.bindings.cap s.bindings.count s.row g l

-- the param behind p in its chain, where p is taken; 0: there is none
abbrev pub param_after : List ℕ → (cap p : ℕ) → (taken : Bool) → ℕ
param_after M cap p taken = cond taken (cond (eqb p 0) 0 (next_at M cap p)) p

-- whether a frame has no capture and no accessor
abbrev pub bare_at : List ℕ → (cap f : ℕ) → Bool
bare_at M cap f = eqb (this_at M cap f) 0 && eqb (arguments_at M cap f) 0 && eqb (first_at M false cap f) 0
