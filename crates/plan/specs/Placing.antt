-- A spot in one number: what its parts are, lowest first. Assumes nothing.
use Rattle.std.specs.Prelude.{Bool, ℕ, ◌%◌, ◌/◌, eqb}
use Rattle.steps.specs.Acts.{Ctx}
use Rattle.steps.specs.Context.{Spot, spot}
use Rattle.plan.specs.declared.place.Place.{Place}

-- the flag in the lowest bit
abbrev pub flag_in : ℕ → Bool
flag_in n = eqb (n % 2) 1

-- the frame in the lowest 14 bits
abbrev pub frame_in : ℕ → ℕ
frame_in n = n % 16384

-- of a context's number, what stands above its three flags
abbrev pub frames_in : ℕ → ℕ
frames_in n = n / 2 / 2 / 2

-- a context: the flags of `this`, `super` and `arguments`, and above them their frames in the same order
abbrev pub context_in : ℕ → Ctx
context_in n = record {
  takes_this = flag_in n;
  takes_super = flag_in (n / 2);
  takes_arguments = flag_in (n / 2 / 2);
  this_at = frame_in (frames_in n);
  super_at = frame_in (frames_in n / 16384);
  arguments_at = frame_in (frames_in n / 16384 / 16384);
}

-- the slot is in the lowest 3 bits, and the context above them
unfoldable pub place_of : Place → Spot
place_of p = spot (context_in (p.code / 8)) (p.code % 8)
