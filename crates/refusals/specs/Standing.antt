-- Refusal 6 by numbers: what a row is told of its owner and of how it stands, as the code keeps it. Assumes nothing.
use Rattle.std.specs.Prelude.{ℕ, ◌+◌, ◌%◌, Bool, true, false, cond, not, ◌&&◌, eqb}
use Rattle.grammar.specs.Kinds.{Super}
use Rattle.forest.specs.Told.{first_then}
use Rattle.steps.specs.Mode.{bit}
use Rattle.refusals.specs.declared.standing.Sort.{Sort}
use Rattle.refusals.specs.declared.standing.Sort.TheVariants.{Plain, Builder, MethodLike, Member}
use Rattle.steps.specs.Refusals.{Keeper, Keeper.plain, Keeper.builder, Keeper.method, Keeper.member, Stand, keep_one, keep_more, allows, sixes}

-- the four sorts of owner
unfoldable pub keeper_no : Keeper → ℕ
keeper_no plain = 0
keeper_no builder = 1
keeper_no method = 2
keeper_no member = 3

unfoldable pub keeper_at : ℕ → Keeper
keeper_at m = cond (eqb m 0) plain (cond (eqb m 1) builder (cond (eqb m 2) method member))

-- the sort that the code names
abbrev pub keeper_of : Sort → Keeper
keeper_of Plain = plain
keeper_of Builder = builder
keeper_of MethodLike = method
keeper_of Member = member

-- 4 more for the last child of a Method or of a Property with bit 1, 8 more for the first child of a Call
unfoldable pub stand_no : Stand → ℕ
stand_no x = keeper_no x.owner + cond x.of_method 4 0 + cond x.called 8 0

unfoldable pub stand_at : ℕ → Stand
stand_at v = record { owner = keeper_at (v % 4); of_method = bit 4 v; called = bit 8 v }

-- the owner of the first child, or of the later ones, of a row that was told v
unfoldable pub owner_for : (first : Bool) (v k a : ℕ) → ℕ
owner_for first v k a = keeper_no (cond first (keep_one (stand_at v) k a) (keep_more (stand_at v) k a))

-- what the first child, or a later one, of a row that was told v is told
unfoldable pub stand_for : (first : Bool) (v k a : ℕ) → ℕ
stand_for first v k a = stand_no (cond first (sixes.one (stand_at v) k a) (sixes.more (stand_at v) k a))

abbrev pub stand_told : ℕ → ℕ → ℕ → ℕ → ℕ
stand_told v k a pos = first_then (stand_for true v k a) (stand_for false v k a) pos 0

-- "first Super row: its owner (below) does not allow it"
unfoldable pub super_bad : (v k : ℕ) → Bool
super_bad v k = eqb k Super && not (allows (stand_at v).owner (stand_at v).called)
