-- Change request No. 1: a table that is sound under two limits is sound under larger ones. Assumes nothing.
use mathlib.Core.Path.{◌≡◌}
use mathlib.Core.List.{List}
use Prim.Native.Nat.{ℕ, ◌+◌, ◌≤◌}
use native.Mathlib.Omega.{arith}
use Rattle.forest.specs.Forest.{Rows, Rows.none, Rows.node, table, DepthWithin}
use Rattle.rows.specs.Sound.{SoundTable}
use Rattle.rows.specs.Refusals.{checked, limited, Sound}
use Rattle.rows.proofs.Soundness.{sound, accepts}

within-up : (most more d : ℕ) (f : Rows) → most ≤ more → DepthWithin most d f → DepthWithin more d f
within-up most more d none l h = tt
within-up most more d (node k a n i s) l h = let x = h.0 in (omega arith, (within-up most more (d + 1) i l h.1.0, within-up most more d s l h.1.1))

limited-up : (m n : ℕ) → m ≤ n → limited m ≤ limited n
limited-up m n l = omega arith

pub checked-up : (row_limit depth_limit more_rows more_depth : ℕ) (rows names text : List ℕ) → row_limit ≤ more_rows → depth_limit ≤ more_depth → checked row_limit depth_limit rows names text ≡ Sound
    → checked more_rows more_depth rows names text ≡ Sound
checked-up row_limit depth_limit more_rows more_depth rows names text lr ld h =
    let S : SoundTable row_limit depth_limit rows names text = sound row_limit depth_limit rows names text h in
    let g = S.sizes in
    let few = g.few in
    accepts more_rows more_depth rows names text (table rows) S.same
    (record {
      row_bytes = g.row_bytes;
      some = g.some;
      few = omega (arith, limited-up row_limit more_rows lr);
      name_bytes = g.name_bytes;
      few_names = g.few_names;
      short = g.short;
    })
    S.named S.shaped (within-up (limited depth_limit) (limited more_depth) 0 (table rows) (limited-up depth_limit more_depth ld) S.shallow) S.plain
