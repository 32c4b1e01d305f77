-- The lanes that packed ends tell.
use Rattle.std.specs.Prelude.{ℕ, nat_eq, if◌then◌else◌, List, [], ◌∷◌, Some}
use Rattle.std.specs.Ordering.{nat_cmp}
use Rattle.std.specs.FinMap as map
use Rattle.linked_lanes.specs.declared.lane.Extent.{Extent}
use Rattle.linked_lanes.specs.Family.{no_ends}
use Rattle.lane_ends.specs.declared.packed.Packed.{Packed}
use Rattle.lane_ends.specs.Lanes.{Lanes}

-- the ends that are packed so
abbrev pub told : Packed → Extent
told p =
    if nat_eq p.count 0 then no_ends
    else record { newest = Some p.newest; oldest = Some p.oldest; count = p.count }

-- the lanes of these pairs
abbrev pub told_by : List (ℕ × Packed) → Lanes
told_by [] = map.empty
told_by (e ∷ es) = map.insert (told_by es) e.0 (told e.1)

-- each lane with the ends that are packed under its number
abbrev pub lanes_told : map.FinMap nat_cmp Packed → Lanes
lanes_told m = told_by (map.entries m)
