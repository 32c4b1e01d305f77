-- The ends of many lanes: a finite map from the numbers of the lanes.
use Rattle.std.specs.Prelude.{ℕ, nat_eq, if◌then◌else◌, Option, refl}
use Rattle.std.specs.Coded.{Coded, code_by, coded×, coded_ℕ, coded_option}
use Rattle.std.specs.Ordering.{nat_cmp}
use Rattle.std.specs.FinMap as map
use Rattle.linked_lanes.specs.declared.lane.Extent.{Extent}

abbrev pub Lanes : Type 0
Lanes = map.FinMap nat_cmp Extent

-- ends are stored as the tuple of their fields
abbrev pub extent_code : Coded Extent
extent_code =
    code_by (Option ℕ × (Option ℕ × ℕ)) (coded× (coded_option coded_ℕ) (coded× (coded_option coded_ℕ) coded_ℕ))
    (λ e. (e.newest, (e.oldest, e.count))) (λ p. record { newest = p.0; oldest = p.1.0; count = p.1.1 }) (λ _. refl)

abbrev pub lanes_code : Coded Lanes
lanes_code = map.code coded_ℕ extent_code

-- the lanes with their ends, and for how many more there is memory
pub record Ends : Type 0 where
  pub lanes : Lanes
  pub spare : ℕ

abbrev pub ends_code : Coded Ends
ends_code =
    code_by (Lanes × ℕ) (coded× lanes_code coded_ℕ)
    (λ e. (e.lanes, e.spare)) (λ p. record { lanes = p.0; spare = p.1 }) (λ _. refl)

-- all lanes, where the first stands beside the others
abbrev pub lanes_of : Extent → Lanes → Lanes
lanes_of first others = map.insert others 0 first

-- without a lane, where the first always is there
abbrev pub without_lane : Lanes → ℕ → Lanes
without_lane m lane = if nat_eq lane 0 then m else map.remove m lane
