-- Several lanes, each under a number of its own, with the ends of each.
use Rattle.std.specs.Prelude.{◌≡◌, ◌↔◌, ℕ, ◌+◌, ◌-◌, ◌<◌, List, length, Option, Some, None, IsSome}
use Rattle.std.specs.Option.{option_or}
use Rattle.linked_lanes.specs.Lane.{has, last, is_at, Distinct}
use Rattle.linked_lanes.specs.Chain.{Chain, head_left, last_left}
use Rattle.linked_lanes.specs.declared.Sides.{Sides}
use Rattle.linked_lanes.specs.declared.lane.Extent.{Extent}

abbrev pub no_ends : Extent
no_ends = record { newest = None; oldest = None; count = 0 }

-- there is a newest and an oldest exactly where some stand in the lane
pub record IsWhole (e : Extent) : Type 0 where
  pub newest : IsSome e.newest ↔ (0 < e.count)
  pub oldest : IsSome e.oldest ↔ (0 < e.count)

-- the ends once one has joined
abbrev pub joined_by : ℕ → Extent → Extent
joined_by x e = record { newest = Some x; oldest = option_or e.oldest (Some x); count = e.count + 1 }

-- the ends once one with these neighbours has left
abbrev pub left_by : Sides → Extent → Extent
left_by s e = record { newest = head_left e.newest s; oldest = last_left e.oldest s; count = e.count - 1 }

-- the neighbours of each and these ends tell the lane
pub record IsTold (C : ℕ → Option Sides) (e : Extent) (xs : List ℕ) : Type 0 where
  pub chain : Chain C e.newest xs
  pub at_last : e.oldest ≡ last xs
  pub count : e.count ≡ length xs

-- the lanes, where K gives the number of the lane in which each stands, C its neighbours, and E the ends of each lane
pub record Family (K : ℕ → Option ℕ) (C : ℕ → Option Sides) (E : ℕ → Option Extent) (lane : ℕ → List ℕ) : Type 0 where
  pub distinct : (c : ℕ) → Distinct (lane c)
  pub member : (c q : ℕ) → has (lane c) q ≡ is_at (K q) c
  pub told : (c : ℕ) (e : Extent) → E c ≡ Some e → IsTold C e (lane c)
  pub known : (c q : ℕ) → K q ≡ Some c → IsSome (E c)
