-- The times that a clock in memory tells.
use Rattle.std.specs.Prelude.{ℕ, zero, suc, ◌-◌, ◌^◌, List, [], ◌∷◌, ◌++◌, length, min, slice_index, Option, Some, None, if◌then◌else◌, nat_lt}

-- times that were prepared, and how many have been told
pub record PreparedTimes : Type 0 where
  pub values : List ℕ
  pub told : ℕ

-- the time that comes after so many others: the last one comes again and again, and 0 where there are none
abbrev pub time_after : List ℕ → ℕ → ℕ
time_after values count = slice_index values (min count (length values - 1))

-- the times that come first
abbrev pub first_times : List ℕ → ℕ → List ℕ
first_times values zero = []
first_times values (suc count) = first_times values count ++ time_after values count ∷ []

-- what has been told, unless the counter of 64 bits has come to its last value
abbrev pub told_times : PreparedTimes → Option (List ℕ)
told_times clock = if nat_lt clock.told (2 ^ 64 - 1) then Some (first_times clock.values clock.told) else None
