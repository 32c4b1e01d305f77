-- Which descriptors are open: a set of numbers, as a map to nothing, in the order of the numbers.
use Rattle.std.specs.Prelude.{ℕ, Bool, not, List, [], ◌∷◌, is_some, Option, Some, None}
use Rattle.std.specs.List.{filter}
use Rattle.std.specs.Ordering.{nat_cmp, eq_by_cmp}
use Rattle.std.specs.FinMap.Entries.{find, put}

abbrev pub Descriptors : Type 0
Descriptors = List (ℕ × Unit {0})

-- the listener alone, as a host begins
abbrev pub listener_alone : Descriptors
listener_alone = (0, tt) ∷ []

abbrev pub is_open_in : Descriptors → ℕ → Bool
is_open_in ds fd = is_some (find nat_cmp fd ds)

abbrev pub opened : Descriptors → ℕ → Descriptors
opened ds fd = put nat_cmp fd tt ds

abbrev pub closed : Descriptors → ℕ → Descriptors
closed ds fd = filter (λ d. not (eq_by_cmp nat_cmp fd d.0)) ds

-- this one is closed, where there is one
abbrev pub shut : Descriptors → Option ℕ → Descriptors
shut ds None = ds
shut ds (Some fd) = closed ds fd
