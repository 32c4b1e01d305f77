-- What waits for its turn: objects that come soon, and objects whose time comes.
use Rattle.std.specs.Prelude.{ℕ, Bool, ◌&&◌, ◌||◌, not, nat_eq, nat_lt, List, [], ◌∷◌, ◌++◌, is_some, Option, Some, None, if◌then◌else◌}
use Rattle.std.specs.List.{find, filter}
use Rattle.tree_specs.specs.declared.due.Due.{Due}
use Rattle.tree_specs.specs.declared.object.Obj.{Obj}
use Rattle.tree_specs.specs.declared.coming.Coming.{Coming}
use Rattle.tree_specs.specs.Words.Objects.{same}

-- the first that waits
abbrev pub first : {A : Type 0} → List A → Option A
first [] = None
first (x ∷ xs) = Some x

-- ---- soon: first in, first out, each object once, in one context

abbrev pub is_scheduled : List Coming → Obj → Bool
is_scheduled xs x = is_some (find (λ y. same y.object x) xs)

abbrev pub unscheduled : List Coming → Obj → List Coming
unscheduled xs x = filter (λ y. not (same y.object x)) xs

-- an object that waits already, in whatever context, goes to the end
abbrev pub scheduled : List Coming → Obj → Obj → List Coming
scheduled xs x c = unscheduled xs x ++ record { object = x; context = c } ∷ []

-- what comes soon in a context, and what is left without this
abbrev pub soon_in : List Coming → Obj → List Coming
soon_in xs c = filter (λ y. same y.context c) xs

abbrev pub soon_without : List Coming → Obj → List Coming
soon_without xs c = filter (λ y. not (same y.context c)) xs

-- ---- times: in the order of time and then number

abbrev pub is_armed : List Due → Obj → Bool
is_armed ds x = is_some (find (λ d. same d.object x) ds)

-- a time has this number
abbrev pub is_numbered : List Due → ℕ → Bool
is_numbered ds n = is_some (find (λ d. nat_eq d.number n) ds)

abbrev pub disarmed : List Due → Obj → List Due
disarmed ds x = filter (λ d. not (same d.object x)) ds

abbrev pub comes_before : Due → Due → Bool
comes_before d e = nat_lt d.time e.time || (nat_eq d.time e.time && nat_lt d.number e.number)

-- before the first one that comes after it
abbrev pub put_in : Due → List Due → List Due
put_in d [] = d ∷ []
put_in d (e ∷ es) = if comes_before d e then d ∷ e ∷ es else e ∷ put_in d es

-- an object that is armed already gets the new time
abbrev pub armed : List Due → Obj → ℕ → ℕ → Obj → List Due
armed ds x time number c = put_in (record { time = time; number = number; object = x; context = c }) (disarmed ds x)

-- the times of a context, and what is left without them
abbrev pub times_in : List Due → Obj → List Due
times_in ds c = filter (λ d. same d.context c) ds

abbrev pub times_without : List Due → Obj → List Due
times_without ds c = filter (λ d. not (same d.context c)) ds
