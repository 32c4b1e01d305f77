-- The rotation: events on descriptors, in the order in which they are looked at. What has come goes to the end.
use Rattle.std.specs.Prelude.{ℕ, Bool, true, false, not, nat_eq, bit_and, List, [], ◌∷◌, ◌++◌, map, is_some, Option, Some, None, if◌then◌else◌}
use Rattle.std.specs.List.{find, filter}
use Rattle.std.specs.Option.{option_map}
use Rattle.tree_specs.specs.declared.object.Obj.{Obj}
use Rattle.tree_specs.specs.declared.wants.Want.{Want}
use Rattle.tree_specs.specs.declared.watch.Watch.{Watch}
use Rattle.tree_specs.specs.Words.Objects.{same, is_same}

-- ---- looking up

-- how an event watches; none where it watches nothing
abbrev pub watch_of : List Watch → Obj → Option Watch
watch_of ws x = find (λ w. same w.object x) ws

abbrev pub is_watching : List Watch → Obj → Bool
is_watching ws x = is_some (watch_of ws x)

-- what an event is watched for
abbrev pub flags_of : List Watch → Obj → Option ℕ
flags_of ws x = option_map (λ w. w.flags) (watch_of ws x)

-- the event that watches a descriptor
abbrev pub holder_of : List Watch → ℕ → Option Obj
holder_of ws fd = option_map (λ w. w.object) (find (λ w. nat_eq w.fd fd) ws)

abbrev pub is_watched : List Watch → ℕ → Bool
is_watched ws fd = is_some (holder_of ws fd)

abbrev pub closed_by : Option Watch → Option ℕ
closed_by None = None
closed_by (Some w) = if w.closes then Some w.fd else None

-- the descriptor that is closed when an event goes
abbrev pub closes_with : List Watch → Obj → Option ℕ
closes_with ws x = closed_by (watch_of ws x)

-- ---- changing

-- a new event is looked at after all others
abbrev pub watched : List Watch → Obj → ℕ → ℕ → Obj → List Watch
watched ws x fd flags c = ws ++ record { object = x; fd = fd; flags = flags; closes = false; context = Some c } ∷ []

abbrev pub unwatched : List Watch → Obj → List Watch
unwatched ws x = filter (λ w. not (same w.object x)) ws

-- how an event watches is changed, and it keeps its place
abbrev pub rewatched : (Watch → Watch) → List Watch → Obj → List Watch
rewatched change ws x = map (λ w. if same w.object x then change w else w) ws

abbrev pub flagged : ℕ → Watch → Watch
flagged flags w = record w { flags = flags }

-- its descriptor is closed with it
abbrev pub closing : Watch → Watch
closing w = record w { closes = true }

abbrev pub behind_all : List Watch → Option Watch → List Watch
behind_all ws None = ws
behind_all ws (Some w) = ws ++ w ∷ []

-- an event that has come is looked at after all others
abbrev pub turned_back : List Watch → Obj → List Watch
turned_back ws x = behind_all (unwatched ws x) (watch_of ws x)

-- ---- contexts

-- the events of a context
abbrev pub ring_in : List Watch → Obj → List Watch
ring_in ws c = filter (λ w. is_same w.context c) ws

-- its context is no more, and nobody looks at it
abbrev pub lost : Watch → Watch
lost w = record w { context = None }

-- the events of a context are lost, behind those that are
abbrev pub ring_without : List Watch → Obj → List Watch
ring_without ws c = filter (λ w. not (is_same w.context c)) ws ++ map lost (ring_in ws c)

-- ---- picking

-- what a descriptor is ready for, and 0 where it isn't named
abbrev pub ready_for : List Want → ℕ → ℕ
ready_for [] fd = 0
ready_for (v ∷ vs) fd = if nat_eq v.fd fd then v.flags else ready_for vs fd

-- an event, and the flags for which it is watched and its descriptor is ready
pub record Ready : Type 0 where
  pub object : Obj
  pub flags : ℕ

-- the first event that has such a flag
abbrev pub first_ready : List Watch → List Want → Option Ready
first_ready [] ready = None
first_ready (w ∷ ws) ready =
    if nat_eq (bit_and w.flags (ready_for ready w.fd)) 0 then first_ready ws ready
    else Some (record { object = w.object; flags = bit_and w.flags (ready_for ready w.fd) })

-- the descriptors that are watched for something, in the order of the rotation
abbrev pub wanted : Watch → Want
wanted w = record { fd = w.fd; flags = w.flags }

abbrev pub wanted_of : List Watch → List Want
wanted_of ws = map wanted (filter (λ w. not (nat_eq w.flags 0)) ws)
