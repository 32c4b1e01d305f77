-- What a turn of a context does next, by what waits in it: what comes soon goes first, then a time that has come, and then it waits.
use Rattle.std.specs.Prelude.{ℕ, ◌-◌, Bool, true, false, nat_eq, nat_le, List, [], ◌∷◌, Option, Some, None, if◌then◌else◌}
use Rattle.tree_specs.specs.declared.coming.Coming.{Coming}
use Rattle.tree_specs.specs.declared.due.Due.{Due}
use Rattle.tree_specs.specs.declared.object.Obj.{Obj}
use Rattle.tree_specs.specs.declared.wants.Want.{Want}
use Rattle.tree_specs.specs.declared.watch.Watch.{Watch}
use Rattle.tree_specs.specs.Events.Rotation.{Ready, first_ready}
use Rattle.tree_specs.specs.Events.Pending.{unscheduled, disarmed}
use Rattle.tree_specs.specs.Events.Coming.{wait_limit}
use Rattle.loop_core.specs.declared.pick.Pick.{Pick}
use Rattle.loop_core.specs.declared.pick.Pick.TheVariants.{Soon, Time, Descriptor, AskClock, AskWait, Nothing}

-- with nothing that comes soon: the first time, where it is 0, has come, and for any other one the clock is asked
abbrev pub time_pick : List Due → Pick
time_pick [] = AskWait wait_limit
time_pick (d ∷ ds) = if nat_eq d.time 0 then Time d.object 0 else AskClock

abbrev pub begin_pick : List Coming → List Due → Pick
begin_pick [] dues = time_pick dues
begin_pick (y ∷ ys) dues = Soon y.object

-- the first time hasn't come yet: it is waited for it, but once only
abbrev pub early_pick : Bool → ℕ → Pick
early_pick true left = Nothing
early_pick false left = AskWait left

-- the clock has told this time, before the wait or after it
abbrev pub clock_pick : Bool → ℕ → List Due → Pick
clock_pick waited now [] = Nothing
clock_pick waited now (d ∷ ds) = if nat_le d.time now then Time d.object now else early_pick waited (d.time - now)

-- the first event that waits for what its descriptor is ready for
abbrev pub watch_pick : Option Ready → Pick
watch_pick None = Nothing
watch_pick (Some r) = Descriptor r.object r.flags

-- after a wait in which no descriptor was ready a time may have come
abbrev pub ready_pick : List Want → List Due → List Watch → Pick
ready_pick [] (d ∷ ds) ring = AskClock
ready_pick ready dues ring = watch_pick (first_ready ring ready)

-- what was picked comes no more
abbrev pub soon_after : Pick → List Coming → List Coming
soon_after (Soon x) soon = unscheduled soon x
soon_after pick soon = soon

abbrev pub times_after : Pick → List Due → List Due
times_after (Time x now) dues = disarmed dues x
times_after pick dues = dues
