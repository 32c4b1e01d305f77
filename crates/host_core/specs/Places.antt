-- The places among the works that wait which what is at work may take before the next question.
use Rattle.std.specs.Prelude.{ℕ, Bool, true, false, ◌+◌, ◌*◌, ◌≤◌, ◌&&◌, List, [], ◌∷◌, length, vec_capacity, if◌then◌else◌}
use Rattle.tree_specs.specs.declared.frame.Errand.{Errand}
use Rattle.tree_specs.specs.declared.frame.Errand.TheVariants.{Receive}
use Rattle.tree_specs.specs.declared.frame.FreeFrame.{FreeFrame}
use Rattle.tree_specs.specs.declared.frame.FreeFrame.TheVariants.{Hooked, Judged, Draining, Prepared, Leaving}
use Rattle.tree_specs.specs.declared.frame.TurnFrame.{TurnFrame}
use Rattle.tree_specs.specs.declared.frame.TurnFrame.TheVariants.{Handled, Closing, Parting}
use Rattle.tree_specs.specs.declared.row.Row.{Row}
use Rattle.tree_specs.specs.declared.row.Mark.TheVariants.{Quiet}
use Rattle.tree_specs.specs.Calls.Refusals.{is_queue}
use Rattle.tree_specs.specs.Events.Coming.{is_quiet_mark}
use Rattle.tree_specs.specs.Tree.Inside.{total}
use Rattle.tree_specs.specs.Tree.Pool.{Pool, changed, without, marked_row}
use Rattle.object_pool.specs.Objects.{Objects}
use Rattle.object_pool.specs.Requests.{count_unreceived}
use Rattle.host_core.specs.declared.active.Active.{Active}
use Rattle.host_core.specs.declared.active.Active.TheVariants as active
use Rattle.host_core.specs.declared.parts.Parts.{Parts}
use Rattle.host_core.specs.declared.waiting.Waiting.{Waiting}
use Rattle.host_core.specs.declared.waiting.Waiting.TheVariants.{Turn}
use Rattle.host_core.specs.declared.work.Work.{Work}
use Rattle.host_core.specs.declared.work.Work.TheVariants as work

-- ---- what frees may come to

-- a queue with which nothing goes on: a free may still come to it
abbrev pub undrained : Row → ℕ
undrained r = if is_queue r.kind && is_quiet_mark r.mark then 1 else 0

abbrev pub count_undrained : List Row → ℕ
count_undrained rows = total undrained rows

-- How many queues a free may come to once this work of it goes on. An object that was asked may be quiet again, one that leaves
-- its owner is none of them any more, and for a queue that waits for its entries the work is still to begin.
abbrev pub drains_after : FreeFrame → List Row → ℕ
drains_after (Hooked x h) rows = count_undrained (changed (marked_row Quiet) rows x)
drains_after (Judged x h v) rows = count_undrained (changed (marked_row Quiet) rows x)
drains_after (Draining x) rows = 1 + count_undrained rows
drains_after (Prepared x) rows = count_undrained (without rows x)
drains_after (Leaving x h) rows = count_undrained (without rows x)
drains_after f rows = count_undrained rows

abbrev pub drains_of : List FreeFrame → List Row → ℕ
drains_of [] rows = count_undrained rows
drains_of (f ∷ fs) rows = drains_after f rows

-- the requests that are still to be received, and the queues that are still to be drained
abbrev pub owed : Pool → ℕ
owed p = count_unreceived p.requests + count_undrained p.rows

-- so it is where the innermost of these frees goes on
abbrev pub owed_by : List FreeFrame → Pool → ℕ
owed_by works p = count_unreceived p.requests + drains_of works p.rows

-- ---- what else is at work

abbrev pub errand_places : Errand → ℕ
errand_places Receive = 3
errand_places errand = 1

abbrev pub work_places : Work → ℕ
work_places (work.Cleaning x errand) = errand_places errand
work_places (work.Cleaned x errand) = errand_places errand
work_places (work.Vacating queue) = 3
work_places w = 1

-- what a turn takes with its next step; at its end it may wait in the place that is kept for it
abbrev pub turn_takes : TurnFrame → ℕ
turn_takes (Closing v) = 2
turn_takes f = 3

-- and what is kept for it: an object whose handler is over is quiet again, and might be one more that a free may come to
abbrev pub turn_places : TurnFrame → ℕ
turn_places (Handled what x) = 5
turn_places f = turn_takes f

abbrev pub places : Active → ℕ
places active.Freeing = 2
places (active.Turning t) = turn_places t.frame
places (active.Requesting w) = work_places w
places now = 0

-- ---- what waits

-- a turn at its end, whose context is freed
abbrev pub is_parting : Waiting → Bool
is_parting (Turn (Parting x v)) = true
is_parting w = false

-- one place is kept for such a turn, from before it began: only one turn is under way
abbrev pub kept_place : List Waiting → ℕ
kept_place [] = 1
kept_place (w ∷ ws) = if is_parting w then 0 else kept_place ws

abbrev pub taken_places : List Waiting → ℕ
taken_places ws = length ws + kept_place ws

-- any other work that waits takes a place of its own
abbrev pub own_place : Waiting → ℕ
own_place w = if is_parting w then 0 else 1

-- ---- what there is

-- there are so many places, and two for each request and each queue that a free may still come to
abbrev pub HasPlacesFor : ℕ → Parts → Type 0
HasPlacesFor n parts = taken_places parts.waiting.items + n + 2 * owed parts.objects.pool ≤ vec_capacity parts.waiting

-- there are those that what is at work may take
abbrev pub HasPlaces : Active → ℕ → Objects → ℕ → Type 0
HasPlaces (active.Caller c) waiting o most = Unit {0}
HasPlaces (active.Reaching q) waiting o most = Unit {0}
HasPlaces active.Freeing waiting o most = waiting + 2 + 2 * owed_by o.works o.pool ≤ most
HasPlaces now waiting o most = waiting + places now + 2 * owed o.pool ≤ most
