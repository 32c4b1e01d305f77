-- The work of a request, or of a queue, in a host: what it tells, and what it may want.
use Rattle.std.specs.Prelude.{◌≡◌, Bool, true, false, Option, Some, None, is_some, if◌then◌else◌}
use Rattle.tree_specs.specs.declared.event.Event.{Event}
use Rattle.tree_specs.specs.declared.event.Event.TheVariants.{Fired, State as StateOf}
use Rattle.tree_specs.specs.declared.frame.Errand.{Errand}
use Rattle.tree_specs.specs.declared.frame.Errand.TheVariants.{Finish, Notify, Receive}
use Rattle.tree_specs.specs.declared.moment.What.TheVariants.{Trigger}
use Rattle.tree_specs.specs.declared.object.Obj.{Obj}
use Rattle.tree_specs.specs.declared.request.State.TheVariants.{Received}
use Rattle.tree_specs.specs.declared.call.Call.TheVariants.{Free as FreeOf}
use Rattle.tree_specs.specs.Tree.Pool.{Pool, row_of, finish, receive}
use Rattle.tree_specs.specs.Events.Requests.{state_number, note_of, is_unreceived}
use Rattle.tree_specs.specs.Events.Queues.{Head, has_queue, next_of}
use Rattle.tree_specs.specs.Calls.Refusals.{is_queue_row}
use Rattle.tree_specs.specs.Calls.Plans.{Plan, planned}
use Rattle.tree_specs.specs.Calls.Plans.Plan.{Frees as FreesOf, Unlinks as UnlinksOf}
use Rattle.object_pool.specs.Objects.{Objects, MayBeginFree}
use Rattle.object_pool.specs.Queueing.{triggering}
use Rattle.host_core.specs.declared.motion.Motion.{Motion}
use Rattle.host_core.specs.declared.motion.Motion.TheVariants.{Frees, Unlinks}
use Rattle.host_core.specs.declared.work.Work.{Work}
use Rattle.host_core.specs.declared.work.Work.TheVariants as work

-- ---- what is told

abbrev pub work_speaks : Work → Pool → Bool
work_speaks (work.Finishing x state) p = true
work_speaks (work.Calling what x handler errand) p = true
work_speaks (work.Receiving x) p = is_unreceived (note_of p.requests x)
work_speaks (work.Triggering queue) p = is_some (next_of p.queues queue)
work_speaks w p = false

-- the trigger of an entry runs for its request
abbrev pub fired_in : Option Head → Option Event
fired_in None = None
fired_in (Some h) = Some (Fired Trigger h.entry.request h.entry.trigger.routine)

abbrev pub work_tells : Work → Pool → Option Event
work_tells (work.Finishing x state) p = Some (StateOf x (state_number state))
work_tells (work.Calling what x handler errand) p = Some (Fired what x handler.routine)
work_tells (work.Receiving x) p = if is_unreceived (note_of p.requests x) then Some (StateOf x (state_number Received)) else None
work_tells (work.Triggering queue) p = fired_in (next_of p.queues queue)
work_tells w p = None

abbrev pub triggered_work : Obj → Option Head → Work
triggered_work queue None = work.Triggering queue
triggered_work queue (Some h) = work.Called Trigger h.entry.request h.entry.trigger Notify

-- and how it goes on
abbrev pub work_told : Work → Pool → Work
work_told (work.Finishing x state) p = work.Cleaning x (Finish state)
work_told (work.Calling what x handler errand) p = work.Called what x handler errand
work_told (work.Receiving x) p = if is_unreceived (note_of p.requests x) then work.Cleaning x Receive else work.Receiving x
work_told (work.Triggering queue) p = triggered_work queue (next_of p.queues queue)
work_told w p = w

abbrev pub pool_told : Work → Pool → Pool
pool_told (work.Finishing x state) p = finish p x state
pool_told (work.Receiving x) p = if is_unreceived (note_of p.requests x) then receive p x else p
pool_told (work.Triggering queue) p = triggering (next_of p.queues queue) p
pool_told w p = p

-- what is kept of queues is kept of each of them, and of nothing else
abbrev pub QueuesAreKept : Pool → Type 0
QueuesAreKept p = (x : Obj) → has_queue p.queues x ≡ is_queue_row (row_of p.rows x)

-- ---- what it may want

-- what a request was made with is freed after it was received, and to come soon another one wants memory
abbrev pub ErrandReady : Errand → Objects → Type 0
ErrandReady Receive o = MayBeginFree o
ErrandReady errand o = o.ready ≡ true

abbrev pub WorkReady : Work → Objects → Type 0
WorkReady (work.Finishing x state) o = o.ready ≡ true
WorkReady (work.Receiving x) o = MayBeginFree o
WorkReady (work.Cancelling x) o = Unit {0}
WorkReady (work.Cleaning x errand) o = ErrandReady errand o
WorkReady (work.Cleaned x errand) o = ErrandReady errand o
WorkReady (work.Notifying x errand) o = o.ready ≡ true
WorkReady (work.Calling what x handler errand) o = Unit {0}
WorkReady (work.Called what x handler errand) o = Unit {0}
WorkReady (work.Releasing child) o = ⊥
WorkReady (work.Vacating queue) o = MayBeginFree o
WorkReady (work.Dropping queue entry) o = ⊥
WorkReady (work.Triggering queue) o = Unit {0}
WorkReady (work.Over reply) o = Unit {0}

-- the next step tells nothing
abbrev pub MayWork : Work → Objects → Type 0
MayWork (work.Finishing x state) o = ⊥
MayWork (work.Calling what x handler errand) o = ⊥
MayWork (work.Receiving x) o = is_unreceived (note_of o.pool.requests x) ≡ false
MayWork (work.Releasing child) o = ⊥
MayWork (work.Dropping queue entry) o = ⊥
MayWork (work.Triggering queue) o = next_of o.pool.queues queue ≡ None
MayWork (work.Notifying x errand) o = o.ready ≡ true
MayWork w o = Unit {0}

-- it begins a free, or to take an interest away
abbrev pub IsFreeing : Motion → Type 0
IsFreeing (Frees x) = Unit {0}
IsFreeing (Unlinks o x) = Unit {0}
IsFreeing m = ⊥

-- what a request was made with is freed as a call frees it
abbrev pub IsReleaseBy : Plan → Option Motion → Type 0
IsReleaseBy (FreesOf x) m = m ≡ Some (Frees x)
IsReleaseBy (UnlinksOf o x) m = m ≡ Some (Unlinks o x)
IsReleaseBy plan m = m ≡ None

abbrev pub IsRelease : Obj → Pool → Option Motion → Type 0
IsRelease child p m = IsReleaseBy (planned p (FreeOf child)) m
