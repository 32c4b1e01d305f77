-- What each call does: a change of the rows with its reply, or a free that it waits for.
use Rattle.std.specs.Prelude.{ℕ, ◌+◌, nat_eq, codes, List, [], ◌∷◌, length, Bool, true, false, not, is_some, ◌&&◌, Option, Some, None, unwrap_or, if◌then◌else◌}
use Rattle.tree_specs.specs.declared.object.Obj.{Obj}
use Rattle.tree_specs.specs.declared.object.Owner.{Owner}
use Rattle.tree_specs.specs.declared.object.Owner.TheVariants.{Root}
use Rattle.tree_specs.specs.declared.kind.Kind.{Kind}
use Rattle.tree_specs.specs.declared.kind.Kind.TheVariants.{Plain, Reference, Timer, Immediate, Descriptor, Context}
use Rattle.tree_specs.specs.declared.row.Row.{Row}
use Rattle.tree_specs.specs.declared.handler.Handler.{Handler}
use Rattle.tree_specs.specs.declared.frame.Errand.{Errand}
use Rattle.tree_specs.specs.declared.frame.Errand.TheVariants.{Finish, Receive, Cancel}
use Rattle.tree_specs.specs.declared.request.Note.{Note}
use Rattle.tree_specs.specs.declared.request.State.{State}
use Rattle.tree_specs.specs.declared.request.State.TheVariants as state
use Rattle.tree_specs.specs.declared.notice.Notice.{Notice}
use Rattle.tree_specs.specs.declared.notice.Notice.TheVariants.{Warned, Closed}
use Rattle.tree_specs.specs.declared.question.Ask.{Ask}
use Rattle.tree_specs.specs.declared.question.Ask.TheVariants as ask
use Rattle.tree_specs.specs.declared.watch.Watch.{Watch}
use Rattle.tree_specs.specs.declared.call.Call.{Call}
use Rattle.tree_specs.specs.declared.call.Call.TheVariants as call
use Rattle.tree_specs.specs.declared.reply.Reply.{Reply}
use Rattle.tree_specs.specs.declared.reply.Reply.TheVariants.{Ok, Number, Pair, Rows, No}
use Rattle.tree_specs.specs.Words.Objects.{owner_number}
use Rattle.tree_specs.specs.Tree.Targets.{newest_ref}
use Rattle.tree_specs.specs.Tree.Pool.{Pool, changed, is_below, owner_of, newest_ref_of, add, place, named_row, hooked_row, sized_row, limited_row, set_handler, schedule, unschedule, arm, watch, rewatch, close_descriptor, take_number, add_request, renote, run_queue, add_queue, add_entry, look_at, enter}
use Rattle.tree_specs.specs.Events.Rotation.{flags_of, flagged, closing, ring_in}
use Rattle.tree_specs.specs.Events.Requests.{state_number, is_in_progress, note_of, called_back, deferring, cleaned_by, cancelled_by, failed_with}
use Rattle.tree_specs.specs.Events.Queues.{runs, length_of}
use Rattle.tree_specs.specs.Events.Pending.{soon_in, times_in}
use Rattle.tree_specs.specs.Tree.Inside.{size_inside, count_inside}
use Rattle.tree_specs.specs.Tree.Sums.{sum_inside}
use Rattle.tree_specs.specs.Tree.Reports.{report}
use Rattle.tree_specs.specs.Calls.Refusals.{Check, refusals, refusals_at}

-- what is done to the objects
pub data Change : Type 0 where
  Nothing : Change
  -- something of one row
  Edit : Obj → (Row → Row) → Change
  -- a new row below an owner, with its size and name
  Add : Kind → Owner → ℕ → List ℕ → Change
  -- an object goes below an owner
  Place : Owner → Obj → Change
  -- an event gets a handler
  Handle : Obj → Handler → Change
  -- an object is to come soon in a context, or doesn't come any more
  Schedule : Obj → Obj → Change
  Unschedule : Obj → Change
  -- an object is to come at a time; the number tells equal times apart
  Arm : Obj → ℕ → ℕ → Obj → Change
  -- an event watches a descriptor, for these flags
  Watches : Obj → ℕ → ℕ → Obj → Change
  -- how it does is changed
  Rewatch : Obj → (Watch → Watch) → Change
  -- a descriptor is closed
  Close : ℕ → Change
  -- a number is taken, which no object gets
  TakeNumber : Change
  -- a new request below an owner, and below it a plain object with this size and name
  AddRequest : Owner → ℕ → List ℕ → Change
  -- what is kept of a request is changed
  Renotes : Obj → (Note → Note) → Change
  -- a queue runs from now on, or it doesn't
  Runs : Obj → Bool → Change
  -- a new queue below an owner, which runs
  AddQueue : Owner → List ℕ → Change
  -- a new entry of a queue, for a request
  AddEntry : Obj → Obj → Handler → Change
  -- a queue comes soon, where it runs and its first entry waits for its trigger
  LooksAt : Obj → Change
  -- a turn of a context begins
  Enter : Obj → Change
  -- one change after another
  Then : Change → Change → Change

abbrev pub changed_by : Change → Pool → Pool
changed_by Nothing p = p
changed_by (Edit x g) p = record p { rows = changed g p.rows x }
changed_by (Add kind o size name) p = add p kind o size name
changed_by (Place o x) p = place p o x
changed_by (Handle x handler) p = set_handler p x handler
changed_by (Schedule x c) p = schedule p x c
changed_by (Unschedule x) p = unschedule p x
changed_by (Arm x time number c) p = arm p x time number c
changed_by (Watches x fd flags c) p = watch p x fd flags c
changed_by (Rewatch x change) p = rewatch p x change
changed_by (Close fd) p = close_descriptor p fd
changed_by TakeNumber p = take_number p
changed_by (AddRequest o size name) p = add_request p o size name
changed_by (Renotes x change) p = renote p x change
changed_by (Runs q running) p = run_queue p q running
changed_by (AddQueue o name) p = add_queue p o name
changed_by (AddEntry q x trigger) p = add_entry p q x trigger
changed_by (LooksAt q) p = look_at p q
changed_by (Enter c) p = enter p c
changed_by (Then first second) p = changed_by second (changed_by first p)

pub data Plan : Type 0 where
  -- a change, and the reply; before the reply there may be a notice
  Does : Change → Option Notice → Reply → Plan
  Frees : Obj → Plan
  -- an owner's interest in an object is taken away
  Unlinks : Owner → Obj → Plan
  -- the children of an object are freed
  Empties : Obj → Plan
  -- the outside is asked, and its answer is the reply
  Asks : Ask → Plan
  -- a turn of a context
  Turns : Obj → Plan
  -- a change, and then an errand of a request, whose end tells the reply
  Works : Change → Errand → Obj → Plan

abbrev pub replies : Reply → Plan
replies r = Does Nothing None r

abbrev pub edits : Obj → (Row → Row) → Plan
edits x g = Does (Edit x g) None Ok

-- the reply is the number of the new row
abbrev pub adds : Pool → Kind → Owner → ℕ → List ℕ → Plan
adds p kind o size name = Does (Add kind o size name) None (Number p.next)

-- an object that has references is given to another owner
abbrev pub warns : Pool → Owner → Obj → Bool
warns p o x = is_some (newest_ref p.rows x) && not (is_below (owner_of p.rows x) o)

abbrev pub places : Pool → Owner → Obj → Reply → Plan
places p o x r = Does (Place o x) (if warns p o x then Some (Warned x) else None) r

-- what an owner gives away of an object: the object itself, or its newest reference to it
abbrev pub gift : Pool → Owner → Obj → Option Obj
gift p from x = if is_below (owner_of p.rows x) from then Some x else newest_ref_of p.rows from x

abbrev pub handed : Owner → Option Obj → Change
handed to None = Nothing
handed to (Some r) = Place to r

-- an object goes from its owner to another one, or the newest reference of an owner does
abbrev pub reparented : Pool → Owner → Owner → Obj → Pool
reparented p from to x = changed_by (handed to (gift p from x)) p

-- the one reference to an object of the root's is dropped
abbrev pub frees : Option Obj → Obj → Plan
frees None x = Frees x
frees (Some r) x = Unlinks Root x

-- a new reference
abbrev pub refer : Pool → Owner → Obj → Pool
refer p o x = add p (Reference x) o 0 (codes "reference")

-- with a routine an object comes soon, and with none it doesn't come
abbrev pub comes_soon : Obj → ℕ → ℕ → Obj → Change
comes_soon x routine user c = if nat_eq routine 0 then Unschedule x else Then (Handle x (record { routine = routine; user = user; context = c })) (Schedule x c)

-- an event gets a handler, and is to come at a time under its own number
abbrev pub comes_at : Obj → ℕ → Handler → Change
comes_at x time handler = Then (Handle x handler) (Arm x time x.0 handler.context)

abbrev pub adds_timer : Pool → Owner → ℕ → Handler → Change
adds_timer p o time handler = Then (Add Timer o 0 (codes "timer")) (comes_at (record { 0 = p.next }) time handler)

-- an event gets a handler, and watches a descriptor
abbrev pub watches : Obj → ℕ → ℕ → Handler → Change
watches x fd flags handler = Then (Handle x handler) (Watches x fd flags handler.context)

abbrev pub adds_descriptor : Pool → Owner → ℕ → ℕ → Handler → Change
adds_descriptor p o fd flags handler = Then (Add Descriptor o 0 (codes "fd")) (watches (record { 0 = p.next }) fd flags handler)

abbrev pub renotes : Obj → (Note → Note) → Plan
renotes x change = Does (Renotes x change) None Ok

-- a request that is done has no failure; in any other state its number is told with that of the failure
abbrev pub failure_in : State → ℕ → Reply
failure_in state.Done error = Number 0
failure_in s error = Pair (state_number s) error

abbrev pub failure_reply : Option Note → Reply
failure_reply None = Number 0
failure_reply (Some n) = failure_in n.state n.error

abbrev pub progress_reply : Option Note → Reply
progress_reply None = Number 0
progress_reply (Some n) = if is_in_progress n.state then Number 1 else Number 0

-- with 0 a request doesn't fail
abbrev pub fails : Obj → ℕ → Plan
fails x error = if nat_eq error 0 then replies (Number 0) else Works (Renotes x (failed_with error)) (Finish state.UserError) x

-- starting a queue that runs changes nothing
abbrev pub starts : Pool → Obj → Plan
starts p q = if runs p.queues q then replies Ok else Does (Then (Runs q true) (LooksAt q)) None Ok

-- an owner by its number
abbrev pub owner_reply : Option Owner → Reply
owner_reply o = Number (owner_number (unwrap_or o Root))

abbrev pub plan : Pool → Call → Plan
plan p (call.New o size name) = adds p Plain o size name
plan p (call.Free x) = frees (newest_ref p.rows x) x
plan p (call.Freekids x) = Empties x
plan p (call.Steal o x) = places p o x Ok
plan p (call.Move o x) = places p o x (Number x.0)
plan p (call.Reparent from to x) = Does (handed to (gift p from x)) None Ok
plan p (call.Reference o x) = adds p (Reference x) o 0 (codes "reference")
plan p (call.Unlink o x) = Unlinks o x
plan p (call.Hook x routine) = edits x (hooked_row routine)
plan p (call.Unhook x) = edits x (hooked_row 0)
plan p (call.Rename x name) = edits x (named_row name)
plan p (call.Resize x size) = edits x (sized_row size)
plan p (call.Limit x max) = edits x (limited_row max)
plan p (call.Parent x) = replies (owner_reply (owner_of p.rows x))
plan p (call.Total o) = replies (Number (size_inside p.rows o))
plan p (call.Count o) = replies (Number (count_inside p.rows o))
plan p (call.Sum o) = replies (Number (sum_inside p.rows o))
plan p (call.Report o) = replies (Rows (report p.rows o))
plan p (call.Context o) = adds p Context o 0 (codes "tevent")
plan p (call.Immediate o) = adds p Immediate o 0 (codes "immediate")
plan p (call.Schedule x routine user c) = Does (comes_soon x routine user c) None Ok
plan p (call.Unschedule x) = Does (Unschedule x) None Ok
plan p (call.Timer o time routine user c) = Does (adds_timer p o time (record { routine = routine; user = user; context = c })) None (Number p.next)
plan p (call.Fd o fd flags routine user c) = Does (adds_descriptor p o fd flags (record { routine = routine; user = user; context = c })) None (Number p.next)
plan p (call.Flags x flags) = Does (Rewatch x (flagged flags)) None Ok
plan p (call.Getflags x) = replies (Number (unwrap_or (flags_of p.ring x) 0))
plan p (call.Autoclose x) = Does (Rewatch x closing) None Ok
plan p (call.Close fd) = Does (Close fd) (Some (Closed fd)) Ok
plan p (call.Accept fd) = Asks (ask.Accept fd)
plan p (call.Read fd len) = Asks (ask.Read fd len)
plan p (call.Write fd bytes) = Asks (ask.Write fd bytes)
plan p (call.Req o size name) = Does (AddRequest o size name) None (Number p.next)
plan p (call.Callback x routine user) = renotes x (called_back routine user)
plan p (call.Defer x c) = renotes x (deferring c)
plan p (call.Cleanup x routine) = renotes x (cleaned_by routine)
plan p (call.Setcancel x routine) = renotes x (cancelled_by routine)
plan p (call.Cancel x) = Works Nothing Cancel x
plan p (call.Post x c) = Does (Schedule x c) None Ok
plan p (call.Done x) = Works Nothing (Finish state.Done) x
plan p (call.Error x error) = fails x error
plan p (call.Oom x) = Works Nothing (Finish state.NoMemory) x
plan p (call.Iserror x) = replies (failure_reply (note_of p.requests x))
plan p (call.Progress x) = replies (progress_reply (note_of p.requests x))
plan p (call.Endtime x time c) = Does (Then (Arm x time p.next c) TakeNumber) None Ok
plan p (call.Received x) = Works Nothing Receive x
plan p (call.Queue o name) = Does (AddQueue o name) None (Number p.next)
plan p (call.Enqueue q x routine user c) = Does (AddEntry q x (record { routine = routine; user = user; context = c })) None (Number p.next)
plan p (call.Start q) = starts p q
plan p (call.Stop q) = Does (Runs q false) None Ok
plan p (call.Length q) = replies (Number (length_of p.queues q))
plan p (call.Running q) = replies (Number (if runs p.queues q then 1 else 0))
plan p (call.Pending c) = replies (Number (length (soon_in p.soon c) + length (times_in p.times c) + length (ring_in p.ring c)))
plan p call.Now = Asks ask.Clock
plan p (call.Turn c) = Turns c

-- a call that is refused does nothing, and has the first refusal as its reply
abbrev pub unless_refused : Check → Plan → Plan
unless_refused [] plan = plan
unless_refused (why ∷ later) plan = replies (No why)

abbrev pub planned : Pool → Call → Plan
planned p c = unless_refused (refusals p c) (plan p c)

-- so it is where it is given at this question
abbrev pub planned_at : Ask → Pool → Call → Plan
planned_at q p c = unless_refused (refusals_at q p c) (plan p c)

-- what is told before the reply
abbrev pub notice_of : Plan → Option Notice
notice_of (Does c notice r) = notice
notice_of plan = None
