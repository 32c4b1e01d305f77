-- What each kind of open work is to the others: what it claims, what it waits for, what it weighs and what it costs.
-- One row a frame; a row names what is not as in the first row of its family.
use Rattle.std.specs.Prelude.{ℕ, nat_eq, Option, Some, None, if◌then◌else◌}
use Rattle.tree_specs.specs.declared.object.Obj.{Obj}
use Rattle.tree_specs.specs.declared.object.Owner.{Owner}
use Rattle.tree_specs.specs.declared.row.Mark.{Mark}
use Rattle.tree_specs.specs.declared.row.Mark.TheVariants.{Quiet, Asked, Dying}
use Rattle.tree_specs.specs.declared.question.Ask.{Ask}
use Rattle.tree_specs.specs.declared.frame.Frame.{Frame}
use Rattle.tree_specs.specs.declared.frame.Frame.TheVariants as frame
use Rattle.tree_specs.specs.declared.frame.CallFrame.{CallFrame}
use Rattle.tree_specs.specs.declared.frame.CallFrame.TheVariants.{Asking, Doing, Awaiting, Turning, Requesting, Announcing, Telling, Returning}
use Rattle.tree_specs.specs.declared.frame.FreeFrame.{FreeFrame}
use Rattle.tree_specs.specs.declared.frame.FreeFrame.TheVariants.{Unlinking, Releasing, Giving, Beginning, Hooked, Judged, Preparing, Draining, Prepared, Dooming, Leaving, Looping, FreeingChild, AfterChild, Ending}
use Rattle.tree_specs.specs.declared.frame.TurnFrame.{TurnFrame}
use Rattle.tree_specs.specs.declared.frame.TurnFrame.TheVariants.{Taking, Timing, Timed, Polling, Starting, Firing, Handling, Handled, Clearing, Serving, Parting, Closing}
use Rattle.tree_specs.specs.declared.frame.OutsideFrame.{OutsideFrame}
use Rattle.tree_specs.specs.declared.frame.OutsideFrame.TheVariants.{Reaching, Opening, Hearing}
use Rattle.tree_specs.specs.declared.frame.RequestFrame.{RequestFrame}
use Rattle.tree_specs.specs.declared.frame.RequestFrame.TheVariants as request
use Rattle.tree_specs.specs.declared.frame.Purpose.{Purpose}
use Rattle.tree_specs.specs.declared.frame.Purpose.TheVariants.{Removal, Emptying}
use Rattle.tree_specs.specs.declared.free_step.FreeReply.{FreeReply}
use Rattle.tree_specs.specs.declared.free_step.FreeReply.TheVariants.{Running}
use Rattle.tree_specs.specs.declared.kind.Kind.{Kind}
use Rattle.tree_specs.specs.Tree.Targets.{is_context}

-- what is going on with an object
pub data Phase : Type 0 where
  -- its destructor runs, or it is received to be freed
  InRun : Phase
  -- its handler runs
  InHandler : Phase
  -- its children are being freed
  InLoop : Phase

-- ---- the two things that a mark says

-- the owner that a dying object had
abbrev pub former_in : Mark → Option Owner
former_in (Dying former) = Some former
former_in _ = None

-- a turn of a context is no work's own
abbrev pub phase_in : Kind → Mark → Option Phase
phase_in k Quiet = None
phase_in k (Dying former) = Some InLoop
phase_in k Asked = Some InRun
phase_in k _ = if is_context k then None else Some InHandler

-- ---- what a work says of itself

-- who it is to the work below it
pub data Role : Type 0 where
  -- a caller, known by its question; none where it is a routine that has returned
  Calls : Option Ask → Role
  -- a free of this object; none where it is over
  Frees : Option Obj → Role
  -- a turn, or a question to the outside
  Turns : Role
  -- the work of a request
  Requests : Role

-- what it waits for below another work
pub data Waits : Type 0 where
  -- it stands only innermost
  Never : Waits
  -- a call about this object, for a free
  AFree : Obj → Waits
  -- for the run of this object's destructor
  ARun : Obj → ℕ → Waits
  -- for the freeing of this child
  AChild : Obj → Purpose → Waits
  -- a call, for a turn or for the outside
  ATurn : Waits
  -- a turn, for the run of this event's handler
  AHandler : Obj → Waits
  -- a turn, for the freeing of this event
  AClear : Obj → Waits
  -- a call, for the work of a request
  ARequest : Waits
  -- a free, until this request was received, or the entries of this queue were freed
  APrepared : Obj → Waits
  -- a turn, for the work of this request
  AServed : Obj → Waits
  -- the work of a request, for the run of this request's routine
  ARoutine : Obj → Waits
  -- the work of a request, for the freeing of this object
  ARelease : Obj → Waits
  -- the work of this queue, for the freeing of this entry
  ADropping : Obj → Obj → Waits

-- that something is going on with an object
pub record Claim : Type 0 where
  pub object : Obj
  pub phase : Phase

-- whose children are still to be looked at
pub data Looks : Type 0 where
  AtNone : Looks
  -- at its own
  AtKids : Obj → Looks
  -- what the work below it still wants: a loop looks at the children
  AtBelow : Looks

-- what it costs until the next question, where it is innermost
pub record Cost : Type 0 where
  -- so often as many steps as there can be rows
  pub rounds : ℕ
  pub steps : ℕ
  pub looks : Looks

-- that an object is removed after this work, and the destructor that accepted it; 0 is none
pub record Removing : Type 0 where
  pub object : Obj
  pub hook : ℕ

-- what there is to say of a work, where R tells its role
pub record ProfileAs (R : Type 0) : Type 0 where
  pub role : R
  pub waits : Waits
  pub claims : Option Claim
  pub removes : Option Removing
  -- what it takes of what the rows that run or die pay for: below others, and innermost
  pub size : ℕ
  pub top_size : ℕ
  -- the steps that it still costs below others, and those innermost
  pub waiting_cost : ℕ
  pub cost : Cost
  -- the rows that it may add before the next question
  pub adds : ℕ

abbrev pub Profile : Type 0
Profile = ProfileAs Role

abbrev pub at_most : ℕ → ℕ → Looks → Cost
at_most rounds steps looks = record { rounds = rounds; steps = steps; looks = looks }

-- ---- frees

abbrev pub runs : Obj → Option Claim
runs x = Some (record { object = x; phase = InRun })

abbrev pub dies : Obj → Option Claim
dies x = Some (record { object = x; phase = InLoop })

-- an object that is only emptied may be in any phase
abbrev pub loops : Obj → Purpose → Option Claim
loops x (Removal h) = dies x
loops x Emptying = None

abbrev pub removed : Obj → ℕ → Option Removing
removed x h = Some (record { object = x; hook = h })

abbrev pub loop_removes : Obj → Purpose → Option Removing
loop_removes x (Removal h) = removed x h
loop_removes x Emptying = None

abbrev pub loop_size : Purpose → ℕ
loop_size (Removal h) = 3
loop_size Emptying = 0

-- what comes before the next look at the children
abbrev pub tried_cost : FreeReply → ℕ
tried_cost Running = 4
tried_cost _ = 8

-- a free, by the object that it frees, if there is one still: what is the same of all stands in `of_free`
abbrev pub FreeProfile : Type 0
FreeProfile = ProfileAs (Option Obj)

abbrev pub a_free : Obj → FreeProfile
a_free x = record { role = Some x; waits = Never; claims = None; removes = None; size = 0; top_size = 0; waiting_cost = 0; cost = at_most 0 0 AtNone; adds = 0 }

abbrev pub a_loop : Obj → Purpose → FreeProfile
a_loop x purpose = record (a_free x) { claims = loops x purpose; removes = loop_removes x purpose; size = loop_size purpose; top_size = loop_size purpose }

abbrev pub free_profile : FreeFrame → FreeProfile
free_profile (Unlinking o x) = record (a_free x) { cost = at_most 0 4 AtBelow }
free_profile (Releasing x) = record (a_free x) { cost = at_most 0 3 AtBelow }
free_profile (Giving x o) = record (a_free x) { cost = at_most 4 13 AtNone }
free_profile (Beginning x) = record (a_free x) { cost = at_most 0 2 AtBelow }
-- an object that is to be asked pays for the run that comes
free_profile (Hooked x h) = record (a_free x) { waits = ARun x h; claims = runs x; size = 1; top_size = 3; waiting_cost = 3; cost = at_most 0 4 AtNone }
free_profile (Judged x h v) = record (a_free x) { claims = runs x; size = 3; top_size = 3; cost = at_most 4 13 AtNone }
-- a request that is to be received pays for the routines that run
free_profile (Preparing x) = record (a_free x) { waits = APrepared x; claims = runs x; size = 1; top_size = 3; cost = at_most 0 5 AtNone }
-- so does a queue for its entries
free_profile (Draining x) = record (a_free x) { waits = APrepared x; claims = runs x; size = 1; top_size = 3; cost = at_most 0 5 AtNone }
free_profile (Prepared x) = record (a_free x) { claims = runs x; size = 3; top_size = 3; cost = at_most 0 1 AtNone }
free_profile (Dooming x) = record (a_free x) { cost = at_most 0 1 AtBelow }
-- it runs until it leaves its owner, where a destructor has accepted
free_profile (Leaving x h) = record (a_free x) {
  claims = if nat_eq h 0 then None else runs x;
  removes = removed x h;
  size = if nat_eq h 0 then 0 else 3;
  top_size = if nat_eq h 0 then 0 else 3;
}
free_profile (Looping x purpose) = record (a_loop x purpose) { cost = at_most 0 7 (AtKids x) }
free_profile (FreeingChild x c noted purpose) = record (a_loop x purpose) { waits = AChild c purpose }
free_profile (AfterChild x c noted purpose answer) = record (a_loop x purpose) { cost = at_most 0 (tried_cost answer) (AtKids x) }
free_profile (Ending answer) = record { role = None; waits = Never; claims = None; removes = None; size = 0; top_size = 0; waiting_cost = 0; cost = at_most 4 12 AtNone; adds = 0 }

abbrev pub of_free : FreeProfile → Profile
of_free f = record { role = Frees f.role; waits = f.waits; claims = f.claims; removes = f.removes; size = f.size; top_size = f.top_size; waiting_cost = f.waiting_cost; cost = f.cost; adds = 0 }

-- ---- callers

-- what a caller weighs; while it waits for a turn, the outside or a request, this weighs as much in its place
abbrev pub caller_size : ℕ
caller_size = 2

pub record CallProfile : Type 0 where
  pub ask : Option Ask
  pub waits : Waits
  pub size : ℕ
  pub waiting_cost : ℕ
  pub cost : Cost
  pub adds : ℕ

abbrev pub a_caller : Ask → CallProfile
a_caller q = record { ask = Some q; waits = Never; size = caller_size; waiting_cost = 0; cost = at_most 0 0 AtNone; adds = 0 }

abbrev pub call_profile : CallFrame → CallProfile
call_profile (Asking q) = a_caller q
call_profile (Doing q c) = record (a_caller q) { cost = at_most 24 155 AtNone; adds = 2 }
call_profile (Awaiting q x) = record (a_caller q) { waits = AFree x; waiting_cost = 1 }
call_profile (Turning q) = record (a_caller q) { waits = ATurn; size = 0 }
call_profile (Requesting q) = record (a_caller q) { waits = ARequest; size = 0 }
call_profile (Announcing q notice r) = record (a_caller q) { cost = at_most 0 2 AtNone }
call_profile (Telling q r) = record (a_caller q) { cost = at_most 0 1 AtNone }
call_profile (Returning v) = record { ask = None; waits = Never; size = caller_size; waiting_cost = 0; cost = at_most 4 12 AtNone; adds = 0 }

abbrev pub of_call : CallProfile → Profile
of_call f = record { role = Calls f.ask; waits = f.waits; claims = None; removes = None; size = f.size; top_size = caller_size; waiting_cost = f.waiting_cost; cost = f.cost; adds = f.adds }

-- ---- turns

-- a turn: what is the same of all stands in `of_turn`
pub record TurnProfile : Type 0 where
  pub waits : Waits
  pub claims : Option Claim
  pub size : ℕ
  pub top_size : ℕ
  pub steps : ℕ

abbrev pub a_turn : ℕ → TurnProfile
a_turn steps = record { waits = Never; claims = None; size = caller_size; top_size = caller_size; steps = steps }

abbrev pub handles : Obj → Option Claim
handles x = Some (record { object = x; phase = InHandler })

abbrev pub turn_profile : TurnFrame → TurnProfile
turn_profile Taking = a_turn 13
turn_profile (Timing again) = a_turn 1
turn_profile (Timed again now) = a_turn 13
turn_profile (Polling limit) = a_turn 1
turn_profile (Starting what x occasion) = a_turn 4
turn_profile (Firing what x handler occasion) = record (a_turn 3) { claims = handles x; size = 5; top_size = 5 }
-- an event that is busy pays for the run of its handler
turn_profile (Handling what x handler occasion) = record (a_turn 2) { waits = AHandler x; claims = handles x; size = 3; top_size = 5 }
turn_profile (Handled what x) = record (a_turn 8) { claims = handles x; size = 5; top_size = 5 }
turn_profile (Clearing x) = record (a_turn 0) { waits = AClear x }
-- the request weighs as much in its place
turn_profile (Serving x) = record (a_turn 0) { waits = AServed x; size = 0 }
turn_profile (Parting c v) = record (a_turn 0) { waits = AClear c }
turn_profile (Closing v) = a_turn 2

abbrev pub of_turn : TurnProfile → Profile
of_turn f = record { role = Turns; waits = f.waits; claims = f.claims; removes = None; size = f.size; top_size = f.top_size; waiting_cost = 0; cost = at_most 0 f.steps AtNone; adds = 0 }

-- ---- questions to the outside, each by the steps that it costs

abbrev pub outside_steps : OutsideFrame → ℕ
outside_steps (Reaching q) = 1
outside_steps (Opening fd) = 2
outside_steps (Hearing r) = 2

abbrev pub of_outside : ℕ → Profile
of_outside steps = record { role = Turns; waits = Never; claims = None; removes = None; size = 0; top_size = caller_size; waiting_cost = 0; cost = at_most 0 steps AtNone; adds = 0 }

-- ---- requests

-- the work of a request: what is the same of all stands in `of_request`
pub record RequestProfile : Type 0 where
  pub waits : Waits
  pub size : ℕ
  pub steps : ℕ

abbrev pub a_work : ℕ → RequestProfile
a_work steps = record { waits = Never; size = 0; steps = steps }

abbrev pub request_profile : RequestFrame → RequestProfile
request_profile (request.Finishing x state) = a_work 12
-- where it was not received before, this pays for what follows
request_profile (request.Receiving x) = a_work 4
request_profile (request.Cancelling x) = a_work 4
request_profile (request.Cleaning x errand) = a_work 11
request_profile (request.Cleaned x errand) = a_work 10
request_profile (request.Notifying x errand) = a_work 4
request_profile (request.Calling what x handler errand) = a_work 3
-- the routine weighs as much in its place
request_profile (request.Called what x handler errand) = record (a_work 2) { waits = ARoutine x }
request_profile (request.Releasing c) = record (a_work 0) { waits = ARelease c; size = caller_size }
request_profile (request.Vacating q) = a_work 4
request_profile (request.Dropping q e) = record (a_work 0) { waits = ADropping q e; size = caller_size }
request_profile (request.Triggering q) = a_work 4
request_profile (request.Over r) = a_work 3

abbrev pub of_request : RequestProfile → Profile
of_request f = record { role = Requests; waits = f.waits; claims = None; removes = None; size = f.size; top_size = caller_size; waiting_cost = 0; cost = at_most 0 f.steps AtNone; adds = 0 }

-- ---- all

abbrev pub profile : Frame → Profile
profile (frame.Call f) = of_call (call_profile f)
profile (frame.Free f) = of_free (free_profile f)
profile (frame.Turn f) = of_turn (turn_profile f)
profile (frame.Outside f) = of_outside (outside_steps f)
profile (frame.Request f) = of_request (request_profile f)
