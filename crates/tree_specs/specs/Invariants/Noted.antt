-- What holds of requests at every moment, and of the works that they wait for.
use Rattle.std.specs.Prelude.{◌≡◌, ◌⊎◌, List, [], ◌∷◌, Option, Some, None, true, false}
use Rattle.tree_specs.specs.declared.object.Obj.{Obj}
use Rattle.tree_specs.specs.declared.moment.What.{What}
use Rattle.tree_specs.specs.declared.moment.What.TheVariants as what
use Rattle.tree_specs.specs.declared.question.Ask.{Ask}
use Rattle.tree_specs.specs.declared.question.Ask.TheVariants.{Quiet as AtRest}
use Rattle.tree_specs.specs.declared.request.State.{State}
use Rattle.tree_specs.specs.declared.request.State.TheVariants.{InProgress, Received}
use Rattle.tree_specs.specs.declared.frame.Errand.{Errand}
use Rattle.tree_specs.specs.declared.frame.Errand.TheVariants.{Receive}
use Rattle.tree_specs.specs.declared.frame.Frame.{Frame}
use Rattle.tree_specs.specs.declared.frame.Frame.TheVariants as frame
use Rattle.tree_specs.specs.declared.frame.FreeFrame.TheVariants.{Preparing, Leaving}
use Rattle.tree_specs.specs.declared.frame.RequestFrame.{RequestFrame}
use Rattle.tree_specs.specs.declared.frame.RequestFrame.TheVariants as request
use Rattle.tree_specs.specs.Tree.Pool.{Pool, row_of}
use Rattle.tree_specs.specs.Events.Pending.{is_armed}
use Rattle.tree_specs.specs.Events.Requests.{note_of, is_noted, is_unreceived}
use Rattle.tree_specs.specs.Calls.Refusals.{in_progress, is_request_row}
use Rattle.tree_specs.specs.Machine.Profiles.{call_profile}
use Rattle.tree_specs.specs.Invariants.Sound.{phases, claims}

-- a request that isn't over
abbrev pub IsInProgress : Pool → Obj → Type 0
IsInProgress p x = in_progress p x ≡ []

-- one of the states to which a request goes when it is over
abbrev pub IsBetween : State → Type 0
IsBetween InProgress = ⊥
IsBetween Received = ⊥
IsBetween state = Unit {0}

-- a routine that is a request's own
abbrev pub IsOfRequest : What → Type 0
IsOfRequest what.Callback = Unit {0}
IsOfRequest what.Cleanup = Unit {0}
IsOfRequest what.Cancel = Unit {0}
IsOfRequest w = ⊥

-- or runs for one, as the trigger of a queue's entry does
abbrev pub IsForRequest : What → Type 0
IsForRequest what.Trigger = Unit {0}
IsForRequest w = IsOfRequest w

-- ---- what the innermost work rests on

-- a request that isn't over finishes, and a routine runs for a request
abbrev pub WorkRests : RequestFrame → Pool → Type 0
WorkRests (request.Finishing x s) p = (is_request_row (row_of p.rows x) ≡ true) × IsInProgress p x × IsBetween s
WorkRests (request.Calling w x handler errand) p = (is_request_row (row_of p.rows x) ≡ true) × IsOfRequest w
WorkRests (request.Called w x handler errand) p = IsForRequest w
WorkRests f p = Unit {0}

-- what leaves its owner has nothing to be received
abbrev pub RestsNoted : Frame → Pool → Type 0
RestsNoted (frame.Request f) p = WorkRests f p
RestsNoted (frame.Free (Leaving x h)) p = is_unreceived (note_of p.requests x) ≡ false
RestsNoted f p = Unit {0}

-- the request that is received next, since it is being freed
abbrev pub received_next : Frame → Option Obj
received_next (frame.Free (Preparing x)) = Some x
received_next (frame.Request (request.Receiving x)) = Some x
received_next f = None

-- ---- what holds of all requests

pub record NotesHold (next : Option Obj) (p : Pool) : Type 0 where
  -- what is kept is kept of requests, and of each of them
  pub notes : (x : Obj) → is_noted p.requests x ≡ is_request_row (row_of p.rows x)
  -- one that has an end time isn't over
  pub timed : (x : Obj) → is_armed p.times x ≡ true → IsInProgress p x
  -- nothing goes on with one that is still to be received, but for the one that is received next
  pub ready : (x : Obj) → is_unreceived (note_of p.requests x) ≡ true → (phases (row_of p.rows x) ≡ []) ⊎ (next ≡ Some x)

pub record Noted (f : Frame) (p : Pool) : Type 0 where
  pub pool : NotesHold (received_next f) p
  pub works : RestsNoted f p

-- ---- what is so of the works below one

-- nothing goes on with any object
abbrev pub ClaimNothing : List Frame → Type 0
ClaimNothing fs = (x : Obj) → claims x fs ≡ []

-- the host's own caller stands on nothing
abbrev pub CalmAsk : Option Ask → List Frame → Type 0
CalmAsk (Some AtRest) fs = ClaimNothing fs
CalmAsk q fs = Unit {0}

-- nothing goes on with a request that is to be notified
abbrev pub CalmErrand : Errand → Obj → List Frame → Type 0
CalmErrand Receive x fs = Unit {0}
CalmErrand errand x fs = claims x fs ≡ []

abbrev pub CalmWork : RequestFrame → List Frame → Type 0
CalmWork (request.Finishing x s) fs = claims x fs ≡ []
CalmWork (request.Cleaning x errand) fs = CalmErrand errand x fs
CalmWork (request.Cleaned x errand) fs = CalmErrand errand x fs
CalmWork (request.Notifying x errand) fs = claims x fs ≡ []
CalmWork (request.Calling w x handler errand) fs = CalmErrand errand x fs
CalmWork (request.Called w x handler errand) fs = CalmErrand errand x fs
CalmWork (request.Triggering q) fs = ClaimNothing fs
CalmWork f fs = Unit {0}

abbrev pub IsCalm : Frame → List Frame → Type 0
IsCalm (frame.Call f) fs = CalmAsk (call_profile f).ask fs
IsCalm (frame.Turn f) fs = ClaimNothing fs
IsCalm (frame.Request f) fs = CalmWork f fs
IsCalm f fs = Unit {0}

abbrev pub AllCalm : List Frame → Type 0
AllCalm [] = Unit {0}
AllCalm (f ∷ fs) = IsCalm f fs × AllCalm fs
