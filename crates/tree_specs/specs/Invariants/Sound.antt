-- What holds at every moment: of the rows, and of what the open works claim of them.
use Rattle.std.specs.Prelude.{◌≡◌, ◌≢◌, ◌⊎◌, ℕ, ◌<◌, List, [], ◌∷◌, ◌++◌, Option, Some, None, Bool, true, false}
use Rattle.tree_specs.specs.declared.object.Obj.{Obj}
use Rattle.tree_specs.specs.declared.object.Owner.{Owner}
use Rattle.tree_specs.specs.declared.object.Owner.TheVariants.{Of}
use Rattle.tree_specs.specs.declared.row.Row.{Row}
use Rattle.tree_specs.specs.declared.row.Mark.{Mark}
use Rattle.tree_specs.specs.declared.row.Mark.TheVariants.{Quiet, Busy, Doomed}
use Rattle.tree_specs.specs.declared.frame.Frame.{Frame}
use Rattle.tree_specs.specs.declared.frame.Frame.TheVariants as frame
use Rattle.tree_specs.specs.declared.frame.CallFrame.TheVariants.{Asking, Doing, Awaiting, Turning, Requesting, Announcing, Telling, Returning}
use Rattle.tree_specs.specs.declared.frame.FreeFrame.{FreeFrame}
use Rattle.tree_specs.specs.declared.frame.FreeFrame.TheVariants.{Unlinking, Releasing, Giving, Beginning, Hooked, Judged, Preparing, Draining, Prepared, Dooming, Leaving, Looping, FreeingChild, AfterChild, Ending}
use Rattle.tree_specs.specs.declared.frame.TurnFrame.{TurnFrame}
use Rattle.tree_specs.specs.declared.frame.TurnFrame.TheVariants.{Firing, Handling, Clearing, Serving, Parting}
use Rattle.tree_specs.specs.declared.frame.RequestFrame.{RequestFrame}
use Rattle.tree_specs.specs.declared.frame.RequestFrame.TheVariants as request
use Rattle.tree_specs.specs.declared.frame.Purpose.{Purpose}
use Rattle.tree_specs.specs.declared.frame.Purpose.TheVariants.{Removal, Emptying}
use Rattle.tree_specs.specs.declared.free_step.FreeReply.{FreeReply}
use Rattle.tree_specs.specs.declared.free_step.FreeReply.TheVariants.{Ok, Held, Running, Refused}
use Rattle.tree_specs.specs.Words.Objects.{same}
use Rattle.tree_specs.specs.Tree.Targets.{target_of, newest_ref, is_context}
use Rattle.tree_specs.specs.Tree.Pool.{Pool, row_of, owner_of, target_at, noted_owner, is_owner, is_inside}
use Rattle.tree_specs.specs.Calls.Refusals.{is_referable, is_entry}
use Rattle.tree_specs.specs.Tree.Forest.{IsForest}
use Rattle.tree_specs.specs.Machine.Profiles.{Phase, Claim, former_in, phase_in, Waits, Never, AFree, ARun, AChild, ATurn, AHandler, AClear, ARequest, APrepared, AServed, ARoutine, ARelease, ADropping, profile}
use Rattle.tree_specs.specs.declared.kind.Kind.{Kind}
use Rattle.tree_specs.specs.Events.Coming.{comes_as, is_at_turn}
use Rattle.tree_specs.specs.Events.Handlers.{handler_of}

-- an owner or a former owner is another object; a dying row has no owner, and every other one has
abbrev pub Owned : Option Owner → Obj → Type 0
Owned (Some o) x = o ≢ Of x
Owned None x = ⊥

abbrev pub ShapedBy : Option Owner → Option Owner → Obj → Type 0
ShapedBy None owner x = Owned owner x
ShapedBy (Some former) (Some o) x = ⊥
ShapedBy (Some former) None x = former ≢ Of x

abbrev pub Shaped : Mark → Option Owner → Obj → Type 0
Shaped m owner x = ShapedBy (former_in m) owner x

-- a row's number is from 1 upwards and below the next one
abbrev pub ValidAt : ℕ → Option Row → Obj → Type 0
ValidAt next None x = Unit {0}
ValidAt next (Some r) x = (0 < x.0) × (x.0 < next) × Shaped r.mark r.owner x

abbrev pub all_of : Option Phase → List Phase
all_of None = []
all_of (Some a) = a ∷ []

abbrev pub phase_of : Kind → Mark → List Phase
phase_of k m = all_of (phase_in k m)

abbrev pub phases : Option Row → List Phase
phases None = []
phases (Some r) = phase_of r.kind r.mark

abbrev pub claim_if : Bool → Phase → List Phase
claim_if true a = a ∷ []
claim_if false a = []

abbrev pub claim_by : Obj → Option Claim → List Phase
claim_by x None = []
claim_by x (Some c) = claim_if (same c.object x) c.phase

-- what an open work claims of x
abbrev pub claim : Obj → Frame → List Phase
claim x f = claim_by x (profile f).claims

abbrev pub claims : Obj → List Frame → List Phase
claims x [] = []
claims x (f ∷ fs) = claim x f ++ claims x fs

-- ---- what a work stands on

pub data Footing : Type 0 where
  -- the call, the turn or the request that waits for it
  OnCall : Footing
  -- a free
  OnFree : FreeFrame → Footing
  -- the queue whose entries are freed
  OnDropping : Footing
  -- the call that waits for a turn, or for the outside
  OnTurning : Footing
  -- the call, or the turn, that waits for the work of a request
  OnRequesting : Footing
  -- a work that waits for no free
  OnOther : Footing
  AtBottom : Footing

abbrev pub footing : List Frame → Footing
footing [] = AtBottom
footing (frame.Free f ∷ fs) = OnFree f
footing (frame.Call (Awaiting q x) ∷ fs) = OnCall
footing (frame.Call (Turning q) ∷ fs) = OnTurning
footing (frame.Turn (Clearing x) ∷ fs) = OnCall
footing (frame.Turn (Parting c v) ∷ fs) = OnCall
footing (frame.Request (request.Releasing c) ∷ fs) = OnCall
footing (frame.Request (request.Dropping q e) ∷ fs) = OnDropping
footing (frame.Call (Requesting q) ∷ fs) = OnRequesting
footing (frame.Turn (Serving x) ∷ fs) = OnRequesting
footing (_ ∷ fs) = OnOther

abbrev pub IsCalled : Footing → Type 0
IsCalled OnCall = Unit {0}
IsCalled _ = ⊥

abbrev pub IsTurned : Footing → Type 0
IsTurned OnTurning = Unit {0}
IsTurned _ = ⊥

-- the work of a request is a call's, a turn's, or that of a free that waits for it
abbrev pub IsRequested : Footing → Type 0
IsRequested OnRequesting = Unit {0}
IsRequested (OnFree (Preparing x)) = Unit {0}
IsRequested _ = ⊥

-- that of a queue is the free's that waits for it
abbrev pub Drains : Obj → Footing → Type 0
Drains q (OnFree (Draining x)) = q ≡ x
Drains q _ = ⊥

-- and what ends is either
abbrev pub IsPrepared : Footing → Type 0
IsPrepared (OnFree (Draining x)) = Unit {0}
IsPrepared on = IsRequested on

-- a loop that only empties an object is a call's own
abbrev pub Stands : Purpose → Footing → Type 0
Stands (Removal h) on = Unit {0}
Stands Emptying on = IsCalled on

abbrev pub MayWait : Waits → Footing → Type 0
MayWait Never on = ⊥
MayWait (AFree x) on = Unit {0}
MayWait (ARun x h) on = 0 < h
MayWait (AChild c purpose) on = Stands purpose on
MayWait ATurn on = Unit {0}
MayWait (AHandler x) on = IsTurned on
MayWait (AClear x) on = IsTurned on
MayWait ARequest on = Unit {0}
MayWait (APrepared x) on = Unit {0}
MayWait (AServed x) on = IsTurned on
MayWait (ARoutine x) on = IsRequested on
MayWait (ARelease c) on = IsRequested on
MayWait (ADropping q e) on = Drains q on

-- the works below the innermost wait for the one above them
abbrev pub IsWaiting : Frame → List Frame → Type 0
IsWaiting f fs = MayWait (profile f).waits (footing fs)

abbrev pub AllWait : List Frame → Type 0
AllWait [] = Unit {0}
AllWait (f ∷ fs) = IsWaiting f fs × AllWait fs

abbrev pub IsNoOwner : Option Owner → Type 0
IsNoOwner None = Unit {0}
IsNoOwner (Some o) = ⊥

abbrev pub IsLive : Mark → Type 0
IsLive m = IsNoOwner (former_in m)

-- ---- references

-- a plain object or a request that nothing is going on with
abbrev pub IsReferable : Option Row → Type 0
IsReferable None = ⊥
IsReferable (Some r) = (is_referable r.kind ≡ true) × (r.mark ≡ Quiet)

abbrev pub IsQuietRow : Option Row → Type 0
IsQuietRow None = ⊥
IsQuietRow (Some r) = r.mark ≡ Quiet

-- what a reference refers to is there, is plain or a request, and neither runs nor dies; nothing goes on with a reference
pub record Refers (rows : List Row) : Type 0 where
  pub target : (r t : Obj) → target_at rows r ≡ Some t → IsReferable (row_of rows t)
  pub quiet : (r t : Obj) → target_at rows r ≡ Some t → IsQuietRow (row_of rows r)

-- the owner that was noted for a child of x is that of its newest reference; after that is dropped, it is not x
abbrev pub NotedFor : Obj → Obj → Option Owner → Pool → Type 0
NotedFor x c noted p = (noted ≡ noted_owner p.rows c) ⊎ (noted ≢ Some (Of x))

-- an entry with which nothing goes on, and to which there is no reference; it has no destructor
abbrev pub IsIdleEntry : Option Row → Type 0
IsIdleEntry None = ⊥
IsIdleEntry (Some r) = (is_entry r.kind ≡ true) × (r.mark ≡ Quiet) × (r.hook ≡ 0)

-- an object whose freeing begins is the child that is tried, where the work below tries one; a call begins it only where
-- there is no reference to it; and a queue frees entries
abbrev pub Tries : Obj → Footing → Pool → Type 0
Tries c (OnFree (FreeingChild x d noted purpose)) p = (d ≡ c) × (owner_of p.rows c ≡ Some (Of x)) × NotedFor x c noted p
Tries c OnCall p = newest_ref p.rows c ≡ None
Tries c OnDropping p = (newest_ref p.rows c ≡ None) × IsIdleEntry (row_of p.rows c)
Tries c AtBottom p = Unit {0}
Tries c _ p = ⊥

-- no entry is freed
abbrev pub IsElsewhere : Footing → Type 0
IsElsewhere OnDropping = ⊥
IsElsewhere on = Unit {0}

-- a child that runs is where it was, and no reference of its owner's was noted
abbrev pub StillThere : FreeReply → Obj → Obj → Option Owner → Pool → Type 0
StillThere Ok x c noted p = Unit {0}
StillThere Held x c noted p = Unit {0}
StillThere Running x c noted p = (owner_of p.rows c ≡ Some (Of x)) × (noted ≢ Some (Of x))
StillThere (Refused v) x c noted p = Unit {0}

-- a free that has begun doesn't answer that the object runs
abbrev pub IsOver : FreeReply → Type 0
IsOver Ok = Unit {0}
IsOver Held = Unit {0}
IsOver Running = ⊥
IsOver (Refused v) = Unit {0}

-- a call is not answered that the object is held: it looks at the references before
abbrev pub MayAnswer : FreeReply → Footing → Type 0
MayAnswer Held OnCall = ⊥
MayAnswer answer on = Unit {0}

-- the destructor that an object has
abbrev pub HasHook : Option Row → ℕ → Type 0
HasHook None h = ⊥
HasHook (Some r) h = r.hook ≡ h

-- what is known of an object that may be put below an owner
pub record MayBePlaced (p : Pool) (o : Owner) (x : Obj) : Type 0 where
  pub row : Row
  pub is : row_of p.rows x ≡ Some row
  pub live : IsLive row.mark
  pub apart : o ≢ Of x
  pub there : is_owner p.rows o ≡ true
  pub outside : is_inside p.rows o (Of x) ≡ false

-- a live object that a call takes an interest away from
abbrev pub IsGivenUp : Obj → Footing → Pool → Type 0
IsGivenUp x on p = IsCalled on × (r : Row) × (row_of p.rows x ≡ Some r) × IsLive r.mark × (target_of r.kind ≡ None)

-- the row of a request that is received is there, whether it was received before or not; so is that of a queue
abbrev pub MayReceive : Obj → Pool → Type 0
MayReceive x p = (r : Row) × (row_of p.rows x ≡ Some r)

-- a turn of a context is under way
abbrev pub is_at_turn_mark : Mark → Bool
is_at_turn_mark Busy = true
is_at_turn_mark Doomed = true
is_at_turn_mark m = false

abbrev pub IsTurning : Option Row → Type 0
IsTurning None = ⊥
IsTurning (Some r) = (is_context r.kind ≡ true) × (is_at_turn_mark r.mark ≡ true)

abbrev pub TurnedAt : Option Obj → List Row → Type 0
TurnedAt None rows = Unit {0}
TurnedAt (Some c) rows = IsTurning (row_of rows c)

-- what the innermost free rests on, by what it stands on and what the works below it claim
abbrev pub FreeRests : FreeFrame → Footing → (Obj → List Phase) → Pool → Type 0
FreeRests (Unlinking o x) on claimed p = IsGivenUp x on p
FreeRests (Releasing x) on claimed p = IsGivenUp x on p
FreeRests (Giving x o) on claimed p = MayBePlaced p o x
FreeRests (Beginning x) on claimed p = Tries x on p × (target_at p.rows x ≡ None)
FreeRests (Hooked x h) on claimed p = (0 < h) × HasHook (row_of p.rows x) h
FreeRests (Judged x h v) on claimed p = 0 < h
FreeRests (Preparing x) on claimed p = MayReceive x p
FreeRests (Draining x) on claimed p = MayReceive x p
FreeRests (Prepared x) on claimed p = Unit {0}
FreeRests (Dooming x) on claimed p = Tries x on p × (newest_ref p.rows x ≡ None) × IsElsewhere on
FreeRests (Leaving x h) on claimed p = (r : Row) × (row_of p.rows x ≡ Some r) × IsLive r.mark × (claimed x ≡ []) × (target_of r.kind ≡ None) × (newest_ref p.rows x ≡ None) × (is_at_turn_mark r.mark ≡ false)
FreeRests (Looping x purpose) on claimed p = Stands purpose on
FreeRests (FreeingChild x c noted purpose) on claimed p = ⊥
FreeRests (AfterChild x c noted purpose answer) on claimed p = StillThere answer x c noted p × Stands purpose on
FreeRests (Ending answer) on claimed p = IsOver answer × MayAnswer answer on

-- a turn is a call's own, and a handler runs for an event of its kind, which is busy
abbrev pub TurnRests : TurnFrame → Footing → Pool → Type 0
TurnRests (Firing what x handler occasion) on p = IsTurned on × (r : Row) × (row_of p.rows x ≡ Some r) × (comes_as what r.kind ≡ true) × (r.mark ≡ Busy) × (handler_of p.handlers x ≡ Some handler) × (is_at_turn p handler.context ≡ true)
TurnRests (Handling what x handler occasion) on p = IsTurned on × (k : Kind) × (comes_as what k ≡ true)
TurnRests (Clearing x) on p = ⊥
TurnRests (Serving x) on p = ⊥
TurnRests (Parting c v) on p = ⊥
TurnRests f on p = IsTurned on

-- the work of a request is for what waits for it
abbrev pub RequestRests : RequestFrame → Footing → Pool → Type 0
RequestRests (request.Receiving x) on p = IsRequested on × MayReceive x p
RequestRests (request.Releasing c) on p = ⊥
RequestRests (request.Vacating q) on p = Drains q on
RequestRests (request.Dropping q e) on p = ⊥
RequestRests (request.Over r) on p = IsPrepared on
RequestRests f on p = IsRequested on

-- what the innermost work rests on
abbrev pub Rests : Frame → List Frame → Pool → Type 0
Rests (frame.Call (Asking q)) fs p = Unit {0}
Rests (frame.Call (Doing q c)) fs p = Unit {0}
Rests (frame.Call (Awaiting q x)) fs p = ⊥
Rests (frame.Call (Turning q)) fs p = ⊥
Rests (frame.Call (Requesting q)) fs p = ⊥
Rests (frame.Call (Announcing q notice r)) fs p = Unit {0}
Rests (frame.Call (Telling q r)) fs p = Unit {0}
Rests (frame.Call (Returning v)) fs p = Unit {0}
Rests (frame.Free f) fs p = FreeRests f (footing fs) (λ x. claims x fs) p
Rests (frame.Turn f) fs p = TurnRests f (footing fs) p
Rests (frame.Outside f) fs p = IsTurned (footing fs)
Rests (frame.Request f) fs p = RequestRests f (footing fs) p

pub record Sound (f : Frame) (fs : List Frame) (p : Pool) : Type 0 where
  pub started : 0 < p.next
  pub valid : (x : Obj) → ValidAt p.next (row_of p.rows x) x
  -- each number stands once, the owner of each row is the root or a row, and from owner to owner one comes to an end
  pub forest : IsForest p.rows
  pub refers : Refers p.rows
  -- each object whose destructor runs, that is received to be freed, or that is dying, is in exactly one open free, and each whose handler runs in exactly
  -- one open turn; no other object is
  pub open_frees : (x : Obj) → claim x f ++ claims x fs ≡ phases (row_of p.rows x)
  pub waiting : AllWait fs
  -- the context whose turn is under way is there
  pub turned : TurnedAt p.turning p.rows
  pub rests : Rests f fs p
