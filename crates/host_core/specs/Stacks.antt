-- What is at work in a host and what waits below it, as frames: each work stands on the next one, and the open frees stand where it is
-- marked that they wait.
use Rattle.std.specs.Prelude.{◌≡◌, List, [], ◌∷◌, ◌++◌, map, if◌then◌else◌}
use Rattle.tree_specs.specs.declared.frame.Answer.{Answer as Answered}
use Rattle.tree_specs.specs.declared.frame.Answer.TheVariants as answered
use Rattle.tree_specs.specs.declared.frame.Frame.{Frame}
use Rattle.tree_specs.specs.declared.frame.Frame.TheVariants as frame
use Rattle.tree_specs.specs.declared.frame.CallFrame.TheVariants as call_frame
use Rattle.tree_specs.specs.declared.frame.FreeFrame.{FreeFrame}
use Rattle.tree_specs.specs.declared.frame.FreeFrame.TheVariants.{Ending}
use Rattle.tree_specs.specs.declared.frame.OutsideFrame.TheVariants.{Reaching}
use Rattle.tree_specs.specs.declared.frame.RequestFrame.{RequestFrame}
use Rattle.tree_specs.specs.declared.frame.RequestFrame.TheVariants as request
use Rattle.tree_specs.specs.declared.free_step.FreeReply.TheVariants.{Ok}
use Rattle.tree_specs.specs.Tree.Pool.{Pool}
use Rattle.tree_specs.specs.Machine.View.{View}
use Rattle.destructors.specs.Frees.{awaits_run}
use Rattle.host_core.specs.declared.active.Active.{Active}
use Rattle.host_core.specs.declared.active.Active.TheVariants as active
use Rattle.host_core.specs.declared.answer.Answer.{Answer}
use Rattle.host_core.specs.declared.answer.Answer.TheVariants.{Freed, Returned, Turned, Heard}
use Rattle.host_core.specs.declared.waiting.Waiting.{Waiting}
use Rattle.host_core.specs.declared.waiting.Waiting.TheVariants.{Freeing, Awaiting, Turning, Requesting, Turn, Work as WorkOf}
use Rattle.host_core.specs.declared.work.Work.{Work}
use Rattle.host_core.specs.declared.work.Work.TheVariants as work
use Rattle.host_core.specs.Callers.{frame_of}
use Rattle.host_core.specs.Moves.{reply_of}

-- ---- one work

abbrev pub answer_of : Answer → Answered
answer_of (Freed a) = answered.Freed a
answer_of (Returned v) = answered.Returned v
answer_of (Turned v) = answered.Turned v
answer_of (Heard r) = answered.Heard (reply_of r)

abbrev pub work_frame : Work → RequestFrame
work_frame (work.Finishing x state) = request.Finishing x state
work_frame (work.Receiving x) = request.Receiving x
work_frame (work.Cancelling x) = request.Cancelling x
work_frame (work.Cleaning x errand) = request.Cleaning x errand
work_frame (work.Cleaned x errand) = request.Cleaned x errand
work_frame (work.Notifying x errand) = request.Notifying x errand
work_frame (work.Calling what x handler errand) = request.Calling what x handler errand
work_frame (work.Called what x handler errand) = request.Called what x handler errand
work_frame (work.Releasing child) = request.Releasing child
work_frame (work.Vacating queue) = request.Vacating queue
work_frame (work.Dropping queue entry) = request.Dropping queue entry
work_frame (work.Triggering queue) = request.Triggering queue
work_frame (work.Over reply) = request.Over (reply_of reply)

-- a free that is over, where it is the open frees that go on or wait; they are kept elsewhere
abbrev pub no_frame : Frame
no_frame = frame.Free (Ending Ok)

abbrev pub waiting_frame : Waiting → Frame
waiting_frame Freeing = no_frame
waiting_frame (Awaiting q x) = frame.Call (call_frame.Awaiting q x)
waiting_frame (Turning q) = frame.Call (call_frame.Turning q)
waiting_frame (Requesting q) = frame.Call (call_frame.Requesting q)
waiting_frame (Turn f) = frame.Turn f
waiting_frame (WorkOf w) = frame.Request (work_frame w)

abbrev pub active_frame : Active → Frame
active_frame (active.Caller c) = frame.Call (frame_of c)
active_frame active.Freeing = no_frame
active_frame (active.Turning t) = frame.Turn t.frame
active_frame (active.Reaching q) = frame.Outside (Reaching q)
active_frame (active.Requesting w) = frame.Request (work_frame w)

-- ---- all works

abbrev pub free_frames : List FreeFrame → List Frame
free_frames fs = map (λ f. frame.Free f) fs

-- the frees that were begun together, and those that wait for no free, below which others were begun
abbrev pub ahead : List FreeFrame → List FreeFrame
ahead [] = []
ahead (f ∷ fs) = if awaits_run f then [] else f ∷ ahead fs

abbrev pub behind : List FreeFrame → List FreeFrame
behind [] = []
behind (f ∷ fs) = if awaits_run f then f ∷ fs else behind fs

-- the frees of which the innermost goes on where they waited, and those below them
abbrev pub first_frees : List FreeFrame → List Frame
first_frees [] = []
first_frees (f ∷ fs) = frame.Free f ∷ free_frames (ahead fs)

abbrev pub other_frees : List FreeFrame → List FreeFrame
other_frees [] = []
other_frees (f ∷ fs) = behind fs

-- the works that wait, the innermost first, with the open frees among them
abbrev pub standing : List FreeFrame → List Waiting → List Frame
standing fs [] = []
standing fs (Freeing ∷ ws) = first_frees fs ++ standing (other_frees fs) ws
standing fs (w ∷ ws) = waiting_frame w ∷ standing fs ws

-- the works below a free: those that were begun with it, and what waits for them
abbrev pub below_free : List FreeFrame → List Waiting → List Frame
below_free fs ws = free_frames (ahead fs) ++ standing (behind fs) ws

abbrev pub IsOpen : List FreeFrame → Type 0
IsOpen [] = ⊥
IsOpen (f ∷ fs) = Unit {0}

-- it is marked where each of the frees waits that waits for no free
abbrev pub Fits : List FreeFrame → List Waiting → Type 0
Fits fs [] = fs ≡ []
Fits fs (Freeing ∷ ws) = IsOpen fs × Fits (other_frees fs) ws
Fits fs (w ∷ ws) = Fits fs ws

abbrev pub free_view : FreeFrame → List FreeFrame → List Waiting → Pool → View
free_view f fs ws p = record { innermost = frame.Free f; below = below_free fs ws; pool = p }

abbrev pub other_view : Frame → List FreeFrame → List Waiting → Pool → View
other_view f fs ws p = record { innermost = f; below = standing fs ws; pool = p }

abbrev pub freeing_view : List FreeFrame → List Waiting → Pool → View
freeing_view [] ws p = other_view no_frame [] ws p
freeing_view (f ∷ fs) ws p = free_view f fs ws p

-- the works of a host in which this is at work and these wait, the innermost first
abbrev pub seen : Active → List FreeFrame → List Waiting → Pool → View
seen active.Freeing fs ws p = freeing_view fs ws p
seen now fs ws p = other_view (active_frame now) fs ws p

abbrev pub FreesFit : List FreeFrame → List Waiting → Type 0
FreesFit fs ws = IsOpen fs × Fits (other_frees fs) ws

abbrev pub AllFit : Active → List FreeFrame → List Waiting → Type 0
AllFit active.Freeing fs ws = FreesFit fs ws
AllFit now fs ws = Fits fs ws
