-- What each open work is by the rules' text, so that a run of the machine can be compared with it.
use Rattle.std.specs.Prelude.{ℕ, List, [], ◌∷◌, Option, None, length}
use Rattle.step_machine.specs.Machine.{Table, Outcome, followed, run}
use Rattle.step_machine.specs.Noted.{Noted, noted, with_note}
use Rattle.tree_specs.specs.declared.object.Obj.{Obj}
use Rattle.tree_specs.specs.declared.event.Event.TheVariants.{Freed as IsFreed}
use Rattle.tree_specs.specs.declared.question.Input.{Input}
use Rattle.tree_specs.specs.declared.frame.Frame.{Frame}
use Rattle.tree_specs.specs.declared.frame.Frame.TheVariants as frame
use Rattle.tree_specs.specs.declared.frame.CallFrame.TheVariants.{Asking, Doing, Awaiting, Turning, Requesting, Announcing, Telling, Returning}
use Rattle.tree_specs.specs.declared.frame.FreeFrame.TheVariants.{Unlinking, Releasing, Giving, Beginning, Hooked, Judged, Preparing, Prepared, Dooming, Leaving, Looping, FreeingChild, AfterChild, Ending, Draining}
use Rattle.tree_specs.specs.declared.frame.TurnFrame.TheVariants.{Taking, Timing, Timed, Polling, Starting, Firing, Handling, Handled, Clearing, Serving, Parting, Closing}
use Rattle.tree_specs.specs.declared.frame.OutsideFrame.TheVariants.{Reaching, Opening, Hearing}
use Rattle.tree_specs.specs.declared.frame.RequestFrame.{RequestFrame}
use Rattle.tree_specs.specs.declared.frame.RequestFrame.TheVariants as request
use Rattle.tree_specs.specs.declared.frame.Purpose.{Purpose}
use Rattle.tree_specs.specs.declared.frame.Purpose.TheVariants.{Removal, Emptying}
use Rattle.tree_specs.specs.declared.frame.Answer.{Answer}
use Rattle.tree_specs.specs.declared.frame.Answer.TheVariants.{Freed, Returned, Turned, Heard}
use Rattle.tree_specs.specs.declared.free_step.FreeReply.TheVariants.{Ok}
use Rattle.tree_specs.specs.Tree.Pool.{Pool, remove}
use Rattle.tree_specs.specs.Rules.Items.Item.{Told}
use Rattle.tree_specs.specs.Rules.Sequence.{Work, Scene, CallStart, ◌>>=◌, ◌>>◌, gives, change, tells}
use Rattle.tree_specs.specs.Rules.Story.{free, hooked, judged, preparing, draining, prepared, dooming, leave, children, tried, asked, acting, telling, returning, announcing, unlink, release, given, turns, taking, timing, timed, polling, starting, firing, handling, handled, reaching, opening, hearing, closing, finishing, receiving, cancelling, cleaning, cleaned, notifying, calling, called, vacating, triggering, over}
use Rattle.tree_specs.specs.Machine.Table.{table, notes, resume}
use Rattle.tree_specs.specs.Machine.View.{View}

-- the machine whose replies know what they are about
abbrev pub noted_table : Table (Noted Frame CallStart) Answer Pool Input Scene
noted_table = noted notes table

-- a free, a routine's run, a turn, or a question to the outside, as a work of the machine
abbrev pub ends_as : {A : Type 0} → (A → Answer) → Work A → Work Answer
ends_as answer w = do
  a ← w
  gives (answer a)

-- what follows the children of an object
abbrev pub looped : Obj → Purpose → Work (Unit {0}) → Work Answer
looped x (Removal h) w = do
  w
  tells (Told (IsFreed x h))
  change (λ p. remove p x)
  gives (Freed Ok)
looped x Emptying w = do
  w
  gives (Freed Ok)

-- the work of a request
abbrev pub request_mean : ℕ → RequestFrame → Work Answer
request_mean n (request.Finishing x state) = ends_as Heard (finishing n x state)
request_mean n (request.Receiving x) = ends_as Heard (receiving n x)
request_mean n (request.Cancelling x) = ends_as Heard (cancelling n x)
request_mean n (request.Cleaning x errand) = ends_as Heard (cleaning n x errand)
request_mean n (request.Cleaned x errand) = ends_as Heard (cleaned n x errand)
request_mean n (request.Notifying x errand) = ends_as Heard (notifying n x errand)
request_mean n (request.Calling what x handler errand) = ends_as Heard (calling n what x handler errand)
request_mean n (request.Called what x handler errand) = ends_as Heard (called n what x handler errand)
request_mean n (request.Releasing c) = gives (Freed Ok)
request_mean n (request.Vacating q) = ends_as Heard (vacating n q)
request_mean n (request.Dropping q e) = gives (Freed Ok)
request_mean n (request.Triggering q) = ends_as Heard (triggering n q)
request_mean n (request.Over r) = ends_as Heard (over n r)

-- what a work does, by the text
abbrev pub mean : ℕ → Frame → Option CallStart → Work Answer
mean n (frame.Call (Asking q)) b = ends_as Returned (asked n q)
mean n (frame.Call (Doing q c)) b = ends_as Returned (acting n q c)
mean n (frame.Call (Awaiting q x)) b = gives (Freed Ok)
mean n (frame.Call (Turning q)) b = gives (Freed Ok)
mean n (frame.Call (Requesting q)) b = gives (Freed Ok)
mean n (frame.Call (Announcing q notice r)) b = ends_as Returned (announcing n b q notice r)
mean n (frame.Call (Telling q r)) b = ends_as Returned (telling n b q r)
mean n (frame.Call (Returning v)) b = ends_as Returned (returning n v)
mean n (frame.Free (Unlinking o x)) b = ends_as Freed (unlink n o x)
mean n (frame.Free (Releasing x)) b = ends_as Freed (release n x)
mean n (frame.Free (Giving x o)) b = ends_as Freed (given n x o)
mean n (frame.Free (Beginning x)) b = ends_as Freed (free n x)
mean n (frame.Free (Hooked x h)) b = ends_as Freed (hooked n x h)
mean n (frame.Free (Judged x h v)) b = ends_as Freed (judged n x h v)
mean n (frame.Free (Preparing x)) b = ends_as Freed (preparing n x)
mean n (frame.Free (Draining x)) b = ends_as Freed (draining n x)
mean n (frame.Free (Prepared x)) b = ends_as Freed (prepared n x)
mean n (frame.Free (Dooming x)) b = ends_as Freed (dooming n x)
mean n (frame.Free (Leaving x h)) b = ends_as Freed (leave n x h)
mean n (frame.Free (Looping x purpose)) b = looped x purpose (children n x)
mean n (frame.Free (FreeingChild x c noted purpose)) b = gives (Freed Ok)
mean n (frame.Free (AfterChild x c noted purpose a)) b = looped x purpose (tried n x c noted a)
mean n (frame.Free (Ending a)) b = gives (Freed a)
mean n (frame.Turn Taking) b = ends_as Turned (taking n)
mean n (frame.Turn (Timing again)) b = ends_as Turned (timing n again)
mean n (frame.Turn (Timed again now)) b = ends_as Turned (timed n again now)
mean n (frame.Turn (Polling limit)) b = ends_as Turned (polling n limit)
mean n (frame.Turn (Starting what x occasion)) b = ends_as Turned (starting n what x occasion)
mean n (frame.Turn (Firing what x handler occasion)) b = ends_as Turned (firing n what x handler occasion)
mean n (frame.Turn (Handling what x handler occasion)) b = ends_as Turned (handling n what x handler occasion)
mean n (frame.Turn (Handled what x)) b = ends_as Turned (handled n what x)
mean n (frame.Turn (Clearing x)) b = gives (Freed Ok)
mean n (frame.Turn (Serving x)) b = gives (Freed Ok)
mean n (frame.Turn (Parting c v)) b = gives (Freed Ok)
mean n (frame.Turn (Closing v)) b = ends_as Turned (closing n v)
mean n (frame.Outside (Reaching q)) b = ends_as Heard (reaching n q)
mean n (frame.Outside (Opening fd)) b = ends_as Heard (opening n fd)
mean n (frame.Outside (Hearing r)) b = ends_as Heard (hearing n r)
mean n (frame.Request f) b = request_mean n f

-- ---- runs of the machine

-- a work's run by the table, from its beginning
abbrev pub run_of : ℕ → Frame → Work Answer
run_of n f p is = run noted_table n (with_note None f) p is

-- the children of an object are freed, and it stays
abbrev pub emptied : Work (Unit {0}) → Work Answer
emptied w = do
  w
  gives (Freed Ok)

-- what works that wait make of the end of the one before them, by the text
abbrev pub continued : ℕ → List Frame → Outcome Answer Pool Input Scene → Outcome Answer Pool Input Scene
continued n [] o = o
continued n (f ∷ fs) o = followed o (λ a p is. continued n fs (mean n (resume f a) None p is))

-- the story still to come of these open works, by the text, in so many turns
abbrev pub text_rest : ℕ → View → List Input → Outcome Answer Pool Input Scene
text_rest n v is = continued n v.below (mean n v.innermost None v.pool is)

-- the turns that are stated for these objects and inputs
abbrev pub stated : Pool → List Input → ℕ
stated p is = turns (length p.rows) (length is)
