-- A turn of the event loop at work in a host: what it asks and tells, and what it does once something was picked.
use Rattle.std.specs.Prelude.{◌≡◌, Bool, true, false, Option, Some, None}
use Rattle.step_machine.specs.Machine.{Move as Do}
use Rattle.tree_specs.specs.declared.event.Event.{Event}
use Rattle.tree_specs.specs.declared.event.Event.TheVariants.{Fired}
use Rattle.tree_specs.specs.declared.frame.Errand.TheVariants.{Finish}
use Rattle.tree_specs.specs.declared.frame.Frame.TheVariants as frame
use Rattle.tree_specs.specs.declared.frame.TurnFrame.{TurnFrame}
use Rattle.tree_specs.specs.declared.frame.TurnFrame.TheVariants.{Taking, Timing, Timed, Polling, Starting, Firing, Handling, Handled, Closing}
use Rattle.tree_specs.specs.declared.moment.What.TheVariants.{Timer as ForTimer, Descriptor as ForDescriptor}
use Rattle.tree_specs.specs.declared.question.Ask.{Ask}
use Rattle.tree_specs.specs.declared.question.Ask.TheVariants.{Clock, Wait}
use Rattle.tree_specs.specs.declared.question.Input.{Input}
use Rattle.tree_specs.specs.declared.question.Input.TheVariants as input
use Rattle.tree_specs.specs.declared.request.State.TheVariants.{TimedOut}
use Rattle.tree_specs.specs.Invariants.Sound.{TurnedAt}
use Rattle.tree_specs.specs.Tree.Pool.{Pool, ring_here}
use Rattle.tree_specs.specs.Events.Coming.{at_time, with_flags, looks_again}
use Rattle.tree_specs.specs.Events.Requests.{is_noted}
use Rattle.tree_specs.specs.Events.Rotation.{Ready, first_ready}
use Rattle.tree_specs.specs.Machine.Table.{Step, come_step, soon_step}
use Rattle.tree_specs.specs.Promises.Grounded.{is_asked}
use Rattle.destructors.specs.Moves.{IsLiveRow}
use Rattle.loop_core.specs.declared.pick.Pick.{Pick}
use Rattle.loop_core.specs.declared.pick.Pick.TheVariants as pick

-- what it asks
abbrev pub turn_asks : TurnFrame → Option Ask
turn_asks (Timing again) = Some Clock
turn_asks (Polling limit) = Some (Wait limit)
turn_asks f = None

-- what it tells, and how it goes on
abbrev pub turn_tells : TurnFrame → Option Event
turn_tells (Firing what x handler occasion) = Some (Fired what x handler.routine)
turn_tells f = None

abbrev pub frame_fired : TurnFrame → TurnFrame
frame_fired (Firing what x handler occasion) = Handling what x handler occasion
frame_fired f = f

-- it tells or asks something next
abbrev pub turn_speaks : TurnFrame → Bool
turn_speaks (Timing again) = true
turn_speaks (Polling limit) = true
turn_speaks (Firing what x handler occasion) = true
turn_speaks f = false

-- what is done after this was picked, where readiness was asked before, or wasn't
abbrev pub picked_step : Bool → Pick → Pool → Step
picked_step waited (pick.Soon x) p = soon_step (is_noted p.requests x) x p
picked_step waited (pick.Time x now) p = come_step (is_noted p.requests x) (Finish TimedOut) ForTimer x (at_time now) p
picked_step waited (pick.Descriptor x flags) p = Do.Go (frame.Turn (Starting ForDescriptor x (with_flags flags))) p
picked_step waited pick.AskClock p = Do.Go (frame.Turn (Timing waited)) p
picked_step waited (pick.AskWait limit) p = Do.Go (frame.Turn (Polling limit)) p
picked_step waited pick.Nothing p = Do.Go (frame.Turn (Closing 0)) p

-- what it may do next without telling or asking
abbrev pub MayTurn : TurnFrame → Pool → Type 0
MayTurn Taking p = Unit {0}
MayTurn (Timed again now) p = Unit {0}
MayTurn (Starting what x occasion) p = Unit {0}
MayTurn (Handling what x handler occasion) p = Unit {0}
MayTurn (Handled what x) p = IsLiveRow p x × (is_asked p x ≡ false)
MayTurn (Closing v) p = TurnedAt p.turning p.rows
MayTurn f p = ⊥

-- after a wait the clock is asked again, or an event comes that waits for what its descriptor is ready for
abbrev pub frame_ready : Option Ready → TurnFrame
frame_ready None = Closing 0
frame_ready (Some r) = Starting ForDescriptor r.object (with_flags r.flags)

abbrev pub frame_looked : Bool → Option Ready → TurnFrame
frame_looked true ready = Timing true
frame_looked false ready = frame_ready ready

-- what is still to do after the answer to what it asks
abbrev pub turn_given : TurnFrame → Input → Pool → TurnFrame
turn_given (Timing again) (input.Clock now) p = Timed again now
turn_given (Polling limit) (input.Ready wants) p = frame_looked (looks_again p wants) (first_ready (ring_here p) wants)
turn_given f i p = f

-- what is still to do once it was told which descriptors are ready, and this was picked
abbrev pub looked_frame : Pick → TurnFrame
looked_frame pick.AskClock = Timing true
looked_frame (pick.Descriptor x flags) = Starting ForDescriptor x (with_flags flags)
looked_frame picked = Closing 0
