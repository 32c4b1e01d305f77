-- The works that wait for the one above them.
use Rattle.std.proofs.Common.{ℕ, List, Option}
use Rattle.tree_specs.specs.declared.object.Obj.{Obj}
use Rattle.tree_specs.specs.declared.object.Owner.{Owner}
use Rattle.tree_specs.specs.declared.question.Ask.{Ask}
use Rattle.tree_specs.specs.declared.frame.Frame.{Frame}
use Rattle.tree_specs.specs.declared.frame.Frame.TheVariants as frame
use Rattle.tree_specs.specs.declared.frame.CallFrame.TheVariants.{Awaiting, Turning, Requesting}
use Rattle.tree_specs.specs.declared.frame.TurnFrame.TheVariants.{Handling, Clearing, Serving, Parting}
use Rattle.tree_specs.specs.declared.frame.RequestFrame.TheVariants as request
use Rattle.tree_specs.specs.declared.frame.Errand.{Errand}
use Rattle.tree_specs.specs.declared.handler.Handler.{Handler}
use Rattle.tree_specs.specs.declared.moment.What.{What}
use Rattle.tree_specs.specs.declared.occasion.Occasion.{Occasion}
use Rattle.tree_specs.specs.declared.frame.FreeFrame.TheVariants.{Hooked, Preparing, Draining, FreeingChild}
use Rattle.tree_specs.specs.declared.frame.Purpose.{Purpose}
use Rattle.tree_specs.specs.Invariants.Sound.{IsWaiting}

-- each case by what it waits for
pub data Waiter : Frame → Type 0 where
  ForFree : (q : Ask) (x : Obj) → Waiter (frame.Call (Awaiting q x))
  ForRun : (x : Obj) (h : ℕ) → Waiter (frame.Free (Hooked x h))
  ForChild : (x c : Obj) (noted : Option Owner) (purpose : Purpose) → Waiter (frame.Free (FreeingChild x c noted purpose))
  ForTurn : (q : Ask) → Waiter (frame.Call (Turning q))
  ForHandler : (what : What) (x : Obj) (handler : Handler) (occasion : Occasion) → Waiter (frame.Turn (Handling what x handler occasion))
  ForClear : (x : Obj) → Waiter (frame.Turn (Clearing x))
  ForParting : (c : Obj) (v : ℕ) → Waiter (frame.Turn (Parting c v))
  ForRequest : (q : Ask) → Waiter (frame.Call (Requesting q))
  ForServed : (x : Obj) → Waiter (frame.Turn (Serving x))
  ForReceived : (x : Obj) → Waiter (frame.Free (Preparing x))
  ForDrained : (x : Obj) → Waiter (frame.Free (Draining x))
  ForRoutine : (what : What) (x : Obj) (handler : Handler) (errand : Errand) → Waiter (frame.Request (request.Called what x handler errand))
  ForRelease : (c : Obj) → Waiter (frame.Request (request.Releasing c))
  ForEntry : (q e : Obj) → Waiter (frame.Request (request.Dropping q e))

pub waiter : (g : Frame) (gs : List Frame) → IsWaiting g gs → Waiter g
waiter (frame.Call (Awaiting q x)) gs w = ForFree q x
waiter (frame.Free (Hooked x h)) gs w = ForRun x h
waiter (frame.Free (FreeingChild x c noted purpose)) gs w = ForChild x c noted purpose
waiter (frame.Call (Turning q)) gs w = ForTurn q
waiter (frame.Turn (Handling what x handler occasion)) gs w = ForHandler what x handler occasion
waiter (frame.Turn (Clearing x)) gs w = ForClear x
waiter (frame.Turn (Parting c v)) gs w = ForParting c v
waiter (frame.Call (Requesting q)) gs w = ForRequest q
waiter (frame.Turn (Serving x)) gs w = ForServed x
waiter (frame.Free (Preparing x)) gs w = ForReceived x
waiter (frame.Free (Draining x)) gs w = ForDrained x
waiter (frame.Request (request.Called what x handler errand)) gs w = ForRoutine what x handler errand
waiter (frame.Request (request.Releasing c)) gs w = ForRelease c
waiter (frame.Request (request.Dropping q e)) gs w = ForEntry q e
waiter _ gs w = absurd w
