-- What the works and the items told so far say of the items to come.
use Rattle.std.proofs.Common.{◌≡◌, ℕ, nat_eq, List, [], ◌∷◌, Option, Some, None, map, true, false}
use Rattle.step_machine.specs.Noted.{Noted}
use Rattle.step_machine.specs.Open.{LastIs}
use Rattle.tree_specs.specs.declared.object.Obj.{Obj}
use Rattle.tree_specs.specs.declared.moment.What.{What}
use Rattle.tree_specs.specs.declared.moment.What.TheVariants.{Hook as ForHook}
use Rattle.tree_specs.specs.declared.call.Call.{Call}
use Rattle.tree_specs.specs.declared.call.Call.TheVariants as call
use Rattle.tree_specs.specs.declared.question.Ask.{Ask}
use Rattle.tree_specs.specs.declared.question.Ask.TheVariants as ask
use Rattle.tree_specs.specs.declared.reply.Reply.{Reply}
use Rattle.tree_specs.specs.declared.event.Event.TheVariants.{Replied, Refused}
use Rattle.tree_specs.specs.declared.frame.Frame.{Frame}
use Rattle.tree_specs.specs.declared.frame.Frame.TheVariants as frame
use Rattle.tree_specs.specs.declared.frame.CallFrame.TheVariants.{Awaiting, Announcing, Telling, Returning}
use Rattle.tree_specs.specs.declared.frame.OutsideFrame.TheVariants.{Reaching, Hearing}
use Rattle.tree_specs.specs.declared.frame.RequestFrame.TheVariants as request
use Rattle.tree_specs.specs.declared.frame.Errand.{Errand}
use Rattle.tree_specs.specs.declared.frame.Errand.TheVariants.{Finish}
use Rattle.tree_specs.specs.declared.request.State.TheVariants.{UserError}
use Rattle.tree_specs.specs.Rules.Errands.{reply_to, cancelled_reply}
use Rattle.tree_specs.proofs.Tree.Numbered.{by_test}
use Rattle.tree_specs.specs.declared.frame.FreeFrame.TheVariants.{Unlinking, Releasing, Beginning, Hooked, Judged, Dooming, Ending}
use Rattle.tree_specs.specs.declared.free_step.FreeReply.{FreeReply}
use Rattle.tree_specs.specs.declared.free_step.FreeReply.TheVariants as free_reply
use Rattle.tree_specs.specs.Tree.Pool.{Pool, row_of}
use Rattle.tree_specs.specs.Calls.Refusals.{is_held, is_running}
use Rattle.tree_specs.specs.Rules.Items.{Item}
use Rattle.tree_specs.specs.Rules.Items.Item.{Told}
use Rattle.tree_specs.specs.Rules.Sequence.{CallStart, Scene}
use Rattle.tree_specs.specs.Machine.Profiles.{Role, Calls, Frees, Waits, Never, AFree, ARun, AChild, ATurn, AHandler, AClear, ARequest, APrepared, AServed, ARoutine, ARelease, profile, ADropping}
use Rattle.tree_specs.specs.Promises.Orderly.{RefusedJustNow, is_hook}
use Rattle.tree_specs.specs.Promises.Grounded.{OfReply, AnsweredCall, HeldCall, CausedCall, IsItem, AsksHook}
use Rattle.tree_specs.proofs.Calls.Plans.{IsThere, IsOutside}
use Rattle.tree_specs.proofs.Promises.Answering.{IsNoRefusal}

abbrev pub NotedWork : Type 0
NotedWork = Noted Frame CallStart

abbrev pub item_of : Scene → Item
item_of s = s.item

-- the items of the scenes told so far
abbrev pub told : List Scene → List Item
told scenes = map item_of scenes

-- ---- which work stands on which

abbrev pub FreesObject : Obj → Role → Type 0
FreesObject x (Frees (Some y)) = y ≡ x
FreesObject x (Frees None) = Unit {0}
FreesObject x _ = ⊥

-- a free of x
abbrev pub IsFreeOf : Obj → Frame → Type 0
IsFreeOf x f = FreesObject x (profile f).role

-- the question of a routine that runs for this, for this object
abbrev pub IsAskedAs : (What → Obj → Type 0) → Ask → Type 0
IsAskedAs P (ask.Routine m) = P m.what m.object
IsAskedAs P _ = ⊥

abbrev pub RunsAs : (What → Obj → Type 0) → Role → Type 0
RunsAs P (Calls (Some q)) = IsAskedAs P q
RunsAs P (Calls None) = Unit {0}
RunsAs P _ = ⊥

-- a run of a routine
abbrev pub IsRunAs : (What → Obj → Type 0) → Frame → Type 0
IsRunAs P f = RunsAs P (profile f).role

-- it is x's destructor
abbrev pub IsHook : Obj → What → Obj → Type 0
IsHook x what y = (what ≡ ForHook) × (y ≡ x)

-- it is no destructor
abbrev pub IsNoHook : What → Obj → Type 0
IsNoHook what y = is_hook what ≡ false

-- a call that frees x, or its children, or takes an interest in it away
abbrev pub FreesBy : Obj → Call → Type 0
FreesBy x (call.Free y) = y ≡ x
FreesBy x (call.Freekids y) = y ≡ x
FreesBy x (call.Unlink o y) = y ≡ x
FreesBy x c = ⊥

-- a call to free is done only where the object isn't held
abbrev pub NotHeld : Call → Pool → Type 0
NotHeld (call.Free x) start = is_held start x ≡ false
NotHeld c start = Unit {0}

-- a call that takes a turn, asks the outside, or has an errand of a request done
abbrev pub TurnsOrAsks : Call → Type 0
TurnsOrAsks (call.Turn c) = Unit {0}
TurnsOrAsks call.Now = Unit {0}
TurnsOrAsks (call.Accept fd) = Unit {0}
TurnsOrAsks (call.Read fd len) = Unit {0}
TurnsOrAsks (call.Write fd bytes) = Unit {0}
TurnsOrAsks (call.Cancel x) = Unit {0}
TurnsOrAsks (call.Done x) = Unit {0}
TurnsOrAsks (call.Error x error) = Unit {0}
TurnsOrAsks (call.Oom x) = Unit {0}
TurnsOrAsks (call.Received x) = Unit {0}
TurnsOrAsks c = ⊥

-- a caller that waits for a turn, for the outside or for a request knows the call
abbrev pub KnowsTurn : Option CallStart → Type 0
KnowsTurn None = ⊥
KnowsTurn (Some b) = TurnsOrAsks b.call

-- a caller that waits for a free knows the call
abbrev pub Knows : Obj → Option CallStart → Type 0
Knows x None = ⊥
Knows x (Some b) = FreesBy x b.call × NotHeld b.call b.start

abbrev pub StandsFor : Waits → Frame → Option CallStart → Type 0
StandsFor (AFree x) f b = IsFreeOf x f × Knows x b
StandsFor (AChild c purpose) f b = IsFreeOf c f
StandsFor (ARun x h) f b = IsRunAs (IsHook x) f
StandsFor (AHandler x) f b = IsRunAs IsNoHook f
StandsFor ATurn f b = KnowsTurn b
StandsFor (AClear x) f b = Unit {0}
StandsFor ARequest f b = KnowsTurn b
StandsFor (APrepared x) f b = Unit {0}
StandsFor (AServed x) f b = Unit {0}
StandsFor (ARoutine x) f b = IsRunAs IsNoHook f
StandsFor (ARelease c) f b = Unit {0}
StandsFor (ADropping q e) f b = Unit {0}
StandsFor Never f b = Unit {0}

-- what a work that waits says of the one that stands on it
abbrev pub StandsOn : Frame → Frame → Option CallStart → Type 0
StandsOn f g b = StandsFor (profile g).waits f b

abbrev pub Stacked : Frame → List NotedWork → Type 0
Stacked f [] = Unit {0}
Stacked f (w ∷ ws) = StandsOn f w.work w.note × Stacked w.work ws

-- what is said of the work right below, where there is one
abbrev pub OfNext : (Frame → Option CallStart → Type 0) → List NotedWork → Type 0
OfNext Q [] = Unit {0}
OfNext Q (w ∷ ws) = Q w.work w.note

-- ---- the end of an errand is no refusal

pub done-reply : (errand : Errand) → IsNoRefusal (reply_to errand)
done-reply (Finish UserError) = tt
done-reply _ = tt

pub cancelled-done : (v : ℕ) → IsNoRefusal (cancelled_reply v)
cancelled-done v = by_test (nat_eq v 0) (λ t. rw t tt) (λ t. rw t tt)

-- ---- what the innermost work is about to tell has its cause

-- the reply that is to be told
abbrev pub IsCaused : List Scene → Option CallStart → Reply → Type 0
IsCaused scenes b r =
    RefusedJustNow (told scenes) (Told (Replied r)) × OfReply AnsweredCall b (Told (Replied r)) × OfReply HeldCall b (Told (Replied r)) × OfReply (CausedCall scenes) b (Told (Replied r))

-- the destructor for which it waits was just asked
abbrev pub IsAskedFor : List Scene → Frame → Option CallStart → Type 0
IsAskedFor scenes (frame.Free (Hooked x h)) b = LastIs (AsksHook x) scenes
IsAskedFor scenes f b = Unit {0}

-- the call that waits is told of a refusal right after this was told
abbrev pub IsRefusedFor : List Scene → FreeReply → Frame → Option CallStart → Type 0
IsRefusedFor scenes free_reply.Held (frame.Call (Awaiting q x)) b = ⊥
IsRefusedFor scenes (free_reply.Refused v) (frame.Call (Awaiting q x)) b = LastIs (IsItem (Told (Refused x v))) scenes
IsRefusedFor scenes a f b = Unit {0}

-- the object has the row that it had when the call began
abbrev pub IsAsAtStart : Pool → Obj → Option CallStart → Type 0
IsAsAtStart p x None = ⊥
IsAsAtStart p x (Some b) = row_of b.start.rows x ≡ row_of p.rows x

-- nothing has happened to the object since the call that waits began
abbrev pub HasJustBegun : Pool → Frame → Option CallStart → Type 0
HasJustBegun p (frame.Call (Awaiting q x)) b = IsAsAtStart p x b
HasJustBegun p f b = Unit {0}

-- the object ran when the call that waits began
abbrev pub RanAtStart : Obj → Option CallStart → Type 0
RanAtStart x None = Unit {0}
RanAtStart x (Some b) = is_running b.start x ≡ true

abbrev pub HasRunFor : Obj → Frame → Option CallStart → Type 0
HasRunFor x (frame.Call (Awaiting q y)) b = RanAtStart x b
HasRunFor x f b = Unit {0}

abbrev pub Cause : List Scene → Frame → Option CallStart → List NotedWork → Pool → Type 0
Cause scenes (frame.Call (Announcing q notice r)) b ws p = ((more : List Scene) → IsCaused more b r) × IsThere (Some notice) p
Cause scenes (frame.Call (Telling q r)) b ws p = IsCaused scenes b r
Cause scenes (frame.Call (Returning v)) b ws p = OfNext (IsAskedFor scenes) ws
Cause scenes (frame.Free (Judged x h v)) b ws p = LastIs (AsksHook x) scenes
Cause scenes (frame.Free (Ending a)) b ws p = OfNext (IsRefusedFor scenes a) ws
Cause scenes (frame.Free (Unlinking o x)) b ws p = OfNext (HasJustBegun p) ws
Cause scenes (frame.Free (Releasing x)) b ws p = OfNext (HasJustBegun p) ws
Cause scenes (frame.Free (Beginning x)) b ws p = OfNext (HasJustBegun p) ws
Cause scenes (frame.Free (Dooming x)) b ws p = OfNext (HasRunFor x) ws
Cause scenes (frame.Outside (Reaching q)) b ws p = IsOutside q
Cause scenes (frame.Outside (Hearing r)) b ws p = IsNoRefusal r
Cause scenes (frame.Request (request.Over r)) b ws p = IsNoRefusal r
Cause scenes f b ws p = Unit {0}
