-- An item is fine where it fits those before it and has its cause; what a work that ends answers keeps that so.
use Rattle.tree_specs.specs.Calls.Refusals.{is_held, is_running}
use Rattle.std.proofs.Common.{◌≡◌, List, [], ◌∷◌, ◌++◌, Option, Some, None, true, false, refl, sym, ◌∙◌, subst, map}
use Rattle.std.proofs.lemmas.List.{map_push}
use Rattle.step_machine.specs.Machine.{Move, Move as Do}
use Rattle.step_machine.specs.Noted.{noted_move, noted_work, with_note}
use Rattle.step_machine.specs.Open.{LastIs}
use Rattle.step_machine.proofs.History.{FitsOn}
use Rattle.tree_specs.specs.declared.object.Obj.{Obj}
use Rattle.tree_specs.specs.declared.object.Owner.{Owner}
use Rattle.tree_specs.specs.declared.call.Call.{Call}
use Rattle.tree_specs.specs.declared.call.Call.TheVariants as call
use Rattle.tree_specs.specs.declared.question.Ask.{Ask}
use Rattle.tree_specs.specs.declared.question.Ask.TheVariants as ask
use Rattle.tree_specs.specs.declared.reply.Reply.{Reply}
use Rattle.tree_specs.specs.declared.event.Event.TheVariants.{Replied, Refused}
use Rattle.tree_specs.specs.declared.frame.Frame.{Frame}
use Rattle.tree_specs.specs.declared.frame.Frame.TheVariants as frame
use Rattle.tree_specs.specs.declared.frame.CallFrame.TheVariants.{Awaiting, Turning, Requesting}
use Rattle.tree_specs.specs.declared.frame.TurnFrame.TheVariants.{Parting, Handling, Clearing, Serving}
use Rattle.tree_specs.specs.declared.handler.Handler.{Handler}
use Rattle.tree_specs.specs.declared.moment.What.TheVariants as whats
use Rattle.tree_specs.specs.declared.reply.Reply.TheVariants as reply
use Rattle.tree_specs.specs.declared.frame.Errand.{Errand}
use Rattle.tree_specs.specs.declared.frame.RequestFrame.TheVariants as request
use Rattle.tree_specs.proofs.Promises.Answering.{IsNoRefusal}
use Rattle.tree_specs.specs.declared.moment.What.{What}
use Rattle.tree_specs.specs.declared.frame.FreeFrame.TheVariants.{Hooked, Preparing, FreeingChild, Draining}
use Rattle.tree_specs.specs.declared.frame.Answer.{Answer}
use Rattle.tree_specs.specs.declared.free_step.FreeReply.{FreeReply}
use Rattle.tree_specs.specs.declared.free_step.FreeReply.TheVariants as free_reply
use Rattle.tree_specs.specs.Words.Objects.{same}
use Rattle.tree_specs.specs.Tree.Pool.{Pool}
use Rattle.tree_specs.specs.Rules.Items.{Item}
use Rattle.tree_specs.specs.Rules.Items.Item.{Told}
use Rattle.tree_specs.specs.Rules.Sequence.{CallStart, Scene}
use Rattle.tree_specs.specs.Rules.Answers.{freed_reply, later}
use Rattle.tree_specs.specs.Machine.Table.{notes, note_after, resume, reply_in, value_in, heard_in}
use Rattle.tree_specs.specs.Machine.Profiles.{Waits, Never, AFree, ARun, AChild, ATurn, AHandler, AClear, ARequest, APrepared, AServed, ARoutine, ARelease, profile, ADropping}
use Rattle.tree_specs.specs.Promises.Orderly.{Fits, RefusedJustNow}
use Rattle.tree_specs.specs.Promises.Grounded.{IsGrounded, AnsweredCall, HeldCall, CausedCall, IsItem, AsksHook}
use Rattle.tree_specs.specs.Invariants.Sound.{AllWait}
use Rattle.tree_specs.proofs.Tree.Numbered.{same-equal}
use Rattle.tree_specs.specs.Machine.Meaning.{noted_table}
use Rattle.tree_specs.proofs.Promises.Later.{Later, later-same}
use Rattle.tree_specs.proofs.Promises.Past.{IsLeaving, Accounts, Past, past-goes}
use Rattle.tree_specs.proofs.Promises.Causes.{NotedWork, item_of, told, IsFreeOf, IsAskedAs, IsHook, IsNoHook, IsRunAs, FreesBy, TurnsOrAsks, Knows, KnowsTurn, StandsFor, StandsOn, Stacked, OfNext, IsCaused, Cause, NotHeld, done-reply, cancelled-done}
use Rattle.tree_specs.proofs.Invariants.Waiters.{ForParting, Waiter, ForFree, ForRun, ForChild, ForTurn, ForHandler, ForClear, ForRequest, ForServed, ForReceived, ForRoutine, ForRelease, waiter, ForDrained, ForEntry}

abbrev pub work_of : NotedWork → Frame
work_of w = w.work

-- an item fits those before it, and is grounded
abbrev pub IsFine : List Scene → Scene → Type 0
IsFine scenes s = Fits (told scenes) s.item × IsGrounded scenes s

-- what is known of the works and of the scenes so far
pub record Known (scenes : List Scene) (w : NotedWork) (ws : List NotedWork) (p : Pool) : Type 0 where
  pub past : Past (told scenes) w.work (map work_of ws) p
  pub stacked : Stacked w.work ws
  pub cause : Cause scenes w.work w.note ws p

-- a step of a work with this note tells what is fine, and leaves as much known
abbrev pub FineBy : List Scene → Frame → Option CallStart → Pool → Move Frame Answer Pool Item → List NotedWork → Type 0
FineBy scenes f b p m ws = FitsOn noted_table IsFine Known scenes (noted_move notes f b p m) ws

-- one more scene
pub told-more : (scenes : List Scene) (s : Scene) → told (scenes ++ s ∷ []) ≡ told scenes ++ s.item ∷ []
told-more scenes s = map_push item_of scenes s

-- ---- works on works

-- another work in the place of one, for which it does as well
pub restacked : (f f' : Frame) (ws : List NotedWork) → ((x : Obj) → IsFreeOf x f → IsFreeOf x f') → ((P : What → Obj → Type 0) → IsRunAs P f → IsRunAs P f') → Stacked f ws → Stacked f' ws
restacked f f' [] free run s = tt
restacked f f' (w ∷ ws) free run s = (stands (profile w.work).waits s.0, s.1)
  where
    stands : (g : Waits) → StandsFor g f w.note → StandsFor g f' w.note
    stands (AFree x) h = (free x h.0, h.1)
    stands (AChild c purpose) h = free c h
    stands (ARun x k) h = run (IsHook x) h
    stands (AHandler x) h = run IsNoHook h
    stands ATurn h = h
    stands (AClear x) h = h
    stands ARequest h = h
    stands (APrepared x) h = h
    stands (AServed x) h = h
    stands (ARoutine x) h = run IsNoHook h
    stands (ARelease c) h = h
    stands (ADropping q e) h = h
    stands Never h = tt

-- what holds of each work that may stand right below
pub of-next : (Q : Frame → Option CallStart → Type 0) (f : Frame) (ws : List NotedWork) → AllWait (map work_of ws) → Stacked f ws
    → ((g : Frame) (b : Option CallStart) → Waiter g → StandsOn f g b → Q g b) → OfNext Q ws
of-next Q f [] wait s each = tt
of-next Q f (w ∷ ws) wait s each = each w.work w.note (waiter w.work (map work_of ws) wait.0) s.0

pub from-next : (P Q : Frame → Option CallStart → Type 0) (f : Frame) (ws : List NotedWork) → AllWait (map work_of ws) → Stacked f ws → OfNext P ws
    → ((g : Frame) (b : Option CallStart) → Waiter g → StandsOn f g b → P g b → Q g b) → OfNext Q ws
from-next P Q f [] wait s h each = tt
from-next P Q f (w ∷ ws) wait s h each = each w.work w.note (waiter w.work (map work_of ws) wait.0) s.0 h

-- a later question is of the same routine
pub later-hook : (P : What → Obj → Type 0) (q : Ask) (r : Reply) → IsAskedAs P q → IsAskedAs P (later q r)
later-hook P (ask.Routine m) r h = h
later-hook P _ r h = h

-- ---- replies

pub last-told : (scenes : List Scene) (i : Item) → LastIs (IsItem i) scenes → LastIs (λ item. item ≡ i) (told scenes)
last-told [] i h = h
last-told (s ∷ []) i h = h
last-told (s ∷ t ∷ scenes) i h = last-told (t ∷ scenes) i h

-- why a free answers so to the call that waits for it
abbrev pub ReplyCause : List Scene → Option CallStart → Obj → FreeReply → Type 0
ReplyCause scenes b x free_reply.Ok = Unit {0}
ReplyCause scenes b x free_reply.Held = ⊥
ReplyCause scenes None x free_reply.Running = Unit {0}
ReplyCause scenes (Some b) x free_reply.Running = is_running b.start x ≡ true
ReplyCause scenes b x (free_reply.Refused v) = LastIs (IsItem (Told (Refused x v))) scenes

pub caused-reply : (scenes : List Scene) (x : Obj) (b : Option CallStart) (a : FreeReply) → Knows x b → ReplyCause scenes b x a → IsCaused scenes b (freed_reply x a)
caused-reply scenes x None a k h = absurd k
caused-reply scenes x (Some b) a k h = let e = each b.call k.0 k.1 in (just-now a h, e.0, e.1, e.2)
  where
    just-now : (a : FreeReply) → ReplyCause scenes (Some b) x a → RefusedJustNow (told scenes) (Told (Replied (freed_reply x a)))
    just-now free_reply.Ok h = tt
    just-now free_reply.Held h = absurd h
    just-now free_reply.Running h = tt
    just-now (free_reply.Refused v) h = last-told scenes (Told (Refused x v)) h

    self : same x x ≡ true
    self = same-equal x x refl

    for-free : is_held b.start x ≡ false → (a : FreeReply) → ReplyCause scenes (Some b) x a
        → AnsweredCall (call.Free x) b.start (freed_reply x a) × HeldCall (call.Free x) b.start (freed_reply x a) × CausedCall scenes (call.Free x) b.start (freed_reply x a)
    for-free held free_reply.Ok h = (λ e. refl, (λ e. cc, λ e. let bad : true ≡ false = sym e ∙ held in cc), tt)
    for-free held free_reply.Held h = absurd h
    for-free held free_reply.Running h = (λ e. self, (λ e. cc, λ e. let bad : true ≡ false = sym e ∙ held in cc), h)
    for-free held (free_reply.Refused v) h = (λ e. self, (λ e. cc, λ e. let bad : true ≡ false = sym e ∙ held in cc), h)

    for-unlink : (o : Owner) (a : FreeReply) → ReplyCause scenes (Some b) x a
        → AnsweredCall (call.Unlink o x) b.start (freed_reply x a) × HeldCall (call.Unlink o x) b.start (freed_reply x a) × CausedCall scenes (call.Unlink o x) b.start (freed_reply x a)
    for-unlink o free_reply.Ok h = (λ m. refl, λ e. cc, tt)
    for-unlink o free_reply.Held h = absurd h
    for-unlink o free_reply.Running h = (λ m. self, λ e. cc, h)
    for-unlink o (free_reply.Refused v) h = (λ m. self, λ e. cc, h)

    each : (c : Call) → FreesBy x c → NotHeld c b.start → AnsweredCall c b.start (freed_reply x a) × HeldCall c b.start (freed_reply x a) × CausedCall scenes c b.start (freed_reply x a)
    each (call.Free y) e n = subst (λ (z : Obj). AnsweredCall (call.Free z) b.start (freed_reply x a) × HeldCall (call.Free z) b.start (freed_reply x a) × CausedCall scenes (call.Free z) b.start (freed_reply x a)) (sym e)
        (for-free (subst (λ (z : Obj). is_held b.start z ≡ false) e n) a h)
    each (call.Freekids y) e n = (tt, tt, tt)
    each (call.Unlink o y) e n = subst (λ (z : Obj). AnsweredCall (call.Unlink o z) b.start (freed_reply x a) × HeldCall (call.Unlink o z) b.start (freed_reply x a) × CausedCall scenes (call.Unlink o z) b.start (freed_reply x a)) (sym e)
        (for-unlink o a h)
    each _ e n = absurd e

-- a reply that is no refusal follows none
pub just-now : (items : List Item) (r : Reply) → IsNoRefusal r → RefusedJustNow items (Told (Replied r))
just-now items (reply.No why) h = absurd h
just-now items _ h = tt

-- the reply to a call that takes a turn, asks the outside, or has an errand of a request done
pub caused-turn : (scenes : List Scene) (b : Option CallStart) (r : Reply) → KnowsTurn b → RefusedJustNow (told scenes) (Told (Replied r)) → IsCaused scenes b r
caused-turn scenes None r k now = absurd k
caused-turn scenes (Some b) r k now = let e = each b.call k in (now, e.0, e.1, e.2)
  where
    each : (c : Call) → TurnsOrAsks c → AnsweredCall c b.start r × HeldCall c b.start r × CausedCall scenes c b.start r
    each (call.Free x) h = absurd h
    each (call.Unlink o x) h = absurd h
    each _ h = (tt, tt, tt)

-- ---- a work that ends

-- what it answers to the work below it has its cause
abbrev pub AnswersTo : List Scene → Answer → Frame → Option CallStart → Type 0
AnswersTo scenes a (frame.Call (Awaiting q x)) b = ReplyCause scenes b x (reply_in a)
AnswersTo scenes a (frame.Free (Hooked x h)) b = LastIs (AsksHook x) scenes
AnswersTo scenes a (frame.Call (Requesting q)) b = RefusedJustNow (told scenes) (Told (Replied (heard_in a)))
AnswersTo scenes a (frame.Call (Turning q)) b = RefusedJustNow (told scenes) (Told (Replied (heard_in a)))
AnswersTo scenes a f b = Unit {0}

pub resumed : (scenes : List Scene) (f : Frame) (b : Option CallStart) (ws : List NotedWork) (p : Pool) (a : Answer) → Past (told scenes) f (map work_of ws) p
    → ((x : Obj) → IsLeaving f x → ⊥) → Stacked f ws → AllWait (map work_of ws) → OfNext (AnswersTo scenes a) ws → FineBy scenes f b p (Do.Done a p) ws
resumed scenes f b [] p a past stays stacked wait h = tt
resumed scenes f b (w ∷ ws) p a past stays stacked wait h = below w.work (waiter w.work (map work_of ws) wait.0) past stacked.0 stacked.1 h
  where
    after : (what : What) (x : Obj) (k : Handler) (errand : Errand) → Cause scenes (resume (frame.Request (request.Called what x k errand)) a) w.note ws p
    after whats.Cleanup x k errand = tt
    after whats.Cancel x k errand = cancelled-done (value_in a)
    after _ x k errand = done-reply errand

    -- the work below goes on, and stands where it stood
    next : (g : Frame) → Past (told scenes) f (g ∷ map work_of ws) p → Stacked g ws → ((x : Obj) → IsFreeOf x g → IsFreeOf x (resume g a)) → ((P : What → Obj → Type 0) → IsRunAs P g → IsRunAs P (resume g a))
        → Accounts (told scenes) (resume g a) → Cause scenes (resume g a) w.note ws p → Known scenes (with_note w.note (resume g a)) ws p
    next g past under free run account cause = record {
      past = past-goes (told scenes) f (resume g a) (g ∷ map work_of ws) (map work_of ws) p p past (later-same p) (λ x l. absurd (stays x l)) account past.all_account.1;
      stacked = restacked g (resume g a) ws free run under;
      cause = cause;
    }

    below : (g : Frame) → Waiter g → Past (told scenes) f (g ∷ map work_of ws) p → StandsOn f g w.note → Stacked g ws → AnswersTo scenes a g w.note → Known scenes (with_note w.note (resume g a)) ws p
    below _ (ForFree q x) past on under h =
        let r : Reply = freed_reply x (reply_in a) in
        next (frame.Call (Awaiting q x)) past under (λ y k. k) (λ P k. later-hook P q r k) tt (caused-reply scenes x w.note (reply_in a) on.1 h)
    below _ (ForRun x k) past on under h = next (frame.Free (Hooked x k)) past under (λ y l. l) (λ P l. l) tt h
    below _ (ForTurn q) past on under h = next (frame.Call (Turning q)) past under (λ y k. k) (λ P k. later-hook P q (heard_in a) k) tt (caused-turn scenes w.note (heard_in a) on h)
    below _ (ForRequest q) past on under h = next (frame.Call (Requesting q)) past under (λ y k. k) (λ P k. later-hook P q (heard_in a) k) tt (caused-turn scenes w.note (heard_in a) on h)
    below _ (ForServed x) past on under h = next (frame.Turn (Serving x)) past under (λ y l. l) (λ P l. l) tt tt
    below _ (ForParting x v) past on under h = next (frame.Turn (Parting x v)) past under (λ y l. l) (λ P l. l) tt tt
    below _ (ForReceived x) past on under h = next (frame.Free (Preparing x)) past under (λ y l. l) (λ P l. l) tt tt
    below _ (ForRoutine what x k errand) past on under h = next (frame.Request (request.Called what x k errand)) past under (λ y l. l) (λ P l. l) tt (after what x k errand)
    below _ (ForDrained x) past on under h = next (frame.Free (Draining x)) past under (λ y l. l) (λ P l. l) tt tt
    below _ (ForEntry q e) past on under h = next (frame.Request (request.Dropping q e)) past under (λ y l. l) (λ P l. l) tt tt
    below _ (ForRelease c) past on under h = next (frame.Request (request.Releasing c)) past under (λ y l. l) (λ P l. l) tt tt
    below _ (ForHandler w x k occasion) past on under h = next (frame.Turn (Handling w x k occasion)) past under (λ y l. l) (λ P l. l) tt tt
    below _ (ForClear x) past on under h = next (frame.Turn (Clearing x)) past under (λ y l. l) (λ P l. l) tt tt
    below _ (ForChild x c noted purpose) past on under h = next (frame.Free (FreeingChild x c noted purpose)) past under (λ y k. k) (λ P k. k) past.all_account.0 tt

-- ---- a work that goes on

-- it leaves no object, and another work does as well for what it stands on
pub record Yields (f g : Frame) : Type 1 where
  pub stays : (x : Obj) → IsLeaving f x → ⊥
  pub free : (x : Obj) → IsFreeOf x f → IsFreeOf x g
  pub run : (P : What → Obj → Type 0) → IsRunAs P f → IsRunAs P g

module _ (scenes : List Scene) (f g : Frame) (b : Option CallStart) (ws : List NotedWork) (p q : Pool) where
  -- it goes on as another work over a later pool, and tells nothing
  pub goes-on : Yields f g → Later p q → Accounts (told scenes) g → Cause scenes g (note_after f p b) ws q → Known scenes (with_note b f) ws p → FineBy scenes f b p (Do.Go g q) ws
  goes-on yields later account cause known = record {
    past = past-goes (told scenes) f g (map work_of ws) (map work_of ws) p q known.past later (λ x l. absurd (yields.stays x l)) account known.past.all_account;
    stacked = restacked f g ws yields.free yields.run known.stacked;
    cause = cause;
  }

  -- it begins another work, and waits for it
  pub waits-for : (h : Frame) → Yields f g → Later p q → Accounts (told scenes) h → Accounts (told scenes) g → StandsOn h g (note_after f p b) → Cause scenes h None (with_note (note_after f p b) g ∷ ws) q
      → Known scenes (with_note b f) ws p → FineBy scenes f b p (Do.Call h g q) ws
  waits-for h yields later account account' on cause known = record {
    past = past-goes (told scenes) f h (map work_of ws) (g ∷ map work_of ws) p q known.past later (λ x l. absurd (yields.stays x l)) account (account', known.past.all_account);
    stacked = (on, restacked f g ws yields.free yields.run known.stacked);
    cause = cause;
  }

-- ---- one more scene

pub known-told : (scenes : List Scene) (s : Scene) (w : NotedWork) (ws : List NotedWork) (p : Pool) → Past (told scenes ++ s.item ∷ []) w.work (map work_of ws) p
    → Stacked w.work ws → Cause (scenes ++ s ∷ []) w.work w.note ws p → Known (scenes ++ s ∷ []) w ws p
known-told scenes s w ws p past stacked cause =
    record { past = subst (λ (l : List Item). Past l w.work (map work_of ws) p) (sym (told-more scenes s)) past; stacked = stacked; cause = cause }

-- a waiting work with an input, with its note
pub taken-noted : (n : Option CallStart) (o : Option Frame) (g : NotedWork) → noted_work n o ≡ Some g → (f : Frame) × (o ≡ Some f) × (g ≡ with_note n f)
taken-noted n None g e = cc
taken-noted n (Some f) g e = let e' : with_note n f ≡ g = cc in (f, refl, sym e')
