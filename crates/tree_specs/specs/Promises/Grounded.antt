-- When a story over its inputs is grounded: what it tells of an object agrees with the pool at that time, and has its cause.
use Rattle.tree_specs.specs.Tree.Targets.{newest_ref}
use Rattle.std.specs.Prelude.{ℕ, ◌≡◌, ◌≢◌, ◌↔◌, Bool, true, false, List, Option, Some, None}
use Rattle.step_machine.specs.History.{EachFits}
use Rattle.step_machine.specs.Open.{LastIs}
use Rattle.tree_specs.specs.declared.object.Obj.{Obj}
use Rattle.tree_specs.specs.declared.object.Owner.{Owner}
use Rattle.tree_specs.specs.declared.object.Owner.TheVariants.{Of}
use Rattle.tree_specs.specs.declared.kind.Kind.{Kind}
use Rattle.tree_specs.specs.declared.kind.Kind.TheVariants as kind
use Rattle.tree_specs.specs.declared.row.Row.{Row}
use Rattle.tree_specs.specs.declared.row.Mark.{Mark}
use Rattle.tree_specs.specs.declared.row.Mark.TheVariants as mark
use Rattle.tree_specs.specs.declared.moment.What.{What}
use Rattle.tree_specs.specs.declared.moment.What.TheVariants as what
use Rattle.tree_specs.specs.declared.call.Call.{Call}
use Rattle.tree_specs.specs.declared.call.Call.TheVariants.{Free, Unlink}
use Rattle.tree_specs.specs.declared.reply.Reply.{Reply}
use Rattle.tree_specs.specs.declared.reply.Reply.TheVariants.{Ok, No}
use Rattle.tree_specs.specs.declared.reply.Refusal.{Refusal}
use Rattle.tree_specs.specs.declared.reply.Refusal.TheVariants.{Held, Running, Refused as RefusedBy}
use Rattle.tree_specs.specs.declared.question.Input.{Input}
use Rattle.tree_specs.specs.declared.event.Event.TheVariants.{Replied, Fired, Accepted, Refused, Unreferenced}
use Rattle.tree_specs.specs.declared.handler.Handler.{Handler}
use Rattle.tree_specs.specs.Words.Objects.{same}
use Rattle.tree_specs.specs.Tree.Pool.{Pool, row_of, passes, is_object, is_owner, is_inside}
use Rattle.tree_specs.specs.Events.Queues.{Head, next_of}
use Rattle.tree_specs.specs.Events.Coming.{is_at_turn}
use Rattle.tree_specs.specs.Events.Handlers.{handler_of}
use Rattle.tree_specs.specs.Calls.Refusals.{is_held, is_running, is_interested, is_entry_row}
use Rattle.tree_specs.specs.Rules.Items.{Item}
use Rattle.tree_specs.specs.Rules.Items.Item.{Told}
use Rattle.tree_specs.specs.Promises.Orderly.{asks_hook}
use Rattle.tree_specs.specs.Promises.Acceptances.{AcceptsAfterReturns}
use Rattle.tree_specs.specs.Rules.Sequence.{CallStart, Scene}
use Rattle.tree_specs.specs.Rules.Story.{items}

-- ---- a live object is freed, or it is said why not

abbrev pub is_refusal_of : Obj → Refusal → Bool
is_refusal_of x (Held y) = same y x
is_refusal_of x (Running y) = same y x
is_refusal_of x (RefusedBy y v) = same y x
is_refusal_of x why = false

-- it was freed, or it is held, runs, or its destructor refused
abbrev pub is_answer_of : Obj → Reply → Bool
is_answer_of x Ok = true
is_answer_of x (No why) = is_refusal_of x why
is_answer_of x r = false

-- an object from which an owner that has an interest in it may take this away
abbrev pub MayUnlink : Pool → Owner → Obj → Type 0
MayUnlink start o x = (is_object start.rows x ≡ true) × (is_owner start.rows o ≡ true) × (is_interested start o x ≡ true)

abbrev pub AnsweredCall : Call → Pool → Reply → Type 0
AnsweredCall (Free x) start r = is_object start.rows x ≡ true → is_answer_of x r ≡ true
AnsweredCall (Unlink o x) start r = MayUnlink start o x → is_answer_of x r ≡ true
AnsweredCall c start r = Unit {0}

-- ---- held

-- an object is held in a call to free it exactly where it has references that hold it, and in no unlinking
abbrev pub HeldCall : Call → Pool → Reply → Type 0
HeldCall (Free x) start r = (r ≡ No (Held x)) ↔ (is_held start x ≡ true)
HeldCall (Unlink o x) start r = r ≢ No (Held x)
HeldCall c start r = Unit {0}

-- ---- running, or refused

abbrev pub IsItem : Item → Scene → Type 0
IsItem item s = s.item ≡ item

-- that it runs was so when the call began, and a destructor's number was told right before
abbrev pub CausedRefusal : List Scene → Pool → Refusal → Type 0
CausedRefusal before start (Running x) = is_running start x ≡ true
CausedRefusal before start (RefusedBy x v) = LastIs (IsItem (Told (Refused x v))) before
CausedRefusal before start why = Unit {0}

abbrev pub CausedReply : List Scene → Pool → Reply → Type 0
CausedReply before start (No why) = CausedRefusal before start why
CausedReply before start r = Unit {0}

abbrev pub CausedCall : List Scene → Call → Pool → Reply → Type 0
CausedCall before (Free x) start r = CausedReply before start r
CausedCall before (Unlink o x) start r = CausedReply before start r
CausedCall before c start r = Unit {0}

-- the newest reference to the object was dropped, one from outside
abbrev pub DropsOutside : Obj → Scene → Type 0
DropsOutside x s = (r : Obj) × (s.item ≡ Told (Unreferenced r x)) × (newest_ref s.before.rows x ≡ Some r) × (is_inside s.before.rows (Of r) (Of x) ≡ false)

-- ---- routines

-- a handler runs for a busy event, and what a request sets off for a request
abbrev pub may_fire : What → Kind → Mark → Bool
may_fire what.Timer kind.Timer mark.Busy = true
may_fire what.Immediate kind.Immediate mark.Busy = true
may_fire what.Descriptor kind.Descriptor mark.Busy = true
may_fire what.Callback kind.Request m = true
may_fire what.Cleanup kind.Request m = true
may_fire what.Cancel kind.Request m = true
may_fire what.Trigger kind.Request m = true
may_fire w k m = false

abbrev pub may_fire_row : What → Option Row → Bool
may_fire_row w o = passes (λ r. may_fire w r.kind r.mark) o

abbrev pub AsksHook : Obj → Scene → Type 0
AsksHook x s = asks_hook x s.item ≡ true

abbrev pub is_asked_mark : Mark → Bool
is_asked_mark mark.Asked = true
is_asked_mark m = false

-- its destructor is asked
abbrev pub is_asked : Pool → Obj → Bool
is_asked p x = passes (λ r. is_asked_mark r.mark) (row_of p.rows x)

-- an entry of this request, with this routine, is the first in a queue that runs, and its trigger hasn't begun
pub record HasTurn (p : Pool) (x : Obj) (number : ℕ) : Type 0 where
  pub queue : Obj
  pub first : Head
  pub next : next_of p.queues queue ≡ Some first
  pub entry : is_entry_row (row_of p.rows first.object) ≡ true
  pub request : first.entry.request ≡ x
  pub routine : first.entry.trigger.routine ≡ number

abbrev pub IsTurn : What → Pool → Obj → ℕ → Type 0
IsTurn what.Trigger p x routine = HasTurn p x routine
IsTurn w p x routine = Unit {0}

-- an event comes in a turn of its context
abbrev pub HasContext : Pool → Obj → Type 0
HasContext p x = (h : Handler) × (handler_of p.handlers x ≡ Some h) × (is_at_turn p h.context ≡ true)

abbrev pub InContext : What → Pool → Obj → Type 0
InContext what.Timer p x = HasContext p x
InContext what.Immediate p x = HasContext p x
InContext what.Descriptor p x = HasContext p x
InContext w p x = Unit {0}

-- a routine starts for a live object, that of an event in a turn of its context, and a trigger where it is its turn; a destructor accepts right after a question to it, while its object is asked
abbrev pub Started : List Scene → Item → Pool → Type 0
Started before (Told (Fired w x routine)) p = (may_fire_row w (row_of p.rows x) ≡ true) × IsTurn w p x routine × InContext w p x
Started before (Told (Accepted x)) p = (is_asked p x ≡ true) × LastIs (AsksHook x) before
Started before item p = Unit {0}

-- ---- a scene

-- what is so of a reply to its call; a reply without its call has no cause
abbrev pub OfReply : (Call → Pool → Reply → Type 0) → Option CallStart → Item → Type 0
OfReply Q (Some b) (Told (Replied r)) = Q b.call b.start r
OfReply Q None (Told (Replied r)) = ⊥
OfReply Q about item = Unit {0}

pub record IsGrounded (before : List Scene) (s : Scene) : Type 0 where
  pub answered : OfReply AnsweredCall s.about s.item
  pub held : OfReply HeldCall s.about s.item
  pub caused : OfReply (CausedCall before) s.about s.item
  pub started : Started before s.item s.before

-- each scene is grounded, and each acceptance comes right after the destructor of that object has returned 0
pub record Grounded (scenes : List Scene) (is : List Input) : Type 0 where
  pub each : EachFits IsGrounded scenes
  pub accepts : AcceptsAfterReturns None (items scenes) is
