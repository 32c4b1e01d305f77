-- Pieces of the rules, over the works that they are made of: what a plan does, what is let go of, and what comes.
use Rattle.std.specs.Prelude.{ℕ, nat_eq, Bool, true, false, Option, Some, None, if◌then◌else◌}
use Rattle.tree_specs.specs.declared.object.Obj.{Obj}
use Rattle.tree_specs.specs.declared.object.Owner.TheVariants.{Of}
use Rattle.tree_specs.specs.declared.object.Owner.{Owner}
use Rattle.tree_specs.specs.declared.row.Row.{Row}
use Rattle.tree_specs.specs.declared.row.Mark.TheVariants as mark
use Rattle.tree_specs.specs.declared.frame.Errand.{Errand}
use Rattle.tree_specs.specs.declared.frame.Errand.TheVariants.{Finish, Notify, Receive, Cancel}
use Rattle.tree_specs.specs.declared.request.State.{State}
use Rattle.tree_specs.specs.declared.request.State.TheVariants.{TimedOut}
use Rattle.tree_specs.specs.declared.moment.What.{What}
use Rattle.tree_specs.specs.declared.moment.What.TheVariants.{Timer as ForTimer}
use Rattle.tree_specs.specs.declared.occasion.Occasion.{Occasion}
use Rattle.tree_specs.specs.declared.reply.Refusal.TheVariants as refusal
use Rattle.tree_specs.specs.declared.notice.Notice.{Notice}
use Rattle.tree_specs.specs.declared.notice.Notice.TheVariants as notice
use Rattle.tree_specs.specs.declared.event.Event.{Event}
use Rattle.tree_specs.specs.declared.reply.Reply.{Reply}
use Rattle.tree_specs.specs.declared.reply.Reply.TheVariants as reply
use Rattle.tree_specs.specs.declared.event.Event.TheVariants.{Moved, Warned, Unreferenced, Closed, State as StateOf}
use Rattle.tree_specs.specs.declared.question.Ask.{Ask}
use Rattle.tree_specs.specs.declared.question.Ask.TheVariants as ask
use Rattle.tree_specs.specs.declared.free_step.FreeReply.{FreeReply}
use Rattle.tree_specs.specs.declared.free_step.FreeReply.TheVariants as free_reply
use Rattle.tree_specs.specs.declared.free_step.FreeReply.TheVariants.{Ok, Held, Running}
use Rattle.tree_specs.specs.Tree.Pool.{Pool, is_below, owner_of, is_inside, remove, place, set_mark, disarm, enter}
use Rattle.tree_specs.specs.Events.Rotation.{closes_with}
use Rattle.tree_specs.specs.Events.Requests.{state_number, is_noted}
use Rattle.tree_specs.specs.Events.Coming.{at_time}
use Rattle.tree_specs.specs.Tree.Heirs.{heir}
use Rattle.tree_specs.specs.Rules.Items.Item.{Told}
use Rattle.tree_specs.specs.Calls.Refusals.{is_request, is_queue}
use Rattle.tree_specs.specs.Calls.Plans.{Plan, changed_by}
use Rattle.tree_specs.specs.Calls.Plans.Plan.{Does, Frees, Unlinks, Empties, Asks, Turns, Works}
use Rattle.tree_specs.specs.Rules.Answers.{freed_reply}
use Rattle.tree_specs.specs.Rules.Sequence.{Work, ◌>>=◌, ◌>>◌, gives, pool, change, tells}

-- its number is the reply
abbrev pub numbered : Work ℕ → Work Reply
numbered work = do
  n ← work
  gives (reply.Number n)

-- a turn of a context is for the host's own caller alone, since a routine that runs may be in one
abbrev pub turned : Ask → Work ℕ → Obj → Work Reply
turned ask.Quiet turn c = do
  change (λ p. enter p c)
  numbered turn
turned q turn c = gives (reply.No refusal.Nested)

-- A plan carried out, with the reply to it. `free` frees an object, `unlink` takes an owner's interest in it away,
-- `children` frees those of an object, `reach` asks the outside, `turn` is a turn of the event loop, and `work` does an
-- errand of a request.
abbrev pub effect : (Obj → Work FreeReply) → (Owner → Obj → Work FreeReply) → (Obj → Work (Unit {0})) → (Ask → Work Reply) → (Obj → Work Reply) → (Errand → Obj → Work Reply) → Plan → Work Reply
effect free unlink children reach turn work (Does c notice r) = do
  change (λ p. changed_by c p)
  gives r
effect free unlink children reach turn work (Frees x) = do
  answer ← free x
  gives (freed_reply x answer)
effect free unlink children reach turn work (Unlinks o x) = do
  answer ← unlink o x
  gives (freed_reply x answer)
effect free unlink children reach turn work (Empties x) = do
  children x
  gives reply.Ok
effect free unlink children reach turn work (Asks q) = reach q
effect free unlink children reach turn work (Turns c) = turn c
effect free unlink children reach turn work (Works c errand x) = do
  change (λ p. changed_by c p)
  work errand x

-- an errand of a request, by what each of them is
abbrev pub work_by : (Obj → State → Work Reply) → (Obj → Errand → Work Reply) → (Obj → Work Reply) → (Obj → Work Reply) → Errand → Obj → Work Reply
work_by finish notify receive cancel (Finish s) x = finish x s
work_by finish notify receive cancel Notify x = notify x Notify
work_by finish notify receive cancel Receive x = receive x
work_by finish notify receive cancel Cancel x = cancel x

-- what has come is a request or a queue, whose errand is done, or it is an event, which starts
abbrev pub comes : Bool → Work Reply → Work ℕ → Work ℕ → Work ℕ
comes true errand close start = do
  answer ← errand
  close
comes false errand close start = start

-- a time has come: a request times out, and a timer starts
abbrev pub falls_due : Pool → Obj → ℕ → (Obj → State → Work Reply) → Work ℕ → (What → Obj → Occasion → Work ℕ) → Work ℕ
falls_due p x now finish close start = do
  change (λ q. disarm q x)
  comes (is_noted p.requests x) (finish x TimedOut) close (start ForTimer x (at_time now))

-- a request goes to a state, and with this the pool is changed
abbrev pub enters : Obj → State → (Pool → Pool) → Work (Unit {0})
enters x state f = do
  tells (Told (StateOf x (state_number state)))
  change f

-- an object is freed as a call frees it, and what comes of this isn't told
abbrev pub freed_quietly : (Obj → Work FreeReply) → (Owner → Obj → Work FreeReply) → Work Reply → Plan → Work Reply
freed_quietly free unlink rest (Frees x) = do
  answer ← free x
  rest
freed_quietly free unlink rest (Unlinks o x) = do
  answer ← unlink o x
  rest
freed_quietly free unlink rest plan = rest

-- a child of x that wasn't freed goes to its heir, where x still is its owner
abbrev pub hand_on : Obj → Obj → Option Owner → Work (Unit {0})
hand_on x c noted = do
  p ← pool
  if is_below (owner_of p.rows c) (Of x)
      then (do
        tells (Told (Moved c (heir p.rows x c noted)))
        change (λ q. place q (heir p.rows x c noted) c))
      else gives tt

abbrev pub hand_on_after : Obj → Obj → Option Owner → FreeReply → Work (Unit {0})
hand_on_after x c noted Ok = gives tt
hand_on_after x c noted Held = hand_on x c noted
hand_on_after x c noted Running = hand_on x c noted
hand_on_after x c noted (free_reply.Refused v) = hand_on x c noted

-- a reference is no more
abbrev pub drops : Obj → Obj → Work (Unit {0})
drops r target = do
  tells (Told (Unreferenced r target))
  change (λ q. remove q r)

-- an object is let go of: a descriptor that is to be closed with it is told as closed
abbrev pub lets_go : Obj → (Pool → Pool) → Work (Unit {0})
lets_go x f = do
  p ← pool
  elim (closes_with p.ring x) [
    | None ↦ change f
    | Some fd ↦ (do
      tells (Told (Closed fd))
      change f)
  ]

-- what is told before the reply to a call
abbrev pub notice_event : Notice → Event
notice_event (notice.Warned x) = Warned x
notice_event (notice.Closed fd) = Closed fd

-- The newest reference to an object is dropped: after one from inside the object this begins again, and after one from
-- outside it goes on as `outside` says. Where there is none, it is `unreferred`.
abbrev pub from_newest : Option Obj → Pool → Obj → Work FreeReply → (Obj → Work FreeReply) → Work FreeReply → Work FreeReply
from_newest None p x again outside unreferred = unreferred
from_newest (Some r) p x again outside unreferred = do
  drops r x
  if is_inside p.rows (Of r) (Of x) then again else outside r

-- An object with which nothing goes on is freed: a request is received first, the entries of a queue are freed first, an object
-- with a destructor is asked, and any other leaves its owner at once.
abbrev pub from_quiet : Row → Obj → Work FreeReply → Work FreeReply → Work FreeReply → Work FreeReply → Work FreeReply
from_quiet r x receive drain ask leave =
    if is_request r.kind
    then (do
      change (λ p. set_mark p x mark.Asked)
      receive)
    else if is_queue r.kind
    then (do
      change (λ p. set_mark p x mark.Asked)
      drain)
    else if nat_eq r.hook 0
    then leave
    else (do
      change (λ p. set_mark p x mark.Asked)
      ask)
