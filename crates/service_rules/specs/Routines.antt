-- What the service's own routines do, act by act.
use Rattle.std.specs.Prelude.{ℕ, zero, suc, ◌++◌, Bool, true, false, nat_eq, bit_and, List, [], ◌∷◌, length, drop, Option, Some, None}
use Rattle.tree_specs.specs.declared.object.Obj.{Obj}
use Rattle.tree_specs.specs.declared.call.Call.{Call}
use Rattle.tree_specs.specs.declared.call.Call.TheVariants as call
use Rattle.tree_specs.specs.declared.reply.Reply.{Reply}
use Rattle.tree_specs.specs.declared.reply.Reply.TheVariants as reply
use Rattle.tree_specs.specs.declared.reply.Refusal.TheVariants.{NoSuch}
use Rattle.tree_specs.specs.declared.moment.Moment.{Moment}
use Rattle.tree_specs.specs.declared.moment.What.{What}
use Rattle.tree_specs.specs.declared.moment.What.TheVariants.{Descriptor, Callback, Trigger}
use Rattle.tree_specs.specs.Words.Objects.{same}
use Rattle.tree_specs.specs.Tree.Pool.{Pool}
use Rattle.service_rules.specs.declared.answer.Answer.TheVariants.{No}
use Rattle.service_rules.specs.declared.order.Order.{Order}
use Rattle.service_rules.specs.declared.order.Order.TheVariants as order
use Rattle.service_rules.specs.declared.task.Accepting.{Accepting}
use Rattle.service_rules.specs.declared.task.Accepting.TheVariants as accepting
use Rattle.service_rules.specs.declared.task.Fulfilled.{Fulfilled}
use Rattle.service_rules.specs.declared.task.Fulfilled.TheVariants as fulfilled
use Rattle.service_rules.specs.declared.task.Fulfilling.{Fulfilling}
use Rattle.service_rules.specs.declared.task.Fulfilling.TheVariants as fulfilling
use Rattle.service_rules.specs.declared.task.Kept.{Kept}
use Rattle.service_rules.specs.declared.task.Notice.{Notice}
use Rattle.service_rules.specs.declared.task.Notifying.{Notifying}
use Rattle.service_rules.specs.declared.task.Notifying.TheVariants as notifying
use Rattle.service_rules.specs.declared.task.Run.{Run}
use Rattle.service_rules.specs.declared.task.Run.TheVariants.{Own}
use Rattle.service_rules.specs.declared.task.Serving.{Serving}
use Rattle.service_rules.specs.declared.task.Serving.TheVariants as serving
use Rattle.service_rules.specs.declared.task.Task.{Task}
use Rattle.service_rules.specs.declared.task.Task.TheVariants.{Accept, Serve, Notify, Trigger as Triggers, Return}
use Rattle.service_rules.specs.declared.task.Triggering.{Triggering}
use Rattle.service_rules.specs.declared.task.Triggering.TheVariants as triggering
use Rattle.service_rules.specs.Lines.{Front, front_of, after_newline, line_of}
use Rattle.service_rules.specs.Lines.Front.{Whole, Long, Part}
use Rattle.service_rules.specs.Knowledge.{Connection, Knowledge, listener, new_connection, connection_of, with_connection, with_unsent, saying, kept_of, keeping, without_run}
use Rattle.service_rules.specs.Naming.{stranger_in, within}
use Rattle.service_rules.specs.Answers.{form_line, long_line, answer_line, ended}
use Rattle.service_rules.specs.Tasks.{object, accepting_call, after_accepting, fulfilling_call, after_fulfilling, flags_to_set, wanted_flags, after_writing, after_reading, serving_call, notifying_call, triggering_call, after_triggering}

-- ---- the lines that came

-- a line is answered at once, or wants a call
pub data Verdict : Type 0 where
  Answers : List ℕ → Verdict
  Wants : ℕ → Order → Verdict

abbrev pub unless_stranger : ℕ → Call → Option Obj → Verdict
unless_stranger tag c None = Wants tag (order.Call c)
unless_stranger tag c (Some x) = Answers (answer_line tag (No (NoSuch x.0)))

-- a line in no form is answered so, and so is one that names what isn't the session's
abbrev pub judged : Pool → Obj → Option (ℕ × Order) → Verdict
judged p s None = Answers form_line
judged p s (Some (tag, order.Call c)) = unless_stranger tag c (stranger_in p s c)
judged p s (Some (tag, o)) = Wants tag o

unfoldable pub verdict_of : Pool → Obj → List ℕ → Verdict
verdict_of p s text = judged p s (line_of text)

-- what is made of the bytes that came, up to the first line that wants a call
pub record Progress : Type 0 where
  -- the answers to the lines before it
  pub said : List ℕ
  -- the bytes after it
  pub left : List ℕ
  pub dropping : Bool
  pub wanted : Option (ℕ × Order)

abbrev pub stops : Bool → List ℕ → Option (ℕ × Order) → Progress
stops dropping left wanted = record { said = []; left = left; dropping = dropping; wanted = wanted }

abbrev pub after_line : List ℕ → Progress → Progress
after_line line w = record w { said = line ++ w.said }

-- after a line that is answered at once it goes on with the bytes behind it
abbrev pub after_verdict : (Bool → List ℕ → Progress) → List ℕ → Verdict → Progress
after_verdict go rest (Answers line) = after_line line (go false rest)
after_verdict go rest (Wants tag o) = stops false rest (Some (tag, o))

abbrev pub after_front : (Bool → List ℕ → Progress) → Pool → Obj → List ℕ → Front → Progress
after_front go p s bytes (Whole text rest) = after_verdict go rest (verdict_of p s text)
after_front go p s bytes (Long rest) = after_line long_line (go true rest)
after_front go p s bytes Part = stops false bytes None

-- what is left of a line that is too long is dropped, with its LF
abbrev pub after_drop : (Bool → List ℕ → Progress) → Option (List ℕ) → Progress
after_drop go None = stops true [] None
after_drop go (Some rest) = go false rest

-- through the bytes, line by line, of which there are at most n
abbrev pub through : ℕ → Pool → Obj → Bool → List ℕ → Progress
through zero p s dropping bytes = stops dropping bytes None
through (suc n) p s true bytes = after_drop (through n p s) (after_newline bytes)
through (suc n) p s false bytes = after_front (through n p s) p s bytes (front_of bytes)

unfoldable pub progress_of : Pool → Obj → Connection → Progress
progress_of p s c = through (suc (length c.came)) p s c.dropping c.came

abbrev pub progressed : Progress → Connection → Connection
progressed w c = record c { came = w.left; dropping = w.dropping; unsent = c.unsent ++ w.said }

-- ---- what a task does

-- what a routine does next
pub data Next : Type 0 where
  -- this call, and then its task waits for the reply
  Does : Call → Task → Knowledge → Next
  -- it returns 0
  Returns : Knowledge → Next

-- where there is nothing to call it returns
abbrev pub doing : Knowledge → Task → Option Call → Next
doing d t None = Returns d
doing d t (Some c) = Does c t d

abbrev pub serving_on : Knowledge → Obj → Connection → Option Serving → Next
serving_on d s c None = Returns d
serving_on d s c (Some at) = doing d (Serve s at) (serving_call s c at)

-- how a line's call goes on
abbrev pub fulfilling_for : Order → Fulfilling
fulfilling_for (order.Call (call.Parent x)) = fulfilling.Parent
fulfilling_for (order.Call c) = fulfilling.Call
fulfilling_for (order.Sleep delay) = fulfilling.Sleep delay
fulfilling_for (order.Job delay) = fulfilling.Job delay

abbrev pub order_call : Obj → Connection → Order → Option Call
order_call s c (order.Call call) = Some (within s call)
order_call s c o = fulfilling_call s c.queue (fulfilling_for o)

-- the call that a line wants, and where none does, what comes after reading
abbrev pub goes_on : Knowledge → Obj → Connection → Option (ℕ × Order) → Next
goes_on d s c None = serving_on d s c (after_reading c)
goes_on d s c (Some (tag, o)) = doing d (Serve s (serving.Order tag (fulfilling_for o))) (order_call s c o)

abbrev pub gone_through : Knowledge → Obj → Connection → Option (ℕ × Order) → Next
gone_through d s c wanted = goes_on (with_connection s c d) s c wanted

abbrev pub serves : Knowledge → Pool → Obj → Serving → Option Connection → Next
serves d p s at None = Returns d
serves d p s serving.Lines (Some c) = gone_through d s (progressed (progress_of p s c) c) (progress_of p s c).wanted
serves d p s at (Some c) = doing d (Serve s at) (serving_call s c at)

abbrev pub notifies : Knowledge → Notice → Notifying → Option Connection → Next
notifies d n at None = Returns d
notifies d n at (Some c) = Does (notifying_call n c at) (Notify n at) d

abbrev pub does : Knowledge → Pool → Task → Next
does d p (Accept at) = Does (accepting_call at) (Accept at) d
does d p (Serve s at) = serves d p s at (connection_of d s)
does d p (Notify n at) = notifies d n at (connection_of d n.session)
does d p (Triggers s at) = Does (triggering_call at) (Triggers s at) d
does d p Return = Returns d

-- ---- what comes after a reply. Where the session is no more, its connection isn't known any more, and the routine returns.

-- what is known, and what is done next
pub record Heard : Type 0 where
  pub knowledge : Knowledge
  pub task : Task

abbrev pub then_does : Knowledge → Task → Heard
then_does d t = record { knowledge = d; task = t }

-- with its queue a connection is whole
abbrev pub accepted : Knowledge → Accepting → Reply → Knowledge
accepted d (accepting.Queue fd s e) (reply.Number n) = with_connection s (new_connection fd e (object n)) d
accepted d at r = d

abbrev pub more_came : List ℕ → Connection → Connection
more_came bytes c = record c { came = c.came ++ bytes }

abbrev pub sent : ℕ → Connection → Connection
sent n c = with_unsent (drop n c.unsent) c

-- what is wanted is what was set last
abbrev pub flagged : Connection → Connection
flagged c = record c { flags = wanted_flags c.unsent }

abbrev pub served : Obj → Option Serving → Task
served s None = Return
served s (Some at) = Serve s at

-- after writing
abbrev pub written : Knowledge → Obj → Connection → Heard
written d s c = then_does (with_connection s c d) (served s (after_writing c))

abbrev pub ordered : Knowledge → Obj → Connection → ℕ → Fulfilled → Heard
ordered d s c tag (fulfilled.Next at) = then_does d (Serve s (serving.Order tag at))
ordered d s c tag (fulfilled.Answered a) = then_does (with_connection s (saying (answer_line tag a) c) d) (Serve s serving.Lines)
ordered d s c tag (fulfilled.Kept request) = then_does (keeping request (record { session = s; tag = tag }) d) (Serve s serving.Lines)

abbrev pub serving_hears : Knowledge → Obj → Serving → Reply → Option Connection → Heard
serving_hears d s at r None = then_does d Return
serving_hears d s serving.Read (reply.Bytes bytes) (Some c) = then_does (with_connection s (more_came bytes c) d) (Serve s serving.Lines)
serving_hears d s serving.Read reply.End (Some c) = then_does d (Serve s serving.Leave)
serving_hears d s serving.Read reply.Fault (Some c) = then_does d (Serve s serving.Leave)
serving_hears d s serving.Read r (Some c) = then_does d (served s (after_reading c))
serving_hears d s (serving.Order tag at) r (Some c) = ordered d s c tag (after_fulfilling at r s)
serving_hears d s serving.Write (reply.Number n) (Some c) = written d s (sent n c)
serving_hears d s serving.Write reply.Fault (Some c) = then_does d (Serve s serving.Leave)
serving_hears d s serving.Write r (Some c) = then_does d (served s (after_writing c))
serving_hears d s serving.Flags r (Some c) = then_does (with_connection s (flagged c) d) Return
serving_hears d s at r (Some c) = then_does d Return

abbrev pub notified : Notice → Option ℕ → Task
notified n None = Return
notified n (Some flags) = Notify n notifying.Flags

-- after the answer
abbrev pub answered : Knowledge → Notice → Connection → Heard
answered d n c = then_does (with_connection n.session c d) (notified n (flags_to_set c))

abbrev pub notifying_hears : Knowledge → Notice → Notifying → Reply → Option Connection → Heard
notifying_hears d n at r None = then_does d Return
notifying_hears d n notifying.Look r (Some c) = then_does d (Notify n (notifying.Receive (ended r)))
notifying_hears d n (notifying.Receive a) r (Some c) = then_does d (Notify n (notifying.Free a))
notifying_hears d n (notifying.Free a) r (Some c) = answered d n (saying (answer_line n.tag a) c)
notifying_hears d n notifying.Flags r (Some c) = then_does (with_connection n.session (flagged c) d) Return

abbrev pub triggered : Obj → Option Triggering → Task
triggered s None = Return
triggered s (Some at) = Triggers s at

abbrev pub triggering_hears : Knowledge → Obj → Triggering → Reply → Option Connection → Heard
triggering_hears d s at r None = then_does d Return
triggering_hears d s at r (Some c) = then_does d (triggered s (after_triggering at r))

-- a task that waits hears the reply to its call
abbrev pub hears : Knowledge → Task → Reply → Heard
hears d (Accept at) r = then_does (accepted d at r) (after_accepting at r)
hears d (Serve s at) r = serving_hears d s at r (connection_of d s)
hears d (Notify n at) r = notifying_hears d n at r (connection_of d n.session)
hears d (Triggers s at) r = triggering_hears d s at r (connection_of d s)
hears d Return r = then_does d Return

-- ---- where a routine begins. One that isn't known, or runs for something else, returns at once.

abbrev pub if_listener : Bool → Task
if_listener true = Accept accepting.Accept
if_listener false = Return

abbrev pub if_its_event : Bool → Obj → Option Serving → Task
if_its_event true s at = served s at
if_its_event false s at = Return

-- its event is ready for these flags
abbrev pub ready : ℕ → Connection → Option Serving
ready flags c = elim (nat_eq (bit_and flags 1) 0) [ true ↦ after_reading c | false ↦ Some serving.Read ]

abbrev pub begins_serving : Moment → Option Connection → Task
begins_serving m None = Return
begins_serving m (Some c) = if_its_event (same c.event m.object) (object m.user) (ready m.flags c)

abbrev pub begins_notice : Obj → Kept → Option Connection → Task
begins_notice x k None = Return
begins_notice x k (Some c) = Notify (record { request = x; session = k.session; tag = k.tag }) notifying.Look

abbrev pub begins_notifying : Knowledge → Obj → Option Kept → Task
begins_notifying d x None = Return
begins_notifying d x (Some k) = begins_notice x k (connection_of d k.session)

abbrev pub begins_trigger : Moment → Option Kept → Task
begins_trigger m None = Return
begins_trigger m (Some k) = Triggers k.session (triggering.Now m.object m.user)

-- the routine of the listener
abbrev pub begins_first : Moment → What → Task
begins_first m Descriptor = if_listener (same m.object listener)
begins_first m what = Return

-- that of a connection's event
abbrev pub begins_second : Knowledge → Moment → What → Task
begins_second d m Descriptor = begins_serving m (connection_of d (object m.user))
begins_second d m what = Return

-- that of a request's callback
abbrev pub begins_third : Knowledge → Moment → What → Task
begins_third d m Callback = begins_notifying d m.object (kept_of d m.object)
begins_third d m what = Return

-- that of a job's trigger
abbrev pub begins_fourth : Knowledge → Moment → What → Task
begins_fourth d m Trigger = begins_trigger m (kept_of d m.object)
begins_fourth d m what = Return

abbrev pub begins_with : ℕ → Knowledge → Moment → Task
begins_with zero d m = Return
begins_with (suc zero) d m = begins_first m m.what
begins_with (suc (suc zero)) d m = begins_second d m m.what
begins_with (suc (suc (suc zero))) d m = begins_third d m m.what
begins_with (suc (suc (suc (suc zero)))) d m = begins_fourth d m m.what
begins_with (suc (suc (suc (suc (suc n))))) d m = Return

abbrev pub begins : Knowledge → Moment → Task
begins d m = begins_with m.routine d m

-- ---- a routine at a moment

-- the innermost run goes on with the reply to its call
abbrev pub resumes : Knowledge → Reply → List Run → Heard
resumes d r (Own t ∷ runs) = hears (without_run d) t r
resumes d r runs = then_does d Return

-- a routine begins where it has called nothing yet
abbrev pub comes_to : Knowledge → Moment → Option Reply → Heard
comes_to d m None = then_does d (begins d m)
comes_to d m (Some r) = resumes d r d.runs

abbrev pub does_next : Pool → Heard → Next
does_next p h = does h.knowledge p h.task

abbrev pub next_act : Knowledge → Pool → Moment → Next
next_act d p m = does_next p (comes_to d m m.last)
