-- What each task of the service's own routines calls, and what comes after the reply.
use Rattle.std.specs.Prelude.{ℕ, ◌+◌, min, true, false, nat_eq, nat_lt, List, [], ◌∷◌, length, take, Option, Some, None, codes}
use Rattle.tree_specs.specs.declared.bounds.TheConstants.{TIME_LIMIT, OCTETS_LIMIT}
use Rattle.tree_specs.specs.declared.object.Obj.{Obj}
use Rattle.tree_specs.specs.declared.object.Owner.TheVariants.{Of}
use Rattle.tree_specs.specs.declared.call.Call.{Call}
use Rattle.tree_specs.specs.declared.call.Call.TheVariants as call
use Rattle.tree_specs.specs.declared.reply.Reply.{Reply}
use Rattle.tree_specs.specs.declared.reply.Reply.TheVariants as reply
use Rattle.tree_specs.specs.declared.reply.Refusal.{Refusal}
use Rattle.tree_specs.specs.Words.Objects.{numbered_owner, first_context}
use Rattle.tree_specs.specs.Words.Ranges.{is_return}
use Rattle.service_rules.specs.declared.answer.Answer.TheVariants as answer
use Rattle.service_rules.specs.declared.task.Accepting.{Accepting}
use Rattle.service_rules.specs.declared.task.Accepting.TheVariants as accepting
use Rattle.service_rules.specs.declared.task.Fulfilled.{Fulfilled}
use Rattle.service_rules.specs.declared.task.Fulfilled.TheVariants as fulfilled
use Rattle.service_rules.specs.declared.task.Fulfilling.{Fulfilling}
use Rattle.service_rules.specs.declared.task.Fulfilling.TheVariants as fulfilling
use Rattle.service_rules.specs.declared.task.Notice.{Notice}
use Rattle.service_rules.specs.declared.task.Notifying.{Notifying}
use Rattle.service_rules.specs.declared.task.Notifying.TheVariants as notifying
use Rattle.service_rules.specs.declared.task.Serving.{Serving}
use Rattle.service_rules.specs.declared.task.Serving.TheVariants as serving
use Rattle.service_rules.specs.declared.task.Task.{Task}
use Rattle.service_rules.specs.declared.task.Task.TheVariants as task
use Rattle.service_rules.specs.declared.task.Triggering.{Triggering}
use Rattle.service_rules.specs.declared.task.Triggering.TheVariants as triggering
use Rattle.service_rules.specs.Answers.{replied, replied_owner}
use Rattle.service_rules.specs.Knowledge.{Connection, service}
use Rattle.service_rules.specs.declared.bounds.TheConstants.{READ_LIMIT, UNSENT_LIMIT}

abbrev pub object : ℕ → Obj
object n = record { 0 = n }

-- so many microseconds after a time, and not after the latest one
abbrev pub time_after : ℕ → ℕ → ℕ
time_after now delay = min (now + delay) TIME_LIMIT

-- ---- somebody connects

abbrev pub accepting_call : Accepting → Call
accepting_call accepting.Accept = call.Accept 0
accepting_call (accepting.Session fd) = call.New (Of service) 0 (codes "session")
accepting_call (accepting.Event fd s) = call.Fd (numbered_owner s.0) fd 1 2 s.0 first_context
accepting_call (accepting.Autoclose fd s e) = call.Autoclose e
accepting_call (accepting.Queue fd s e) = call.Queue (numbered_owner s.0) (codes "jobs")
accepting_call (accepting.Abandon fd s) = call.Free s
accepting_call (accepting.Close fd) = call.Close fd
accepting_call (accepting.Free s) = call.Free s

abbrev pub accepts : Accepting → Task
accepts at = task.Accept at

-- a descriptor is below 2^32
abbrev pub session_for : ℕ → Task
session_for fd = elim (is_return fd) [ true ↦ accepts (accepting.Session fd) | false ↦ task.Return ]

abbrev pub after_accepting : Accepting → Reply → Task
after_accepting accepting.Accept (reply.Number fd) = session_for fd
after_accepting (accepting.Session fd) (reply.Number n) = accepts (accepting.Event fd (object n))
after_accepting (accepting.Session fd) r = accepts (accepting.Close fd)
after_accepting (accepting.Event fd s) (reply.Number n) = accepts (accepting.Autoclose fd s (object n))
after_accepting (accepting.Event fd s) r = accepts (accepting.Abandon fd s)
after_accepting (accepting.Autoclose fd s e) r = accepts (accepting.Queue fd s e)
after_accepting (accepting.Queue fd s e) (reply.No why) = accepts (accepting.Free s)
after_accepting (accepting.Abandon fd s) r = accepts (accepting.Close fd)
after_accepting at r = task.Return

-- ---- a line is done

-- the call of a sleep or job, for this session and its queue; that of another line stands in the line
abbrev pub fulfilling_call : Obj → Obj → Fulfilling → Option Call
fulfilling_call s queue fulfilling.Call = None
fulfilling_call s queue fulfilling.Parent = None
fulfilling_call s queue (fulfilling.Sleep delay) = Some (call.Req (numbered_owner s.0) 0 (codes "sleep"))
fulfilling_call s queue (fulfilling.Now request delay) = Some call.Now
fulfilling_call s queue (fulfilling.EndTime request now delay) = Some (call.Endtime request (time_after now delay) first_context)
fulfilling_call s queue (fulfilling.Job delay) = Some (call.Req (numbered_owner s.0) 0 (codes "job"))
fulfilling_call s queue (fulfilling.Enqueue request delay) = Some (call.Enqueue queue request 4 delay first_context)
fulfilling_call s queue (fulfilling.Callback request) = Some (call.Callback request 3 s.0)
fulfilling_call s queue (fulfilling.Undo request why) = Some (call.Free request)

-- where the call was refused, what was made is freed, and the line is answered then
abbrev pub refused_at : Fulfilling → Refusal → Fulfilled
refused_at (fulfilling.Now request delay) why = fulfilled.Next (fulfilling.Undo request why)
refused_at (fulfilling.EndTime request now delay) why = fulfilled.Next (fulfilling.Undo request why)
refused_at (fulfilling.Enqueue request delay) why = fulfilled.Next (fulfilling.Undo request why)
refused_at (fulfilling.Callback request) why = fulfilled.Next (fulfilling.Undo request why)
refused_at (fulfilling.Undo request first) why = fulfilled.Answered (answer.No first)
refused_at at why = fulfilled.Answered (answer.No why)

-- where the call is done, with the number that it replied
abbrev pub done_at : Fulfilling → ℕ → Fulfilled
done_at (fulfilling.Sleep delay) n = fulfilled.Next (fulfilling.Now (object n) delay)
done_at (fulfilling.Now request delay) n = fulfilled.Next (fulfilling.EndTime request n delay)
done_at (fulfilling.EndTime request now delay) n = fulfilled.Next (fulfilling.Callback request)
done_at (fulfilling.Job delay) n = fulfilled.Next (fulfilling.Enqueue (object n) delay)
done_at (fulfilling.Enqueue request delay) n = fulfilled.Next (fulfilling.Callback request)
done_at (fulfilling.Callback request) n = fulfilled.Kept request
done_at (fulfilling.Undo request why) n = fulfilled.Answered (answer.No why)
done_at at n = fulfilled.Answered (answer.Number n)

abbrev pub worked_at : Fulfilling → Reply → Fulfilled
worked_at at (reply.No why) = refused_at at why
worked_at at (reply.Number n) = done_at at n
worked_at at r = done_at at 0

abbrev pub after_fulfilling : Fulfilling → Reply → Obj → Fulfilled
after_fulfilling fulfilling.Call r s = fulfilled.Answered (replied r)
after_fulfilling fulfilling.Parent r s = fulfilled.Answered (replied_owner r s)
after_fulfilling at r s = worked_at at r

-- ---- a connection is read from and written to

-- a connection with so many unsent bytes is not read from
abbrev pub unsent_limit : ℕ
unsent_limit = UNSENT_LIMIT

abbrev pub reads_on : List ℕ → ℕ
reads_on unsent = elim (nat_lt (length unsent) unsent_limit) [ true ↦ 1 | false ↦ 0 ]

abbrev pub writes_on : List ℕ → ℕ
writes_on [] = 0
writes_on (b ∷ bs) = 2

-- what the event of a connection is to wait for
abbrev pub wanted_flags : List ℕ → ℕ
wanted_flags unsent = reads_on unsent + writes_on unsent

-- and sets, where this isn't what was set last
abbrev pub flags_to_set : Connection → Option ℕ
flags_to_set c = elim (nat_eq (wanted_flags c.unsent) c.flags) [ true ↦ None | false ↦ Some (wanted_flags c.unsent) ]

abbrev pub flagging : Option ℕ → Option Serving
flagging None = None
flagging (Some flags) = Some serving.Flags

-- what comes after writing, if anything does
abbrev pub after_writing : Connection → Option Serving
after_writing c = flagging (flags_to_set c)

abbrev pub unless_empty : List ℕ → Option Serving → Option Serving
unless_empty [] others = others
unless_empty (b ∷ bs) others = Some serving.Write

-- and after reading
abbrev pub after_reading : Connection → Option Serving
after_reading c = unless_empty c.unsent (after_writing c)

-- the most bytes that one read takes
abbrev pub read_limit : ℕ
read_limit = READ_LIMIT

-- as many bytes as one write takes
abbrev pub write_call : ℕ → List ℕ → Option Call
write_call fd [] = None
write_call fd (b ∷ bs) = Some (call.Write fd (take OCTETS_LIMIT (b ∷ bs)))

abbrev pub serving_call : Obj → Connection → Serving → Option Call
serving_call s c serving.Read = Some (call.Read c.descriptor read_limit)
serving_call s c serving.Lines = None
serving_call s c (serving.Order tag at) = fulfilling_call s c.queue at
serving_call s c serving.Write = write_call c.descriptor c.unsent
serving_call s c serving.Flags = Some (call.Flags c.event (wanted_flags c.unsent))
serving_call s c serving.Leave = Some (call.Free s)

-- ---- a request is over

abbrev pub notifying_call : Notice → Connection → Notifying → Call
notifying_call n c notifying.Look = call.Iserror n.request
notifying_call n c (notifying.Receive a) = call.Received n.request
notifying_call n c (notifying.Free a) = call.Free n.request
notifying_call n c notifying.Flags = call.Flags c.event (wanted_flags c.unsent)

-- ---- the turn of a job has come

abbrev pub triggering_call : Triggering → Call
triggering_call (triggering.Now request delay) = call.Now
triggering_call (triggering.EndTime request now delay) = call.Endtime request (time_after now delay) first_context
triggering_call (triggering.Oom request) = call.Oom request

abbrev pub after_triggering : Triggering → Reply → Option Triggering
after_triggering (triggering.Now request delay) (reply.Number now) = Some (triggering.EndTime request now delay)
after_triggering (triggering.EndTime request now delay) (reply.No why) = Some (triggering.Oom request)
after_triggering at r = None
