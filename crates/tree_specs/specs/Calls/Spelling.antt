-- How each call is spelled in each version of the schedules: its verb, and its fields in order. One row writes it, and one
-- reads it.
use Rattle.std.specs.Prelude.{ℕ, List, [], ◌∷◌, ◌++◌, codes}
use Rattle.tree_specs.specs.declared.object.Obj.{Obj}
use Rattle.tree_specs.specs.declared.object.Owner.{Owner}
use Rattle.tree_specs.specs.declared.call.Call.{Call}
use Rattle.tree_specs.specs.declared.call.Call.TheVariants.{New, Free, Freekids, Steal, Move, Reparent, Reference, Unlink, Hook, Unhook, Rename, Resize, Limit, Parent, Total, Count, Sum, Report, Context, Immediate, Schedule, Unschedule, Timer, Fd, Flags, Getflags, Autoclose, Close, Accept, Read, Write, Req, Callback, Defer, Cleanup, Setcancel, Cancel, Post, Done, Error, Oom, Iserror, Progress, Endtime, Received, Queue, Enqueue, Start, Stop, Length as QueueLength, Running, Pending, Now, Turn}
use Rattle.tree_specs.specs.declared.schedule.Version.{Version}
use Rattle.tree_specs.specs.declared.schedule.Version.TheVariants as versions

-- the range of a number in decimal
pub data Numeral : Type 0 where
  -- below 2^64
  Number : Numeral
  -- below 2^32
  Number32 : Numeral
  -- the same, and not 0
  Positive32 : Numeral
  -- a time in microseconds
  Time : Numeral
  -- 1 for reading, 2 for writing, 3 for both, 0 for neither
  FdFlags : Numeral
  -- a number of bytes that one read or write passes on
  Length : Numeral

pub data Field : Type 0 where
  AnOwner : Owner → Field
  AnObject : Obj → Field
  ANumeral : Numeral → ℕ → Field
  AName : List ℕ → Field
  -- in hexadecimal
  SomeBytes : List ℕ → Field
  -- a context; 0 is the first one
  TheContext : Obj → Field

abbrev pub a_number : ℕ → Field
a_number n = ANumeral Number n

abbrev pub a_routine : ℕ → Field
a_routine r = ANumeral Positive32 r

-- 0 is none
abbrev pub a_routine_or_none : ℕ → Field
a_routine_or_none r = ANumeral Number32 r

abbrev pub a_time : ℕ → Field
a_time t = ANumeral Time t

abbrev pub a_descriptor : ℕ → Field
a_descriptor fd = ANumeral Number32 fd

abbrev pub some_flags : ℕ → Field
some_flags flags = ANumeral FdFlags flags

abbrev pub a_length : ℕ → Field
a_length len = ANumeral Length len

pub record Spelling : Type 0 where
  pub verb : List ℕ
  pub fields : List Field

infixr 8 ◌with◌
abbrev pub ◌with◌ : List ℕ → List Field → Spelling
verb with fields = record { verb = verb; fields = fields }

-- where a call says its context, it says it last; in version 1 none does, and it is the first one
abbrev pub in_context : Version → Obj → List Field
in_context versions.One c = []
in_context versions.Two c = TheContext c ∷ []

abbrev pub spelling : Version → Call → Spelling
spelling v (New owner size name) = codes "new" with (AnOwner owner ∷ a_number size ∷ AName name ∷ [])
spelling v (Free x) = codes "free" with (AnObject x ∷ [])
spelling v (Freekids x) = codes "freekids" with (AnObject x ∷ [])
spelling v (Steal owner x) = codes "steal" with (AnOwner owner ∷ AnObject x ∷ [])
spelling v (Move owner x) = codes "move" with (AnOwner owner ∷ AnObject x ∷ [])
spelling v (Reparent from to x) = codes "reparent" with (AnOwner from ∷ AnOwner to ∷ AnObject x ∷ [])
spelling v (Reference owner x) = codes "reference" with (AnOwner owner ∷ AnObject x ∷ [])
spelling v (Unlink owner x) = codes "unlink" with (AnOwner owner ∷ AnObject x ∷ [])
spelling v (Hook x routine) = codes "hook" with (AnObject x ∷ a_routine routine ∷ [])
spelling v (Unhook x) = codes "unhook" with (AnObject x ∷ [])
spelling v (Rename x name) = codes "rename" with (AnObject x ∷ AName name ∷ [])
spelling v (Resize x size) = codes "resize" with (AnObject x ∷ a_number size ∷ [])
spelling v (Limit x max) = codes "limit" with (AnObject x ∷ a_number max ∷ [])
spelling v (Parent x) = codes "parent" with (AnObject x ∷ [])
spelling v (Total owner) = codes "total" with (AnOwner owner ∷ [])
spelling v (Count owner) = codes "count" with (AnOwner owner ∷ [])
spelling v (Sum owner) = codes "sum" with (AnOwner owner ∷ [])
spelling v (Report owner) = codes "report" with (AnOwner owner ∷ [])
spelling v (Context owner) = codes "context" with (AnOwner owner ∷ [])
spelling v (Immediate owner) = codes "immediate" with (AnOwner owner ∷ [])
spelling v (Schedule x routine user c) = codes "schedule" with (AnObject x ∷ a_routine_or_none routine ∷ a_number user ∷ in_context v c)
spelling v (Unschedule x) = codes "unschedule" with (AnObject x ∷ [])
spelling v (Timer owner time routine user c) = codes "timer" with (AnOwner owner ∷ a_time time ∷ a_routine routine ∷ a_number user ∷ in_context v c)
spelling v (Fd owner fd flags routine user c) = codes "fd" with (AnOwner owner ∷ a_descriptor fd ∷ some_flags flags ∷ a_routine routine ∷ a_number user ∷ in_context v c)
spelling v (Flags x flags) = codes "flags" with (AnObject x ∷ some_flags flags ∷ [])
spelling v (Getflags x) = codes "getflags" with (AnObject x ∷ [])
spelling v (Autoclose x) = codes "autoclose" with (AnObject x ∷ [])
spelling v (Close fd) = codes "close" with (a_descriptor fd ∷ [])
spelling v (Accept fd) = codes "accept" with (a_descriptor fd ∷ [])
spelling v (Read fd len) = codes "read" with (a_descriptor fd ∷ a_length len ∷ [])
spelling v (Write fd bytes) = codes "write" with (a_descriptor fd ∷ SomeBytes bytes ∷ [])
spelling v (Req owner size name) = codes "req" with (AnOwner owner ∷ a_number size ∷ AName name ∷ [])
spelling v (Callback x routine user) = codes "callback" with (AnObject x ∷ a_routine_or_none routine ∷ a_number user ∷ [])
spelling v (Defer x c) = codes "defer" with (AnObject x ∷ in_context v c)
spelling v (Cleanup x routine) = codes "cleanup" with (AnObject x ∷ a_routine_or_none routine ∷ [])
spelling v (Setcancel x routine) = codes "setcancel" with (AnObject x ∷ a_routine_or_none routine ∷ [])
spelling v (Cancel x) = codes "cancel" with (AnObject x ∷ [])
spelling v (Post x c) = codes "post" with (AnObject x ∷ in_context v c)
spelling v (Done x) = codes "done" with (AnObject x ∷ [])
spelling v (Error x error) = codes "error" with (AnObject x ∷ a_number error ∷ [])
spelling v (Oom x) = codes "oom" with (AnObject x ∷ [])
spelling v (Iserror x) = codes "iserror" with (AnObject x ∷ [])
spelling v (Progress x) = codes "progress" with (AnObject x ∷ [])
spelling v (Endtime x time c) = codes "endtime" with (AnObject x ∷ a_time time ∷ in_context v c)
spelling v (Received x) = codes "received" with (AnObject x ∷ [])
spelling v (Queue owner name) = codes "queue" with (AnOwner owner ∷ AName name ∷ [])
spelling v (Enqueue queue x routine user c) = codes "enqueue" with (AnObject queue ∷ AnObject x ∷ a_routine routine ∷ a_number user ∷ in_context v c)
spelling v (Start queue) = codes "start" with (AnObject queue ∷ [])
spelling v (Stop queue) = codes "stop" with (AnObject queue ∷ [])
spelling v (QueueLength queue) = codes "length" with (AnObject queue ∷ [])
spelling v (Running queue) = codes "running" with (AnObject queue ∷ [])
spelling v (Pending c) = codes "pending" with in_context v c
spelling v Now = codes "now" with []
spelling v (Turn c) = codes "turn" with in_context v c

-- ---- reading

-- the fields that are still to come, and the call that they make
pub data Reading : Type 0 where
  NoMore : Call → Reading
  TakesOwner : (Owner → Reading) → Reading
  TakesObject : (Obj → Reading) → Reading
  TakesNumeral : Numeral → (ℕ → Reading) → Reading
  -- a name comes last, and so do bytes, and so does a context where one is said
  EndsInName : (List ℕ → Call) → Reading
  EndsInBytes : (List ℕ → Call) → Reading
  EndsInContext : (Obj → Call) → Reading

abbrev pub takes_number : (ℕ → Reading) → Reading
takes_number next = TakesNumeral Number next

abbrev pub of_object : (Obj → Call) → Reading
of_object call = TakesObject (λ x. NoMore (call x))

abbrev pub object_in_context : (Obj → Obj → Call) → Reading
object_in_context call = TakesObject (λ x. EndsInContext (call x))

abbrev pub of_owner : (Owner → Call) → Reading
of_owner call = TakesOwner (λ owner. NoMore (call owner))

abbrev pub owner_and_object : (Owner → Obj → Call) → Reading
owner_and_object call = TakesOwner (λ owner. of_object (call owner))

abbrev pub of_descriptor : (ℕ → Call) → Reading
of_descriptor call = TakesNumeral Number32 (λ fd. NoMore (call fd))

abbrev pub object_and_number : (Obj → ℕ → Call) → Reading
object_and_number call = TakesObject (λ x. takes_number (λ n. NoMore (call x n)))

abbrev pub object_and_routine : (Obj → ℕ → Call) → Reading
object_and_routine call = TakesObject (λ x. TakesNumeral Number32 (λ routine. NoMore (call x routine)))

pub record Form : Type 0 where
  pub verb : List ℕ
  pub reading : Reading

infixr 8 ◌reads◌
abbrev pub ◌reads◌ : List ℕ → Reading → Form
verb reads reading = record { verb = verb; reading = reading }

-- calls on the tree
abbrev pub tree_forms : List Form
tree_forms =
    (codes "new" reads TakesOwner (λ owner. takes_number (λ size. EndsInName (λ name. New owner size name))))
    ∷ (codes "free" reads of_object Free)
    ∷ (codes "freekids" reads of_object Freekids)
    ∷ (codes "steal" reads owner_and_object Steal)
    ∷ (codes "move" reads owner_and_object Move)
    ∷ (codes "reparent" reads TakesOwner (λ from. owner_and_object (λ to x. Reparent from to x)))
    ∷ (codes "reference" reads owner_and_object Reference)
    ∷ (codes "unlink" reads owner_and_object Unlink)
    ∷ (codes "hook" reads TakesObject (λ x. TakesNumeral Positive32 (λ routine. NoMore (Hook x routine))))
    ∷ (codes "unhook" reads of_object Unhook)
    ∷ (codes "rename" reads TakesObject (λ x. EndsInName (λ name. Rename x name)))
    ∷ (codes "resize" reads object_and_number Resize)
    ∷ (codes "limit" reads object_and_number Limit)
    ∷ (codes "parent" reads of_object Parent)
    ∷ (codes "total" reads of_owner Total)
    ∷ (codes "count" reads of_owner Count)
    ∷ (codes "sum" reads of_owner Sum)
    ∷ (codes "report" reads of_owner Report)
    ∷ []

-- calls on events
abbrev pub event_forms : List Form
event_forms =
    (codes "immediate" reads of_owner Immediate)
    ∷ (codes "schedule" reads TakesObject (λ x. TakesNumeral Number32 (λ routine. takes_number (λ user. EndsInContext (Schedule x routine user)))))
    ∷ (codes "unschedule" reads of_object Unschedule)
    ∷ (codes "timer" reads TakesOwner (λ owner. TakesNumeral Time (λ time. TakesNumeral Positive32 (λ routine. takes_number (λ user. EndsInContext (Timer owner time routine user))))))
    ∷ (codes "fd" reads TakesOwner (λ owner. TakesNumeral Number32 (λ fd. TakesNumeral FdFlags (λ flags. TakesNumeral Positive32 (λ routine. takes_number (λ user. EndsInContext (Fd owner fd flags routine user)))))))
    ∷ (codes "flags" reads TakesObject (λ x. TakesNumeral FdFlags (λ flags. NoMore (Flags x flags))))
    ∷ (codes "getflags" reads of_object Getflags)
    ∷ (codes "autoclose" reads of_object Autoclose)
    ∷ []

-- calls on descriptors
abbrev pub descriptor_forms : List Form
descriptor_forms =
    (codes "close" reads of_descriptor Close)
    ∷ (codes "accept" reads of_descriptor Accept)
    ∷ (codes "read" reads TakesNumeral Number32 (λ fd. TakesNumeral Length (λ len. NoMore (Read fd len))))
    ∷ (codes "write" reads TakesNumeral Number32 (λ fd. EndsInBytes (λ bytes. Write fd bytes)))
    ∷ []

-- calls on requests
abbrev pub request_forms : List Form
request_forms =
    (codes "req" reads TakesOwner (λ owner. takes_number (λ size. EndsInName (λ name. Req owner size name))))
    ∷ (codes "callback" reads TakesObject (λ x. TakesNumeral Number32 (λ routine. takes_number (λ user. NoMore (Callback x routine user)))))
    ∷ (codes "defer" reads object_in_context Defer)
    ∷ (codes "cleanup" reads object_and_routine Cleanup)
    ∷ (codes "setcancel" reads object_and_routine Setcancel)
    ∷ (codes "cancel" reads of_object Cancel)
    ∷ (codes "post" reads object_in_context Post)
    ∷ (codes "done" reads of_object Done)
    ∷ (codes "error" reads object_and_number Error)
    ∷ (codes "oom" reads of_object Oom)
    ∷ (codes "iserror" reads of_object Iserror)
    ∷ (codes "progress" reads of_object Progress)
    ∷ (codes "endtime" reads TakesObject (λ x. TakesNumeral Time (λ time. EndsInContext (Endtime x time))))
    ∷ (codes "received" reads of_object Received)
    ∷ []

-- calls on queues
abbrev pub queue_forms : List Form
queue_forms =
    (codes "queue" reads TakesOwner (λ owner. EndsInName (λ name. Queue owner name)))
    ∷ (codes "enqueue" reads TakesObject (λ queue. TakesObject (λ x. TakesNumeral Positive32 (λ routine. takes_number (λ user. EndsInContext (Enqueue queue x routine user))))))
    ∷ (codes "start" reads of_object Start)
    ∷ (codes "stop" reads of_object Stop)
    ∷ (codes "length" reads of_object QueueLength)
    ∷ (codes "running" reads of_object Running)
    ∷ []

-- calls on the loop
abbrev pub loop_forms : List Form
loop_forms =
    (codes "pending" reads EndsInContext Pending)
    ∷ (codes "now" reads NoMore Now)
    ∷ (codes "turn" reads EndsInContext Turn)
    ∷ []

-- calls on contexts, which version 1 doesn't have
abbrev pub context_forms : Version → List Form
context_forms versions.One = []
context_forms versions.Two = (codes "context" reads of_owner Context) ∷ []

-- all calls of a version
abbrev pub forms : Version → List Form
forms v = tree_forms ++ event_forms ++ descriptor_forms ++ request_forms ++ queue_forms ++ loop_forms ++ context_forms v
