-- The refusals of each call, in the order in which they are tried.
use Rattle.std.specs.Prelude.{ℕ, zero, suc, ◌-◌, ◌+◌, ◌^◌, Bool, true, false, not, ◌&&◌, ◌||◌, is_some, nat_eq, nat_lt, nat_le, if◌then◌else◌, List, [], ◌∷◌, ◌++◌, length, Option, Some, None, Result, Ok, Err}
use Rattle.tree_specs.specs.declared.bounds.TheConstants.{ROW_LIMIT, SIZE_LIMIT}
use Rattle.tree_specs.specs.declared.object.Obj.{Obj}
use Rattle.tree_specs.specs.declared.object.Owner.{Owner}
use Rattle.tree_specs.specs.declared.object.Owner.TheVariants.{Root, Of}
use Rattle.tree_specs.specs.declared.kind.Kind.{Kind}
use Rattle.tree_specs.specs.declared.kind.Kind.TheVariants.{Plain, Immediate as ImmediateKind, Descriptor, Request, Queue as QueueKind, Entry}
use Rattle.tree_specs.specs.declared.request.Note.{Note}
use Rattle.tree_specs.specs.declared.request.State.{State}
use Rattle.tree_specs.specs.declared.row.Row.{Row}
use Rattle.tree_specs.specs.declared.row.Mark.{Mark}
use Rattle.tree_specs.specs.declared.row.Mark.TheVariants as mark
use Rattle.tree_specs.specs.declared.call.Call.{Call}
use Rattle.tree_specs.specs.declared.call.Call.TheVariants.{New, Free, Freekids, Steal, Move, Reparent, Reference as Refer, Unlink, Hook, Unhook, Rename, Resize, Limit, Parent, Total, Count, Sum, Report, Context, Immediate, Schedule, Unschedule, Timer, Fd, Flags, Getflags, Autoclose, Close, Accept, Read, Write, Req, Callback, Defer, Cleanup, Setcancel, Cancel, Post, Done, Error, Oom, Iserror, Progress, Endtime, Received, Queue, Enqueue, Start, Stop, Length, Running as IsRunning, Pending, Now, Turn}
use Rattle.tree_specs.specs.declared.question.Ask.{Ask}
use Rattle.tree_specs.specs.declared.question.Ask.TheVariants.{Routine}
use Rattle.tree_specs.specs.declared.test.Test.{Test}
use Rattle.tree_specs.specs.declared.test.Test.TheVariants.{IsSmall, IsObject, IsOwner, IsPlain, IsImmediate, IsDescriptor, IsRequest, IsQueue, IsContext, IsMovable, IsReferable, IsOpen, IsUnwatched, HasRoom, HasNumber, IsInProgress, IsFinished, MayFail, Fits, MayGrow, IsNotDying, IsNotGoing, IsNotDoomed, IsNotRunning, IsNotInside, IsUnheld, IsUnreferenced, IsInterested, MayGive}
use Rattle.tree_specs.specs.declared.reply.Refusal.{Refusal}
use Rattle.tree_specs.specs.declared.reply.Refusal.TheVariants.{NoSuch, WrongKind, Running, Held, NotParent, Loop, Dying, OverLimit, Full, Spent, InUse, BadState, TooBig, Nested}
use Rattle.tree_specs.specs.Tree.Pool.{Pool, row_of, passes, is_context_row, is_usable_row, is_below, owner_of, newest_ref_of, is_dying_mark, is_dying, is_inside}
use Rattle.tree_specs.specs.Tree.Targets.{is_reference}
use Rattle.tree_specs.specs.Events.Rotation.{is_watched}
use Rattle.tree_specs.specs.Events.Descriptors.{is_open_in}
use Rattle.tree_specs.specs.Events.Requests.{state_number, is_in_progress, is_received, note_of}
use Rattle.tree_specs.specs.Tree.Reports.{count_refs}
use Rattle.tree_specs.specs.Tree.Sums.{overhead, sum_inside, limit_at, size_at}
use Rattle.tree_specs.specs.Words.Objects.{same, first_context}

-- the size of an object is below this, in bytes
abbrev pub size_limit : ℕ
size_limit = SIZE_LIMIT

-- at most so many objects are live
abbrev pub row_limit : ℕ
row_limit = ROW_LIMIT

-- the refusals that apply, the first one first
abbrev pub Check : Type 0
Check = List Refusal

-- the first refusal that applies
abbrev pub checked : Check → Result (Unit {0}) Refusal
checked [] = Ok tt
checked (why ∷ later) = Err why

-- one check before the others
infixr 10 ◌before◌
abbrev pub ◌before◌ : Check → Check → Check
first before second = first ++ second

abbrev pub refuse_if : Bool → Refusal → Check
refuse_if b why = if b then why ∷ [] else []

abbrev pub small : ℕ → Check
small size = refuse_if (nat_le size_limit size) (TooBig size)

-- a reference is no object that a call takes
abbrev pub object_row : Obj → Option Row → Check
object_row x None = NoSuch x.0 ∷ []
object_row x (Some r) = refuse_if (is_reference r.kind) (WrongKind x)

abbrev pub object : Pool → Obj → Check
object p x = object_row x (row_of p.rows x)

abbrev pub is_plain : Kind → Bool
is_plain Plain = true
is_plain k = false

-- an event that comes as soon as it can
abbrev pub is_immediate : Kind → Bool
is_immediate ImmediateKind = true
is_immediate k = false

-- an event on a descriptor
abbrev pub is_descriptor : Kind → Bool
is_descriptor Descriptor = true
is_descriptor k = false

abbrev pub is_request : Kind → Bool
is_request Request = true
is_request k = false

abbrev pub is_queue : Kind → Bool
is_queue QueueKind = true
is_queue k = false

abbrev pub is_entry : Kind → Bool
is_entry Entry = true
is_entry k = false

-- there may be references to a plain object, and to a request
abbrev pub is_referable : Kind → Bool
is_referable Plain = true
is_referable Request = true
is_referable k = false

abbrev pub is_plain_row : Option Row → Bool
is_plain_row o = passes (λ r. is_plain r.kind) o

abbrev pub is_immediate_row : Option Row → Bool
is_immediate_row o = passes (λ r. is_immediate r.kind) o

abbrev pub is_descriptor_row : Option Row → Bool
is_descriptor_row o = passes (λ r. is_descriptor r.kind) o

abbrev pub is_request_row : Option Row → Bool
is_request_row o = passes (λ r. is_request r.kind) o

abbrev pub is_queue_row : Option Row → Bool
is_queue_row o = passes (λ r. is_queue r.kind) o

abbrev pub is_entry_row : Option Row → Bool
is_entry_row o = passes (λ r. is_entry r.kind) o

abbrev pub is_referable_row : Option Row → Bool
is_referable_row o = passes (λ r. is_referable r.kind) o

-- an object's row is of the right kind
abbrev pub of_kind : (Option Row → Bool) → Pool → Obj → Check
of_kind is_right p x = refuse_if (not (is_right (row_of p.rows x))) (WrongKind x)

-- only plain objects have destructors
abbrev pub plain : Pool → Obj → Check
plain p x = of_kind is_plain_row p x

-- only an immediate is scheduled
abbrev pub immediate : Pool → Obj → Check
immediate p x = of_kind is_immediate_row p x

-- only an event on a descriptor has flags
abbrev pub descriptor : Pool → Obj → Check
descriptor p x = of_kind is_descriptor_row p x

-- only a request has a state
abbrev pub request : Pool → Obj → Check
request p x = of_kind is_request_row p x

-- only a queue has entries
abbrev pub queue : Pool → Obj → Check
queue p x = of_kind is_queue_row p x

-- an entry stays below its request
abbrev pub movable : Pool → Obj → Check
movable p x = of_kind (λ o. not (is_entry_row o)) p x

abbrev pub referable : Pool → Obj → Check
referable p x = of_kind is_referable_row p x

abbrev pub is_open : Pool → ℕ → Bool
is_open p fd = is_open_in p.descriptors fd

-- nothing is asked of a descriptor that isn't open
abbrev pub open_one : Pool → ℕ → Check
open_one p fd = refuse_if (not (is_open p fd)) (NoSuch fd)

-- there is one event on a descriptor at most, and none when it is closed
abbrev pub unused : Pool → ℕ → Check
unused p fd = refuse_if (is_watched p.ring fd) (InUse fd)

-- the root, or an object
abbrev pub owner : Pool → Owner → Check
owner p Root = []
owner p (Of x) = object p x

-- room for so many rows, and so many numbers
abbrev pub room : Pool → ℕ → Check
room p k =
    refuse_if (nat_lt row_limit (length p.rows + k)) (Full (length p.rows))
    before refuse_if (nat_le (2 ^ 64) (p.next + k)) Spent

-- a number that no object gets
abbrev pub number : Pool → Check
number p = refuse_if (nat_le (2 ^ 64) (p.next + 1)) Spent

-- the state of a request is one of these
abbrev pub in_state : Obj → (State → Bool) → Option Note → Check
in_state x is_right None = []
in_state x is_right (Some n) = refuse_if (not (is_right n.state)) (BadState x (state_number n.state))

abbrev pub in_progress : Pool → Obj → Check
in_progress p x = in_state x is_in_progress (note_of p.requests x)

-- it is over, and wasn't received
abbrev pub is_finished : State → Bool
is_finished s = not (is_in_progress s) && not (is_received s)

abbrev pub finished : Pool → Obj → Check
finished p x = in_state x is_finished (note_of p.requests x)

-- with 0 it doesn't fail
abbrev pub failing : Pool → Obj → ℕ → Check
failing p x error = if nat_eq error 0 then [] else in_progress p x

-- an object with a limit has no room for so many more bytes beside what is inside it
abbrev pub over : List Row → ℕ → Obj → Check
over rs wanted x = refuse_if (nat_lt 0 (limit_at rs x) && nat_lt (limit_at rs x) (sum_inside rs (Of x) + wanted)) (OverLimit x (sum_inside rs (Of x)) wanted (limit_at rs x))

-- the same of an owner and those above it, the nearest first, in at most n steps
abbrev pub fits_in : ℕ → List Row → ℕ → Option Owner → Check
fits_in n rs wanted None = []
fits_in n rs wanted (Some Root) = []
fits_in zero rs wanted (Some (Of x)) = []
fits_in (suc n) rs wanted (Some (Of x)) = over rs wanted x before fits_in n rs wanted (owner_of rs x)

-- so many more bytes fit below an owner
unfoldable pub fits : Pool → Owner → ℕ → Check
fits p o wanted = fits_in (length p.rows) p.rows wanted (Some o)

-- an object that is being freed stays where it is
abbrev pub staying : Pool → Obj → Check
staying p x = refuse_if (is_dying p.rows x) (Dying x)

-- it is being freed, or is to be once its handler is over
abbrev pub is_doomed_mark : Mark → Bool
is_doomed_mark mark.Doomed = true
is_doomed_mark m = is_dying_mark m

abbrev pub is_doomed : Pool → Obj → Bool
is_doomed p x = passes (λ r. is_doomed_mark r.mark) (row_of p.rows x)

-- it is being freed, or its entries are before it: something goes on with it
abbrev pub is_going_mark : Mark → Bool
is_going_mark mark.Quiet = false
is_going_mark m = true

abbrev pub is_going : Pool → Obj → Bool
is_going p x = passes (λ r. is_going_mark r.mark) (row_of p.rows x)

-- nothing is done with a queue that goes
abbrev pub remaining : Pool → Obj → Check
remaining p x = refuse_if (is_going p x) (Dying x)

-- an event that is to be freed waits for nothing
abbrev pub lasting : Pool → Obj → Check
lasting p x = refuse_if (is_doomed p x) (Dying x)

-- something is to come in a context: the first one, or one that stays
abbrev pub context : Pool → Obj → Check
context p c = if same c first_context then [] else object p c before of_kind is_context_row p c before refuse_if (not (is_usable_row (row_of p.rows c))) (Dying c)

-- no object comes to be inside itself
abbrev pub apart : Pool → Obj → Owner → Check
apart p x o = refuse_if (is_inside p.rows o (Of x)) (Loop x o)

-- an owner has an interest in an object where it owns it, or a reference to it
abbrev pub is_interested : Pool → Owner → Obj → Bool
is_interested p o x = is_below (owner_of p.rows x) o || is_some (newest_ref_of p.rows o x)

abbrev pub interested : Pool → Owner → Obj → Check
interested p o x = refuse_if (not (is_interested p o x)) (NotParent x o)

-- its owner gives it away, or one that has a reference to it gives this away
abbrev pub given_by : Pool → Owner → Owner → Obj → Check
given_by p from to x = if is_below (owner_of p.rows x) from then apart p x to else interested p from x

-- an object that has references is held, but for one that is the root's and has exactly one
abbrev pub is_held : Pool → Obj → Bool
is_held p x = not (nat_eq (count_refs p.rows x) 0) && not (is_below (owner_of p.rows x) Root && nat_eq (count_refs p.rows x) 1)

abbrev pub held : Pool → Obj → Check
held p x = refuse_if (is_held p x) (Held x)

-- an object to which there is a reference keeps its size
abbrev pub unreferenced : Pool → Obj → Check
unreferenced p x = refuse_if (not (nat_eq (count_refs p.rows x) 0)) (Held x)

-- where an object grows, the growth fits
abbrev pub growing : Pool → Obj → ℕ → Check
growing p x size = if nat_lt (size_at p.rows x) size then fits p (Of x) (size - size_at p.rows x) else []

-- no reference is made to an object that runs
abbrev pub is_running_mark : Mark → Bool
is_running_mark mark.Quiet = false
is_running_mark (mark.Dying former) = false
is_running_mark m = true

abbrev pub is_running_row : Option Row → Bool
is_running_row o = passes (λ r. is_running_mark r.mark) o

-- its destructor or its handler runs, or it is received to be freed
abbrev pub is_running : Pool → Obj → Bool
is_running p x = is_running_row (row_of p.rows x)

abbrev pub still : Pool → Obj → Check
still p x = refuse_if (is_running p x) (Running x)

-- ---- the tests of each call

-- what is refused where a test isn't passed
abbrev pub refusal_of : Pool → Test → Check
refusal_of p (IsSmall size) = small size
refusal_of p (IsObject x) = object p x
refusal_of p (IsOwner o) = owner p o
refusal_of p (IsPlain x) = plain p x
refusal_of p (IsImmediate x) = immediate p x
refusal_of p (IsDescriptor x) = descriptor p x
refusal_of p (IsRequest x) = request p x
refusal_of p (IsQueue x) = queue p x
refusal_of p (IsContext c) = context p c
refusal_of p (IsMovable x) = movable p x
refusal_of p (IsReferable x) = referable p x
refusal_of p (IsOpen fd) = open_one p fd
refusal_of p (IsUnwatched fd) = unused p fd
refusal_of p (HasRoom k) = room p k
refusal_of p HasNumber = number p
refusal_of p (IsInProgress x) = in_progress p x
refusal_of p (IsFinished x) = finished p x
refusal_of p (MayFail x error) = failing p x error
refusal_of p (Fits o wanted) = fits p o wanted
refusal_of p (MayGrow x size) = growing p x size
refusal_of p (IsNotDying x) = staying p x
refusal_of p (IsNotGoing x) = remaining p x
refusal_of p (IsNotDoomed x) = lasting p x
refusal_of p (IsNotRunning x) = still p x
refusal_of p (IsNotInside x o) = apart p x o
refusal_of p (IsUnheld x) = held p x
refusal_of p (IsUnreferenced x) = unreferenced p x
refusal_of p (IsInterested o x) = interested p o x
refusal_of p (MayGive from to x) = given_by p from to x

abbrev pub tests : Call → List Test
tests (New o size name) = IsSmall size ∷ IsOwner o ∷ HasRoom 1 ∷ Fits o (size + overhead) ∷ []
tests (Free x) = IsObject x ∷ IsUnheld x ∷ []
tests (Freekids x) = IsObject x ∷ []
tests (Steal o x) = IsObject x ∷ IsMovable x ∷ IsOwner o ∷ IsNotDying x ∷ IsNotInside x o ∷ []
tests (Move o x) = IsObject x ∷ IsMovable x ∷ IsOwner o ∷ IsNotDying x ∷ IsNotInside x o ∷ []
tests (Reparent from to x) = IsObject x ∷ IsMovable x ∷ IsOwner from ∷ IsOwner to ∷ IsNotDying x ∷ MayGive from to x ∷ []
tests (Refer o x) = IsObject x ∷ IsReferable x ∷ IsOwner o ∷ IsNotRunning x ∷ IsNotDying x ∷ HasRoom 1 ∷ []
tests (Unlink o x) = IsObject x ∷ IsOwner o ∷ IsInterested o x ∷ []
tests (Hook x routine) = IsObject x ∷ IsPlain x ∷ IsNotDying x ∷ []
tests (Unhook x) = IsObject x ∷ IsPlain x ∷ IsNotDying x ∷ []
tests (Rename x name) = IsObject x ∷ []
tests (Resize x size) = IsSmall size ∷ IsObject x ∷ IsPlain x ∷ IsUnreferenced x ∷ IsNotDying x ∷ MayGrow x size ∷ []
tests (Limit x max) = IsObject x ∷ []
tests (Parent x) = IsObject x ∷ IsNotDying x ∷ []
tests (Total o) = IsOwner o ∷ []
tests (Count o) = IsOwner o ∷ []
tests (Sum o) = IsOwner o ∷ []
tests (Report o) = IsOwner o ∷ []
tests (Context o) = IsOwner o ∷ HasRoom 1 ∷ Fits o overhead ∷ []
tests (Immediate o) = IsOwner o ∷ HasRoom 1 ∷ Fits o overhead ∷ []
tests (Schedule x routine user c) = IsObject x ∷ IsImmediate x ∷ IsNotDoomed x ∷ IsContext c ∷ []
tests (Unschedule x) = IsObject x ∷ IsImmediate x ∷ IsNotDoomed x ∷ []
tests (Timer o time routine user c) = IsOwner o ∷ IsContext c ∷ HasRoom 1 ∷ Fits o overhead ∷ []
tests (Fd o fd flags routine user c) = IsOwner o ∷ IsOpen fd ∷ IsUnwatched fd ∷ IsContext c ∷ HasRoom 1 ∷ Fits o overhead ∷ []
tests (Flags x flags) = IsObject x ∷ IsDescriptor x ∷ IsNotDoomed x ∷ []
tests (Getflags x) = IsObject x ∷ IsDescriptor x ∷ IsNotDoomed x ∷ []
tests (Autoclose x) = IsObject x ∷ IsDescriptor x ∷ IsNotDoomed x ∷ []
tests (Close fd) = IsOpen fd ∷ IsUnwatched fd ∷ []
tests (Accept fd) = IsOpen fd ∷ []
tests (Read fd len) = IsOpen fd ∷ []
tests (Write fd bytes) = IsOpen fd ∷ []
tests (Req o size name) = IsSmall size ∷ IsOwner o ∷ HasRoom 2 ∷ Fits o (size + overhead + overhead) ∷ []
tests (Callback x routine user) = IsObject x ∷ IsRequest x ∷ IsNotDying x ∷ []
tests (Defer x c) = IsObject x ∷ IsRequest x ∷ IsNotDying x ∷ IsContext c ∷ []
tests (Cleanup x routine) = IsObject x ∷ IsRequest x ∷ IsNotDying x ∷ []
tests (Setcancel x routine) = IsObject x ∷ IsRequest x ∷ IsNotDying x ∷ []
tests (Cancel x) = IsObject x ∷ IsRequest x ∷ []
tests (Post x c) = IsObject x ∷ IsRequest x ∷ IsFinished x ∷ IsContext c ∷ []
tests (Done x) = IsObject x ∷ IsRequest x ∷ IsInProgress x ∷ []
tests (Error x error) = IsObject x ∷ IsRequest x ∷ MayFail x error ∷ []
tests (Oom x) = IsObject x ∷ IsRequest x ∷ IsInProgress x ∷ []
tests (Iserror x) = IsObject x ∷ IsRequest x ∷ []
tests (Progress x) = IsObject x ∷ IsRequest x ∷ []
tests (Endtime x time c) = IsObject x ∷ IsRequest x ∷ IsInProgress x ∷ IsContext c ∷ HasNumber ∷ []
tests (Received x) = IsObject x ∷ IsRequest x ∷ []
tests (Queue o name) = IsOwner o ∷ HasRoom 1 ∷ Fits o overhead ∷ []
tests (Enqueue q x routine user c) = IsObject q ∷ IsQueue q ∷ IsNotGoing q ∷ IsObject x ∷ IsRequest x ∷ IsNotDying x ∷ IsContext c ∷ HasRoom 1 ∷ Fits (Of x) overhead ∷ []
tests (Start q) = IsObject q ∷ IsQueue q ∷ IsNotGoing q ∷ []
tests (Stop q) = IsObject q ∷ IsQueue q ∷ IsNotGoing q ∷ []
tests (Length q) = IsObject q ∷ IsQueue q ∷ []
tests (IsRunning q) = IsObject q ∷ IsQueue q ∷ []
tests (Pending c) = IsContext c ∷ []
tests Now = []
tests (Turn c) = IsContext c ∷ []

-- the refusals of tests, one after another
abbrev pub refused : Pool → List Test → Check
refused p [] = []
refused p (t ∷ []) = refusal_of p t
refused p (t ∷ u ∷ ts) = refusal_of p t before refused p (u ∷ ts)

abbrev pub refusals : Pool → Call → Check
refusals p c = refused p (tests c)

-- ---- where a call is given

-- a turn is for the host's own caller alone, since a routine that runs may be in one
abbrev pub is_nested : Ask → Call → Bool
is_nested (Routine m) (Turn c) = true
is_nested q c = false

-- the refusals of a call that is given at this question
abbrev pub refusals_at : Ask → Pool → Call → Check
refusals_at q p c = refuse_if (is_nested q c) Nested before refusals p c
