-- What is kept of requests: notes by the numbers of their requests, in the order of the numbers.
use Rattle.std.specs.Prelude.{ℕ, Bool, true, false, not, nat_eq, nat_lt, List, [], is_some, Option, Some, None, if◌then◌else◌}
use Rattle.std.specs.List.{filter}
use Rattle.std.specs.Ordering.{nat_cmp, eq_by_cmp}
use Rattle.std.specs.FinMap.Entries.{find, put}
use Rattle.tree_specs.specs.declared.object.Obj.{Obj}
use Rattle.tree_specs.specs.declared.handler.Handler.{Handler}
use Rattle.tree_specs.specs.declared.request.Note.{Note}
use Rattle.tree_specs.specs.declared.request.State.{State}
use Rattle.tree_specs.specs.declared.request.State.TheVariants.{InProgress, Done, UserError, TimedOut, NoMemory, Received}
use Rattle.tree_specs.specs.Words.Objects.{first_context}

-- ---- states

abbrev pub state_number : State → ℕ
state_number InProgress = 1
state_number Done = 2
state_number UserError = 3
state_number TimedOut = 4
state_number NoMemory = 5
state_number Received = 6

abbrev pub is_in_progress : State → Bool
is_in_progress InProgress = true
is_in_progress state = false

abbrev pub is_received : State → Bool
is_received Received = true
is_received state = false

-- ---- the notes of all requests

abbrev pub Notes : Type 0
Notes = List (ℕ × Note)

abbrev pub no_notes : Notes
no_notes = []

-- none where it is no request, or is no more
abbrev pub note_of : Notes → Obj → Option Note
note_of notes x = find nat_cmp x.0 notes

abbrev pub is_noted : Notes → Obj → Bool
is_noted notes x = is_some (note_of notes x)

abbrev pub with_note : Notes → Obj → Note → Notes
with_note notes x note = put nat_cmp x.0 note notes

abbrev pub without_note : Notes → Obj → Notes
without_note notes x = filter (λ n. not (eq_by_cmp nat_cmp x.0 n.0)) notes

abbrev pub renoted_by : Notes → Obj → (Note → Note) → Option Note → Notes
renoted_by notes x change None = notes
renoted_by notes x change (Some note) = with_note notes x (change note)

-- what is kept of a request is changed
abbrev pub renoted : (Note → Note) → Notes → Obj → Notes
renoted change notes x = renoted_by notes x change (note_of notes x)

-- ---- one note

-- a request is made in progress, with this object of its own
abbrev pub new_note : Obj → Note
new_note child = record { state = InProgress; error = 0; callback = None; deferred = None; cleanup = 0; cleaned = 0; cancel = 0; child = child }

-- a routine with the number that it is told; 0 is none
abbrev pub routine_of : ℕ → ℕ → Option Handler
routine_of routine user = if nat_eq routine 0 then None else Some (record { routine = routine; user = user; context = first_context })

abbrev pub called_back : ℕ → ℕ → Note → Note
called_back routine user n = record n { callback = routine_of routine user }

abbrev pub deferring : Obj → Note → Note
deferring c n = record n { deferred = Some c }

abbrev pub not_deferring : Note → Note
not_deferring n = record n { deferred = None }

-- a cleanup runs for the states after the present one
abbrev pub cleaned_by : ℕ → Note → Note
cleaned_by routine n = record n { cleanup = routine; cleaned = state_number n.state }

-- its cleanup runs for the present state
abbrev pub cleaned : Note → Note
cleaned n = record n { cleaned = state_number n.state }

abbrev pub cancelled_by : ℕ → Note → Note
cancelled_by routine n = record n { cancel = routine }

abbrev pub failed_with : ℕ → Note → Note
failed_with error n = record n { error = error }

abbrev pub in_state : State → Note → Note
in_state state n = record n { state = state }

-- ---- what runs

-- the cleanup, where there is one that hasn't run for the present state; it is told the state
abbrev pub cleanup_of : Note → Option Handler
cleanup_of n = if nat_lt n.cleaned (state_number n.state) then routine_of n.cleanup (state_number n.state) else None

-- the routine that cancels it, until it was received
abbrev pub cancel_of : Note → Option Handler
cancel_of n = if is_received n.state then None else routine_of n.cancel 0

-- a request that is still to be received
abbrev pub is_unreceived : Option Note → Bool
is_unreceived None = false
is_unreceived (Some n) = not (is_received n.state)

abbrev pub cleanup_in : Option Note → Option Handler
cleanup_in None = None
cleanup_in (Some n) = cleanup_of n

abbrev pub cancel_in : Option Note → Option Handler
cancel_in None = None
cancel_in (Some n) = cancel_of n
