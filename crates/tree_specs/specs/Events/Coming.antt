-- Which event comes next, and what follows the run of its handler.
use Rattle.std.specs.Prelude.{ℕ, Bool, true, false, ◌&&◌, ◌||◌, List, [], ◌∷◌, is_some, Option, Some, None, if◌then◌else◌}
use Rattle.tree_specs.specs.declared.bounds.TheConstants.{WAIT_LIMIT}
use Rattle.tree_specs.specs.declared.object.Obj.{Obj}
use Rattle.tree_specs.specs.declared.kind.Kind.{Kind}
use Rattle.tree_specs.specs.declared.kind.Kind.TheVariants as kind
use Rattle.tree_specs.specs.declared.row.Row.{Row}
use Rattle.tree_specs.specs.declared.row.Mark.{Mark}
use Rattle.tree_specs.specs.declared.row.Mark.TheVariants as mark
use Rattle.tree_specs.specs.declared.handler.Handler.{Handler}
use Rattle.tree_specs.specs.declared.moment.Moment.{Moment}
use Rattle.tree_specs.specs.declared.moment.What.{What}
use Rattle.tree_specs.specs.declared.moment.What.TheVariants.{Timer, Immediate, Descriptor}
use Rattle.tree_specs.specs.declared.occasion.Occasion.{Occasion}
use Rattle.tree_specs.specs.declared.wants.Want.{Want}
use Rattle.tree_specs.specs.Tree.Pool.{Pool, row_of, passes, set_mark, turn_back, times_here}
use Rattle.tree_specs.specs.Tree.Targets.{is_context}
use Rattle.tree_specs.specs.Events.Handlers.{handler_of}
use Rattle.tree_specs.specs.Events.Pending.{first}
use Rattle.tree_specs.specs.Calls.Refusals.{is_doomed}
use Rattle.tree_specs.specs.Words.Objects.{same, first_context}

-- how long is waited for descriptors where no event has a time
abbrev pub wait_limit : ℕ
wait_limit = WAIT_LIMIT

-- an immediate, a timer and an event on a descriptor come each as its own kind
abbrev pub comes_as : What → Kind → Bool
comes_as Immediate kind.Immediate = true
comes_as Timer kind.Timer = true
comes_as Descriptor kind.Descriptor = true
comes_as what k = false

abbrev pub is_quiet_mark : Mark → Bool
is_quiet_mark mark.Quiet = true
is_quiet_mark m = false

-- an event of the kind, with which nothing goes on
abbrev pub may_start : What → Option Row → Bool
may_start what None = false
may_start what (Some r) = comes_as what r.kind && is_quiet_mark r.mark

abbrev pub is_busy_mark : Mark → Bool
is_busy_mark mark.Busy = true
is_busy_mark m = false

-- the first context, or one whose turn is under way
abbrev pub is_at_turn_row : Option Row → Bool
is_at_turn_row o = passes (λ r. is_context r.kind && is_busy_mark r.mark) o

abbrev pub is_at_turn : Pool → Obj → Bool
is_at_turn p c = same c first_context || is_at_turn_row (row_of p.rows c)

abbrev pub at_turn : Pool → Option Handler → Option Handler
at_turn p None = None
at_turn p (Some h) = if is_at_turn p h.context then Some h else None

-- the handler that is to run; none where it is no such event, or has none, or it isn't the turn of its context
abbrev pub handler_for : Pool → What → Obj → Option Handler
handler_for p what x = if may_start what (row_of p.rows x) then at_turn p (handler_of p.handlers x) else None

-- at this time; with these flags; without either
abbrev pub at_time : ℕ → Occasion
at_time now = record { now = now; flags = 0 }

abbrev pub with_flags : ℕ → Occasion
with_flags flags = record { now = 0; flags = flags }

abbrev pub plainly : Occasion
plainly = record { now = 0; flags = 0 }

-- the first moment in the run of a handler
abbrev pub handler_moment : What → Obj → Handler → Occasion → Moment
handler_moment what x handler occasion = record { what = what; object = x; routine = handler.routine; user = handler.user; now = occasion.now; flags = occasion.flags; step = 0; last = None }

-- an event with a handler starts: it is busy, and one on a descriptor is looked at after all others the next time
abbrev pub rotated : What → Obj → Pool → Pool
rotated Descriptor x p = turn_back p x
rotated what x p = p

abbrev pub begun : What → Obj → Pool → Pool
begun what x p = set_mark (rotated what x p) x mark.Busy

-- a timer comes once
abbrev pub is_once : What → Bool
is_once Timer = true
is_once what = false

-- after its handler has run a timer is freed, and so is what was to be freed meanwhile
abbrev pub goes_after : Pool → What → Obj → Bool
goes_after p what x = is_once what || is_doomed p x

-- after a wait the first time is looked at again where nothing was ready and an event has a time
abbrev pub looks_again : Pool → List Want → Bool
looks_again p [] = is_some (first (times_here p))
looks_again p (w ∷ ws) = false
