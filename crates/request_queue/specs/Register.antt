-- Queues as their callers see them.
use Rattle.std.specs.Prelude.{ℕ, T, ◌<◌, true, List, [], ◌∷◌, Option, Some, None, if◌then◌else◌}
use Rattle.std.specs.Option.{option_map}
use Rattle.std.specs.Ordering.{nat_cmp}
use Rattle.std.specs.FinMap.Entries.{is_sorted}
use Rattle.tree_specs.specs.declared.coming.Coming.{Coming}
use Rattle.tree_specs.specs.declared.object.Obj.{Obj}
use Rattle.tree_specs.specs.declared.queue.QueueEntry.{QueueEntry}
use Rattle.tree_specs.specs.Events.Queues.{Queues, Head, runs, next_of, triggered, run_as}
use Rattle.request_queue.specs.declared.queues.Turn.{Turn}

pub record Register : Type 0 where
  pub queues : Queues
  -- so many queues and so many entries can be added without taking memory
  pub spare : ℕ

-- the entries stand in the order of their numbers
abbrev pub AreInOrder : List (ℕ × QueueEntry) → Type 0
AreInOrder entries = T (is_sorted nat_cmp entries)

-- its number is above that of each entry
abbrev pub IsAbove : Obj → List (ℕ × QueueEntry) → Type 0
IsAbove x [] = Unit {0}
IsAbove x (e ∷ es) = (e.0 < x.0) × IsAbove x es

-- a queue comes in the context of its first entry
abbrev pub coming_for : Obj → Head → Coming
coming_for q h = record { object = q; context = h.entry.trigger.context }

-- a queue is to come soon, where it runs and its first entry waits for its trigger
abbrev pub coming_of : Queues → Obj → Option Coming
coming_of qs q = option_map (coming_for q) (next_of qs q)

-- so is the queue that an entry leaves
abbrev pub looked_for : Queues → Option QueueEntry → Option Coming
looked_for left None = None
looked_for left (Some e) = coming_of left e.queue

-- and a queue that didn't run and starts
abbrev pub starts_next : Queues → Obj → Option Coming
starts_next qs q = if runs qs q then None else coming_of (run_as qs q true) q

-- a queue runs from now on; one that does already stays as it is
abbrev pub started : Queues → Obj → Queues
started qs q = if runs qs q then qs else run_as qs q true

-- the object of an entry
abbrev pub object_of : Head → Obj
object_of h = h.object

-- what runs, and for which request
abbrev pub turn_of : Head → Turn
turn_of h = record { request = h.entry.request; trigger = h.entry.trigger }

-- the trigger of the first entry begins, where there is one that waits for it
abbrev pub triggered_by : Option Head → Queues → Queues
triggered_by None qs = qs
triggered_by (Some h) qs = triggered qs h
