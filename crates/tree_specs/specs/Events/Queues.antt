-- Queues of requests: which there are, and the entries in them.
use Rattle.std.specs.Prelude.{ℕ, Bool, true, false, not, List, [], ◌∷◌, length, is_some, unwrap_or, Option, Some, None, if◌then◌else◌}
use Rattle.std.specs.List.{filter}
use Rattle.std.specs.Ordering.{nat_cmp, eq_by_cmp}
use Rattle.std.specs.FinMap.Entries.{find, put}
use Rattle.tree_specs.specs.declared.object.Obj.{Obj}
use Rattle.tree_specs.specs.declared.queue.QueueEntry.{QueueEntry}
use Rattle.tree_specs.specs.Words.Objects.{same}
use Rattle.tree_specs.specs.declared.handler.Handler.{Handler}

-- All queues and all entries by their numbers, in the order of the numbers. A new entry has the greatest number so far, so that
-- the entries of a queue stand in the order in which they came.
pub record Queues : Type 0 where
  -- whether each queue runs
  pub running : List (ℕ × Bool)
  pub entries : List (ℕ × QueueEntry)

abbrev pub no_queues : Queues
no_queues = record { running = []; entries = [] }

-- ---- queues

-- whether it runs; none where it is no queue
abbrev pub running_of : Queues → Obj → Option Bool
running_of qs q = find nat_cmp q.0 qs.running

abbrev pub has_queue : Queues → Obj → Bool
has_queue qs q = is_some (running_of qs q)

abbrev pub runs : Queues → Obj → Bool
runs qs q = unwrap_or (running_of qs q) false

abbrev pub with_queue : Queues → Obj → Bool → Queues
with_queue qs q running = record qs { running = put nat_cmp q.0 running qs.running }

-- a queue runs from now on, or it doesn't
abbrev pub run_as : Queues → Obj → Bool → Queues
run_as qs q running = if has_queue qs q then with_queue qs q running else qs

abbrev pub without_queue : Queues → Obj → Queues
without_queue qs q = record qs { running = filter (λ r. not (eq_by_cmp nat_cmp q.0 r.0)) qs.running }

-- ---- entries

-- none where it is no entry, or has left its queue
abbrev pub entry_of : Queues → Obj → Option QueueEntry
entry_of qs x = find nat_cmp x.0 qs.entries

abbrev pub is_entered : Queues → Obj → Bool
is_entered qs x = is_some (entry_of qs x)

abbrev pub with_entry : Queues → Obj → QueueEntry → Queues
with_entry qs x entry = record qs { entries = put nat_cmp x.0 entry qs.entries }

abbrev pub without_entry : Queues → Obj → Queues
without_entry qs x = record qs { entries = filter (λ e. not (eq_by_cmp nat_cmp x.0 e.0)) qs.entries }

-- the entries of a queue, the first in front
abbrev pub entries_in : List (ℕ × QueueEntry) → Obj → List Obj
entries_in [] q = []
entries_in (e ∷ es) q = if same e.1.queue q then record { 0 = e.0 } ∷ entries_in es q else entries_in es q

abbrev pub length_of : Queues → Obj → ℕ
length_of qs q = length (entries_in qs.entries q)

abbrev pub new_entry : Obj → Obj → Handler → QueueEntry
new_entry q x trigger = record { queue = q; request = x; trigger = trigger; triggered = false }

-- ---- whose turn it is

-- the first entry of a queue, and the object that it is
pub record Head : Type 0 where
  pub object : Obj
  pub entry : QueueEntry

abbrev pub head_in : List (ℕ × QueueEntry) → Obj → Option Head
head_in [] q = None
head_in (e ∷ es) q = if same e.1.queue q then Some (record { object = record { 0 = e.0 }; entry = e.1 }) else head_in es q

abbrev pub head_of : Queues → Obj → Option Head
head_of qs q = head_in qs.entries q

abbrev pub has_entries : Queues → Obj → Bool
has_entries qs q = is_some (head_of qs q)

abbrev pub untriggered : Option Head → Option Head
untriggered None = None
untriggered (Some h) = if h.entry.triggered then None else Some h

-- the first entry of a queue that runs, where its trigger hasn't begun
abbrev pub next_of : Queues → Obj → Option Head
next_of qs q = if runs qs q then untriggered (head_of qs q) else None

-- its trigger begins
abbrev pub triggered_entry : QueueEntry → QueueEntry
triggered_entry e = record e { triggered = true }

abbrev pub triggered : Queues → Head → Queues
triggered qs h = with_entry qs h.object (triggered_entry h.entry)
