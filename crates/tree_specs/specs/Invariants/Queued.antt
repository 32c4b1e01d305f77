-- What holds of queues at every moment, and of the works that free their entries.
use Rattle.std.specs.Prelude.{◌≡◌, ◌⊎◌, ℕ, Bool, true, false, not, ◌&&◌, ◌||◌, List, [], ◌∷◌, Option, Some, None}
use Rattle.tree_specs.specs.declared.object.Obj.{Obj}
use Rattle.tree_specs.specs.declared.object.Owner.TheVariants.{Of}
use Rattle.tree_specs.specs.declared.row.Row.{Row}
use Rattle.tree_specs.specs.declared.row.Mark.TheVariants.{Quiet}
use Rattle.tree_specs.specs.declared.queue.QueueEntry.{QueueEntry}
use Rattle.tree_specs.specs.declared.free_step.FreeReply.{FreeReply}
use Rattle.tree_specs.specs.declared.free_step.FreeReply.TheVariants.{Ok}
use Rattle.tree_specs.specs.declared.frame.Frame.{Frame}
use Rattle.tree_specs.specs.declared.frame.Frame.TheVariants as frame
use Rattle.tree_specs.specs.declared.frame.FreeFrame.TheVariants.{Giving, Draining, Dooming, Leaving, FreeingChild, AfterChild, Ending}
use Rattle.tree_specs.specs.declared.frame.RequestFrame.TheVariants as request
use Rattle.tree_specs.specs.Words.Objects.{same}
use Rattle.tree_specs.specs.Tree.Pool.{Pool, row_of, passes, is_dying_mark}
use Rattle.tree_specs.specs.Events.Queues.{has_queue, entry_of, is_entered, has_entries}
use Rattle.tree_specs.specs.Calls.Refusals.{is_entry, is_request_row, is_queue_row}
use Rattle.tree_specs.specs.Machine.Profiles.{free_profile}
use Rattle.tree_specs.specs.Invariants.Sound.{Footing, OnFree, phases, footing}

-- ---- entries

-- an entry that is a child of this request, and with which nothing goes on; it has no destructor
abbrev pub IsEntryRow : Obj → Option Row → Type 0
IsEntryRow x None = ⊥
IsEntryRow x (Some r) = (is_entry r.kind ≡ true) × (r.mark ≡ Quiet) × (r.hook ≡ 0) × (r.owner ≡ Some (Of x))

-- an entry in a queue is a child of its request
pub record IsQueued (p : Pool) (x : Obj) (e : QueueEntry) : Type 0 where
  pub entry : IsEntryRow e.request (row_of p.rows x)
  pub request : is_request_row (row_of p.rows e.request) ≡ true
  pub queue : is_queue_row (row_of p.rows e.queue) ≡ true

abbrev pub AllQueued : Pool → List (ℕ × QueueEntry) → Type 0
AllQueued p [] = Unit {0}
AllQueued p (e ∷ es) = IsQueued p (record { 0 = e.0 }) e.1 × AllQueued p es

abbrev pub AreQueued : Pool → Type 0
AreQueued p = AllQueued p p.queues.entries

-- an entry that isn't being freed
abbrev pub is_live_entry : Option Row → Bool
is_live_entry o = passes (λ r. is_entry r.kind && not (is_dying_mark r.mark)) o

-- ---- queues

-- the entries of a queue are being freed, by the works
abbrev pub drains : Obj → List Frame → Bool
drains q [] = false
drains q (frame.Free (Draining x) ∷ fs) = same x q || drains q fs
drains q (_ ∷ fs) = drains q fs

pub record QueuesHold (fs : List Frame) (p : Pool) : Type 0 where
  -- what is kept is kept of queues, and of each of them
  pub queues : (x : Obj) → has_queue p.queues x ≡ is_queue_row (row_of p.rows x)
  -- each entry that isn't being freed stands once in a queue, and no other does
  pub entries : (x : Obj) → is_entered p.queues x ≡ is_live_entry (row_of p.rows x)
  pub waiting : AreQueued p
  -- nothing goes on with a queue that has entries, but that these are freed
  pub idle : (q : Obj) → has_entries p.queues q ≡ true → (phases (row_of p.rows q) ≡ []) ⊎ (drains q fs ≡ true)

-- ---- what the innermost work rests on

-- a child that wasn't freed is no entry
abbrev pub IsNoEntry : FreeReply → Obj → Pool → Type 0
IsNoEntry Ok c p = Unit {0}
IsNoEntry answer c p = entry_of p.queues c ≡ None

abbrev pub EndsFor : FreeReply → Footing → Pool → Type 0
EndsFor answer (OnFree (FreeingChild x c noted purpose)) p = IsNoEntry answer c p
EndsFor answer on p = Unit {0}

-- a queue has no entries once they are freed
abbrev pub OverFor : Footing → Pool → Type 0
OverFor (OnFree (Draining x)) p = has_entries p.queues x ≡ false
OverFor on p = Unit {0}

abbrev pub RestsQueued : Frame → List Frame → Pool → Type 0
RestsQueued (frame.Free (Giving x o)) fs p = entry_of p.queues x ≡ None
RestsQueued (frame.Free (Dooming x)) fs p = entry_of p.queues x ≡ None
RestsQueued (frame.Free (Leaving x h)) fs p = has_entries p.queues x ≡ false
RestsQueued (frame.Free (AfterChild x c noted purpose answer)) fs p = IsNoEntry answer c p
RestsQueued (frame.Free (Ending answer)) fs p = EndsFor answer (footing fs) p
RestsQueued (frame.Request (request.Over r)) fs p = OverFor (footing fs) p
RestsQueued f fs p = Unit {0}

-- ---- works

abbrev pub IsThat : Option Obj → Obj → Type 0
IsThat None c = Unit {0}
IsThat (Some x) c = x ≡ c

-- a free that a loop waits for is that of the child
abbrev pub IsOfChild : Frame → Footing → Type 0
IsOfChild (frame.Free f) (OnFree (FreeingChild x c noted purpose)) = IsThat (free_profile f).role c
IsOfChild f on = Unit {0}

abbrev pub AreOfChildren : List Frame → Type 0
AreOfChildren [] = Unit {0}
AreOfChildren (f ∷ fs) = IsOfChild f (footing fs) × AreOfChildren fs

pub record Queued (f : Frame) (fs : List Frame) (p : Pool) : Type 0 where
  pub pool : QueuesHold (f ∷ fs) p
  pub works : RestsQueued f fs p
  pub frees : AreOfChildren (f ∷ fs)
