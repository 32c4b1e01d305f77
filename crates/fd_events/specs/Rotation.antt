-- The rotation as its callers see it.
use Rattle.std.specs.Prelude.{◌≡◌, ℕ, false, nat_eq, is_some, List, [], ◌∷◌}
use Rattle.std.specs.List.{find}
use Rattle.std.specs.Option.{option_map}
use Rattle.tree_specs.specs.declared.object.Obj.{Obj}
use Rattle.tree_specs.specs.declared.watch.Watch.{Watch}
use Rattle.tree_specs.specs.Events.Rotation.{Ready, watch_of, unwatched, behind_all, lost}
use Rattle.fd_events.specs.declared.ready.ReadyEvent.{ReadyEvent}

pub record Rotation : Type 0 where
  -- the events of all contexts, so that the one of each that is looked at first stands before the others of it
  pub watches : List Watch
  -- the contexts beside the first one
  pub contexts : List Obj
  -- so many can be added without taking memory
  pub spare : ℕ
  -- so many contexts
  pub contexts_spare : ℕ

-- no two have the same of this
abbrev pub AreOnceBy : (Watch → ℕ) → List Watch → Type 0
AreOnceBy key [] = Unit {0}
AreOnceBy key (w ∷ ws) = (is_some (find (λ v. nat_eq (key v) (key w)) ws) ≡ false) × AreOnceBy key ws

-- each event watches once
abbrev pub AreEventsOnce : List Watch → Type 0
AreEventsOnce ws = AreOnceBy (λ w. w.object.0) ws

-- each descriptor is watched once
abbrev pub AreDescriptorsOnce : List Watch → Type 0
AreDescriptorsOnce ws = AreOnceBy (λ w. w.fd) ws

-- the event that comes, as a program has it
abbrev pub ready_event : Ready → ReadyEvent
ready_event r = record { object = r.object; flags = r.flags }

abbrev pub object_of : Watch → Obj
object_of w = w.object

-- one event is lost, behind all that is there
abbrev pub lost_one : List Watch → Obj → List Watch
lost_one ws x = behind_all (unwatched ws x) (option_map lost (watch_of ws x))
