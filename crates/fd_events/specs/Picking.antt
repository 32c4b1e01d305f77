-- The first event that comes, as it is found from the descriptors that are ready.
use Rattle.std.specs.Prelude.{ℕ, nat_eq, nat_lt, bit_and, length, ◌≡◌, ◌≤◌, List, Option, Some, None, if◌then◌else◌}
use Rattle.std.specs.Option.{option_map, option_and_then}
use Rattle.std.specs.Ordering.{nat_cmp}
use Rattle.std.specs.FinMap as map
use Rattle.tree_specs.specs.declared.object.Obj.{Obj}
use Rattle.tree_specs.specs.declared.watch.Watch.{Watch}
use Rattle.tree_specs.specs.Words.Objects.{is_same}
use Rattle.tree_specs.specs.declared.wants.Want.{Want}
use Rattle.tree_specs.specs.Events.Rotation.{first_ready}
use Rattle.fd_events.specs.declared.node.Node.{Node}
use Rattle.fd_events.specs.declared.coming.Coming.{Coming}
use Rattle.fd_events.specs.declared.ready.ReadyEvent.{ReadyEvent}
use Rattle.fd_events.specs.declared.ring.picking.Walked.{Walked}
use Rattle.fd_events.specs.declared.ring.picking.Walked.TheVariants.{Met, Ended, Stopped}
use Rattle.fd_events.specs.Rotation.{ready_event}
use Rattle.fd_events.specs.Linked.{watching}

-- one that watches so, where its descriptor is ready for these flags
abbrev pub ready_by : Watch → ℕ → Option ReadyEvent
ready_by w flags =
    if nat_eq (bit_and w.flags flags) 0 then None
    else Some (record { object = w.object; flags = bit_and w.flags flags })

abbrev pub stamped : ℕ → ReadyEvent → Coming
stamped stamp e = record { stamp = stamp; event = e }

-- the event of this number, where its descriptor is ready for these flags
abbrev pub coming_by : ℕ → ℕ → Node → Option Coming
coming_by flags x v = option_map (stamped v.stamp) (ready_by (watching x v) flags)

-- the same, if it is an event of this context
abbrev pub coming_in : Obj → ℕ → ℕ → Node → Option Coming
coming_in c flags x v = if is_same v.context c then coming_by flags x v else None

-- the event of this context that watches this descriptor
abbrev pub coming_for : map.FinMap nat_cmp Node → map.FinMap nat_cmp ℕ → Obj → Want → Option Coming
coming_for nodes holders c v = option_and_then (λ x. option_and_then (coming_in c v.flags x) (map.get nodes x)) (map.get holders v.fd)

-- the one that has the lesser stamp
abbrev pub sooner : Option Coming → Option Coming → Option Coming
sooner None d = d
sooner (Some c) None = Some c
sooner (Some c) (Some d) = if nat_lt d.stamp c.stamp then Some d else Some c

-- ---- a walk

abbrev pub first_event : List Watch → List Want → Option ReadyEvent
first_event ws ready = option_map ready_event (first_ready ws ready)

-- what a walk of n steps tells
abbrev pub IsWalked : List Watch → List Want → ℕ → Walked → Type 0
IsWalked ws ready n (Met e) = Some e ≡ first_event ws ready
IsWalked ws ready n Ended = None ≡ first_event ws ready
IsWalked ws ready n Stopped = length ws ≤ n → None ≡ first_event ws ready

abbrev pub met : Walked → Option ReadyEvent
met (Met e) = Some e
met Ended = None
met Stopped = None
