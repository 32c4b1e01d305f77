use Rattle.std.proofs.Common.{slice_get, sym, ap, ◌∙◌}
use Rattle.std.specs.Option.{option_map}
use Rattle.tree_specs.specs.Events.Rotation.{ring_in}
use Rattle.fd_events.specs.Rotation.{Rotation, object_of}
use Rattle.fd_events.specs.Linked.{from_on}
use Rattle.fd_events.proofs.Losing.{from-first}
use Rattle.fd_events.proofs.Places.{oldest-none, oldest-some}
use Rattle.fd_events.proofs.ring.Ring.oldest.Goals as goal

pub returns-in-None-clause-next : goal.returns-in-None-clause-next
returns-in-None-clause-next c =
    oldest-none c.self.inside.lane c.self.inside.holders.pairs _ _ c.self.invariant c.args.c (sym c.get.ensures ∙ c.in-None.is)
    ∙ ap (λ (r : Rotation). option_map object_of (slice_get (ring_in r.watches c.args.c) 0)) c.self.view_is

pub returns-in-None-clause-all : goal.returns-in-None-clause-all
returns-in-None-clause-all c = ap (from_on (ring_in c.args.self.now.watches c.args.c)) (returns-in-None-clause-next c) ∙ from-first (ring_in c.args.self.now.watches c.args.c)

pub returns-in-Some-clause-next : goal.returns-in-Some-clause-next
returns-in-Some-clause-next c =
    c.obj.ensures ∙ oldest-some c.self.inside.lane c.self.inside.holders.pairs _ _ c.self.invariant c.args.c c.in-Some.ends (sym c.get.ensures ∙ c.in-Some.is)
    ∙ ap (λ (r : Rotation). option_map object_of (slice_get (ring_in r.watches c.args.c) 0)) c.self.view_is

pub returns-in-Some-clause-all : goal.returns-in-Some-clause-all
returns-in-Some-clause-all c = ap (from_on (ring_in c.args.self.now.watches c.args.c)) (returns-in-Some-clause-next c) ∙ from-first (ring_in c.args.self.now.watches c.args.c)
