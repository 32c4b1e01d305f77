-- The rotation of one context, as the fields tell it.
use Rattle.std.proofs.Common.{◌≡◌, ℕ, true, false, List, [], ◌∷◌, length, Option, Some, None, is_some, slice_get, refl, sym, ap, ◌∙◌}
use Rattle.std.specs.Option.{option_map}
use Rattle.std.proofs.lemmas.Bool.{eqb-true}
use Rattle.std.specs.FinMap as map
use Rattle.tree_specs.specs.declared.object.Obj.{Obj}
use Rattle.tree_specs.specs.declared.watch.Watch.{Watch}
use Rattle.tree_specs.specs.Words.Objects.{is_same}
use Rattle.tree_specs.specs.Events.Rotation.{watch_of, ring_in}
use Rattle.linked_lanes.specs.declared.Sides.{Sides}
use Rattle.linked_lanes.specs.declared.lane.Extent.{Extent}
use Rattle.linked_lanes.specs.Lane.{has, last}
use Rattle.linked_lanes.proofs.Families.{unknown-empty, found-sides}
use Rattle.fd_events.specs.declared.node.Node.{Node}
use Rattle.fd_events.specs.declared.lane.Lane.{Lane}
use Rattle.fd_events.specs.Rotation.{object_of, AreEventsOnce}
use Rattle.fd_events.specs.Linked.{numbered, number_of, watching, sides_at, context_in, numbers_of, lane_in, from_on, IsKept}
use Rattle.fd_events.proofs.Holding.{kept_if, found-kept, once-filtered, watch-object}
use Rattle.fd_events.proofs.Rings.{watch_in, has-numbers, last-numbers, listed-numbers, numbers-length}
use Rattle.fd_events.proofs.Walking.{from-one, from-none}
use Rattle.fd_events.proofs.Keeping.{Holders, some-from, watch-there, context-there, sides-there}

in-context : (o : Option Obj) (c : Obj) → is_same o c ≡ true → option_map number_of o ≡ Some c.0
in-context None c e = cc
in-context (Some d) c e = ap Some (eqb-true d.0 c.0 e)

module _ (l : Lane) (h : Holders) (ws : List Watch) (cs : List Obj) (k : IsKept l h ws cs) (c : Obj) where
  pub ring-once : AreEventsOnce (ring_in ws c)
  ring-once = once-filtered (λ (w : Watch). w.object.0) (λ w. is_same w.context c) ws k.once

  -- no ends are known of this context
  pub ends-none : map.get l.ends.lanes c.0 ≡ None → lane_in ws c.0 ≡ []
  ends-none e = unknown-empty (context_in ws) (sides_at l.nodes.pairs) (map.get l.ends.lanes) (lane_in ws) k.lane.family c.0 e

  pub oldest-none : map.get l.ends.lanes c.0 ≡ None → None ≡ option_map object_of (slice_get (ring_in ws c) 0)
  oldest-none e = ap (λ (xs : List ℕ). option_map numbered (last xs)) (sym (ends-none e)) ∙ last-numbers (ring_in ws c)

  pub oldest-some : (e : Extent) → map.get l.ends.lanes c.0 ≡ Some e → option_map numbered e.oldest ≡ option_map object_of (slice_get (ring_in ws c) 0)
  oldest-some e at = ap (option_map numbered) (k.lane.family.told c.0 e at).at_last ∙ last-numbers (ring_in ws c)

  pub length-none : map.get l.ends.lanes c.0 ≡ None → 0 ≡ length (ring_in ws c)
  length-none e = ap (λ (xs : List ℕ). length xs) (sym (ends-none e)) ∙ numbers-length (ring_in ws c)

  pub length-some : (e : Extent) → map.get l.ends.lanes c.0 ≡ Some e → e.count ≡ length (ring_in ws c)
  length-some e at = (k.lane.family.told c.0 e at).count ∙ numbers-length (ring_in ws c)

  module _ (x : Obj) where
    tells : (q : ℕ) (w : Watch) → watch_in (ring_in ws c) q ≡ Some w → w.object ≡ numbered q
    tells q w e = watch-object (ring_in ws c) (numbered q) w e

    there : (q : ℕ) → is_some (watch_in (ring_in ws c) q) ≡ has (numbers_of (ring_in ws c)) q
    there q = sym (has-numbers (ring_in ws c) q)

    watch-here : watch_of (ring_in ws c) x ≡ kept_if (λ w. is_same w.context c) (watch_of ws x)
    watch-here = found-kept (λ (w : Watch). w.object.0) (λ w. is_same w.context c) ws x.0 k.once

    nowhere : watch_of (ring_in ws c) x ≡ None → from_on (ring_in ws c) (Some x) ≡ []
    nowhere e = from-none (watch_in (ring_in ws c)) tells (numbers_of (ring_in ws c)) (ring_in ws c) (listed-numbers (ring_in ws c) ring-once) there x.0 e

    pub place-none : map.get l.nodes.pairs x.0 ≡ None → from_on (ring_in ws c) (Some x) ≡ []
    place-none e = nowhere (watch-here ∙ ap (kept_if (λ w. is_same w.context c)) (sym (k.held x.0) ∙ ap (option_map (watching x.0)) e))

    module _ (v : Node) (found : map.get l.nodes.pairs x.0 ≡ Some v) where
      kept : watch_of (ring_in ws c) x ≡ kept_if (λ w. is_same w.context c) (Some (watching x.0 v))
      kept = watch-here ∙ ap (kept_if (λ w. is_same w.context c)) (watch-there l h ws cs k x v found)

      pub place-other : is_same v.context c ≡ false → from_on (ring_in ws c) (Some x) ≡ []
      place-other t = nowhere (kept ∙ rw t refl)

      pub place-some : is_same v.context c ≡ true → from_on (ring_in ws c) (Some x) ≡ watching x.0 v ∷ from_on (ring_in ws c) (option_map numbered v.sides.newer)
      place-some t =
          let within : context_in ws x.0 ≡ Some c.0 = context-there l h ws cs k x v found ∙ in-context v.context c t in
          let p = some-from (map.get l.ends.lanes c.0) (k.lane.family.known c.0 x.0 within) in
          let s = found-sides (context_in ws) (sides_at l.nodes.pairs) (map.get l.ends.lanes) (lane_in ws) k.lane.family x.0 c.0 v.sides p.0 within (sides-there l h ws cs k x v found) p.1 in
          from-one (watch_in (ring_in ws c)) tells (numbers_of (ring_in ws c)) (ring_in ws c) (listed-numbers (ring_in ws c) ring-once) there x.0 (watching x.0 v)
          (k.lane.family.distinct c.0) (kept ∙ rw t refl)
          ∙ ap (λ (s : Sides). watching x.0 v ∷ from_on (ring_in ws c) (option_map numbered s.newer)) (sym s)
