-- What the fields tell of the events of a context whose descriptors are ready.
use Rattle.std.proofs.Common.{◌≡◌, ℕ, suc, ◌<◌, true, nat_eq, List, [], length, take, get_or, Option, Some, None, refl, sym, ap, subst, ◌∙◌}
use Rattle.std.specs.List.{find}
use Rattle.std.specs.Option.{option_map, option_and_then}
use Rattle.std.specs.FinMap as map
use Rattle.std.proofs.lemmas.List.{append-nil}
use Rattle.tree_specs.specs.declared.object.Obj.{Obj}
use Rattle.tree_specs.specs.declared.watch.Watch.{Watch}
use Rattle.tree_specs.specs.declared.wants.Want.{Want}
use Rattle.tree_specs.specs.Words.Objects.{is_same}
use Rattle.tree_specs.specs.Words.Wants.{rises}
use Rattle.tree_specs.specs.Events.Rotation.{ready_for, ring_in}
use Rattle.linked_lanes.proofs.Lanes.{by_test}
use Rattle.fd_events.specs.declared.node.Node.{Node}
use Rattle.fd_events.specs.declared.lane.Lane.{Lane}
use Rattle.fd_events.specs.Rotation.{object_of}
use Rattle.fd_events.specs.Linked.{numbered, stamp_of, stamp_at, watch_at, watching, numbers_of, HasStampsLeft, IsKept}
use Rattle.fd_events.specs.Picking.{ready_by, stamped, coming_in, coming_for, sooner}
use Rattle.fd_events.proofs.Holding.{kept_if, found-kept, once-filtered, holder-watch, watch-object}
use Rattle.fd_events.proofs.Rings.{watch_in, listed-numbers}
use Rattle.fd_events.proofs.Stamps.{RiseFrom, or_zero, stamp_in, fall-rise}
use Rattle.fd_events.proofs.Keeping.{Holders}
use Rattle.fd_events.proofs.Growing.{new-one, one-more-ready}
use Rattle.fd_events.proofs.Soonest.{one_coming, first_coming, one-more}

abbrev pub stamp_by : Lane → Watch → ℕ
stamp_by l w = stamp_in (stamp_at l.nodes.pairs) w

module _ (l : Lane) (h : Holders) (ws : List Watch) (cs : List Obj) (k : IsKept l h ws cs) (c : Obj) where
  rise-kept : HasStampsLeft l → RiseFrom (stamp_by l) 0 (ring_in ws c)
  rise-kept b =
      subst (RiseFrom (stamp_by l) 0)
      (append-nil _ ∙ listed-numbers (ring_in ws c) (once-filtered (λ (w : Watch). w.object.0) (λ w. is_same w.context c) ws k.once))
      (fall-rise (watch_in (ring_in ws c)) (stamp_at l.nodes.pairs) (λ q w e. watch-object (ring_in ws c) (numbered q) w e) l.next_stamp (numbers_of (ring_in ws c)) [] (k.lane.stamps b c.0) tt)

  own-watch : (fd : ℕ) (w : Watch) → find (λ v. nat_eq v.fd fd) ws ≡ Some w → watch_at l.nodes.pairs w.object.0 ≡ Some w
  own-watch fd w e = k.held w.object.0 ∙ holder-watch ws fd w k.once e

  module _ (flags : ℕ) where
    own-coming : (x : ℕ) (w : Watch) → watch_at l.nodes.pairs x ≡ Some w → option_and_then (coming_in c flags x) (map.get l.nodes.pairs x) ≡ one_coming (stamp_by l) flags (kept_if (λ v. is_same v.context c) (Some w))
    own-coming x w e = go (map.get l.nodes.pairs x) refl e
      where
        go : (o : Option Node) → map.get l.nodes.pairs x ≡ o → option_map (watching x) o ≡ Some w → option_and_then (coming_in c flags x) o ≡ one_coming (stamp_by l) flags (kept_if (λ v. is_same v.context c) (Some w))
        go None n f = cc
        go (Some v) n f =
            let is : watching x v ≡ w = cc in
            let s : v.stamp ≡ stamp_by l w = sym (ap (λ (z : Watch). stamp_by l z) (sym is) ∙ ap (λ o. or_zero (option_map stamp_of o)) n) in
            let here : is_same v.context c ≡ is_same w.context c = ap (λ (z : Watch). is_same z.context c) is in
            by_test (is_same w.context c)
            (λ t. rw (here ∙ t, t) (λ i. option_map (stamped (s i)) (ready_by (is i) flags)))
            (λ t. rw (here ∙ t, t) refl)

    holder-coming : (a : Option ℕ) (b : Option Watch) → option_map numbered a ≡ option_map object_of b → ((w : Watch) → b ≡ Some w → watch_at l.nodes.pairs w.object.0 ≡ Some w)
        → option_and_then (λ x. option_and_then (coming_in c flags x) (map.get l.nodes.pairs x)) a ≡ one_coming (stamp_by l) flags (kept_if (λ v. is_same v.context c) b)
    holder-coming None None e own = refl
    holder-coming None (Some w) e own = cc
    holder-coming (Some x) None e own = cc
    holder-coming (Some x) (Some w) e own =
        let is : numbered x ≡ w.object = cc in
        ap (λ (y : Obj). option_and_then (coming_in c flags y.0) (map.get l.nodes.pairs y.0)) is ∙ own-coming w.object.0 w (own w refl)

  coming-kept : (v : Want) → coming_for l.nodes.pairs h c v ≡ one_coming (stamp_by l) v.flags (find (λ w. nat_eq w.fd v.fd) (ring_in ws c))
  coming-kept v = holder-coming v.flags (map.get h v.fd) _ (k.noted.holder v.fd) (own-watch v.fd)
      ∙ ap (one_coming (stamp_by l) v.flags) (sym (found-kept (λ (w : Watch). w.fd) (λ w. is_same w.context c) ws v.fd k.noted.once))

  -- the first that comes, once one more descriptor is looked at
  pub one-more-kept : HasStampsLeft l → (vs : List Want) (i : ℕ) (d : Want) → rises vs ≡ true → i < length vs
      → first_coming (stamp_by l) (ready_for (take (suc i) vs)) (ring_in ws c)
      ≡ sooner (first_coming (stamp_by l) (ready_for (take i vs)) (ring_in ws c)) (coming_for l.nodes.pairs h c (get_or vs i d))
  one-more-kept b vs i d e m =
      let v : Want = get_or vs i d in
      one-more (stamp_by l) (ready_for (take i vs)) (ready_for (take (suc i) vs)) v.fd v.flags (one-more-ready d vs i e m) (new-one d vs i e m) 0 (ring_in ws c)
      (once-filtered (λ (w : Watch). w.fd) (λ w. is_same w.context c) ws k.noted.once) (rise-kept b)
      ∙ ap (sooner (first_coming (stamp_by l) (ready_for (take i vs)) (ring_in ws c))) (sym (coming-kept v))
