-- What holds of the lanes, in other words and with other nodes.
use Rattle.std.proofs.Common.{◌≡◌, ℕ, true, nat_eq, List, Option, None, refl, sym, ap, subst, ◌∙◌}
use Rattle.std.proofs.lemmas.Bool.{eqb-true}
use Rattle.linked_lanes.specs.declared.Sides.{Sides}
use Rattle.linked_lanes.specs.declared.lane.Extent.{Extent}
use Rattle.linked_lanes.specs.Lane.{has}
use Rattle.linked_lanes.specs.Family.{Family}
use Rattle.linked_lanes.proofs.Lanes.{by_test, without-absent}
use Rattle.linked_lanes.proofs.Chains.{kept_chain}
use Rattle.linked_lanes.proofs.Families.{stands_nowhere}
use Rattle.pool_arena.specs.Arena.{Held}
use Rattle.std.specs.FinMap as map
use Rattle.fd_events.specs.declared.node.Node.{Node}
use Rattle.fd_events.specs.declared.lane.Lane.{Lane}
use Rattle.fd_events.specs.Linked.{sides_at, stamp_at, placed, lanes_joined, lanes_left, FallFrom, IsLane}
use Rattle.fd_events.proofs.Stamps.{fall-same}

-- the neighbours of those that stand in a lane are the same
pub family-nodes : (K : ℕ → Option ℕ) (C C' : ℕ → Option Sides) (E : ℕ → Option Extent) (F : ℕ → List ℕ) → ((c q : ℕ) → has (F c) q ≡ true → C' q ≡ C q) → Family K C E F → Family K C' E F
family-nodes K C C' E F same f = record {
  distinct = f.distinct;
  member = f.member;
  told = λ c e is. let t = f.told c e is in record {
    chain = kept_chain C C' e.newest (F c) (same c) t.chain;
    at_last = t.at_last;
    count = t.count;
  };
  known = f.known;
}

pub family-is : (K K' : ℕ → Option ℕ) (C : ℕ → Option Sides) (E : ℕ → Option Extent) (F F' : ℕ → List ℕ) → ((q : ℕ) → K' q ≡ K q) → ((c : ℕ) → F' c ≡ F c) → Family K C E F → Family K' C E F'
family-is K K' C E F F' k l f =
    let e : K' ≡ K = λ i q. k q i in
    let g : F' ≡ F = λ i c. l c i in
    subst (λ (M : ℕ → Option ℕ). Family M C E F') (sym e) (subst (λ (G : ℕ → List ℕ). Family K C E G) (sym g) f)

pub lane-is : (l : Lane) (K K' : ℕ → Option ℕ) (F F' : ℕ → List ℕ) → ((q : ℕ) → K' q ≡ K q) → ((c : ℕ) → F' c ≡ F c) → IsLane l K F → IsLane l K' F'
lane-is l K K' F F' k e s = record {
  family = family-is K K' (sides_at l.nodes.pairs) (map.get l.ends.lanes) F F' k e s.family;
  stamps = λ b c. subst (FallFrom (stamp_at l.nodes.pairs) l.next_stamp) (sym (e c)) (s.stamps b c);
}

-- other nodes that have the same places
pub lane-nodes : (l : Lane) (n : Held Node) (K : ℕ → Option ℕ) (F : ℕ → List ℕ) → ((c q : ℕ) → has (F c) q ≡ true → sides_at n.pairs q ≡ sides_at l.nodes.pairs q)
    → ((c q : ℕ) → has (F c) q ≡ true → stamp_at n.pairs q ≡ stamp_at l.nodes.pairs q) → IsLane l K F → IsLane (record l { nodes = n }) K F
lane-nodes l n K F sides stamps s = record {
  family = family-nodes K (sides_at l.nodes.pairs) (sides_at n.pairs) (map.get l.ends.lanes) F sides s.family;
  stamps = λ b c. fall-same (stamp_at l.nodes.pairs) (stamp_at n.pairs) l.next_stamp (F c) (stamps c) (s.stamps b c);
}

-- one that stands nowhere leaves, and one joins no lane
pub lane-out : (l : Lane) (K : ℕ → Option ℕ) (F : ℕ → List ℕ) (x : ℕ) → K x ≡ None → IsLane l K F → IsLane l (placed K x None) (lanes_left F x)
lane-out l K F x out s = lane-is l K (placed K x None) F (lanes_left F x)
    (λ q. by_test (nat_eq x q) (λ t. rw t (sym (ap K (sym (eqb-true x q t)) ∙ out))) (λ t. rw t refl))
    (λ c. without-absent (F c) x (stands_nowhere K (sides_at l.nodes.pairs) (map.get l.ends.lanes) F s.family c x out)) s

pub lane-nowhere : (l : Lane) (K : ℕ → Option ℕ) (F : ℕ → List ℕ) (x : ℕ) → K x ≡ None → IsLane l K F → IsLane l (placed K x None) (lanes_joined F x None)
lane-nowhere l K F x out s = lane-is l K (placed K x None) F (lanes_joined F x None)
    (λ q. by_test (nat_eq x q) (λ t. rw t (sym (ap K (sym (eqb-true x q t)) ∙ out))) (λ t. rw t refl))
    (λ c. refl) s
