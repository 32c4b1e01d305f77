-- What leaving a lane in place and joining it leave of all lanes.
use Rattle.std.proofs.Common.{◌≡◌, ℕ, ◌-◌, ◌^◌, ◌<◌, Bool, true, false, cond, nat_eq, List, Option, Some, None, is_some, refl, sym, ap, ◌∙◌, arith}
use Rattle.std.proofs.lemmas.Bool.{eqb-true}
use Rattle.std.specs.Option.{option_map}
use Rattle.std.specs.FinMap as map
use Rattle.pool_arena.specs.Arena.{Held}
use Rattle.pool_arena.proofs.Keeps.{get-with_entry}
use Rattle.linked_lanes.specs.declared.Sides.{Sides}
use Rattle.linked_lanes.specs.declared.lane.Extent.{Extent}
use Rattle.linked_lanes.specs.declared.Link.TheVariants.{Newer, Older}
use Rattle.linked_lanes.specs.Lane.{has, is_at, without}
use Rattle.linked_lanes.specs.Chain.{noted}
use Rattle.linked_lanes.specs.Family.{Family, joined_by, left_by}
use Rattle.linked_lanes.proofs.Lanes.{by_test, not_both, false_by}
use Rattle.linked_lanes.proofs.Chains.{newer_as, older_as, stays}
use Rattle.linked_lanes.proofs.Families.{left-family, joined-family, stands_nowhere}
use Rattle.lane_ends.specs.Lanes.{Ends, Lanes}
use Rattle.fd_events.specs.declared.node.Node.{Node}
use Rattle.fd_events.specs.declared.lane.Lane.{Lane}
use Rattle.fd_events.specs.Linked.{sides_at, stamp_at, is_there, placed, lanes_joined, lanes_left, FallFrom, IsLane}
use Rattle.fd_events.proofs.Nodes.{there-sides, there-stamp}
use Rattle.fd_events.proofs.Stamps.{fall-below, fall-same, fall-without, fall-joined}
use Rattle.fd_events.proofs.Lanes.{family-nodes}

-- the same lanes are there once the ends of one are set
pub open-set : (m m' : Lanes) (c : ℕ) (e : Extent) → is_some (map.get m c) ≡ true → m' ≡ map.insert m c e → (d : ℕ) → is_some (map.get m' d) ≡ is_some (map.get m d)
open-set m m' c e known set d = ap (λ (n : Lanes). is_some (map.get n d)) set ∙ ap is_some (get-with_entry m c (Some e) d) ∙ by_test (nat_eq c d)
    (λ t. rw t (sym (ap (λ (k : ℕ). is_some (map.get m k)) (sym (eqb-true c d t)) ∙ known)))
    (λ t. rw t refl)

-- the neighbours of one that joins, where this is the newest
abbrev pub alone : Option ℕ → Sides
alone o = record { newer = None; older = o }

abbrev at_other : Option ℕ → (Sides → Sides) → (ℕ → Option Sides) → ℕ → Option Sides
at_other o f C q = cond (is_at o q) (option_map f (C q)) (C q)

module _ (l : Lane) (n : Held Node) (ends : Ends) (K : ℕ → Option ℕ) (F : ℕ → List ℕ) (k : IsLane l K F) (x c : ℕ) (s : Sides) (e : Extent)
    (within : K x ≡ Some c) (found : sides_at l.nodes.pairs x ≡ Some s) (at : map.get l.ends.lanes c ≡ Some e) (N : ℕ → Option Sides)
    (olders : (q : ℕ) → N q ≡ at_other s.newer (noted (Older s.older)) (sides_at l.nodes.pairs) q)
    (newers : (q : ℕ) → sides_at n.pairs q ≡ at_other s.older (noted (Newer s.newer)) N q)
    (stamps : (q : ℕ) → stamp_at n.pairs q ≡ stamp_at l.nodes.pairs q)
    (set : ends.lanes ≡ map.insert l.ends.lanes c (left_by s e)) where
  abbrev C : ℕ → Option Sides
  C = sides_at l.nodes.pairs

  -- the neighbours if nothing were noted any more of the one that leaves
  abbrev N1 : ℕ → Option Sides
  N1 q = cond (nat_eq x q) None (C q)

  abbrev N2 : ℕ → Option Sides
  N2 q = at_other s.newer (older_as s.older) N1 q

  abbrev N3 : ℕ → Option Sides
  N3 q = at_other s.older (newer_as s.newer) N2 q

  left : (d : ℕ) → map.get ends.lanes d ≡ cond (nat_eq c d) (Some (left_by s e)) (map.get l.ends.lanes d)
  left d = ap (λ (m : Lanes). map.get m d) set ∙ get-with_entry l.ends.lanes c (Some (left_by s e)) d

  virtual : Family (placed K x None) N3 (map.get ends.lanes) (lanes_left F x)
  virtual = left-family K C (map.get l.ends.lanes) F k.family x c s e within found at (placed K x None) N1 N2 N3 (map.get ends.lanes) (λ q. refl) (λ q. refl) (λ q. refl) (λ q. refl) left

  others : (q : ℕ) → nat_eq x q ≡ false → sides_at n.pairs q ≡ N3 q
  others q t =
      let one : C q ≡ N1 q = rw t refl in
      newers q ∙ ap (λ (o : Option Sides). cond (is_at s.older q) (option_map (newer_as s.newer) o) o)
      (olders q ∙ ap (λ (o : Option Sides). cond (is_at s.newer q) (option_map (older_as s.older) o) o) one)

  pub leaves : IsLane (record l { nodes = n; ends = ends }) (placed K x None) (lanes_left F x)
  leaves = record {
    family = family-nodes (placed K x None) N3 (sides_at n.pairs) (map.get ends.lanes) (lanes_left F x) (λ d q h. others q (stays (F d) x q (k.family.distinct d) h).0) virtual;
    stamps = λ b d. fall-same (stamp_at l.nodes.pairs) (stamp_at n.pairs) l.next_stamp (without (F d) x) (λ q _. stamps q) (fall-without (stamp_at l.nodes.pairs) l.next_stamp (F d) x (k.stamps b d));
  }

module _ (l : Lane) (n : Held Node) (ends : Ends) (next : ℕ) (more : next < 2 ^ 64 - 1 → (l.next_stamp < next) × (l.next_stamp < 2 ^ 64 - 1)) (K : ℕ → Option ℕ) (F : ℕ → List ℕ) (k : IsLane l K F) (x c : ℕ) (e : Extent)
    (out : K x ≡ None) (there : is_there l x ≡ true) (at : map.get l.ends.lanes c ≡ Some e) (N : ℕ → Option Sides) (S : ℕ → Option ℕ)
    (newers : (q : ℕ) → N q ≡ at_other e.newest (noted (Newer (Some x))) (sides_at l.nodes.pairs) q)
    (still : (q : ℕ) → S q ≡ stamp_at l.nodes.pairs q)
    (own : (q : ℕ) → sides_at n.pairs q ≡ cond (nat_eq x q) (option_map (λ (_ : Sides). alone e.newest) (N q)) (N q))
    (stamped : (q : ℕ) → stamp_at n.pairs q ≡ cond (nat_eq x q) (option_map (λ (_ : ℕ). l.next_stamp) (S q)) (S q))
    (set : ends.lanes ≡ map.insert l.ends.lanes c (joined_by x e)) where
  sides-now : (q : ℕ) → sides_at n.pairs q ≡ cond (nat_eq x q) (Some (alone e.newest)) (at_other e.newest (newer_as (Some x)) (sides_at l.nodes.pairs) q)
  sides-now q = own q ∙ by_test (nat_eq x q)
      (λ t. rw t (ap (option_map (λ (_ : Sides). alone e.newest)) (newers q) ∙ go q t))
      (λ t. rw t (newers q))
    where
      some : (b : Bool) (o : Option Sides) (v : Sides) → o ≡ Some v → (s : Sides) → option_map (λ (_ : Sides). s) (cond b (option_map (newer_as (Some x)) o) o) ≡ Some s
      some true None v h s = cc
      some true (Some w) v h s = refl
      some false None v h s = cc
      some false (Some w) v h s = refl

      go : (q : ℕ) → nat_eq x q ≡ true → option_map (λ (_ : Sides). alone e.newest) (at_other e.newest (newer_as (Some x)) (sides_at l.nodes.pairs) q) ≡ Some (alone e.newest)
      go q t = let f = there-sides l.nodes.pairs x there in
          some (is_at e.newest q) (sides_at l.nodes.pairs q) f.0 (ap (sides_at l.nodes.pairs) (sym (eqb-true x q t)) ∙ f.1) (alone e.newest)

  joined : (d : ℕ) → map.get ends.lanes d ≡ cond (nat_eq c d) (Some (joined_by x e)) (map.get l.ends.lanes d)
  joined d = ap (λ (m : Lanes). map.get m d) set ∙ get-with_entry l.ends.lanes c (Some (joined_by x e)) d

  stamp-now : (q : ℕ) → stamp_at n.pairs q ≡ cond (nat_eq x q) (option_map (λ (_ : ℕ). l.next_stamp) (stamp_at l.nodes.pairs q)) (stamp_at l.nodes.pairs q)
  stamp-now q = stamped q ∙ (λ i. let o = still q i in cond (nat_eq x q) (option_map (λ (_ : ℕ). l.next_stamp) o) o)

  fall : next < 2 ^ 64 - 1 → (d : ℕ) → FallFrom (stamp_at n.pairs) next (lanes_joined F x (Some c) d)
  fall b d =
      let s = there-stamp l.nodes.pairs x there in
      let nowhere = stands_nowhere K (sides_at l.nodes.pairs) (map.get l.ends.lanes) F k.family d x out in
      let less : l.next_stamp < next = (more b).0 in
      let before : l.next_stamp < 2 ^ 64 - 1 = (more b).1 in
      let off : (q : ℕ) → has (F d) q ≡ true → stamp_at n.pairs q ≡ stamp_at l.nodes.pairs q =
      λ q h. let t : nat_eq x q ≡ false = false_by _ (λ u. not_both h (ap (has (F d)) (sym (eqb-true x q u)) ∙ nowhere)) in stamp-now q ∙ rw t refl in
      by_test (nat_eq c d)
      (λ t. rw t (fall-joined (stamp_at l.nodes.pairs) (stamp_at n.pairs) l.next_stamp next (F d) x s.0 nowhere s.1 stamp-now less (k.stamps before d)))
      (λ t. rw t (fall-below (stamp_at n.pairs) l.next_stamp next (F d) (omega (arith, less)) (fall-same (stamp_at l.nodes.pairs) (stamp_at n.pairs) l.next_stamp (F d) off (k.stamps before d))))

  pub joins : IsLane (record { nodes = n; ends = ends; next_stamp = next }) (placed K x (Some c)) (lanes_joined F x (Some c))
  joins = record {
    family = joined-family K (sides_at l.nodes.pairs) (map.get l.ends.lanes) F k.family x c e out at (placed K x (Some c)) (sides_at n.pairs) (map.get ends.lanes) (λ q. refl) sides-now joined;
    stamps = λ b d. fall b d;
  }
