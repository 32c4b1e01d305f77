-- What is known of a key by where it gets to.
use Rattle.std.proofs.Common.{◌≡◌, ◌≢◌, ◌<◌, ◌/◌, subst, zero, length, ℕ, Option, Some, None, IsSome, is_some, slice_get, List, false, true, refl, sym, ap, ◌∙◌}
use Rattle.std.proofs.lemmas.Option.{same_Some, slice_get_within}
use Rattle.std.specs.Option.{option_and_then}
use Rattle.std.specs.FinMap as map
use Rattle.pool_arena.specs.declared.node.Node.{Node}
use Rattle.pool_arena.specs.Nodes.{pair_at, pair_of, link_at, next, head, rest_of, IsFound, IsKept, IsNowhere, IsOnTheWay, IsReachable}
use Rattle.pool_arena.specs.Places.{slots_in}
use Rattle.pool_arena.proofs.Walks.{apart, way_goes_on, next_rises}
use Rattle.pool_arena.proofs.Slots.{slot_of_held, none_of_nowhere}

-- a node that holds nothing has no pair
pub pair_without : (nodes : List Node) (i : ℕ) (node : Node) → slice_get nodes i ≡ Some node → node.slot ≡ None → pair_at nodes i ≡ None
pair_without nodes i node e n = rw (e, n) refl

pub pair_with : (nodes : List Node) (i s : ℕ) (node : Node) → slice_get nodes i ≡ Some node → node.slot ≡ Some s → pair_at nodes i ≡ Some (node.key, s)
pair_with nodes i s node e n = rw (e, n) refl

-- a node that holds a key is of another key than one that is nowhere
pub held_is_other : (nodes : List Node) (i key : ℕ) (node : Node) → slice_get nodes i ≡ Some node → IsSome (pair_at nodes i) → IsNowhere nodes key → node.key ≢ key
held_is_other nodes i key node e held free same = go node.slot refl
  where
    go : (o : Option ℕ) → node.slot ≡ o → ⊥
    go None n = let bad : false ≡ true = sym (ap is_some (pair_without nodes i node e n)) ∙ held in absurd (cc)
    go (Some s) n = free i s (pair_with nodes i s node e n ∙ ap (λ k. Some (k, s)) same)

module _ (heads : List ℕ) (nodes : List Node) (kept : IsKept heads nodes) (key : ℕ) where
  -- where the key gets nowhere it isn't held
  pub not_found : ((i : ℕ) → IsFound heads nodes key i → None ≡ Some i) → map.get (slots_in nodes) key ≡ None
  not_found none = none_of_nowhere nodes key (λ i s h. let bad = none i (kept.found key s i h) in absurd (cc))

  -- where it gets to a node of its own, that says what its slot is
  pub slot_where_found : (index : ℕ) (node : Node) → slice_get nodes index ≡ Some node → node.key ≡ key → ((i : ℕ) → IsFound heads nodes key i → Some index ≡ Some i) → map.get (slots_in nodes) key ≡ node.slot
  slot_where_found index node e own only = go node.slot refl
    where
      go : (o : Option ℕ) → node.slot ≡ o → map.get (slots_in nodes) key ≡ node.slot
      go None n = none_of_nowhere nodes key (λ i s h.
          let at : index ≡ i = same_Some index i (only i (kept.found key s i h)) in
          let bad : None ≡ Some (key, s) = sym (pair_without nodes index node e n) ∙ ap (pair_at nodes) at ∙ h in absurd (cc)) ∙ sym n
      go (Some s) n = slot_of_held nodes (apart heads nodes kept) index key s (pair_with nodes index s node e n ∙ ap (λ k. Some (k, s)) own) ∙ sym n

pub held_within : (nodes : List Node) (i : ℕ) → IsSome (pair_at nodes i) → i < length nodes
held_within nodes i held = go (slice_get nodes i) refl
  where
    go : (o : Option Node) → slice_get nodes i ≡ o → i < length nodes
    go None e = let bad : false ≡ true = sym (ap is_some (ap (option_and_then pair_of) e)) ∙ held in absurd (cc)
    go (Some node) e = slice_get_within nodes i node e

pub node_of_held : (nodes : List Node) (i : ℕ) → IsSome (pair_at nodes i) → (node : Node) × (slice_get nodes i ≡ Some node)
node_of_held nodes i held = go (slice_get nodes i) refl
  where
    go : (o : Option Node) → slice_get nodes i ≡ o → (node : Node) × (slice_get nodes i ≡ Some node)
    go None e = let bad : false ≡ true = sym (ap is_some (ap (option_and_then pair_of) e)) ∙ held in absurd (cc)
    go (Some node) e = (node, e)

pub link_of_node : (nodes : List Node) (i rest : ℕ) (node : Node) → slice_get nodes i ≡ Some node → link_at nodes i rest ≡ next rest node
link_of_node nodes i rest node e = rw e refl

-- ---- on the way of a key that is nowhere

module _ (heads : List ℕ) (nodes : List Node) (kept : IsKept heads nodes) (key : ℕ) (free : IsNowhere nodes key) where
  pub way_on : (from bits i rest : ℕ) → IsSome (pair_at nodes i) → IsOnTheWay nodes key from bits i rest → IsOnTheWay nodes key from bits (link_at nodes i rest) (rest / 2)
  way_on from bits i rest held way =
      let at = node_of_held nodes i held in
      let past = held_is_other nodes i key at.0 at.1 held free in
      subst (λ (x : ℕ). IsOnTheWay nodes key from bits x (rest / 2)) (sym (link_of_node nodes i rest at.0 at.1))
      (way_goes_on nodes key from bits i rest at.0 at.1 past (next_rises rest at.0 i (kept.rising i at.0 at.1)) way)

  pub reachable : (i rest : ℕ) → IsSome (pair_at nodes i) → IsOnTheWay nodes key (head heads key) (rest_of (length heads) key) i rest → IsReachable heads nodes key (link_at nodes i rest)
  reachable i rest held way others same own = way_on (head heads key) (rest_of (length heads) key) i rest held way others same (link_at nodes i rest) (zero, (refl, own))
