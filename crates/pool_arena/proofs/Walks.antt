-- Where keys get to.
use Rattle.std.proofs.Common.{◌≡◌, ◌≢◌, ℕ, zero, suc, ◌/◌, ◌<◌, ◌≤◌, ◌%◌, Option, Some, None, slice_get, List, length, refl, sym, ap, subst, ◌∙◌, arith}
use Rattle.std.proofs.lemmas.Option.{same_Some, slice_get_past}
use Rattle.std.specs.Prelude.{◌==◌}
use Rattle.pool_arena.proofs.Keeps.{by_test}
use Rattle.pool_arena.specs.declared.node.Node.{Node}
use Rattle.pool_arena.specs.Nodes.{nowhere, IsLeaf, pair_at, pair_of, next, IsOf, LeadsIn, Leads, IsKept, IsOnTheWay}

pub same_read : {X : Type 0} (o : Option X) (x y : X) → o ≡ Some x → o ≡ Some y → x ≡ y
same_read o x y e f = same_Some x y (sym e ∙ f)

-- a pair that is held is so by a node
pub node_of_pair : (nodes : List Node) (i key slot : ℕ) → pair_at nodes i ≡ Some (key, slot) → (node : Node) × (slice_get nodes i ≡ Some node) × (node.key ≡ key) × (node.slot ≡ Some slot)
node_of_pair nodes i key slot = go (slice_get nodes i) refl
  where
    go : (o : Option Node) → slice_get nodes i ≡ o → pair_at nodes i ≡ Some (key, slot) → (node : Node) × (slice_get nodes i ≡ Some node) × (node.key ≡ key) × (node.slot ≡ Some slot)
    go None e h = let bad : pair_at nodes i ≡ None = rw e refl in absurd (cc)
    go (Some node) e h = inner node.slot refl
      where
        inner : (s : Option ℕ) → node.slot ≡ s → (n : Node) × (slice_get nodes i ≡ Some n) × (n.key ≡ key) × (n.slot ≡ Some slot)
        inner None f = let bad : pair_at nodes i ≡ None = rw (e, f) refl in absurd (cc)
        inner (Some s) f =
            let at : pair_at nodes i ≡ Some (node.key, s) = rw (e, f) refl in
            let both : ◌≡◌ {A = ℕ × ℕ} (node.key, s) (key, slot) = same_read (pair_at nodes i) (node.key, s) (key, slot) at h in
            (node, e, ap (λ (p : ℕ × ℕ). p.0) both, f ∙ ap (λ (p : ℕ × ℕ). Some p.1) both)

pub pair_of_node : (nodes : List Node) (i : ℕ) (node : Node) → slice_get nodes i ≡ Some node → pair_at nodes i ≡ pair_of node
pair_of_node nodes i node e = rw e refl

module _ (nodes : List Node) (key : ℕ) where
  -- past a node of another key a key follows its link
  pub goes_on : (n link rest i : ℕ) (node : Node) → slice_get nodes link ≡ Some node → node.key ≢ key → LeadsIn n nodes key link rest i → Leads nodes key (next rest node) (rest / 2) i
  goes_on zero link rest i node e d l =
      let f : slice_get nodes link ≡ Some l.1.0 = ap (slice_get nodes) l.0 ∙ l.1.1 in
      absurd (d (ap (λ (x : Node). x.key) (same_read (slice_get nodes link) node l.1.0 e f) ∙ l.1.2))
  goes_on (suc n) link rest i node e d l =
      (n, subst (λ (x : Node). LeadsIn n nodes key (next rest x) (rest / 2) i) (same_read (slice_get nodes link) l.0 node l.1 e) l.3)

  -- at a node of its own a key stops
  pub stops : (n link rest i : ℕ) (node : Node) → slice_get nodes link ≡ Some node → node.key ≡ key → LeadsIn n nodes key link rest i → link ≡ i
  stops zero link rest i node e s l = l.0
  stops (suc n) link rest i node e s l = absurd (l.2 (ap (λ (x : Node). x.key) (same_read (slice_get nodes link) l.0 node l.1 e) ∙ s))

  -- there is a node at each link that leads on
  pub leads_to_node : (n link rest i : ℕ) → LeadsIn n nodes key link rest i → (node : Node) × (slice_get nodes link ≡ Some node)
  leads_to_node zero link rest i l = (l.1.0, ap (slice_get nodes) l.0 ∙ l.1.1)
  leads_to_node (suc n) link rest i l = (l.0, l.1)

  pub no_way : (n link rest i : ℕ) → slice_get nodes link ≡ None → LeadsIn n nodes key link rest i → ⊥
  no_way n link rest i e l = let w = leads_to_node n link rest i l in let f = w.1 in absurd (cc)

  -- a key gets to one index
  pub one_end : (n m link rest i j : ℕ) → LeadsIn n nodes key link rest i → LeadsIn m nodes key link rest j → i ≡ j
  one_end zero m link rest i j a b = sym a.0 ∙ stops m link rest j a.1.0 (ap (slice_get nodes) a.0 ∙ a.1.1) a.1.2 b
  one_end (suc n) m link rest i j a b =
      let s = goes_on m link rest j a.0 a.1 a.2 b in
      one_end n s.0 (next rest a.0) (rest / 2) i j a.3 s.1

  -- a step more on the way
  pub way_goes_on : (from bits link rest : ℕ) (node : Node) → slice_get nodes link ≡ Some node → node.key ≢ key → link < next rest node
      → IsOnTheWay nodes key from bits link rest → IsOnTheWay nodes key from bits (next rest node) (rest / 2)
  way_goes_on from bits link rest node e d lt way others same i l =
      way others (λ j b. same j (omega arith)) i (suc l.0, (node, same link lt ∙ e, d, l.1))

-- no two nodes hold one key
pub apart : (heads : List ℕ) (nodes : List Node) → IsKept heads nodes → (key s t i j : ℕ) → pair_at nodes i ≡ Some (key, s) → pair_at nodes j ≡ Some (key, t) → i ≡ j
apart heads nodes kept key s t i j e f =
    let a = kept.found key s i e in
    let b = kept.found key t j f in
    one_end nodes key a.0 b.0 _ _ i j a.1 b.1

-- ---- other nodes

-- whoever passes a node passes the one that stands there now, and goes on as before if it got anywhere
abbrev pub StayOpen : ℕ → List Node → List Node → Type 0
StayOpen key nodes others = (i : ℕ) (node : Node) → slice_get nodes i ≡ Some node → node.key ≢ key
    → (other : Node) × (slice_get others i ≡ Some other) × (other.key ≢ key) × ((rest : ℕ) (to : Node) → slice_get nodes (next rest node) ≡ Some to → next rest other ≡ next rest node)

pub still_leads : (key : ℕ) (nodes others : List Node) → StayOpen key nodes others → (n link rest i : ℕ) → IsOf others key i → LeadsIn n nodes key link rest i → LeadsIn n others key link rest i
still_leads key nodes others passable zero link rest i own l = (l.0, own)
still_leads key nodes others passable (suc n) link rest i own l =
    let w = passable link l.0 l.1 l.2 in
    let to = leads_to_node nodes key n (next rest l.0) (rest / 2) i l.3 in
    let later = still_leads key nodes others passable n (next rest l.0) (rest / 2) i own l.3 in
    (w.0, w.1, w.2, subst (λ (x : ℕ). LeadsIn n others key x (rest / 2) i) (sym (w.3 rest to.0 to.1)) later)

pub is_of_pair : (nodes : List Node) (i key slot : ℕ) → pair_at nodes i ≡ Some (key, slot) → IsOf nodes key i
is_of_pair nodes i key slot e = let w = node_of_pair nodes i key slot e in (w.0, w.1, w.2)

pub next_rises : (rest : ℕ) (node : Node) (i : ℕ) → (i < node.even) × (i < node.odd) → i < next rest node
next_rises rest node i h = by_test (rest % 2 == 0) (λ t. rw t h.0) (λ t. rw t h.1)

-- a key that comes to a leaf of another key gets nowhere
pub leaf_ends : (nodes : List Node) (key n link rest i : ℕ) (node : Node) → length nodes ≤ nowhere → slice_get nodes link ≡ Some node → node.key ≢ key → IsLeaf node → LeadsIn n nodes key link rest i → ⊥
leaf_ends nodes key n link rest i node few e past leaf l =
    let on = goes_on nodes key n link rest i node e past l in
    let end : next rest node ≡ nowhere = by_test (rest % 2 == 0) (λ t. rw t leaf.even) (λ t. rw t leaf.odd) in
    no_way nodes key on.0 (next rest node) (rest / 2) i (ap (slice_get nodes) end ∙ slice_get_past nodes nowhere few) on.1
