-- What is kept once a key was added.
use Rattle.std.proofs.Common.{◌≡◌, ◌≢◌, ℕ, zero, suc, ◌-◌, ◌<◌, ◌≤◌, ◌%◌, Some, None, IsSome, slice_get, List, [], ◌∷◌, ◌++◌, length, set, refl, sym, ap, subst, ◌∙◌, arith}
use Rattle.std.specs.Prelude.{◌==◌}
use Rattle.std.specs.Option.{option_and_then}
use Rattle.std.proofs.lemmas.List.{length-set, length-append, get_or-set_same, get_or-set_other}
use Rattle.std.proofs.lemmas.Nat.{and_le_r}
use Rattle.std.proofs.lemmas.Option.{slice_get_past, slice_get_within}
use Rattle.std.specs.FinMap as map
use Rattle.pool_arena.specs.declared.node.Node.{Node}
use Rattle.pool_arena.specs.Nodes.{nowhere, home, head, rest_of, next, leading, fresh, filled, pair_at, pair_of, LeadsIn, IsFound, IsKept, IsNowhere, IsOnTheWay, IsReachable}
use Rattle.pool_arena.specs.Places.{slots_in}
use Rattle.pool_arena.proofs.Keeps.{by_test}
use Rattle.pool_arena.proofs.ReadAt.{get-set_same, get-set_other, get-push_same, get-push_other}
use Rattle.pool_arena.proofs.Walks.{same_read, pair_of_node, apart, StayOpen, still_leads, is_of_pair, no_way}
use Rattle.pool_arena.proofs.Slots.{either, Changes, new_or_old, slots_with}

pub home-within : (many key : ℕ) → 0 < many → home many key < many
home-within many key some = let most = and_le_r key (many - 1) in omega (arith, most, some)

module _ (rest link : ℕ) (node : Node) where
  pub leading-key : (leading rest link node).key ≡ node.key
  leading-key = by_test (rest % 2 == 0) (λ t. rw t refl) (λ t. rw t refl)

  pub leading-pair : pair_of (leading rest link node) ≡ pair_of node
  leading-pair = by_test (rest % 2 == 0) (λ t. rw t refl) (λ t. rw t refl)

  pub next-leading : next rest (leading rest link node) ≡ link
  next-leading = by_test (rest % 2 == 0) (λ t. rw t refl) (λ t. rw t refl)

  -- other links stay as they are
  pub next-other : (bits : ℕ) → next bits node ≢ next rest node → next bits (leading rest link node) ≡ next bits node
  next-other bits differ =
      by_test (rest % 2 == 0)
      (λ t. by_test (bits % 2 == 0) (λ u. absurd (differ (rw (t, u) refl))) (λ u. rw (t, u) refl))
      (λ t. by_test (bits % 2 == 0) (λ u. rw (t, u) refl) (λ u. absurd (differ (rw (t, u) refl))))

  pub leading-rises : (i : ℕ) → (i < node.even) × (i < node.odd) → i < link → (i < (leading rest link node).even) × (i < (leading rest link node).odd)
  leading-rises i h l = by_test (rest % 2 == 0) (λ t. rw t (l, h.1)) (λ t. rw t (h.0, l))

module _ (heads : List ℕ) (nodes : List Node) (kept : IsKept heads nodes) (key slot : ℕ) (free : IsNowhere nodes key) where
  -- whoever was found still is, and so is the key
  kept_with : (later : List ℕ) (others : List Node) (i : ℕ) → Changes nodes others i (Some (key, slot)) → pair_at nodes i ≡ None → IsFound later others key i
      → ((q : ℕ) → q ≢ key → StayOpen q nodes others) → length later ≡ length heads → ((q s j : ℕ) → pair_at nodes j ≡ Some (q, s) → head later q ≡ head heads q)
      → ((j : ℕ) (node : Node) → slice_get others j ≡ Some node → (j < node.even) × (j < node.odd)) → length others ≤ nowhere → IsKept later others
  kept_with later others i change was way passable many same rising few = record {
    found = λ q s j e. new_or_old nodes others i key slot (apart heads nodes kept) change was free j q s e
        (λ d qk sl. subst (λ (x : ℕ). IsFound later others q x) (sym d) (subst (λ (x : ℕ). IsFound later others x i) (sym qk) way))
        (λ ne at. let f = kept.found q s j at in (
          f.0,
          subst (λ (x : ℕ). LeadsIn f.0 others q x (rest_of (length later) q) j) (sym (same q s j at))
              (subst (λ (x : ℕ). LeadsIn f.0 others q (head heads q) (rest_of x q) j) (sym many)
              (still_leads q nodes others (passable q ne) f.0 (head heads q) (rest_of (length heads) q) j (is_of_pair others j q s e) f.1)),
        ));
    rising = rising;
    few = few;
  }

  -- ---- in a node that holds nothing
  module _ (i : ℕ) (node : Node) (e : slice_get nodes i ≡ Some node) (was : pair_at nodes i ≡ None) where
    abbrev after : List Node
    after = set nodes i (filled key slot node)

    fill-change : Changes nodes after i (Some (key, slot))
    fill-change = record {
      here = pair_of_node after i (filled key slot node) (get-set_same nodes i node (filled key slot node) e);
      else = λ j d. ap (option_and_then pair_of) (get-set_other nodes i j (filled key slot node) d);
    }

    pub fill-slots : slots_in after ≡ map.insert (slots_in nodes) key slot
    fill-slots = slots_with nodes after i key slot (apart heads nodes kept) fill-change was free

    fill-passable : (q : ℕ) → q ≢ key → StayOpen q nodes after
    fill-passable q ne j other f past = either j i
        (λ (d : j ≡ i). let same : other ≡ node = same_read (slice_get nodes j) other node f (ap (slice_get nodes) d ∙ e) in
        (filled key slot node, ap (slice_get after) d ∙ get-set_same nodes i node (filled key slot node) e, (λ k. ne (sym k)), λ bits to g. ap (next bits) (sym same)))
        (λ d. (other, get-set_other nodes i j (filled key slot node) d ∙ f, past, λ bits to g. refl))

    pub fill-kept : IsReachable heads nodes key i → IsKept heads after
    fill-kept reach = kept_with heads after i fill-change was
        (reach after (λ j lt. get-set_other nodes i j (filled key slot node) (omega arith)) (filled key slot node, get-set_same nodes i node (filled key slot node) e, refl))
        fill-passable refl (λ q s j at. refl)
        (λ j other f. either j i
        (λ (d : j ≡ i). let same : other ≡ filled key slot node = same_read (slice_get after j) other (filled key slot node) f (ap (slice_get after) d ∙ get-set_same nodes i node (filled key slot node) e) in
        let r = kept.rising i node e in rw (same, d) r)
        (λ d. kept.rising j other (sym (get-set_other nodes i j (filled key slot node) d) ∙ f)))
        (rw (length-set nodes i (filled key slot node)) kept.few)

  -- ---- in a node at the end
  module _ (room : length nodes < nowhere) where
    abbrev end : ℕ
    end = length nodes

    end-free : pair_at nodes end ≡ None
    end-free = ap (option_and_then pair_of) (slice_get_past nodes end (omega arith))

    fresh-rises : (end < nowhere) × (end < nowhere)
    fresh-rises = (room, room)

    -- behind the last node on the way
    module _ (at rest : ℕ) (node : Node) (e : slice_get nodes at ≡ Some node) (held : IsSome (pair_at nodes at)) (past : node.key ≢ key) (gap : end ≤ next rest node) where
      abbrev led : Node
      led = leading rest end node

      abbrev before : List Node
      before = set nodes at led

      abbrev hung : List Node
      hung = before ++ fresh key slot ∷ []

      long : length before ≡ end
      long = length-set nodes at led

      at-within : at < end
      at-within = slice_get_within nodes at node e

      at-end : slice_get hung end ≡ Some (fresh key slot)
      at-end = ap (slice_get hung) (sym long) ∙ get-push_same before (fresh key slot)

      off-end : (j : ℕ) → j ≢ end → slice_get hung j ≡ slice_get before j
      off-end j d = get-push_other before j (fresh key slot) (λ q. d (q ∙ long))

      at-led : slice_get hung at ≡ Some led
      at-led = off-end at (omega (arith, at-within)) ∙ get-set_same nodes at node led e

      elsewhere : (j : ℕ) → j ≢ end → j ≢ at → slice_get hung j ≡ slice_get nodes j
      elsewhere j d a = off-end j d ∙ get-set_other nodes at j led a

      hang-change : Changes nodes hung end (Some (key, slot))
      hang-change = record {
        here = pair_of_node hung end (fresh key slot) at-end;
        else = λ j d. either j at
            (λ (a : j ≡ at). ap (pair_at hung) a ∙ pair_of_node hung at led at-led ∙ leading-pair rest end node ∙ sym (pair_of_node nodes at node e) ∙ ap (pair_at nodes) (sym a))
            (λ a. ap (option_and_then pair_of) (elsewhere j d a));
      }

      pub hang-slots : slots_in hung ≡ map.insert (slots_in nodes) key slot
      hang-slots = slots_with nodes hung end key slot (apart heads nodes kept) hang-change end-free free

      off : (j : ℕ) (other : Node) → slice_get nodes j ≡ Some other → j ≢ end
      off j other f = let w = slice_get_within nodes j other f in omega arith

      hang-passable : (q : ℕ) → StayOpen q nodes hung
      hang-passable q j other f ne = either j at
          (λ (a : j ≡ at). let same : other ≡ node = same_read (slice_get nodes j) other node f (ap (slice_get nodes) a ∙ e) in (
            led,
            ap (slice_get hung) a ∙ at-led,
            (λ k. ne (ap (λ (x : Node). x.key) same ∙ sym (leading-key rest end node) ∙ k)),
            λ bits to g. next-other rest end node bits (λ same_link.
                let w = slice_get_within nodes (next bits other) to g in
                let x : next bits other ≡ next rest node = ap (next bits) same ∙ same_link in omega arith) ∙ ap (next bits) (sym same),
          ))
          (λ a. (other, elsewhere j (off j other f) a ∙ f, ne, λ bits to g. refl))

      pub hang-kept : IsOnTheWay nodes key (head heads key) (rest_of (length heads) key) at rest → IsKept heads hung
      hang-kept way = kept_with heads hung end hang-change end-free
          (way hung (λ j lt. elsewhere j (omega (arith, at-within)) (omega arith)) end
          (suc zero, (led, at-led, (λ k. past (sym (leading-key rest end node) ∙ k)), (next-leading rest end node, (fresh key slot, at-end, refl)))))
          (λ q ne. hang-passable q) refl (λ q s j at. refl)
          (λ j other f. either j end
          (λ (d : j ≡ end). let same : other ≡ fresh key slot = same_read (slice_get hung j) other (fresh key slot) f (ap (slice_get hung) d ∙ at-end) in rw (same, d) fresh-rises)
          (λ d. either j at
          (λ (a : j ≡ at). let same : other ≡ led = same_read (slice_get hung j) other led f (ap (slice_get hung) a ∙ at-led) in rw (same, a) (leading-rises rest end node at (kept.rising at node e) at-within))
          (λ a. kept.rising j other (sym (elsewhere j d a) ∙ f))))
          (let l = length-append before (fresh key slot ∷ []) in omega (arith, l, long))

    -- at the head, which led nowhere
    module _ (some : 0 < length heads) (gap : end ≤ head heads key) where
      abbrev at_home : List ℕ
      at_home = set heads (home (length heads) key) end

      abbrev planted : List Node
      planted = nodes ++ fresh key slot ∷ []

      plant-change : Changes nodes planted end (Some (key, slot))
      plant-change = record {
        here = pair_of_node planted end (fresh key slot) (get-push_same nodes (fresh key slot));
        else = λ j d. ap (option_and_then pair_of) (get-push_other nodes j (fresh key slot) d);
      }

      pub plant-slots : slots_in planted ≡ map.insert (slots_in nodes) key slot
      plant-slots = slots_with nodes planted end key slot (apart heads nodes kept) plant-change end-free free

      many : length at_home ≡ length heads
      many = length-set heads (home (length heads) key) end

      own-head : head at_home key ≡ end
      own-head = rw many (get_or-set_same heads (home (length heads) key) end nowhere (home-within (length heads) key some))

      other-head : (q s j : ℕ) → pair_at nodes j ≡ Some (q, s) → head at_home q ≡ head heads q
      other-head q s j at = either (home (length heads) q) (home (length heads) key)
          (λ same. let f = kept.found q s j at in
          let x : head heads q ≡ head heads key = rw same refl in
          absurd (no_way nodes q f.0 (head heads q) (rest_of (length heads) q) j (slice_get_past nodes (head heads q) (omega arith)) f.1))
          (λ d. rw many (get_or-set_other heads (home (length heads) key) (home (length heads) q) end nowhere d))

      pub plant-kept : IsKept at_home planted
      plant-kept = kept_with at_home planted end plant-change end-free
          (zero, (own-head, (fresh key slot, get-push_same nodes (fresh key slot), refl)))
          (λ q ne j other f past. let w = slice_get_within nodes j other f in (other, get-push_other nodes j (fresh key slot) (omega arith) ∙ f, past, λ bits to g. refl))
          many other-head
          (λ j other f. either j end
          (λ (d : j ≡ end). let same : other ≡ fresh key slot = same_read (slice_get planted j) other (fresh key slot) f (ap (slice_get planted) d ∙ get-push_same nodes (fresh key slot)) in rw (same, d) fresh-rises)
          (λ d. kept.rising j other (sym (get-push_other nodes j (fresh key slot) d) ∙ f)))
          (let l = length-append nodes (fresh key slot ∷ []) in omega (arith, l))
