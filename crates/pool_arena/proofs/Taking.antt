-- What is kept once a key was taken out.
use Rattle.std.proofs.Common.{◌≡◌, ◌≢◌, ℕ, Option, Some, None, slice_get, List, set, refl, sym, ap, ◌∙◌, length}
use Rattle.std.specs.Option.{option_and_then}
use Rattle.std.proofs.lemmas.List.{length-set}
use Rattle.std.specs.FinMap as map
use Rattle.pool_arena.specs.declared.node.Node.{Node}
use Rattle.pool_arena.specs.Nodes.{vacated, pair_at, pair_of, IsFound, IsKept, head, rest_of, next}
use Rattle.pool_arena.specs.Places.{slots_in}
use Rattle.pool_arena.proofs.Keeps.{removed_none}
use Rattle.pool_arena.proofs.ReadAt.{get-set_same, get-set_other}
use Rattle.pool_arena.proofs.Walks.{same_read, pair_of_node, apart, StayOpen, still_leads, is_of_pair}
use Rattle.pool_arena.proofs.Slots.{either, Apart, Changes, slots_without, slots_same}
use Rattle.pool_arena.proofs.Found.{pair_with, pair_without, slot_where_found}

module _ (heads : List ℕ) (nodes : List Node) (kept : IsKept heads nodes) (i : ℕ) (node : Node) (e : slice_get nodes i ≡ Some node) where
  abbrev after : List Node
  after = set nodes i (vacated node)

  now : slice_get after i ≡ Some (vacated node)
  now = get-set_same nodes i node (vacated node) e

  gone : pair_at after i ≡ None
  gone = pair_of_node after i (vacated node) now

  elsewhere : (j : ℕ) → j ≢ i → slice_get after j ≡ slice_get nodes j
  elsewhere j d = get-set_other nodes i j (vacated node) d

  change : Changes nodes after i None
  change = record { here = gone; else = λ j d. ap (option_and_then pair_of) (elsewhere j d) }

  -- what is held was held before
  held_before : (q s j : ℕ) → pair_at after j ≡ Some (q, s) → pair_at nodes j ≡ Some (q, s)
  held_before q s j h = either j i
      (λ (d : j ≡ i). let bad : None ≡ Some (q, s) = sym gone ∙ ap (pair_at after) (sym d) ∙ h in absurd (cc))
      (λ d. sym (change.else j d) ∙ h)

  passable : (q : ℕ) → StayOpen q nodes after
  passable q j other f past = either j i
      (λ (d : j ≡ i). let same : other ≡ node = same_read (slice_get nodes j) other node f (ap (slice_get nodes) d ∙ e) in
      (vacated node, ap (slice_get after) d ∙ now, (λ k. past (ap (λ (x : Node). x.key) same ∙ k)), λ bits to g. ap (next bits) (sym same)))
      (λ d. (other, elsewhere j d ∙ f, past, λ bits to g. refl))

  pub taken-kept : IsKept heads after
  taken-kept = record {
    found = λ q s j h. let f = kept.found q s j (held_before q s j h) in
        (f.0, still_leads q nodes after (passable q) f.0 (head heads q) (rest_of (length heads) q) j (is_of_pair after j q s h) f.1);
    rising = λ j other f. either j i
        (λ (d : j ≡ i). let same : other ≡ vacated node = same_read (slice_get after j) other (vacated node) f (ap (slice_get after) d ∙ now) in
        let r = kept.rising i node e in rw (same, d) r)
        (λ d. kept.rising j other (sym (elsewhere j d) ∙ f));
    few = rw (length-set nodes i (vacated node)) kept.few;
  }

  pub taken-slots : (key : ℕ) → node.key ≡ key → ((j : ℕ) → IsFound heads nodes key j → Some i ≡ Some j) → slots_in after ≡ map.remove (slots_in nodes) key
  taken-slots key own only = go node.slot refl
    where
      one : Apart nodes
      one = apart heads nodes kept

      go : (o : Option ℕ) → node.slot ≡ o → slots_in after ≡ map.remove (slots_in nodes) key
      go None n =
          slots_same nodes after one (apart heads after taken-kept)
          (λ j. either j i (λ (d : j ≡ i). ap (pair_at after) d ∙ gone ∙ sym (pair_without nodes i node e n) ∙ ap (pair_at nodes) (sym d)) (λ d. change.else j d))
          ∙ sym (removed_none (slots_in nodes) key (slot_where_found heads nodes kept key i node e own only ∙ n))
      go (Some s) n = slots_without nodes after i key s one change (pair_with nodes i s node e n ∙ ap (λ k. Some (k, s)) own)
