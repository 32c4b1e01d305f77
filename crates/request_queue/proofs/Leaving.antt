-- What an entry that leaves its queue leaves of the queues that the lines and the nodes keep.
use Rattle.std.proofs.Common.{◌≡◌, ℕ, suc, ◌<◌, ◌-◌, true, false, cond, not, nat_eq, List, length, Option, Some, None, refl, sym, ap, subst, ◌∙◌, arith}
use Rattle.std.proofs.lemmas.Bool.{eqb-true}
use Rattle.std.specs.List.{filter}
use Rattle.std.specs.Option.{option_map}
use Rattle.std.specs.Ordering.{nat_cmp, eq_by_cmp}
use Rattle.std.specs.FinMap as map
use Rattle.std.specs.FinMap.Entries.{is_sorted-where_key}
use Rattle.tree_specs.specs.declared.object.Obj.{Obj}
use Rattle.tree_specs.specs.declared.queue.QueueEntry.{QueueEntry}
use Rattle.tree_specs.specs.Words.Objects.{same}
use Rattle.tree_specs.proofs.Tree.Numbered.{same-true}
use Rattle.tree_specs.specs.Events.Queues.{Queues, without_entry}
use Rattle.linked_lanes.specs.declared.Sides.{Sides}
use Rattle.linked_lanes.specs.declared.Link.TheVariants.{Newer, Older}
use Rattle.linked_lanes.specs.Lane.{first, is_at, has, last, without}
use Rattle.linked_lanes.specs.Chain.{Chain, sides_in, head_left, last_left}
use Rattle.linked_lanes.proofs.Lanes.{by_test, not_both, false_by, eqb-self, length-without, without-absent}
use Rattle.linked_lanes.proofs.Chains.{newer_as, older_as, kept_chain, stays, left-chain, left-other}
use Rattle.linked_lanes.proofs.Ends.{last-without}
use Rattle.request_queue.specs.declared.line.Line.{Line}
use Rattle.request_queue.specs.declared.node.Node.{Node}
use Rattle.request_queue.specs.Linked.{numbered, running_in, length_in, entry_in, sides_of, listed, lane, left, with_link, Ends, ends_in, ends_of}
use Rattle.request_queue.proofs.Listing.{found-listed, sorted-listed, same-listed}
use Rattle.request_queue.proofs.Lanes.{is_of, has-lane, lanes-apart, distinct-lane, lane-without}
use Rattle.request_queue.proofs.Linking.{Keeps, found-without, sides-link, entry-link, running-kept}

module _ (L : ℕ → Option Line) (N : ℕ → Option Node) (qs : Queues) (k : Keeps L N qs) (x : ℕ) (v : Node) (found : N x ≡ Some v) where
  abbrev es : List (ℕ × QueueEntry)
  es = qs.entries

  abbrev xs : List ℕ
  xs = lane es v.entry.queue

  abbrev C : ℕ → Option Sides
  C j = option_map sides_of (N j)

  member : has xs x ≡ true
  member = has-lane es k.sorted v.entry.queue x ∙ ap (is_of v.entry.queue) (k.entry x ∙ ap (option_map entry_in) found) ∙ eqb-self v.entry.queue.0

  sides : v.sides ≡ sides_in xs x
  sides = let e : Some v.sides ≡ Some (sides_in xs x) = sym (ap (option_map sides_of) found) ∙ (k.linked.chain v.entry.queue).sides x member in cc

  fewer : suc (length (without xs x)) ≡ length xs
  fewer = length-without xs x member

  pub some-there : (l : Line) → L v.entry.queue.0 ≡ Some l → 0 < l.length
  some-there l e =
      let all : l.length ≡ length xs = sym (ap length_in e) ∙ ap (λ (f : Ends). f.length) (k.linked.ends v.entry.queue) in
      let less = fewer in
      omega (arith, all, less)

  module _ (L' : ℕ → Option Line) (N' N1 N2 : ℕ → Option Node)
      (taken : (j : ℕ) → N1 j ≡ cond (nat_eq x j) None (N j))
      (olders : (j : ℕ) → N2 j ≡ cond (is_at v.sides.newer j) (option_map (with_link (Older v.sides.older)) (N1 j)) (N1 j))
      (newers : (j : ℕ) → N' j ≡ cond (is_at v.sides.older j) (option_map (with_link (Newer v.sides.newer)) (N2 j)) (N2 j))
      (lines : (j : ℕ) → L' j ≡ cond (nat_eq v.entry.queue.0 j) (option_map (left v.sides) (L j)) (L j)) where
    abbrev D : ℕ → Option Sides
    D j = option_map sides_of (N' j)

    -- the neighbours if the one that leaves were still there
    abbrev C1 : ℕ → Option Sides
    C1 j = cond (is_at v.sides.newer j) (option_map (older_as v.sides.older) (C j)) (C j)

    abbrev C2 : ℕ → Option Sides
    C2 j = cond (is_at v.sides.older j) (option_map (newer_as v.sides.newer) (C1 j)) (C1 j)

    rest : (j : ℕ) → nat_eq x j ≡ false → D j ≡ C2 j
    rest j n =
        let one : option_map sides_of (N1 j) ≡ C j = ap (option_map sides_of) (rw n at (taken j)) in
        ap (option_map sides_of) (newers j) ∙ sides-link (Newer v.sides.newer) (is_at v.sides.older j) (N2 j)
        ∙ ap (λ o. cond (is_at v.sides.older j) (option_map (newer_as v.sides.newer) o) o)
        (ap (option_map sides_of) (olders j) ∙ sides-link (Older v.sides.older) (is_at v.sides.newer j) (N1 j)
        ∙ ap (λ o. cond (is_at v.sides.newer j) (option_map (older_as v.sides.older) o) o) one)

    entries : (j : ℕ) → option_map entry_in (N' j) ≡ option_map entry_in (cond (nat_eq x j) None (N j))
    entries j = ap (option_map entry_in) (newers j) ∙ entry-link (Newer v.sides.newer) (is_at v.sides.older j) (N2 j)
        ∙ ap (option_map entry_in) (olders j) ∙ entry-link (Older v.sides.older) (is_at v.sides.newer j) (N1 j) ∙ ap (option_map entry_in) (taken j)

    left-lane : Chain C2 (head_left (first xs) v.sides) (without xs x)
    left-lane = left-chain C C1 C2 v.sides (λ j. refl) (λ j. refl) (first xs) (head_left (first xs) v.sides) xs x (distinct-lane es v.entry.queue k.sorted) member sides refl (k.linked.chain v.entry.queue)

    at_queue : Chain D (first (without xs x)) (without xs x)
    at_queue = subst (λ h. Chain D h (without xs x)) left-lane.at_head
        (kept_chain C2 D (head_left (first xs) v.sides) (without xs x) (λ j m. rest j (stays xs x j (distinct-lane es v.entry.queue k.sorted) m).0) left-lane)

    ends-left : (o : Option Line) → ends_in o ≡ ends_of xs → ends_in (option_map (left v.sides) o) ≡ ends_of (without xs x)
    ends-left None e = let less = fewer in let none : 0 ≡ length xs = ap (λ (f : Ends). f.length) e in absurd (omega (arith, less, none))
    ends-left (Some l) e =
        let newest : head_left l.newest v.sides ≡ first (without xs x) = ap (λ (f : Ends). head_left f.newest v.sides) e ∙ left-lane.at_head in
        let oldest : last_left l.oldest v.sides ≡ last (without xs x) = ap (λ (f : Ends). last_left f.oldest v.sides) e ∙ ap (last_left (last xs)) sides ∙ sym (last-without xs x (distinct-lane es v.entry.queue k.sorted) member) in
        let less = fewer in
        let all : l.length ≡ length xs = ap (λ (f : Ends). f.length) e in
        let length : l.length - 1 ≡ length (without xs x) = omega (arith, less, all) in
        λ i. record { newest = newest i; oldest = oldest i; length = length i }

    out : (q : Obj) → same v.entry.queue q ≡ false → has (lane es q) x ≡ false
    out q u = false_by _ (λ m. not_both member (lanes-apart es k.sorted v.entry.queue q x u m))

    pub leave-keeps : Keeps L' N' (without_entry qs (numbered x))
    leave-keeps = record {
      ordered = k.ordered;
      sorted = is_sorted-where_key nat_cmp (λ j. not (eq_by_cmp nat_cmp x j)) es k.sorted;
      running = λ j. k.running j ∙ sym (ap (option_map running_in) (lines j) ∙ running-kept (left v.sides) (λ l. refl) (nat_eq v.entry.queue.0 j) (L j));
      entry = λ j. found-without es x j ∙ by_test (nat_eq x j)
          (λ u. rw u (sym (rw u at (entries j))))
          (λ u. rw u (k.entry j ∙ sym (rw u at (entries j))));
      linked = record { chain = chain; ends = ends };
    }
      where
        fs : List (ℕ × QueueEntry)
        fs = (without_entry qs (numbered x)).entries

        chain : (q : Obj) → Chain D (first (lane fs q)) (lane fs q)
        chain q = subst (λ l. Chain D (first l) l) (sym (lane-without es x q k.sorted)) (by_test (same v.entry.queue q)
            (λ u. subst (λ (s : Obj). Chain D (first (without (lane es s) x)) (without (lane es s) x)) (same-true v.entry.queue q u) at_queue)
            (λ u. subst (λ l. Chain D (first l) l) (sym (without-absent (lane es q) x (out q u)))
            (kept_chain C2 D (first (lane es q)) (lane es q) (λ j m. rest j (false_by _ (λ t. not_both m (ap (has (lane es q)) (sym (eqb-true x j t)) ∙ out q u))))
            (left-other C C1 C2 v.sides (λ j. refl) (λ j. refl) _ xs (lane es q) x sides (λ j m. lanes-apart es k.sorted v.entry.queue q j u m) (k.linked.chain q)))))

        ends : (q : Obj) → ends_in (L' q.0) ≡ ends_of (lane fs q)
        ends q = by_test (same v.entry.queue q)
            (λ u. ap ends_in (rw u at (lines q.0)) ∙ subst (λ (s : Obj). ends_in (option_map (left v.sides) (L s.0)) ≡ ends_of (without (lane es s) x)) (same-true v.entry.queue q u) (ends-left (L v.entry.queue.0) (k.linked.ends v.entry.queue))
            ∙ sym (ap ends_of (lane-without es x q k.sorted)))
            (λ u. ap ends_in (rw u at (lines q.0)) ∙ k.linked.ends q ∙ sym (ap ends_of (lane-without es x q k.sorted ∙ without-absent (lane es q) x (out q u))))

-- nothing leaves where there is no such entry
pub none-leaves : (nodes : map.FinMap nat_cmp Node) (x : ℕ) → map.get nodes x ≡ None → filter (λ e. not (eq_by_cmp nat_cmp x e.0)) (listed entry_in nodes) ≡ listed entry_in nodes
none-leaves nodes x none =
    sym (same-listed entry_in nodes _ (is_sorted-where_key nat_cmp (λ j. not (eq_by_cmp nat_cmp x j)) (listed entry_in nodes) (sorted-listed entry_in nodes))
    (λ j. found-without (listed entry_in nodes) x j ∙ by_test (nat_eq x j)
    (λ u. rw u (sym (ap (option_map entry_in) (ap (map.get nodes) (sym (eqb-true x j u)) ∙ none))))
    (λ u. rw u (found-listed entry_in nodes j))))
