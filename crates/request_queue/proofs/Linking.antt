-- What each change of the lines and the nodes leaves of the queues that they keep.
use Rattle.std.proofs.Common.{◌≡◌, ℕ, Bool, true, false, cond, not, nat_eq, if◌then◌else◌, List, [], length, Option, Some, None, is_some, refl, sym, ap, subst, ◌∙◌, T, ◌≤◌, ◌+◌, arith}
use Rattle.std.proofs.lemmas.Bool.{eqb-true}
use Rattle.std.specs.List.{filter}
use Rattle.std.specs.Option.{option_map}
use Rattle.std.specs.Ordering.{nat_cmp, eq_by_cmp, is_eq}
use Rattle.std.specs.Cmp.{nat_cmp_total, alike_right}
use Rattle.std.specs.FinMap as map
use Rattle.std.specs.FinMap.Entries.{find, put, is_sorted, find-put, find-where_key, is_sorted-put, is_sorted-where_key, length-put}
use Rattle.pool_arena.proofs.Keeps.{ties}
use Rattle.tree_specs.specs.declared.object.Obj.{Obj}
use Rattle.tree_specs.specs.declared.queue.QueueEntry.{QueueEntry}
use Rattle.tree_specs.specs.Events.Queues.{Queues, Head, head_of, has_entries, has_queue, running_of, with_queue, without_queue, entry_of, run_as, next_of, runs, untriggered, triggered, triggered_entry}
use Rattle.linked_lanes.specs.declared.Link.{Link}
use Rattle.linked_lanes.specs.Lane.{first}
use Rattle.linked_lanes.specs.Chain.{Chain, noted}
use Rattle.linked_lanes.proofs.Lanes.{by_test, eqb-sym}
use Rattle.linked_lanes.proofs.Chains.{kept_chain}
use Rattle.linked_lanes.proofs.Ends.{no-last}
use Rattle.request_queue.specs.declared.line.Line.{Line}
use Rattle.request_queue.specs.declared.node.Node.{Node}
use Rattle.request_queue.specs.Register.{coming_for, coming_of, object_of, turn_of}
use Rattle.request_queue.specs.Linked.{numbered, running_in, oldest_in, length_in, entry_in, sides_of, queues_in, lane, turn_in, run_by, with_link, begun, waiting_at, waiting_first, next_in, Ends, ends_in, ends_of, AreLinked, IsLinked}
use Rattle.request_queue.proofs.Listing.{found-listed, sorted-listed, same-listed}
use Rattle.request_queue.proofs.Lanes.{few-lane, last-lane, head-found, lane-changed}

-- the lines and the nodes, as functions, keep these queues
pub record Keeps (L : ℕ → Option Line) (N : ℕ → Option Node) (qs : Queues) : Type 0 where
  pub ordered : T (is_sorted nat_cmp qs.running)
  pub sorted : T (is_sorted nat_cmp qs.entries)
  pub running : (q : ℕ) → find nat_cmp q qs.running ≡ option_map running_in (L q)
  pub entry : (k : ℕ) → find nat_cmp k qs.entries ≡ option_map entry_in (N k)
  pub linked : AreLinked L N qs.entries

-- ---- the fields

module _ (lines : map.FinMap nat_cmp Line) (nodes : map.FinMap nat_cmp Node) where
  pub linked-keeps : IsLinked lines nodes → Keeps (map.get lines) (map.get nodes) (queues_in lines nodes)
  linked-keeps l = record {
    ordered = sorted-listed running_in lines;
    sorted = sorted-listed entry_in nodes;
    running = found-listed running_in lines;
    entry = found-listed entry_in nodes;
    linked = l;
  }

  pub queues-kept : (qs : Queues) → Keeps (map.get lines) (map.get nodes) qs → queues_in lines nodes ≡ qs
  queues-kept qs k = λ i. record { running = same-listed running_in lines qs.running k.ordered k.running i; entries = same-listed entry_in nodes qs.entries k.sorted k.entry i }

  pub keeps-linked : (qs : Queues) → Keeps (map.get lines) (map.get nodes) qs → IsLinked lines nodes
  keeps-linked qs k = subst (AreLinked (map.get lines) (map.get nodes)) (sym (same-listed entry_in nodes qs.entries k.sorted k.entry)) k.linked

-- ---- what is found after a change

pub found-with : {V : Type 0} (es : List (ℕ × V)) (x k : ℕ) (v : V) → find nat_cmp k (put nat_cmp x v es) ≡ cond (nat_eq x k) (Some v) (find nat_cmp k es)
found-with es x k v = find-put nat_cmp nat_cmp_total k x v es ∙ ap (λ b. cond b (Some v) (find nat_cmp k es)) (ties k x)

pub found-without : {V : Type 0} (es : List (ℕ × V)) (x k : ℕ) → find nat_cmp k (filter (λ e. not (eq_by_cmp nat_cmp x e.0)) es) ≡ cond (nat_eq x k) None (find nat_cmp k es)
found-without es x k =
    find-where_key nat_cmp (λ j. not (eq_by_cmp nat_cmp x j)) k (λ j t. ap (λ r. not (is_eq r)) (sym (alike_right nat_cmp_total k j x t))) es
    ∙ ap (λ b. cond (not b) (find nat_cmp k es) None) (ties x k ∙ eqb-sym k x) ∙ turned (nat_eq x k) (find nat_cmp k es)
  where
    turned : {A : Type 0} (b : Bool) (o : Option A) → cond (not b) o None ≡ cond b None o
    turned true o = refl
    turned false o = refl

-- ---- what one change of a node or a line leaves

pub sides-link : (link : Link) (b : Bool) (o : Option Node) → option_map sides_of (cond b (option_map (with_link link) o) o) ≡ cond b (option_map (noted link) (option_map sides_of o)) (option_map sides_of o)
sides-link link true None = refl
sides-link link true (Some v) = refl
sides-link link false o = refl

pub entry-link : (link : Link) (b : Bool) (o : Option Node) → option_map entry_in (cond b (option_map (with_link link) o) o) ≡ option_map entry_in o
entry-link link true None = refl
entry-link link true (Some v) = refl
entry-link link false o = refl

pub running-kept : (f : Line → Line) → ((l : Line) → (f l).running ≡ l.running) → (b : Bool) (o : Option Line) → option_map running_in (cond b (option_map f o) o) ≡ option_map running_in o
running-kept f same_one true None = refl
running-kept f same_one true (Some l) = ap Some (same_one l)
running-kept f same_one false o = refl

-- ---- the same lanes

same-lanes : (L L' : ℕ → Option Line) (N N' : ℕ → Option Node) (es fs : List (ℕ × QueueEntry)) → ((q : Obj) → lane fs q ≡ lane es q) → ((k : ℕ) → option_map sides_of (N' k) ≡ option_map sides_of (N k))
    → ((q : Obj) → ends_in (L' q.0) ≡ ends_in (L q.0)) → AreLinked L N es → AreLinked L' N' fs
same-lanes L L' N N' es fs lanes sides ends l = record {
  chain = λ q. subst (λ xs. Chain (λ k. option_map sides_of (N' k)) (first xs) xs) (sym (lanes q)) (kept_chain _ _ _ _ (λ k m. sides k) (l.chain q));
  ends = λ q. ends q ∙ l.ends q ∙ ap ends_of (sym (lanes q));
}

-- what holds of a line
module _ (L : ℕ → Option Line) (N : ℕ → Option Node) (qs : Queues) (k : Keeps L N qs) (q : Obj) where
  pub no-line : running_of qs q ≡ None → L q.0 ≡ None
  no-line new = go (L q.0) (sym (k.running q.0) ∙ new)
    where
      go : (o : Option Line) → option_map running_in o ≡ None → o ≡ None
      go None e = refl
      go (Some l) e = cc

  pub few-there : (l : Line) → L q.0 ≡ Some l → l.length ≤ length qs.entries
  few-there l e =
      let all : l.length ≡ length (lane qs.entries q) = sym (ap length_in e) ∙ ap (λ (f : Ends). f.length) (k.linked.ends q) in
      let few = few-lane qs.entries q in
      omega (arith, all, few)

-- another line, with the same ends
module _ (L L' : ℕ → Option Line) (N : ℕ → Option Node) (qs : Queues) (k : Keeps L N qs) (q : Obj) where
  relined : ((j : ℕ) → ends_in (L' j) ≡ ends_in (L j)) → AreLinked L' N qs.entries
  relined ends = same-lanes L L' N N qs.entries qs.entries (λ _. refl) (λ _. refl) (λ s. ends s.0) k.linked

  -- a queue runs from now on, or it doesn't
  pub run-keeps : (b : Bool) → ((j : ℕ) → L' j ≡ cond (nat_eq q.0 j) (option_map (run_by b) (L j)) (L j)) → Keeps L' N (run_as qs q b)
  run-keeps b lines = by_test (has_queue qs q)
      (λ t. rw t (record {
        ordered = is_sorted-put nat_cmp nat_cmp_total q.0 b qs.running k.ordered;
        sorted = k.sorted;
        running = λ j. found-with qs.running q.0 j b ∙ by_test (nat_eq q.0 j)
            (λ u. rw u (there (L j) (ap is_some (sym (k.running j)) ∙ ap (λ i. is_some (find nat_cmp i qs.running)) (sym (eqb-true q.0 j u)) ∙ t)
            ∙ sym (ap (option_map running_in) (rw u at (lines j)))))
            (λ u. rw u (k.running j ∙ sym (ap (option_map running_in) (rw u at (lines j)))));
        entry = k.entry;
        linked = linked;
      }))
      (λ t. rw t (record {
        ordered = k.ordered;
        sorted = k.sorted;
        running = λ j. k.running j ∙ by_test (nat_eq q.0 j)
            (λ u. none (L j) (ap is_some (sym (k.running j)) ∙ ap (λ i. is_some (find nat_cmp i qs.running)) (sym (eqb-true q.0 j u)) ∙ t)
            ∙ sym (ap (option_map running_in) (rw u at (lines j))))
            (λ u. sym (ap (option_map running_in) (rw u at (lines j))));
        entry = k.entry;
        linked = linked;
      }))
    where
      there : (o : Option Line) → is_some (option_map running_in o) ≡ true → Some b ≡ option_map running_in (option_map (run_by b) o)
      there None e = cc
      there (Some l) e = refl

      none : (o : Option Line) → is_some (option_map running_in o) ≡ false → option_map running_in o ≡ option_map running_in (option_map (run_by b) o)
      none None e = refl
      none (Some l) e = cc

      ends : (c : Bool) (o : Option Line) → ends_in (cond c (option_map (run_by b) o) o) ≡ ends_in o
      ends true None = refl
      ends true (Some l) = refl
      ends false o = refl

      linked : AreLinked L' N qs.entries
      linked = relined (λ j. ap ends_in (lines j) ∙ ends (nat_eq q.0 j) (L j))

  -- a new queue, which runs
  pub new-keeps : running_of qs q ≡ None → ((j : ℕ) → L' j ≡ cond (nat_eq q.0 j) (Some (record { running = true; newest = None; oldest = None; length = 0 })) (L j)) → Keeps L' N (with_queue qs q true)
  new-keeps new lines = record {
    ordered = is_sorted-put nat_cmp nat_cmp_total q.0 true qs.running k.ordered;
    sorted = k.sorted;
    running = λ j. found-with qs.running q.0 j true ∙ by_test (nat_eq q.0 j)
        (λ u. rw u (sym (ap (option_map running_in) (rw u at (lines j)))))
        (λ u. rw u (k.running j ∙ sym (ap (option_map running_in) (rw u at (lines j)))));
    entry = k.entry;
    linked = relined (λ j. by_test (nat_eq q.0 j)
        (λ u. ap ends_in (rw u at (lines j)) ∙ sym (ap (λ i. ends_in (L i)) (sym (eqb-true q.0 j u)) ∙ ap ends_in (no-line L N qs k q new)))
        (λ u. ap ends_in (rw u at (lines j))));
  }

  -- a queue with no entries is no more
  pub forget-keeps : has_entries qs q ≡ false → ((j : ℕ) → L' j ≡ cond (nat_eq q.0 j) None (L j)) → Keeps L' N (without_queue qs q)
  forget-keeps empty lines = record {
    ordered = is_sorted-where_key nat_cmp (λ j. not (eq_by_cmp nat_cmp q.0 j)) qs.running k.ordered;
    sorted = k.sorted;
    running = λ j. found-without qs.running q.0 j ∙ by_test (nat_eq q.0 j)
        (λ u. rw u (sym (ap (option_map running_in) (rw u at (lines j)))))
        (λ u. rw u (k.running j ∙ sym (ap (option_map running_in) (rw u at (lines j)))));
    entry = k.entry;
    linked = relined (λ j. by_test (nat_eq q.0 j)
        (λ u. ap ends_in (rw u at (lines j)) ∙ sym (ap (λ i. ends_in (L i)) (sym (eqb-true q.0 j u)) ∙ k.linked.ends q ∙ ap ends_of none))
        (λ u. ap ends_in (rw u at (lines j))));
  }
    where
      nobody : (o : Option Head) → is_some o ≡ false → option_map (λ (h : Head). h.object.0) o ≡ None
      nobody None e = refl
      nobody (Some h) e = cc

      none : lane qs.entries q ≡ []
      none = no-last (lane qs.entries q) (last-lane qs.entries q ∙ nobody (head_of qs q) empty)

-- ---- whose turn it is

-- the entry of a number whose trigger may begin
pub record IsNext (qs : Queues) (q x : Obj) : Type 0 where
  pub entry : Head
  pub next : next_of qs q ≡ Some entry
  pub head : head_of qs q ≡ Some entry
  pub object : entry.object ≡ x

pub next-is : (qs : Queues) (q x : Obj) → option_map object_of (next_of qs q) ≡ Some x → IsNext qs q x
next-is qs q x e = by_test (runs qs q)
    (λ t. let e' : option_map object_of (untriggered (head_of qs q)) ≡ Some x = rw t at e in go t (head_of qs q) refl e')
    (λ t. let bad : None ≡ Some x = rw t at e in cc)
  where
    go : runs qs q ≡ true → (o : Option Head) → head_of qs q ≡ o → option_map object_of (untriggered o) ≡ Some x → IsNext qs q x
    go t None is e = cc
    go t (Some h) is e = by_test h.entry.triggered
        (λ u. let bad : None ≡ Some x = rw u at e in cc)
        (λ u. let e' : Some h.object ≡ Some x = rw u at e in record { entry = h; next = rw (t, is, u) refl; head = is; object = cc })

-- a queue comes in the context of the entry whose trigger may begin
pub coming-is : (qs : Queues) (q x : Obj) (e : QueueEntry) → T (is_sorted nat_cmp qs.entries) → option_map object_of (next_of qs q) ≡ Some x → entry_of qs x ≡ Some e
    → Some (record { object = q; context = e.trigger.context }) ≡ coming_of qs q
coming-is qs q x e sorted is found =
    let n = next-is qs q x is in
    let at : entry_of qs x ≡ Some n.entry.entry = subst (λ (y : Obj). entry_of qs y ≡ Some n.entry.entry) n.object (head-found qs.entries q n.entry sorted n.head) in
    let both : Some e ≡ Some n.entry.entry = sym found ∙ at in
    let same_one : e ≡ n.entry.entry = cc in
    ap (λ (w : QueueEntry). Some (record { object = q; context = w.trigger.context })) same_one ∙ sym (ap (option_map (coming_for q)) n.next)

pub next-entered : {A : Type 0} (qs : Queues) (q x : Obj) → T (is_sorted nat_cmp qs.entries) → option_map object_of (next_of qs q) ≡ Some x → entry_of qs x ≡ None → A
next-entered qs q x sorted is none =
    let n = next-is qs q x is in
    let at : entry_of qs x ≡ Some n.entry.entry = subst (λ (y : Obj). entry_of qs y ≡ Some n.entry.entry) n.object (head-found qs.entries q n.entry sorted n.head) in
    let bad : None ≡ Some n.entry.entry = sym none ∙ at in
    cc

pub none-comes : (q : Obj) (o : Option Head) → None ≡ option_map object_of o → None ≡ option_map (coming_for q) o
none-comes q None e = refl
none-comes q (Some h) e = cc

module _ (L : ℕ → Option Line) (N : ℕ → Option Node) (qs : Queues) (k : Keeps L N qs) (q : Obj) where
  oldest-is : oldest_in (L q.0) ≡ option_map (λ (h : Head). h.object.0) (head_of qs q)
  oldest-is = ap (λ (e : Ends). e.oldest) (k.linked.ends q) ∙ last-lane qs.entries q

  pub head-kept : option_map numbered (oldest_in (L q.0)) ≡ option_map object_of (head_of qs q)
  head-kept = ap (option_map numbered) oldest-is ∙ go (head_of qs q)
    where
      go : (o : Option Head) → option_map numbered (option_map (λ (h : Head). h.object.0) o) ≡ option_map object_of o
      go None = refl
      go (Some h) = refl

  -- the node of the first entry
  head-node : (h : Head) → head_of qs q ≡ Some h → option_map entry_in (N h.object.0) ≡ Some h.entry
  head-node h is = sym (k.entry h.object.0) ∙ head-found qs.entries q h k.sorted is

  pub turn-kept : (h : Head) → head_of qs q ≡ Some h → option_map turn_in (N h.object.0) ≡ Some (turn_of h)
  turn-kept h is = go (N h.object.0) (head-node h is)
    where
      go : (o : Option Node) → option_map entry_in o ≡ Some h.entry → option_map turn_in o ≡ Some (turn_of h)
      go None e = cc
      go (Some v) e = let at : v.entry ≡ h.entry = cc in λ i. Some (record { request = (at i).request; trigger = (at i).trigger })

  pub next-kept : option_map numbered (next_in N (L q.0)) ≡ option_map object_of (next_of qs q)
  next-kept = go (L q.0) (k.running q.0) oldest-is
    where
      same_turn : (h : Head) (o : Option Node) → option_map entry_in o ≡ Some h.entry → option_map numbered (waiting_at h.object.0 o) ≡ option_map object_of (untriggered (Some h))
      same_turn h None e = cc
      same_turn h (Some v) e =
          let is : v.entry ≡ h.entry = cc in
          ap (λ (w : QueueEntry). option_map numbered (if w.triggered then None else Some h.object.0)) is ∙ by_test h.entry.triggered (λ t. rw t refl) (λ t. rw t refl)

      first_turn : (o : Option Head) → head_of qs q ≡ o → option_map numbered (waiting_first N (option_map (λ (h : Head). h.object.0) o)) ≡ option_map object_of (untriggered o)
      first_turn None e = refl
      first_turn (Some h) e = same_turn h (N h.object.0) (head-node h e)

      go : (o : Option Line) → find nat_cmp q.0 qs.running ≡ option_map running_in o → oldest_in o ≡ option_map (λ (h : Head). h.object.0) (head_of qs q) → option_map numbered (next_in N o) ≡ option_map object_of (next_of qs q)
      go None e f = rw e refl
      go (Some l) e f = rw e (by_test l.running
          (λ t. rw t (ap (λ o. option_map numbered (waiting_first N o)) f ∙ first_turn (head_of qs q) refl))
          (λ t. rw t refl))

  -- the trigger of the first entry begins
  pub trigger-keeps : (N' : ℕ → Option Node) (h : Head) → head_of qs q ≡ Some h → ((j : ℕ) → N' j ≡ cond (nat_eq h.object.0 j) (option_map begun (N j)) (N j)) → Keeps L N' (triggered qs h)
  trigger-keeps N' h is nodes = record {
    ordered = k.ordered;
    sorted = is_sorted-put nat_cmp nat_cmp_total h.object.0 (triggered_entry h.entry) qs.entries k.sorted;
    running = k.running;
    entry = λ j. found-with qs.entries h.object.0 j (triggered_entry h.entry) ∙ by_test (nat_eq h.object.0 j)
        (λ u. rw u (entered (N j) (ap (λ i. option_map entry_in (N i)) (sym (eqb-true h.object.0 j u)) ∙ head-node h is) ∙ sym (ap (option_map entry_in) (rw u at (nodes j)))))
        (λ u. rw u (k.entry j ∙ sym (ap (option_map entry_in) (rw u at (nodes j)))));
    linked = same-lanes L L N N' qs.entries _ (λ s. lane-changed qs.entries h.object.0 (triggered_entry h.entry) h.entry s k.sorted (head-found qs.entries q h k.sorted is) refl)
        (λ j. ap (option_map sides_of) (nodes j) ∙ sides (nat_eq h.object.0 j) (N j)) (λ s. refl) k.linked;
  }
    where
      entered : (o : Option Node) → option_map entry_in o ≡ Some h.entry → Some (triggered_entry h.entry) ≡ option_map entry_in (option_map begun o)
      entered None e = cc
      entered (Some v) e = let at : v.entry ≡ h.entry = cc in sym (ap (λ w. Some (triggered_entry w)) at)

      sides : (b : Bool) (o : Option Node) → option_map sides_of (cond b (option_map begun o) o) ≡ option_map sides_of o
      sides true None = refl
      sides true (Some v) = refl
      sides false o = refl

  pub triggered-many : (h : Head) → head_of qs q ≡ Some h → length (triggered qs h).entries ≡ length qs.entries
  triggered-many h is =
      length-put nat_cmp nat_cmp_total h.object.0 (triggered_entry h.entry) qs.entries k.sorted
      ∙ ap (λ o. cond (is_some o) (length qs.entries) (length qs.entries + 1)) (head-found qs.entries q h k.sorted is)
