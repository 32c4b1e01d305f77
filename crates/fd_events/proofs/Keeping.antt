-- What each change leaves of what is kept.
use Rattle.std.proofs.Common.{find, ◌≡◌, ℕ, suc, ◌+◌, ◌-◌, ◌<◌, ◌||◌, Bool, true, false, cond, nat_eq, if◌then◌else◌, List, [], ◌∷◌, ◌++◌, length, Option, Some, None, IsSome, is_some, refl, sym, ap, subst, ◌∙◌, arith}
use Rattle.std.proofs.lemmas.Bool.{eqb-true}
use Rattle.std.proofs.lemmas.List.{length-append, length-map}
use Rattle.std.specs.Prelude.{not}
use Rattle.std.specs.Option.{option_map, option_and_then}
use Rattle.std.specs.Ordering.{nat_cmp}
use Rattle.std.specs.FinMap as map
use Rattle.std.specs.FinMap.{get-empty, len-empty}
use Rattle.pool_arena.specs.Arena.{Held}
use Rattle.pool_arena.proofs.Keeps.{get-with_entry}
use Rattle.tree_specs.specs.declared.object.Obj.{Obj}
use Rattle.tree_specs.specs.declared.watch.Watch.{Watch}
use Rattle.tree_specs.specs.Words.Objects.{same, first_context}
use Rattle.tree_specs.specs.Events.Rotation.{watch_of, is_watching, is_watched, unwatched, rewatched, turned_back, behind_all, ring_in, lost}
use Rattle.linked_lanes.specs.declared.Sides.{Sides}
use Rattle.linked_lanes.specs.declared.lane.Extent.{Extent}
use Rattle.linked_lanes.specs.Lane.{has, is_at, without}
use Rattle.linked_lanes.specs.Family.{Family, no_ends}
use Rattle.linked_lanes.proofs.Lanes.{by_test, not_both, false_by, eqb-self, eqb-sym, length-without, has-without-same}
use Rattle.linked_lanes.proofs.Families.{found-count, left-whole, stands, stands_nowhere, grown-family, shrunk-family}
use Rattle.lane_ends.specs.Lanes.{Ends, Lanes, without_lane}
use Rattle.fd_events.specs.declared.node.Node.{Node}
use Rattle.fd_events.specs.declared.lane.Lane.{Lane}
use Rattle.fd_events.specs.declared.change.Change.{Change}
use Rattle.tree_specs.specs.Events.Contexts.{has_context, without_context}
use Rattle.tree_specs.proofs.Events.KnownContexts.{opened-kept, closed-kept, closed-first-kept}
use Rattle.fd_events.specs.Rotation.{AreEventsOnce, lost_one}
use Rattle.fd_events.specs.Changes.{changed, recontexted, watches_of, contexts_of}
use Rattle.fd_events.specs.Linked.{numbered, number_of, sides_of, stamp_of, sides_at, stamp_at, watch_at, watching, with_loss, context_of, context_in, numbers_of, lane_in, placed, lanes_joined, lanes_left, CanLeave, HasFewer, OnContext, is_there, IsLane, AreHolders, IsKept}
use Rattle.fd_events.proofs.Nodes.{sides-put, stamp-put, watch-put, read-changed, read-same}
use Rattle.fd_events.proofs.Holding.{none, once-added, once-filtered, once-changed, watch-object, gone-fd, holders-added, holders-gone, holders-changed, holders-again, is-free}
use Rattle.fd_events.proofs.Lanes.{lane-is, lane-nodes, lane-nowhere}
use Rattle.fd_events.proofs.Rings.{watch-joined, watch-left, watch-changed, context-joined, context-left, context-changed, lane-joined, lane-left, lane-changed, lane-length, length-gone}
use Rattle.fd_events.proofs.Changes.{watches-noted, contexts-noted}

abbrev pub Nodes : Type 0
Nodes = map.FinMap nat_cmp Node

abbrev pub Holders : Type 0
Holders = map.FinMap nat_cmp ℕ

pub some-from : {X : Type 0} (o : Option X) → is_some o ≡ true → (v : X) × (o ≡ Some v)
some-from None e = cc
some-from (Some v) e = (v, refl)

none-read : {X : Type 0} (p : Node → X) (o : Option Node) → option_map p o ≡ None → o ≡ None
none-read p None e = refl
none-read p (Some v) e = cc

module _ (l : Lane) (h : Holders) (ws : List Watch) (cs : List Obj) (k : IsKept l h ws cs) where
  -- ---- what is kept of one event

  pub none-there : (x : Obj) → is_watching ws x ≡ false → map.get l.nodes.pairs x.0 ≡ None
  none-there x absent = none-read (watching x.0) (map.get l.nodes.pairs x.0) (k.held x.0 ∙ none _ absent)

  pub open-lane : (c : Obj) → has_context cs c ≡ true → (e : Extent) × (map.get l.ends.lanes c.0 ≡ Some e)
  open-lane c known = some-from (map.get l.ends.lanes c.0) (k.open_ones c.0 ∙ known)

  -- in a lane of one more event fewer stand than there are
  pub has-fewer : (c : Obj) (n : ℕ) → has_context cs c ≡ true → n ≡ map.len l.nodes.pairs + 1 → HasFewer l.ends.lanes n c.0
  has-fewer c n known more =
      let o = open-lane c known in
      let s = (k.lane.family.told c.0 o.0 o.1).count in
      let m = lane-length ws c.0 in
      let all = k.count in
      (o.0, o.1, omega (arith, s, m, all, more))

  module _ (x : Obj) (v : Node) (found : map.get l.nodes.pairs x.0 ≡ Some v) where
    pub watch-there : watch_of ws x ≡ Some (watching x.0 v)
    watch-there = sym (k.held x.0) ∙ ap (option_map (watching x.0)) found

    pub context-there : context_in ws x.0 ≡ option_map number_of v.context
    context-there = ap (option_and_then context_of) watch-there

    pub sides-there : sides_at l.nodes.pairs x.0 ≡ Some v.sides
    sides-there = ap (option_map sides_of) found

    pub can-leave : OnContext (CanLeave l.ends.lanes v.sides) v.context
    can-leave = go v.context context-there
      where
        go : (o : Option Obj) → context_in ws x.0 ≡ option_map number_of o → OnContext (CanLeave l.ends.lanes v.sides) o
        go None e = tt
        go (Some c) e =
            let p = some-from (map.get l.ends.lanes c.0) (k.lane.family.known c.0 x.0 e) in (
              p.0,
              p.1,
              found-count (context_in ws) (sides_at l.nodes.pairs) (map.get l.ends.lanes) (lane_in ws) k.lane.family x.0 c.0 v.sides p.0 e sides-there p.1,
              left-whole (context_in ws) (sides_at l.nodes.pairs) (map.get l.ends.lanes) (lane_in ws) k.lane.family x.0 c.0 v.sides p.0 e sides-there p.1,
            )

    -- ---- leaving

    pub left-by : (l1 : Lane)
        → ((K : ℕ → Option ℕ) (F : ℕ → List ℕ) (y : ℕ) → IsLane l K F → K y ≡ option_map number_of v.context → sides_at l.nodes.pairs y ≡ Some v.sides → IsLane l1 (placed K y None) (lanes_left F y))
        → IsLane l1 (placed (context_in ws) x.0 None) (lanes_left (lane_in ws) x.0)
    left-by l1 leaves = leaves (context_in ws) (lane_in ws) x.0 k.lane context-there sides-there

    module _ (l1 : Lane)
        (left : IsLane l1 (placed (context_in ws) x.0 None) (lanes_left (lane_in ws) x.0))
        (same : (q : ℕ) → watch_at l1.nodes.pairs q ≡ watch_at l.nodes.pairs q) (len : map.len l1.nodes.pairs ≡ map.len l.nodes.pairs)
        (opens : (d : ℕ) → is_some (map.get l1.ends.lanes d) ≡ is_some (map.get l.ends.lanes d)) where
      left-now : IsLane l1 (context_in (unwatched ws x)) (lane_in (unwatched ws x))
      left-now = lane-is l1 _ (context_in (unwatched ws x)) _ (lane_in (unwatched ws x)) (context-left ws x) (λ d. lane-left ws x d k.once) left

      out : is_watching (unwatched ws x) x ≡ false
      out = ap is_some (watch-left ws x x.0) ∙ rw (eqb-self x.0) refl

      nobody : context_in (unwatched ws x) x.0 ≡ None
      nobody = context-left ws x x.0 ∙ rw (eqb-self x.0) refl

      here : watch_at l1.nodes.pairs x.0 ≡ Some (watching x.0 v)
      here = same x.0 ∙ ap (option_map (watching x.0)) found

      -- in the lane that it left fewer stand than there are
      pub fewer-left : OnContext (HasFewer l1.ends.lanes (map.len l1.nodes.pairs)) v.context
      fewer-left = go v.context context-there
        where
          go : (o : Option Obj) → context_in ws x.0 ≡ option_map number_of o → OnContext (HasFewer l1.ends.lanes (map.len l1.nodes.pairs)) o
          go None e = tt
          go (Some c) e =
              let p = some-from (map.get l1.ends.lanes c.0) (opens c.0 ∙ k.lane.family.known c.0 x.0 e) in
              let s = (left.family.told c.0 p.0 p.1).count in
              let w = length-without (lane_in ws c.0) x.0 (stands (context_in ws) (sides_at l.nodes.pairs) (map.get l.ends.lanes) (lane_in ws) k.lane.family c.0 x.0 e) in
              let m = lane-length ws c.0 in
              let all = k.count in
              (p.0, p.1, omega (arith, s, w, m, all, len))

      module _ (n2 : Held Node) (h' : Holders)
          (taken : (q : ℕ) → map.get n2.pairs q ≡ cond (nat_eq x.0 q) None (map.get l1.nodes.pairs q)) (fewer : map.len n2.pairs ≡ map.len l1.nodes.pairs - 1)
          (noted : (q : ℕ) → map.get h' q ≡ cond (nat_eq v.fd q) None (map.get h q)) where
        away : (c q : ℕ) → has (lane_in (unwatched ws x) c) q ≡ true → nat_eq x.0 q ≡ false
        away c q m = false_by _ (λ t. not_both m
            (ap (has (lane_in (unwatched ws x) c)) (sym (eqb-true x.0 q t))
            ∙ stands_nowhere _ _ _ _ left-now.family c x.0 (context-left ws x x.0 ∙ rw (eqb-self x.0) refl)))

        pub keeps-gone : IsKept (record l1 { nodes = n2 }) h' (unwatched ws x) cs
        keeps-gone = record {
          once = once-filtered (λ (w : Watch). w.object.0) (λ w. not (nat_eq w.object.0 x.0)) ws k.once;
          held = λ q. watch-put l1.nodes.pairs n2.pairs x.0 None taken q ∙ ap (cond (nat_eq x.0 q) None) (same q ∙ k.held q) ∙ sym (watch-left ws x q);
          count = let g = length-gone ws x k.once (ap is_some watch-there) in let all = k.count in omega (arith, len, fewer, g, all);
          noted = holders-gone (map.get h) (map.get h') ws k.noted x (watching x.0 v) k.once watch-there noted;
          lane = lane-nodes l1 n2 _ _ (λ c q m. sides-put l1.nodes.pairs n2.pairs x.0 None taken q (away c q m)) (λ c q m. stamp-put l1.nodes.pairs n2.pairs x.0 None taken q (away c q m)) left-now;
          open_ones = λ c. opens c ∙ k.open_ones c;
        }

      -- ---- going to the end

      -- it joins as this behind all others
      module _ (w : Watch) (own : w.object ≡ x) (fd : w.fd ≡ v.fd) (l2 : Lane)
          (joined : IsLane l2 (placed (context_in (unwatched ws x)) x.0 (context_of w)) (lanes_joined (lane_in (unwatched ws x)) x.0 (context_of w)))
          (now : (q : ℕ) → watch_at l2.nodes.pairs q ≡ cond (nat_eq x.0 q) (Some w) (watch_at l1.nodes.pairs q)) (len2 : map.len l2.nodes.pairs ≡ map.len l1.nodes.pairs)
          (open2 : (d : ℕ) → is_some (map.get l2.ends.lanes d) ≡ is_some (map.get l1.ends.lanes d)) where
        absent : is_watching (unwatched ws x) w.object ≡ false
        absent = ap (is_watching (unwatched ws x)) own ∙ out

        nx : w.object.0 ≡ x.0
        nx = ap (λ (y : Obj). y.0) own

        cover : (b : Bool) (o : Option Watch) → cond b (Some w) o ≡ cond b (Some w) (cond b None o)
        cover true o = refl
        cover false o = refl

        free : is_some (find (λ (u : Watch). nat_eq u.fd w.fd) (unwatched ws x)) ≡ false
        free = ap is_some (gone-fd ws x (watching x.0 v) k.once k.noted.once watch-there w.fd) ∙ (let t : nat_eq v.fd w.fd ≡ true = ap (nat_eq v.fd) fd ∙ eqb-self v.fd in rw t refl)

        pub keeps-behind : IsKept l2 h (unwatched ws x ++ w ∷ []) cs
        keeps-behind = record {
          once = once-added (λ (u : Watch). u.object.0) (unwatched ws x) w (once-filtered (λ (u : Watch). u.object.0) (λ u. not (nat_eq u.object.0 x.0)) ws k.once) absent;
          held = λ q. now q ∙ ap (cond (nat_eq x.0 q) (Some w)) (same q ∙ k.held q) ∙ cover (nat_eq x.0 q) (watch_of ws (numbered q))
              ∙ ap (cond (nat_eq x.0 q) (Some w)) (sym (watch-left ws x q)) ∙ ap (λ (y : ℕ). cond (nat_eq y q) (Some w) (watch_of (unwatched ws x) (numbered q))) (sym nx)
              ∙ sym (watch-joined (unwatched ws x) w q absent);
          count = let g = length-gone ws x k.once (ap is_some watch-there) in let a = length-append (unwatched ws x) (w ∷ []) in let all = k.count in omega (arith, len, len2, g, a, all);
          noted = holders-again (map.get h) ws x (watching x.0 v) w k.once watch-there own fd k.noted free;
          lane = lane-is l2 _ (context_in (unwatched ws x ++ w ∷ [])) _ (lane_in (unwatched ws x ++ w ∷ []))
              (λ q. context-joined (unwatched ws x) w q absent ∙ ap (λ (y : ℕ). placed (context_in (unwatched ws x)) y (context_of w) q) nx)
              (λ d. lane-joined (unwatched ws x) w d ∙ ap (λ (y : ℕ). lanes_joined (lane_in (unwatched ws x)) y (context_of w) d) nx) joined;
          open_ones = λ c. open2 c ∙ opens c ∙ k.open_ones c;
        }

      -- one that has come goes behind all others
      module _ (l2 : Lane)
          (joins : (K : ℕ → Option ℕ) (F : ℕ → List ℕ) → IsLane l1 K F → K x.0 ≡ None → is_there l1 x.0 ≡ true
          → IsLane l2 (placed K x.0 (option_map number_of v.context)) (lanes_joined F x.0 (option_map number_of v.context)))
          (still : (q : ℕ) → watch_at l2.nodes.pairs q ≡ watch_at l1.nodes.pairs q) (len2 : map.len l2.nodes.pairs ≡ map.len l1.nodes.pairs)
          (open2 : (d : ℕ) → is_some (map.get l2.ends.lanes d) ≡ is_some (map.get l1.ends.lanes d)) where
        pub keeps-turned : IsKept l2 h (turned_back ws x) cs
        keeps-turned =
            subst (λ (us : List Watch). IsKept l2 h us cs) (sym (ap (behind_all (unwatched ws x)) watch-there))
            (keeps-behind (watching x.0 v) refl refl l2
            (joins (context_in (unwatched ws x)) (lane_in (unwatched ws x)) left-now nobody (ap is_some here))
            (λ q. still q ∙ by_test (nat_eq x.0 q) (λ t. rw t (ap (watch_at l1.nodes.pairs) (sym (eqb-true x.0 q t)) ∙ here)) (λ t. rw t refl))
            len2 open2)

      -- one is lost, behind all others
      module _ (n2 : Held Node)
          (changes : (q : ℕ) → map.get n2.pairs q ≡ cond (nat_eq x.0 q) (option_map with_loss (map.get l1.nodes.pairs q)) (map.get l1.nodes.pairs q)) (len2 : map.len n2.pairs ≡ map.len l1.nodes.pairs) where
        now-lost : (q : ℕ) → watch_at n2.pairs q ≡ cond (nat_eq x.0 q) (Some (lost (watching x.0 v))) (watch_at l1.nodes.pairs q)
        now-lost q =
            ap (option_map (watching q)) (changes q) ∙ read-changed (watching q) with_loss lost (λ u. refl) (nat_eq x.0 q) (map.get l1.nodes.pairs q)
            ∙ by_test (nat_eq x.0 q) (λ t. rw t (ap (λ (y : ℕ). option_map lost (watch_at l1.nodes.pairs y)) (sym (eqb-true x.0 q t)) ∙ ap (option_map lost) here)) (λ t. rw t refl)

        pub keeps-lost : IsKept (record l1 { nodes = n2 }) h (lost_one ws x) cs
        keeps-lost =
            subst (λ (us : List Watch). IsKept (record l1 { nodes = n2 }) h us cs) (sym (ap (λ o. behind_all (unwatched ws x) (option_map lost o)) watch-there))
            (keeps-behind (lost (watching x.0 v)) refl refl (record l1 { nodes = n2 })
            (lane-nowhere (record l1 { nodes = n2 }) (context_in (unwatched ws x)) (lane_in (unwatched ws x)) x.0 nobody
            (lane-nodes l1 n2 _ _ (λ c q m. ap (option_map sides_of) (changes q) ∙ read-same sides_of with_loss (λ u. refl) (nat_eq x.0 q) (map.get l1.nodes.pairs q))
            (λ c q m. ap (option_map stamp_of) (changes q) ∙ read-same stamp_of with_loss (λ u. refl) (nat_eq x.0 q) (map.get l1.nodes.pairs q)) left-now))
            now-lost len2 (λ d. refl))

  -- ---- adding

  module _ (x : Obj) (v : Node) (n1 : Held Node) (l2 : Lane) (h' : Holders) (new : is_watching ws x ≡ false) (unheld : is_watched ws v.fd ≡ false)
      (added : n1.pairs ≡ map.insert l.nodes.pairs x.0 v) (more : map.len n1.pairs ≡ map.len l.nodes.pairs + 1)
      (joined : (K : ℕ → Option ℕ) (F : ℕ → List ℕ) → IsLane (record l { nodes = n1 }) K F → K x.0 ≡ None → is_there (record l { nodes = n1 }) x.0 ≡ true
      → IsLane l2 (placed K x.0 (option_map number_of v.context)) (lanes_joined F x.0 (option_map number_of v.context)))
      (same : (q : ℕ) → watch_at l2.nodes.pairs q ≡ watch_at n1.pairs q) (len : map.len l2.nodes.pairs ≡ map.len n1.pairs)
      (opens : (d : ℕ) → is_some (map.get l2.ends.lanes d) ≡ is_some (map.get l.ends.lanes d))
      (noted : (q : ℕ) → map.get h' q ≡ cond (nat_eq v.fd q) (Some x.0) (map.get h q)) where
    put : (q : ℕ) → map.get n1.pairs q ≡ cond (nat_eq x.0 q) (Some v) (map.get l.nodes.pairs q)
    put q = ap (λ (m : Nodes). map.get m q) added ∙ get-with_entry l.nodes.pairs x.0 (Some v) q

    nowhere : context_in ws x.0 ≡ None
    nowhere = ap (option_and_then context_of) (none (watch_of ws x) new)

    beside : (c q : ℕ) → has (lane_in ws c) q ≡ true → nat_eq x.0 q ≡ false
    beside c q m = false_by _ (λ t. not_both m (ap (has (lane_in ws c)) (sym (eqb-true x.0 q t)) ∙ stands_nowhere _ _ _ _ k.lane.family c x.0 nowhere))

    pub keeps-added : IsKept l2 h' (ws ++ watching x.0 v ∷ []) cs
    keeps-added = record {
      once = once-added (λ (u : Watch). u.object.0) ws (watching x.0 v) k.once new;
      held = λ q. same q ∙ watch-put l.nodes.pairs n1.pairs x.0 (Some v) put q ∙ ap (cond (nat_eq x.0 q) (Some (watching x.0 v))) (k.held q) ∙ sym (watch-joined ws (watching x.0 v) q new);
      count = let a = length-append ws (watching x.0 v ∷ []) in let all = k.count in omega (arith, len, more, a, all);
      noted = holders-added (map.get h) (map.get h') ws k.noted (watching x.0 v) (is-free ws v.fd unheld) noted;
      lane = lane-is l2 _ (context_in (ws ++ watching x.0 v ∷ [])) _ (lane_in (ws ++ watching x.0 v ∷ [])) (λ q. context-joined ws (watching x.0 v) q new) (λ d. lane-joined ws (watching x.0 v) d)
          (joined (context_in ws) (lane_in ws)
          (lane-nodes l n1 _ _ (λ c q m. sides-put l.nodes.pairs n1.pairs x.0 (Some v) put q (beside c q m)) (λ c q m. stamp-put l.nodes.pairs n1.pairs x.0 (Some v) put q (beside c q m)) k.lane)
          nowhere (ap is_some (watch-put l.nodes.pairs n1.pairs x.0 (Some v) put x.0) ∙ rw (eqb-self x.0) refl));
      open_ones = λ c. opens c ∙ k.open_ones c;
    }

  -- ---- watching otherwise

  module _ (x : Obj) (n1 : Held Node) (g : Node → Node) (f : Watch → Watch) (sides : (v : Node) → (g v).sides ≡ v.sides) (stamps : (v : Node) → (g v).stamp ≡ v.stamp) (watches : (q : ℕ) (v : Node) → watching q (g v) ≡ f (watching q v))
      (fds : (w : Watch) → (f w).fd ≡ w.fd) (objects : (w : Watch) → (f w).object ≡ w.object) (contexts : (w : Watch) → (f w).context ≡ w.context)
      (changes : (q : ℕ) → map.get n1.pairs q ≡ cond (nat_eq x.0 q) (option_map g (map.get l.nodes.pairs q)) (map.get l.nodes.pairs q)) (len : map.len n1.pairs ≡ map.len l.nodes.pairs) where
    pub keeps-changed : IsKept (record l { nodes = n1 }) h (rewatched f ws x) cs
    keeps-changed = record {
      once = once-changed (λ (w : Watch). w.object.0) change kept ws k.once;
      held = λ q. ap (option_map (watching q)) (changes q) ∙ read-changed (watching q) g f (watches q) (nat_eq x.0 q) (map.get l.nodes.pairs q)
          ∙ (λ i. let o = k.held q i in cond (nat_eq x.0 q) (option_map f o) o) ∙ sym (watch-changed f ws x q objects);
      count = let m = length-map ws change in let all = k.count in omega (arith, len, m, all);
      noted = holders-changed (map.get h) (map.get h) ws k.noted f x fds objects (λ q. refl);
      lane = lane-is (record l { nodes = n1 }) _ (context_in (rewatched f ws x)) _ (lane_in (rewatched f ws x)) (λ q. context-changed f ws x q objects contexts) (λ d. lane-changed f ws x d objects contexts)
          (lane-nodes l n1 _ _ (λ c q m. ap (option_map sides_of) (changes q) ∙ read-same sides_of g sides (nat_eq x.0 q) (map.get l.nodes.pairs q))
          (λ c q m. ap (option_map stamp_of) (changes q) ∙ read-same stamp_of g stamps (nat_eq x.0 q) (map.get l.nodes.pairs q)) k.lane);
      open_ones = k.open_ones;
    }
      where
        change : Watch → Watch
        change w = if same w.object x then f w else w

        kept : (w : Watch) → (change w).object.0 ≡ w.object.0
        kept w = by_test (same w.object x) (λ t. rw t (ap (λ (y : Obj). y.0) (objects w))) (λ t. rw t refl)

  -- ---- a context that is added, and one that is dropped

  pub keeps-opened : (c : Obj) (ends : Ends) → map.get l.ends.lanes c.0 ≡ None → ends.lanes ≡ map.insert l.ends.lanes c.0 no_ends → IsKept (record l { ends = ends }) h ws (c ∷ cs)
  keeps-opened c ends fresh set =
      let added : (d : ℕ) → map.get ends.lanes d ≡ cond (nat_eq c.0 d) (Some no_ends) (map.get l.ends.lanes d) =
      λ d. ap (λ (n : Lanes). map.get n d) set ∙ get-with_entry l.ends.lanes c.0 (Some no_ends) d in record {
        once = k.once;
        held = k.held;
        count = k.count;
        noted = k.noted;
        lane = record { family = grown-family _ _ (map.get l.ends.lanes) (lane_in ws) k.lane.family c.0 (map.get ends.lanes) fresh added; stamps = k.lane.stamps };
        open_ones = λ d. opened-kept (map.get l.ends.lanes) (map.get ends.lanes) cs (λ e. k.open_ones e.0) c no_ends added (numbered d);
      }

  module _ (c : Obj) (nothing : ring_in ws c ≡ []) where
    pub keeps-closed : (ends : Ends) → ends.lanes ≡ without_lane l.ends.lanes c.0 → IsKept (record l { ends = ends }) h ws (without_context cs c)
    keeps-closed ends set = by_test (nat_eq c.0 0)
        (λ t. let same_ends : ends.lanes ≡ l.ends.lanes = rw t at set in record {
          once = k.once;
          held = k.held;
          count = k.count;
          noted = k.noted;
          lane = record { family = subst (λ (n : Lanes). Family (context_in ws) (sides_at l.nodes.pairs) (map.get n) (lane_in ws)) (sym same_ends) k.lane.family; stamps = k.lane.stamps };
          open_ones = λ d. closed-first-kept (map.get l.ends.lanes) (map.get ends.lanes) cs (λ e. k.open_ones e.0) c t (λ e. ap (λ (n : Lanes). map.get n e) same_ends) (numbered d);
        })
        (λ t. let removed : ends.lanes ≡ map.remove l.ends.lanes c.0 = rw t at set in
        let dropped : (d : ℕ) → map.get ends.lanes d ≡ cond (nat_eq c.0 d) None (map.get l.ends.lanes d) =
        λ d. ap (λ (n : Lanes). map.get n d) removed ∙ get-with_entry l.ends.lanes c.0 None d in record {
          once = k.once;
          held = k.held;
          count = k.count;
          noted = k.noted;
          lane = record { family = shrunk-family _ _ (map.get l.ends.lanes) (lane_in ws) k.lane.family c.0 (map.get ends.lanes) (ap numbers_of nothing) dropped; stamps = k.lane.stamps };
          open_ones = λ d. closed-kept (map.get l.ends.lanes) (map.get ends.lanes) cs (λ e. k.open_ones e.0) c t dropped (numbered d);
        })

-- ---- nothing

pub keeps-new : (l : Lane) (h : Holders) → l.nodes.pairs ≡ map.empty → l.ends.lanes ≡ map.insert map.empty 0 no_ends → h ≡ map.empty → IsKept l h [] []
keeps-new l h nodes ends holders = record {
  once = tt;
  held = λ q. ap (λ (n : Nodes). option_map (watching q) (map.get n q)) nodes ∙ ap (option_map (watching q)) (get-empty nat_cmp q);
  count = ap (λ (m : Nodes). map.len m) nodes ∙ len-empty nat_cmp Node;
  noted = record { once = tt; holder = λ q. ap (λ (m : Holders). option_map numbered (map.get m q)) holders ∙ ap (option_map numbered) (get-empty nat_cmp q) };
  lane = record { family = grown-family (λ q. None) (sides_at l.nodes.pairs) (λ q. None) (λ c. []) no_lanes 0 (map.get l.ends.lanes) refl at; stamps = λ b c. tt };
  open_ones = λ c. ap is_some (at c) ∙ by_test (nat_eq 0 c) (λ t. rw t refl) (λ t. rw t refl);
}
  where
    at : (d : ℕ) → map.get l.ends.lanes d ≡ cond (nat_eq 0 d) (Some no_ends) None
    at d = ap (λ (n : Lanes). map.get n d) ends ∙ get-with_entry map.empty 0 (Some no_ends) d ∙ ap (cond (nat_eq 0 d) (Some no_ends)) (get-empty nat_cmp d)

    no_lanes : Family (λ q. None) (sides_at l.nodes.pairs) (λ q. None) (λ c. [])
    no_lanes = record {
      distinct = λ c. tt;
      member = λ c q. refl;
      told = λ c e is. absurd (cc);
      known = λ c q is. absurd (cc);
    }

-- ---- the history

-- what is kept, once the change is noted
pub keeps-noted : (l : Lane) (h : Holders) (before after : List (Change × Unit {0})) (change : Change) → after ≡ before ++ (change, tt) ∷ []
    → IsKept l h (changed (watches_of before) change) (recontexted (contexts_of before) change) → IsKept l h (watches_of after) (contexts_of after)
keeps-noted l h before after change noted k =
    subst (λ (ws : List Watch). IsKept l h ws (contexts_of after)) (sym (watches-noted before after change noted))
    (subst (λ (cs : List Obj). IsKept l h (changed (watches_of before) change) cs) (sym (contexts-noted before after change noted)) k)
