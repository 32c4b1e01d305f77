-- What each change leaves of what is kept.
use Rattle.std.proofs.Common.{◌≡◌, ℕ, ◌+◌, ◌<◌, true, false, cond, nat_eq, List, [], ◌∷◌, ◌++◌, Option, Some, None, IsSome, is_some, refl, sym, ap, subst, ◌∙◌, arith}
use Rattle.std.proofs.lemmas.Bool.{eqb-true}
use Rattle.std.proofs.lemmas.List.{length-append}
use Rattle.std.specs.Option.{option_map}
use Rattle.std.specs.Ordering.{nat_cmp}
use Rattle.std.specs.FinMap as map
use Rattle.std.specs.FinMap.{get-empty, len-empty}
use Rattle.tree_specs.specs.declared.object.Obj.{Obj}
use Rattle.pool_arena.proofs.Keeps.{get-with_entry}
use Rattle.pool_arena.proofs.Steps.{len-new, len-gone}
use Rattle.linked_lanes.specs.declared.lane.Extent.{Extent}
use Rattle.linked_lanes.specs.declared.Link.TheVariants.{Newer, Older}
use Rattle.linked_lanes.specs.Lane.{is_at}
use Rattle.linked_lanes.specs.Chain.{noted}
use Rattle.linked_lanes.specs.Family.{Family, IsWhole, no_ends, joined_by, left_by}
use Rattle.linked_lanes.proofs.Lanes.{by_test}
use Rattle.linked_lanes.proofs.Families.{same-family, found-count, left-whole, left-family, joined-family, grown-family, shrunk-family}
use Rattle.lane_ends.specs.Lanes.{Lanes, without_lane}
use Rattle.tree_specs.specs.declared.coming.Coming.{Coming}
use Rattle.immediates.specs.declared.node.Node.{Node}
use Rattle.immediates.specs.declared.change.Change.{Change}
use Rattle.immediates.specs.Changes.{changed, recontexted, coming_of, contexts_of}
use Rattle.tree_specs.specs.Events.Pending.{is_scheduled, unscheduled, soon_in}
use Rattle.tree_specs.specs.Events.Contexts.{without_context}
use Rattle.tree_specs.proofs.Events.KnownContexts.{opened-kept, closed-kept, closed-first-kept}
use Rattle.immediates.specs.Linked.{IsKept, numbered, lane_in, context_in, context_of, context_at, sides_of, sides_at}
use Rattle.immediates.proofs.Once.{once-added, once-without, length-gone}
use Rattle.immediates.proofs.Lanes.{lane-joined, lane-left, lane-length, soon-none}
use Rattle.immediates.proofs.Changes.{coming-noted, contexts-noted}
use Rattle.immediates.proofs.Contexts.{scheduled-context, context-left, context-joined}

abbrev Nodes : Type 0
Nodes = map.FinMap nat_cmp Node

read-put : {X : Type 0} (p : Node → X) (m m' : Nodes) (x : ℕ) (o : Option Node) → ((q : ℕ) → map.get m' q ≡ cond (nat_eq x q) o (map.get m q))
    → (q : ℕ) → option_map p (map.get m' q) ≡ cond (nat_eq x q) (option_map p o) (option_map p (map.get m q))
read-put p m m' x o changed q = ap (option_map p) (changed q) ∙ by_test (nat_eq x q) (λ t. rw t refl) (λ t. rw t refl)

pub none-from : {X : Type 0} (o : Option X) → is_some o ≡ false → o ≡ None
none-from None e = refl
none-from (Some x) e = cc

none-read : {X : Type 0} (p : Node → X) (o : Option Node) → option_map p o ≡ None → o ≡ None
none-read p None e = refl
none-read p (Some v) e = cc

-- ---- nothing

no_lanes : (m : Nodes) → ((q : ℕ) → context_at m q ≡ None) → Family (context_at m) (sides_at m) (λ _. None) (λ _. [])
no_lanes m none = record {
  distinct = λ c. tt;
  member = λ c q. sym (ap (λ o. is_at o c) (none q));
  told = λ c e is. absurd (cc);
  known = λ c q is. let bad : None ≡ Some c = sym (none q) ∙ is in absurd (cc);
}

pub keeps-new : (m : Nodes) (ends : Lanes) → m ≡ map.empty → ends ≡ map.insert map.empty 0 no_ends → IsKept m ends [] []
keeps-new m ends e f =
    let none = λ (q : ℕ). ap (λ (n : Nodes). option_map context_of (map.get n q)) e ∙ ap (option_map context_of) (get-empty nat_cmp q) in
    let at : (d : ℕ) → map.get ends d ≡ cond (nat_eq 0 d) (Some no_ends) None =
    λ d. ap (λ (n : Lanes). map.get n d) f ∙ get-with_entry map.empty 0 (Some no_ends) d ∙ ap (cond (nat_eq 0 d) (Some no_ends)) (get-empty nat_cmp d) in record {
      once = tt;
      held = none;
      count = ap (λ (n : Nodes). map.len n) e ∙ len-empty nat_cmp Node;
      family = grown-family (context_at m) (sides_at m) (λ _. None) (λ _. []) (no_lanes m none) 0 (map.get ends) refl at;
      open_ones = λ c. ap is_some (at c) ∙ by_test (nat_eq 0 c) (λ t. rw t refl) (λ t. rw t refl);
    }

module _ (m : Nodes) (ends : Lanes) (coming : List Coming) (contexts : List Obj) (k : IsKept m ends coming contexts) where
  -- ---- what is kept of one that waits, and of one that doesn't

  pub none-there : (x : Obj) → is_scheduled coming x ≡ false → context_at m x.0 ≡ None
  none-there x absent = k.held x.0 ∙ none-from (context_in coming x.0) (sym (scheduled-context coming x) ∙ absent)

  pub there : (x : Obj) → is_some (map.get m x.0) ≡ is_scheduled coming x
  there x = go (map.get m x.0) ∙ ap is_some (k.held x.0) ∙ sym (scheduled-context coming x)
    where
      go : (o : Option Node) → is_some o ≡ is_some (option_map context_of o)
      go None = refl
      go (Some v) = refl

  pub ends-there : (x : ℕ) (v : Node) → map.get m x ≡ Some v → IsSome (map.get ends v.context)
  ends-there x v found = k.family.known v.context x (ap (option_map context_of) found)

  -- fewer stand in a lane than there are
  pub fewer : (c : ℕ) (e : Extent) → map.get ends c ≡ Some e → e.count < map.len m + 1
  fewer c e at =
      let n = (k.family.told c e at).count in
      let l = lane-length coming c in
      let all = k.count in omega (arith, n, l, all)

  -- ---- joining

  module _ (x c : Obj) (e : Extent) (at : map.get ends c.0 ≡ Some e) (absent : is_scheduled coming x ≡ false) (m1 : Nodes)
      (links : (q : ℕ) → sides_at m1 q ≡ cond (is_at e.newest q) (option_map (noted (Newer (Some x.0))) (sides_at m q)) (sides_at m q))
      (stay : (q : ℕ) → context_at m1 q ≡ context_at m q) (len : map.len m1 ≡ map.len m) where
    pub vacant : map.get m1 x.0 ≡ None
    vacant = none-read context_of (map.get m1 x.0) (stay x.0 ∙ none-there x absent)

    module _ (v : Node) (context : v.context ≡ c.0) (sides : v.sides ≡ record { newer = None; older = e.newest }) (m2 : Nodes) (added : m2 ≡ map.insert m1 x.0 v) where
      pub longer : map.len m2 ≡ map.len m + 1
      longer = ap (λ (n : Nodes). map.len n) added ∙ len-new m1 x.0 v vacant ∙ ap (λ (n : ℕ). n + 1) len

      read : (q : ℕ) → map.get m2 q ≡ cond (nat_eq x.0 q) (Some v) (map.get m1 q)
      read q = ap (λ (n : Nodes). map.get n q) added ∙ get-with_entry m1 x.0 (Some v) q

      placed : (q : ℕ) → context_at m2 q ≡ cond (nat_eq x.0 q) (Some c.0) (context_at m q)
      placed q = read-put context_of m1 m2 x.0 (Some v) read q ∙ (λ i. cond (nat_eq x.0 q) (Some (context i)) (stay q i))

      nodes : (q : ℕ) → sides_at m2 q ≡ cond (nat_eq x.0 q) (Some (record { newer = None; older = e.newest })) (cond (is_at e.newest q) (option_map (noted (Newer (Some x.0))) (sides_at m q)) (sides_at m q))
      nodes q = read-put sides_of m1 m2 x.0 (Some v) read q ∙ (λ i. cond (nat_eq x.0 q) (Some (sides i)) (links q i))

      pub keeps-joined : (ends' : Lanes) → ends' ≡ map.insert ends c.0 (joined_by x.0 e) → IsKept m2 ends' (coming ++ record { object = x; context = c } ∷ []) contexts
      keeps-joined ends' set =
          let y : Coming = record { object = x; context = c } in
          let joined : (d : ℕ) → map.get ends' d ≡ cond (nat_eq c.0 d) (Some (joined_by x.0 e)) (map.get ends d) =
          λ d. ap (λ (n : Lanes). map.get n d) set ∙ get-with_entry ends c.0 (Some (joined_by x.0 e)) d in record {
            once = once-added coming y k.once absent;
            held = λ q. placed q ∙ ap (cond (nat_eq x.0 q) (Some c.0)) (k.held q) ∙ sym (context-joined coming y q (sym (k.held x.0) ∙ none-there x absent));
            count = let l = length-append coming (y ∷ []) in let all = k.count in let more = longer in omega (arith, l, all, more);
            family = same-family (context_at m2) (sides_at m2) (map.get ends') _ (lane_in (coming ++ y ∷ [])) (lane-joined coming y)
                (joined-family (context_at m) (sides_at m) (map.get ends) (lane_in coming) k.family x.0 c.0 e (none-there x absent) at (context_at m2) (sides_at m2) (map.get ends') placed nodes joined);
            open_ones = λ d. ap is_some (joined d) ∙ by_test (nat_eq c.0 d)
                (λ t. rw t (sym (ap is_some (ap (map.get ends) (sym (eqb-true c.0 d t)) ∙ at)) ∙ k.open_ones d))
                (λ t. rw t (k.open_ones d));
          }

  -- ---- leaving

  module _ (x : Obj) (v : Node) (found : map.get m x.0 ≡ Some v) (e : Extent) (at : map.get ends v.context ≡ Some e) where
    pub some-there : 0 < e.count
    some-there = found-count (context_at m) (sides_at m) (map.get ends) (lane_in coming) k.family x.0 v.context v.sides e (ap (option_map context_of) found) (ap (option_map sides_of) found) at

    pub whole-left : IsWhole (left_by v.sides e)
    whole-left = left-whole (context_at m) (sides_at m) (map.get ends) (lane_in coming) k.family x.0 v.context v.sides e (ap (option_map context_of) found) (ap (option_map sides_of) found) at

    module _ (m1 m2 m3 : Nodes) (ends' : Lanes) (taken : m1 ≡ map.remove m x.0)
        (olders : (q : ℕ) → sides_at m2 q ≡ cond (is_at v.sides.newer q) (option_map (noted (Older v.sides.older)) (sides_at m1 q)) (sides_at m1 q))
        (stay1 : (q : ℕ) → context_at m2 q ≡ context_at m1 q) (len1 : map.len m2 ≡ map.len m1)
        (newers : (q : ℕ) → sides_at m3 q ≡ cond (is_at v.sides.older q) (option_map (noted (Newer v.sides.newer)) (sides_at m2 q)) (sides_at m2 q))
        (stay2 : (q : ℕ) → context_at m3 q ≡ context_at m2 q) (len2 : map.len m3 ≡ map.len m2)
        (set : ends' ≡ map.insert ends v.context (left_by v.sides e)) where
      read-left : (q : ℕ) → map.get m1 q ≡ cond (nat_eq x.0 q) None (map.get m q)
      read-left q = ap (λ (n : Nodes). map.get n q) taken ∙ get-with_entry m x.0 None q

      gone : (q : ℕ) → context_at m3 q ≡ cond (nat_eq x.0 q) None (context_at m q)
      gone q = stay2 q ∙ stay1 q ∙ read-put context_of m m1 x.0 None read-left q

      left : (d : ℕ) → map.get ends' d ≡ cond (nat_eq v.context d) (Some (left_by v.sides e)) (map.get ends d)
      left d = ap (λ (n : Lanes). map.get n d) set ∙ get-with_entry ends v.context (Some (left_by v.sides e)) d

      pub keeps-left : IsKept m3 ends' (unscheduled coming x) contexts
      keeps-left =
          let here : is_some (map.get m x.0) ≡ true = ap is_some found in record {
            once = once-without coming x k.once;
            held = λ q. gone q ∙ ap (cond (nat_eq x.0 q) None) (k.held q) ∙ sym (context-left coming x q);
            count =
                let less = ap (λ (n : Nodes). map.len n) taken ∙ len-gone m x.0 here in
                let l = length-gone coming x k.once (sym (there x) ∙ here) in
                let all = k.count in omega (arith, len1, len2, less, l, all);
            family = same-family (context_at m3) (sides_at m3) (map.get ends') _ (lane_in (unscheduled coming x)) (λ d. lane-left coming x d k.once)
                (left-family (context_at m) (sides_at m) (map.get ends) (lane_in coming) k.family x.0 v.context v.sides e (ap (option_map context_of) found) (ap (option_map sides_of) found) at
                (context_at m3) (sides_at m1) (sides_at m2) (sides_at m3) (map.get ends') gone (read-put sides_of m m1 x.0 None read-left) olders newers left);
            open_ones = λ d. ap is_some (left d) ∙ by_test (nat_eq v.context d)
                (λ t. rw t (sym (ap is_some (ap (map.get ends) (sym (eqb-true v.context d t)) ∙ at)) ∙ k.open_ones d))
                (λ t. rw t (k.open_ones d));
          }

  -- ---- a context that is added, and one that is dropped

  pub keeps-opened : (c : Obj) (ends' : Lanes) → map.get ends c.0 ≡ None → ends' ≡ map.insert ends c.0 no_ends → IsKept m ends' coming (c ∷ contexts)
  keeps-opened c ends' fresh set =
      let added : (d : ℕ) → map.get ends' d ≡ cond (nat_eq c.0 d) (Some no_ends) (map.get ends d) =
      λ d. ap (λ (n : Lanes). map.get n d) set ∙ get-with_entry ends c.0 (Some no_ends) d in record {
        once = k.once;
        held = k.held;
        count = k.count;
        family = grown-family (context_at m) (sides_at m) (map.get ends) (lane_in coming) k.family c.0 (map.get ends') fresh added;
        open_ones = λ d. opened-kept (map.get ends) (map.get ends') contexts (λ e. k.open_ones e.0) c no_ends added (numbered d);
      }

  module _ (c : Obj) (none : soon_in coming c ≡ []) where
    pub keeps-closed : (ends' : Lanes) → ends' ≡ without_lane ends c.0 → IsKept m ends' coming (without_context contexts c)
    keeps-closed ends' set = by_test (nat_eq c.0 0)
        (λ t. let same_ends : ends' ≡ ends = rw t at set in record {
          once = k.once;
          held = k.held;
          count = k.count;
          family = subst (λ (n : Lanes). Family (context_at m) (sides_at m) (map.get n) (lane_in coming)) (sym same_ends) k.family;
          open_ones = λ d. closed-first-kept (map.get ends) (map.get ends') contexts (λ e. k.open_ones e.0) c t (λ e. ap (λ (n : Lanes). map.get n e) same_ends) (numbered d);
        })
        (λ t. let removed : ends' ≡ map.remove ends c.0 = rw t at set in
        let dropped : (d : ℕ) → map.get ends' d ≡ cond (nat_eq c.0 d) None (map.get ends d) =
        λ d. ap (λ (n : Lanes). map.get n d) removed ∙ get-with_entry ends c.0 None d in record {
          once = k.once;
          held = k.held;
          count = k.count;
          family = shrunk-family (context_at m) (sides_at m) (map.get ends) (lane_in coming) k.family c.0 (map.get ends') (soon-none coming c none) dropped;
          open_ones = λ d. closed-kept (map.get ends) (map.get ends') contexts (λ e. k.open_ones e.0) c t dropped (numbered d);
        })

-- ---- the history

-- what is kept, once the change is noted
pub keeps-noted : (m : Nodes) (ends : Lanes) (before after : List (Change × Unit {0})) (change : Change) → after ≡ before ++ (change, tt) ∷ []
    → IsKept m ends (changed (coming_of before) change) (recontexted (contexts_of before) change) → IsKept m ends (coming_of after) (contexts_of after)
keeps-noted m ends before after change noted k =
    subst (λ (xs : List Coming). IsKept m ends xs (contexts_of after)) (sym (coming-noted before after change noted))
    (subst (λ (cs : List Obj). IsKept m ends (changed (coming_of before) change) cs) (sym (contexts-noted before after change noted)) k)
