-- What a new entry leaves of the queues that the lines and the nodes keep.
use Rattle.std.proofs.Common.{◌≡◌, ℕ, suc, ◌+◌, Bool, true, false, cond, nat_eq, List, ◌∷◌, length, Option, Some, None, is_some, refl, sym, ap, subst, ◌∙◌, add-one}
use Rattle.std.specs.Option.{option_map, option_or}
use Rattle.std.specs.Ordering.{nat_cmp}
use Rattle.std.specs.Cmp.{nat_cmp_total}
use Rattle.std.specs.FinMap.Entries.{put, is_sorted-put}
use Rattle.tree_specs.specs.declared.object.Obj.{Obj}
use Rattle.tree_specs.specs.declared.queue.QueueEntry.{QueueEntry}
use Rattle.tree_specs.specs.Words.Objects.{same}
use Rattle.tree_specs.proofs.Tree.Numbered.{same-true}
use Rattle.tree_specs.specs.Events.Queues.{Queues, has_queue, with_entry}
use Rattle.linked_lanes.specs.declared.Sides.{Sides}
use Rattle.linked_lanes.specs.declared.Link.{Link}
use Rattle.linked_lanes.specs.declared.Link.TheVariants.{Newer}
use Rattle.linked_lanes.specs.Lane.{first, is_at, has, last}
use Rattle.linked_lanes.specs.Chain.{Chain}
use Rattle.linked_lanes.proofs.Lanes.{by_test, eqb-self}
use Rattle.linked_lanes.proofs.Chains.{newer_as, added-chain, added-other}
use Rattle.linked_lanes.proofs.Ends.{last-joined}
use Rattle.request_queue.specs.declared.line.Line.{Line}
use Rattle.request_queue.specs.declared.node.Node.{Node}
use Rattle.request_queue.specs.Register.{IsAbove}
use Rattle.request_queue.specs.Linked.{running_in, newest_in, entry_in, sides_of, lane, joined, with_link, Ends, ends_in, ends_of}
use Rattle.request_queue.proofs.Lanes.{none-above, is_of, has-lane, lanes-apart, lane-added}
use Rattle.request_queue.proofs.Linking.{Keeps, found-with, sides-link, entry-link, running-kept}

-- a number that is above those of all entries is that of none
pub none-there : (L : ℕ → Option Line) (N : ℕ → Option Node) (qs : Queues) → Keeps L N qs → (x : Obj) (link : Link) (older : Option ℕ) → IsAbove x qs.entries → cond (is_at older x.0) (option_map (with_link link) (N x.0)) (N x.0) ≡ None
none-there L N qs k x link older above = go (is_at older x.0) (N x.0) (sym (k.entry x.0) ∙ none-above qs.entries x above)
  where
    go : (b : Bool) (o : Option Node) → option_map entry_in o ≡ None → cond b (option_map (with_link link) o) o ≡ None
    go true None e = refl
    go false None e = refl
    go b (Some v) e = cc

module _ (L L' : ℕ → Option Line) (N N' : ℕ → Option Node) (qs : Queues) (k : Keeps L N qs) (x : Obj) (v : QueueEntry) (older : Option ℕ)
    (above : IsAbove x qs.entries) (there : has_queue qs v.queue ≡ true) (was : older ≡ newest_in (L v.queue.0))
    (nodes : (j : ℕ) → N' j ≡ cond (nat_eq x.0 j) (Some (record { entry = v; sides = record { newer = None; older = older } })) (cond (is_at older j) (option_map (with_link (Newer (Some x.0))) (N j)) (N j)))
    (lines : (j : ℕ) → L' j ≡ cond (nat_eq v.queue.0 j) (option_map (joined x.0) (L j)) (L j)) where
  abbrev es : List (ℕ × QueueEntry)
  es = qs.entries

  abbrev C : ℕ → Option Sides
  C j = option_map sides_of (N j)

  abbrev D : ℕ → Option Sides
  D j = option_map sides_of (N' j)

  others : (j : ℕ) → nat_eq x.0 j ≡ false → D j ≡ cond (is_at older j) (option_map (newer_as (Some x.0)) (C j)) (C j)
  others j n = ap (option_map sides_of) (rw n at (nodes j)) ∙ sides-link (Newer (Some x.0)) (is_at older j) (N j)

  own : D x.0 ≡ Some (record { newer = None; older = older })
  own = ap (option_map sides_of) (rw (eqb-self x.0) at (nodes x.0))

  out : (q : Obj) → has (lane es q) x.0 ≡ false
  out q = has-lane es k.sorted q x.0 ∙ ap (is_of q) (none-above es x above)

  head : (q : Obj) → v.queue ≡ q → older ≡ first (lane es q)
  head q at = was ∙ ap (λ (z : Obj). newest_in (L z.0)) at ∙ ap (λ (e : Ends). e.newest) (k.linked.ends q)

  line-there : (q : Obj) → v.queue ≡ q → is_some (L q.0) ≡ true
  line-there q at = some-line (L q.0) (ap is_some (sym (k.running q.0)) ∙ ap (λ (z : Obj). has_queue qs z) (sym at) ∙ there)
    where
      some-line : (o : Option Line) → is_some (option_map running_in o) ≡ true → is_some o ≡ true
      some-line None e = cc
      some-line (Some l) e = refl

  ends-joined : (o : Option Line) (xs : List ℕ) → is_some o ≡ true → ends_in o ≡ ends_of xs → ends_in (option_map (joined x.0) o) ≡ ends_of (x.0 ∷ xs)
  ends-joined None xs s e = cc
  ends-joined (Some l) xs s e =
      let oldest : option_or l.oldest (Some x.0) ≡ last (x.0 ∷ xs) = ap (λ (f : Ends). option_or f.oldest (Some x.0)) e ∙ sym (last-joined x.0 xs) in
      let length : l.length + 1 ≡ suc (length xs) = add-one l.length ∙ ap (λ (f : Ends). suc f.length) e in
      λ i. record { newest = Some x.0; oldest = oldest i; length = length i }

  pub add-keeps : Keeps L' N' (with_entry qs x v)
  add-keeps = record {
    ordered = k.ordered;
    sorted = is_sorted-put nat_cmp nat_cmp_total x.0 v es k.sorted;
    running = λ j. k.running j ∙ sym (ap (option_map running_in) (lines j) ∙ running-kept (joined x.0) (λ l. refl) (nat_eq v.queue.0 j) (L j));
    entry = λ j. found-with es x.0 j v ∙ by_test (nat_eq x.0 j)
        (λ u. rw u (sym (ap (option_map entry_in) (rw u at (nodes j)))))
        (λ u. rw u (k.entry j ∙ sym (ap (option_map entry_in) (rw u at (nodes j)) ∙ entry-link (Newer (Some x.0)) (is_at older j) (N j))));
    linked = record { chain = chain; ends = ends };
  }
    where
      chain : (q : Obj) → Chain D (first (lane (put nat_cmp x.0 v es) q)) (lane (put nat_cmp x.0 v es) q)
      chain q =
          let added = lane-added es x v q above in
          subst (λ xs. Chain D (first xs) xs) (sym added) (by_test (same v.queue q)
          (λ u. rw u (added-chain C D older x.0 others (lane es q) own (subst (λ h. Chain C h (lane es q)) (sym (head q (same-true v.queue q u))) (k.linked.chain q))))
          (λ u. rw u (added-other C D older x.0 others (first (lane es q)) (lane es v.queue) (lane es q) (out q) (head v.queue refl) (λ j m. lanes-apart es k.sorted v.queue q j u m) (k.linked.chain q))))

      ends : (q : Obj) → ends_in (L' q.0) ≡ ends_of (lane (put nat_cmp x.0 v es) q)
      ends q = by_test (same v.queue q)
          (λ u. ap ends_in (rw u at (lines q.0)) ∙ ends-joined (L q.0) (lane es q) (line-there q (same-true v.queue q u)) (k.linked.ends q) ∙ sym (ap ends_of (rw u at (lane-added es x v q above))))
          (λ u. ap ends_in (rw u at (lines q.0)) ∙ k.linked.ends q ∙ sym (ap ends_of (rw u at (lane-added es x v q above))))
