use Rattle.std.proofs.Common.{◌≡◌, ℕ, List, ◌++◌, ◌∷◌, [], length, set, slice_get, IsSome, is_some, Some, true, false, cond, nat_eq, refl, sym, ap, subst, ◌∙◌}
use Rattle.std.proofs.lemmas.Bool.{eqb-true, eq-eqb}
use Rattle.std.specs.Option.{option_map, option_and_then}
use Rattle.std.specs.FinMap as map
use Rattle.pool_arena.proofs.Keeps.{get-with_entry}
use Rattle.pool_arena.proofs.Steps.{len-new}
use Rattle.tree_specs.specs.declared.due.Due.{Due}
use Rattle.tree_specs.proofs.Tree.Numbered.{by_test}
use Rattle.timers.specs.Heaped.{Rises, Places, Told, IsSettled, Reorders, with_place}
use Rattle.timers.specs.Heaps.{context_of, index_in, context_at, at_in, CanEnter, IsEntered, IsSameBeside}
use Rattle.timers.proofs.Sorted.{told-more, told-append, sorted-append}
use Rattle.timers.proofs.Entering.{set-end, with-itself, entered-rises, entered-places, kept}
use Rattle.timers.proofs.Noting.{Noted}
use Rattle.timers.proofs.heap.enter.Goals as goal

-- d is noted at the end of the heap, and then goes to where it belongs
module _ (d : Due) (ds es : List Due) (at : ℕ) (m n : Noted) (can : CanEnter d ds m) (end : at ≡ length ds) (items : es ≡ ds ++ d ∷ [])
    (noted : n ≡ map.insert m d.object.0 (record { context = d.context.0; at = at })) where
  read : (q : ℕ) → map.get n q ≡ cond (nat_eq d.object.0 q) (Some (record { context = d.context.0; at = at })) (map.get m q)
  read q = ap (λ (o : Noted). map.get o q) noted ∙ get-with_entry m d.object.0 (Some _) q

  self : nat_eq d.context.0 d.context.0 ≡ true
  self = eq-eqb d.context.0 d.context.0 refl

  here : (q : ℕ) → at_in n d.context.0 q ≡ with_place (at_in m d.context.0) d.object.0 (length ds) q
  here q = ap (option_and_then (index_in d.context.0)) (read q) ∙ by_test (nat_eq d.object.0 q) (λ t. rw (t, self) (ap Some end)) (λ t. rw t refl)

  elsewhere : (c q : ℕ) → nat_eq d.context.0 c ≡ false → at_in n c q ≡ at_in m c q
  elsewhere c q ne = ap (option_and_then (index_in c)) (read q) ∙ by_test (nat_eq d.object.0 q)
      (λ t. let none = ap (option_and_then (index_in c)) (ap (map.get m) (sym (eqb-true d.object.0 q t)) ∙ can.vacant) in rw (t, ne) (sym none))
      (λ t. rw t refl)

  contexts : (q : ℕ) → context_at n q ≡ cond (nat_eq d.object.0 q) (Some d.context.0) (context_at m q)
  contexts q = ap (option_map context_of) (read q) ∙ by_test (nat_eq d.object.0 q) (λ t. rw t refl) (λ t. rw t refl)

  all-items : set es at d ≡ ds ++ d ∷ []
  all-items = (λ i. set (items i) (end i) d) ∙ set-end ds d

  begins-held : IsSome (at_in n d.context.0 d.object.0)
  begins-held = ap is_some (here d.object.0 ∙ with-itself (at_in m d.context.0) d.object.0 (length ds))

  begins-heap : Rises (slice_get (set es at d)) at
  begins-heap = subst (λ k. Rises (slice_get (set es at d)) k) (sym end) (subst (λ l. Rises (slice_get l) (length ds)) (sym all-items) (entered-rises ds d can.kept.heap))

  begins-places : Places (slice_get (set es at d)) (with_place (at_in n d.context.0) d.object.0 at)
  begins-places =
      subst (λ k. Places (slice_get (set es at d)) (with_place (at_in n d.context.0) d.object.0 k)) (sym end)
      (subst (λ l. Places (slice_get l) (with_place (at_in n d.context.0) d.object.0 (length ds))) (sym all-items)
      (entered-places ds d (at_in m d.context.0) (at_in n d.context.0) can.kept.places (ap (option_and_then (index_in d.context.0)) can.vacant) here))

  ends : (fs : List Due) (o : Noted) → IsSettled (set es at d) fs (at_in o d.context.0) → IsSameBeside n o d.context.0 → IsEntered d ds fs m o
  ends fs o settled beside =
      let reordered : Reorders (ds ++ d ∷ []) fs = subst (λ l. Reorders l fs) all-items settled.dues in
      let teller = told-more ds d can.kept.told can.number in
      let told : Told teller.0 (ds ++ d ∷ []) = told-append teller.0 ds d teller.1 teller.2 in record {
        kept = kept teller.0 fs (at_in o d.context.0) settled.heap settled.places (reordered.told teller.0 told);
        dues = reordered.order teller.0 told ∙ sorted-append teller.0 ds d teller.1 teller.2;
        places = λ c q ne. beside.places c q ne ∙ elsewhere c q ne;
        contexts = λ q. beside.contexts q ∙ contexts q;
        count = beside.count ∙ ap (λ (k : Noted). map.len k) noted ∙ len-new m d.object.0 _ can.vacant;
      }

pub sift-requires-clause-held : goal.sift-requires-clause-held
sift-requires-clause-held c = begins-held _ _ _ _ _ _ c.requires.can (c.len-at.ensures ∙ c.args.dues.now.ok.0) c.push_reserved.ensures.items c.add.ensures.pairs

pub sift-requires-clause-heap : goal.sift-requires-clause-heap
sift-requires-clause-heap c = begins-heap _ _ _ _ _ _ c.requires.can (c.len-at.ensures ∙ c.args.dues.now.ok.0) c.push_reserved.ensures.items c.add.ensures.pairs

pub sift-requires-clause-places : goal.sift-requires-clause-places
sift-requires-clause-places c = begins-places _ _ _ _ _ _ c.requires.can (c.len-at.ensures ∙ c.args.dues.now.ok.0) c.push_reserved.ensures.items c.add.ensures.pairs

pub returns : goal.returns
returns c = ends _ _ _ _ _ _ c.requires.can (c.len-at.ensures ∙ c.args.dues.now.ok.0) c.push_reserved.ensures.items c.add.ensures.pairs _ _ c.sift.ensures.settled c.sift.ensures.beside
