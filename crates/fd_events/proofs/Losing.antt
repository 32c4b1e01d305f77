-- The events of a context, which are lost one by one, the oldest first.
use Rattle.std.proofs.Common.{◌≡◌, ℕ, ◌<◌, Bool, true, List, [], ◌∷◌, ◌++◌, length, map, Option, Some, None, is_some, slice_get, refl, sym, ap, subst, ◌∙◌, arith, append_assoc}
use Rattle.std.specs.Prelude.{not}
use Rattle.std.specs.List.{filter}
use Rattle.std.specs.Option.{option_map}
use Rattle.std.proofs.lemmas.List.{append-nil}
use Rattle.std.proofs.lemmas.List.Elements.{filter-append}
use Rattle.tree_specs.specs.declared.object.Obj.{Obj}
use Rattle.tree_specs.specs.declared.watch.Watch.{Watch}
use Rattle.tree_specs.specs.Words.Objects.{same, is_same}
use Rattle.tree_specs.specs.Events.Rotation.{watch_of, is_watching, unwatched, behind_all, ring_in, ring_without, lost}
use Rattle.tree_specs.proofs.Tree.Numbered.{same-equal}
use Rattle.tree_specs.proofs.Events.ContextLaws.{filter-filter}
use Rattle.linked_lanes.proofs.Lanes.{by_test, eqb-self}
use Rattle.fd_events.specs.Rotation.{object_of, AreEventsOnce, lost_one}
use Rattle.fd_events.specs.Linked.{from_on}
use Rattle.fd_events.proofs.Holding.{kept_if, found-kept, once-filtered, unwatched-none}

abbrev key : Watch → ℕ
key w = w.object.0

-- the first of a list, and all from it on
pub from-first : (ws : List Watch) → from_on ws (option_map object_of (slice_get ws 0)) ≡ ws
from-first [] = refl
from-first (w ∷ ws) = rw (eqb-self w.object.0) refl

pub first-none : (ws : List Watch) → option_map object_of (slice_get ws 0) ≡ None → ws ≡ []
first-none [] e = refl
first-none (w ∷ ws) e = cc

-- those of the others are all, where none watches in a context
pub none-without : (ws : List Watch) (c : Obj) → ring_in ws c ≡ [] → filter (λ w. not (is_same w.context c)) ws ≡ ws
none-without [] c e = refl
none-without (w ∷ ws) c e = by_test (is_same w.context c)
    (λ t. let bad : w ∷ ring_in ws c ≡ [] = rw t at e in absurd (cc))
    (λ t. let e' : ring_in ws c ≡ [] = rw t at e in rw t (ap (λ (zs : List Watch). w ∷ zs) (none-without ws c e')))

pub ring-lost : (ws : List Watch) (c : Obj) → ring_in ws c ≡ [] → ring_without ws c ≡ ws
ring-lost ws c e = (λ i. none-without ws c e i ++ map lost (e i)) ∙ append-nil ws

module _ (ws : List Watch) (c x : Obj) (a : AreEventsOnce ws) where
  abbrev here : Watch → Bool
  here w = is_same w.context c

  abbrev elsewhere : Watch → Bool
  elsewhere w = not (is_same w.context c)

  module _ (w : Watch) (rest : List Watch) (ring : ring_in ws c ≡ w ∷ rest) (own : w.object ≡ x) where
    first-watch : watch_of (ring_in ws c) x ≡ Some w
    first-watch = ap (λ us. watch_of us x) ring ∙ (let t : same w.object x ≡ true = same-equal w.object x own in rw t refl)

    kept-some : (o : Option Watch) → kept_if here o ≡ Some w → (o ≡ Some w) × (here w ≡ true)
    kept-some None e = cc
    kept-some (Some v) e = by_test (here v)
        (λ t. let e' : Some v ≡ Some w = rw t at e in let is : v ≡ w = cc in (e', ap here (sym is) ∙ t))
        (λ t. let bad : None ≡ Some w = rw t at e in absurd (cc))

    own-watch : (watch_of ws x ≡ Some w) × (here w ≡ true)
    own-watch = kept-some (watch_of ws x) (sym (found-kept key here ws x.0 a) ∙ first-watch)

    listed-lost : lost_one ws x ≡ unwatched ws x ++ lost w ∷ []
    listed-lost = ap (λ o. behind_all (unwatched ws x) (option_map lost o)) own-watch.0

    rest-left : ring_in (unwatched ws x) c ≡ rest
    rest-left =
        let once : AreEventsOnce (w ∷ rest) = subst AreEventsOnce ring (once-filtered key here ws a) in
        let t : same w.object x ≡ true = same-equal w.object x own in
        filter-filter here (λ v. not (same v.object x)) ws ∙ ap (λ us. unwatched us x) ring
        ∙ rw t (unwatched-none rest x (ap (is_watching rest) (sym own) ∙ once.0))

    others-left : filter elsewhere (unwatched ws x) ≡ filter elsewhere ws
    others-left =
        let off : kept_if elsewhere (Some w) ≡ None = (let t = own-watch.1 in rw t refl) in
        filter-filter elsewhere (λ v. not (same v.object x)) ws
        ∙ unwatched-none (filter elsewhere ws) x (ap is_some (found-kept key elsewhere ws x.0 a ∙ ap (kept_if elsewhere) own-watch.0 ∙ off))

    lost-ring : ring_in (lost_one ws x) c ≡ rest
    lost-ring = ap (λ us. ring_in us c) listed-lost ∙ filter-append here (unwatched ws x) (lost w ∷ []) ∙ append-nil _ ∙ rest-left

    lost-others : filter elsewhere (lost_one ws x) ≡ filter elsewhere ws ++ lost w ∷ []
    lost-others = ap (filter elsewhere) listed-lost ∙ filter-append elsewhere (unwatched ws x) (lost w ∷ []) ∙ ap (λ us. us ++ lost w ∷ []) others-left

    lost-all : ring_without (lost_one ws x) c ≡ ring_without ws c
    lost-all = (λ i. lost-others i ++ map lost (lost-ring i)) ∙ append_assoc (filter elsewhere ws) (lost w ∷ []) (map lost rest)
        ∙ ap (λ us. filter elsewhere ws ++ map lost us) (sym ring)

  pub once-lost : option_map object_of (slice_get (ring_in ws c) 0) ≡ Some x → (ring_without (lost_one ws x) c ≡ ring_without ws c) × (length (ring_in (lost_one ws x) c) < length (ring_in ws c))
  once-lost e = go (ring_in ws c) refl e
    where
      go : (rs : List Watch) → ring_in ws c ≡ rs → option_map object_of (slice_get rs 0) ≡ Some x → (ring_without (lost_one ws x) c ≡ ring_without ws c) × (length (ring_in (lost_one ws x) c) < length (ring_in ws c))
      go [] r f = cc
      go (w ∷ rest) r f =
          let own : w.object ≡ x = cc in
          let less = ap (λ (us : List Watch). length us) (lost-ring w rest r own) in
          let all = ap (λ (us : List Watch). length us) r in
          (lost-all w rest r own, omega (arith, less, all))

-- how the event watches that is looked at first in a context
pub first-watch-of : (ws : List Watch) (c x : Obj) → AreEventsOnce ws → option_map object_of (slice_get (ring_in ws c) 0) ≡ Some x → watch_of ws x ≡ slice_get (ring_in ws c) 0
first-watch-of ws c x a e = go (ring_in ws c) refl e
  where
    go : (rs : List Watch) → ring_in ws c ≡ rs → option_map object_of (slice_get rs 0) ≡ Some x → watch_of ws x ≡ slice_get rs 0
    go [] r f = cc
    go (w ∷ rest) r f = let own : w.object ≡ x = cc in (own-watch ws c x a w rest r own).0
