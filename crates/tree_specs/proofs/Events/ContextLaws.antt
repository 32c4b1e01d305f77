-- What the lists of one context are after a change: its own changes as the list of a loop with one context, and the others stay.
use Rattle.std.proofs.Common.{◌≡◌, ℕ, Bool, true, false, List, [], ◌∷◌, ◌++◌, Option, Some, refl, sym, ◌∙◌, ap}
use Rattle.std.specs.Prelude.{not, map}
use Rattle.std.specs.List.{filter}
use Rattle.tree_specs.specs.declared.object.Obj.{Obj}
use Rattle.tree_specs.specs.declared.coming.Coming.{Coming}
use Rattle.tree_specs.specs.declared.due.Due.{Due}
use Rattle.tree_specs.specs.declared.watch.Watch.{Watch}
use Rattle.tree_specs.specs.Words.Objects.{same, is_same}
use Rattle.tree_specs.specs.Events.Pending.{unscheduled, scheduled, soon_in, soon_without, disarmed, times_in, times_without}
use Rattle.tree_specs.specs.Events.Rotation.{watched, unwatched, rewatched, lost, ring_in, ring_without}
use Rattle.tree_specs.proofs.Tree.Numbered.{by_test, same-true, same-equal}

-- ---- lists

pub filter-filter : {A : Type 0} (p q : A → Bool) (xs : List A) → filter p (filter q xs) ≡ filter q (filter p xs)
filter-filter p q [] = refl
filter-filter p q (x ∷ xs) =
    let ih = filter-filter p q xs in
    by_test (p x)
    (λ t. by_test (q x) (λ u. rw (u, t, u) (ap (λ l. x ∷ l) ih)) (λ u. rw (u, t, u) ih))
    (λ t. by_test (q x) (λ u. rw (u, t) ih) (λ u. rw (u, t) ih))

filter-joined : {A : Type 0} (p : A → Bool) (xs ys : List A) → filter p (xs ++ ys) ≡ filter p xs ++ filter p ys
filter-joined p [] ys = refl
filter-joined p (x ∷ xs) ys = let ih = filter-joined p xs ys in by_test (p x) (λ t. rw t (ap (λ l. x ∷ l) ih)) (λ t. rw t ih)

filter-none : {A : Type 0} (p q : A → Bool) (xs : List A) → ((x : A) → q x ≡ true → p x ≡ false) → filter p (filter q xs) ≡ []
filter-none p q [] h = refl
filter-none p q (x ∷ xs) h = by_test (q x) (λ t. rw (t, h x t) (filter-none p q xs h)) (λ t. rw t (filter-none p q xs h))

filter-all : {A : Type 0} (p q : A → Bool) (xs : List A) → ((x : A) → p x ≡ true → q x ≡ true) → filter p (filter q xs) ≡ filter p xs
filter-all p q [] h = refl
filter-all p q (x ∷ xs) h =
    let ih = filter-all p q xs h in
    by_test (q x)
    (λ t. by_test (p x) (λ u. rw (t, u) (ap (λ l. x ∷ l) ih)) (λ u. rw (t, u) ih))
    (λ t. by_test (p x) (λ u. let bad : true ≡ false = sym (h x u) ∙ t in cc) (λ u. rw (t, u) ih))

negated : (b : Bool) → b ≡ true → not b ≡ false
negated true e = refl
negated false e = cc

unnegated : (b : Bool) → not b ≡ true → b ≡ false
unnegated true e = cc
unnegated false e = refl

-- two contexts that differ aren't both that of one element
apart : (a c d : Obj) → same c d ≡ false → same a c ≡ true → same a d ≡ false
apart a c d ne e = by_test (same a d)
    (λ t. let u : same c d ≡ true = same-equal c d (sym (same-true a c e) ∙ same-true a d t) in let bad : true ≡ false = sym u ∙ ne in cc)
    (λ t. t)

-- ---- soon

pub soon-unscheduled : (xs : List Coming) (x c : Obj) → soon_in (unscheduled xs x) c ≡ unscheduled (soon_in xs c) x
soon-unscheduled xs x c = filter-filter (λ (y : Coming). same y.context c) (λ (y : Coming). not (same y.object x)) xs

-- in its own context an object goes to the end, and in any other it doesn't come any more
pub soon-scheduled-here : (xs : List Coming) (x c : Obj) → soon_in (scheduled xs x c) c ≡ scheduled (soon_in xs c) x c
soon-scheduled-here xs x c =
    let self : same c c ≡ true = same-equal c c refl in
    filter-joined (λ (y : Coming). same y.context c) (unscheduled xs x) (record { object = x; context = c } ∷ []) ∙ rw (self, soon-unscheduled xs x c) refl

pub soon-scheduled-other : (xs : List Coming) (x c d : Obj) → same d c ≡ false → soon_in (scheduled xs x d) c ≡ unscheduled (soon_in xs c) x
soon-scheduled-other xs x c d ne =
    filter-joined (λ (y : Coming). same y.context c) (unscheduled xs x) (record { object = x; context = d } ∷ []) ∙ rw (ne, soon-unscheduled xs x c) (joined-none (unscheduled (soon_in xs c) x))
  where
    joined-none : (ys : List Coming) → ys ++ [] ≡ ys
    joined-none [] = refl
    joined-none (y ∷ ys) = ap (λ l. y ∷ l) (joined-none ys)

-- a context that goes leaves nothing, and the others stay
pub soon-gone : (xs : List Coming) (c : Obj) → soon_in (soon_without xs c) c ≡ []
soon-gone xs c = filter-none (λ (y : Coming). same y.context c) (λ (y : Coming). not (same y.context c)) xs (λ y e. unnegated (same y.context c) e)

pub soon-stays : (xs : List Coming) (c d : Obj) → same c d ≡ false → soon_in (soon_without xs d) c ≡ soon_in xs c
soon-stays xs c d ne = filter-all (λ (y : Coming). same y.context c) (λ (y : Coming). not (same y.context d)) xs (λ y e. let f = apart y.context c d ne e in rw f refl)

-- ---- times

pub times-disarmed : (ds : List Due) (x c : Obj) → times_in (disarmed ds x) c ≡ disarmed (times_in ds c) x
times-disarmed ds x c = filter-filter (λ (d : Due). same d.context c) (λ (d : Due). not (same d.object x)) ds

pub times-gone : (ds : List Due) (c : Obj) → times_in (times_without ds c) c ≡ []
times-gone ds c = filter-none (λ (d : Due). same d.context c) (λ (d : Due). not (same d.context c)) ds (λ d e. unnegated (same d.context c) e)

pub times-stay : (ds : List Due) (c e : Obj) → same c e ≡ false → times_in (times_without ds e) c ≡ times_in ds c
times-stay ds c e ne = filter-all (λ (d : Due). same d.context c) (λ (d : Due). not (same d.context e)) ds (λ d k. let f = apart d.context c e ne k in rw f refl)

-- ---- the rotation

pub ring-unwatched : (ws : List Watch) (x c : Obj) → ring_in (unwatched ws x) c ≡ unwatched (ring_in ws c) x
ring-unwatched ws x c = filter-filter (λ (w : Watch). is_same w.context c) (λ (w : Watch). not (same w.object x)) ws

pub ring-watched-here : (ws : List Watch) (x : Obj) (fd flags : ℕ) (c : Obj) → ring_in (watched ws x fd flags c) c ≡ watched (ring_in ws c) x fd flags c
ring-watched-here ws x fd flags c =
    let self : same c c ≡ true = same-equal c c refl in
    filter-joined (λ (w : Watch). is_same w.context c) ws (record { object = x; fd = fd; flags = flags; closes = false; context = Some c } ∷ []) ∙ rw self refl

pub ring-rewatched : (change : Watch → Watch) (ws : List Watch) (x c : Obj) → ((w : Watch) → (change w).context ≡ w.context) → ring_in (rewatched change ws x) c ≡ rewatched change (ring_in ws c) x
ring-rewatched change [] x c k = refl
ring-rewatched change (w ∷ ws) x c k =
    let ih = ring-rewatched change ws x c k in
    by_test (same w.object x)
    (λ t. by_test (is_same w.context c)
    (λ u. let v : is_same (change w).context c ≡ true = ap (λ (o : Option Obj). is_same o c) (k w) ∙ u in rw (t, v, u, t) (ap (λ l. change w ∷ l) ih))
    (λ u. let v : is_same (change w).context c ≡ false = ap (λ (o : Option Obj). is_same o c) (k w) ∙ u in rw (t, v, u) ih))
    (λ t. by_test (is_same w.context c) (λ u. rw (t, u, t) (ap (λ l. w ∷ l) ih)) (λ u. rw (t, u) ih))

lost-elsewhere : (ws : List Watch) (c : Obj) → ring_in (map lost ws) c ≡ []
lost-elsewhere [] c = refl
lost-elsewhere (w ∷ ws) c = lost-elsewhere ws c

pub ring-gone : (ws : List Watch) (c : Obj) → ring_in (ring_without ws c) c ≡ []
ring-gone ws c =
    filter-joined (λ (w : Watch). is_same w.context c) (filter (λ (w : Watch). not (is_same w.context c)) ws) (map lost (ring_in ws c))
    ∙ rw (lost-elsewhere (ring_in ws c) c, filter-none (λ (w : Watch). is_same w.context c) (λ (w : Watch). not (is_same w.context c)) ws (λ w e. unnegated (is_same w.context c) e)) refl
