-- How each event watches and the lane of each context, whatever is taken out, added or changed.
use Rattle.std.proofs.Common.{◌≡◌, ℕ, ◌+◌, ◌≤◌, Bool, true, false, cond, ◌||◌, nat_eq, if◌then◌else◌, List, [], ◌∷◌, ◌++◌, length, map, Option, Some, None, slice_get, refl, sym, ap, ◌∙◌, arith, append_assoc}
use Rattle.std.specs.List.{find, filter}
use Rattle.std.specs.Option.{option_map, option_or, option_and_then}
use Rattle.std.proofs.lemmas.Bool.{eqb-true, eq-eqb}
use Rattle.std.proofs.lemmas.List.{append-nil, length-append}
use Rattle.std.proofs.lemmas.List.Elements.{filter-append}
use Rattle.std.proofs.lemmas.List.Folds.{find-append}
use Rattle.tree_specs.specs.declared.object.Obj.{Obj}
use Rattle.tree_specs.specs.declared.watch.Watch.{Watch}
use Rattle.tree_specs.specs.Words.Objects.{same, is_same}
use Rattle.tree_specs.specs.Events.Rotation.{watch_of, is_watching, unwatched, rewatched, ring_in}
use Rattle.tree_specs.proofs.Tree.Numbered.{same-true}
use Rattle.tree_specs.proofs.Events.ContextLaws.{ring-unwatched}
use Rattle.linked_lanes.specs.Lane.{has, last, last_from, is_at, without}
use Rattle.linked_lanes.proofs.Lanes.{by_test, not_both, false_by, eqb-self, eqb-sym, without-absent}
use Rattle.fd_events.specs.Rotation.{object_of, AreEventsOnce}
use Rattle.fd_events.specs.Linked.{numbered, number_of, context_of, context_in, numbers_of, lane_in, listed_one, listed, placed, lanes_joined, lanes_left}
use Rattle.fd_events.proofs.Holding.{none, once-filtered, found-changed, watch-object, unwatched-none}
use Rattle.fd_events.proofs.Listing.{listed-same}

or_none : {X : Type 0} (o : Option X) → option_or o None ≡ o
or_none None = refl
or_none (Some v) = refl

or_true : (b : Bool) → (b || true) ≡ true
or_true true = refl
or_true false = refl

or_false : (b : Bool) → (b || false) ≡ b
or_false true = refl
or_false false = refl

-- ---- how an event watches

pub watch-joined : (ws : List Watch) (w : Watch) (q : ℕ) → is_watching ws w.object ≡ false → watch_of (ws ++ w ∷ []) (numbered q) ≡ cond (nat_eq w.object.0 q) (Some w) (watch_of ws (numbered q))
watch-joined ws w q absent = find-append (λ v. same v.object (numbered q)) ws (w ∷ []) ∙ by_test (nat_eq w.object.0 q)
    (λ t. let out : watch_of ws (numbered q) ≡ None = none _ (ap (is_watching ws) (sym (same-true w.object (numbered q) t)) ∙ absent) in
    ap (λ o. option_or o (find (λ v. same v.object (numbered q)) (w ∷ []))) out ∙ rw t refl)
    (λ t. rw t (or_none (watch_of ws (numbered q))))

pub watch-left : (ws : List Watch) (x : Obj) (q : ℕ) → watch_of (unwatched ws x) (numbered q) ≡ cond (nat_eq x.0 q) None (watch_of ws (numbered q))
watch-left [] x q = by_test (nat_eq x.0 q) (λ t. rw t refl) (λ t. rw t refl)
watch-left (y ∷ ys) x q = by_test (same y.object x)
    (λ t. rw t (watch-left ys x q ∙ by_test (nat_eq x.0 q)
    (λ u. rw u refl)
    (λ u. let n : nat_eq y.object.0 q ≡ false = ap (λ (k : ℕ). nat_eq k q) (eqb-true y.object.0 x.0 t) ∙ u in rw (u, n) refl)))
    (λ t. rw t (by_test (nat_eq y.object.0 q)
    (λ u. let n : nat_eq x.0 q ≡ false = false_by _ (λ h.
    let same_now : nat_eq y.object.0 x.0 ≡ true = eq-eqb y.object.0 x.0 (eqb-true y.object.0 q u ∙ sym (eqb-true x.0 q h)) in
    let bad : true ≡ false = sym same_now ∙ t in cc) in rw (u, n) refl)
    (λ u. rw u (watch-left ys x q))))

pub watch-changed : (f : Watch → Watch) (ws : List Watch) (x : Obj) (q : ℕ) → ((w : Watch) → (f w).object ≡ w.object)
    → watch_of (rewatched f ws x) (numbered q) ≡ cond (nat_eq x.0 q) (option_map f (watch_of ws (numbered q))) (watch_of ws (numbered q))
watch-changed f ws x q objects = found-changed (λ (v : Watch). v.object.0) g kept ws q ∙ go (watch_of ws (numbered q)) (watch-object ws (numbered q))
  where
    g : Watch → Watch
    g w = if same w.object x then f w else w

    kept : (w : Watch) → (g w).object.0 ≡ w.object.0
    kept w = by_test (same w.object x) (λ t. rw t (ap (λ (y : Obj). y.0) (objects w))) (λ t. rw t refl)

    go : (o : Option Watch) → ((w : Watch) → o ≡ Some w → w.object ≡ numbered q) → option_map g o ≡ cond (nat_eq x.0 q) (option_map f o) o
    go None h = by_test (nat_eq x.0 q) (λ t. rw t refl) (λ t. rw t refl)
    go (Some w) h =
        let is : same w.object x ≡ nat_eq x.0 q = ap (λ (y : Obj). same y x) (h w refl) ∙ eqb-sym q x.0 in
        by_test (nat_eq x.0 q) (λ t. rw (is ∙ t, t) refl) (λ t. rw (is ∙ t, t) refl)

-- ---- the context of an event

pub context-joined : (ws : List Watch) (w : Watch) (q : ℕ) → is_watching ws w.object ≡ false → context_in (ws ++ w ∷ []) q ≡ placed (context_in ws) w.object.0 (context_of w) q
context-joined ws w q absent = ap (option_and_then context_of) (watch-joined ws w q absent) ∙ by_test (nat_eq w.object.0 q) (λ t. rw t refl) (λ t. rw t refl)

pub context-left : (ws : List Watch) (x : Obj) (q : ℕ) → context_in (unwatched ws x) q ≡ placed (context_in ws) x.0 None q
context-left ws x q = ap (option_and_then context_of) (watch-left ws x q) ∙ by_test (nat_eq x.0 q) (λ t. rw t refl) (λ t. rw t refl)

pub context-changed : (f : Watch → Watch) (ws : List Watch) (x : Obj) (q : ℕ) → ((w : Watch) → (f w).object ≡ w.object) → ((w : Watch) → (f w).context ≡ w.context) → context_in (rewatched f ws x) q ≡ context_in ws q
context-changed f ws x q objects contexts = ap (option_and_then context_of) (watch-changed f ws x q objects) ∙ go (nat_eq x.0 q) (watch_of ws (numbered q))
  where
    go : (b : Bool) (o : Option Watch) → option_and_then context_of (cond b (option_map f o) o) ≡ option_and_then context_of o
    go true None = refl
    go true (Some w) = ap (option_map number_of) (contexts w)
    go false o = refl

-- ---- the numbers of the events

pub numbers-joined : (ws : List Watch) (w : Watch) → numbers_of (ws ++ w ∷ []) ≡ w.object.0 ∷ numbers_of ws
numbers-joined [] w = refl
numbers-joined (v ∷ vs) w = ap (λ xs. xs ++ v.object.0 ∷ []) (numbers-joined vs w)

has-append : (xs ys : List ℕ) (q : ℕ) → has (xs ++ ys) q ≡ (has xs q || has ys q)
has-append [] ys q = refl
has-append (x ∷ xs) ys q = by_test (nat_eq x q) (λ t. rw t refl) (λ t. rw t (has-append xs ys q))

pub has-numbers : (ws : List Watch) (q : ℕ) → has (numbers_of ws) q ≡ is_watching ws (numbered q)
has-numbers [] q = refl
has-numbers (w ∷ ws) q = has-append (numbers_of ws) (w.object.0 ∷ []) q ∙ by_test (nat_eq w.object.0 q)
    (λ t. rw t (or_true (has (numbers_of ws) q)))
    (λ t. rw t (or_false (has (numbers_of ws) q) ∙ has-numbers ws q))

without-front : (xs zs : List ℕ) (x : ℕ) → has zs x ≡ false → without (xs ++ zs) x ≡ without xs x ++ zs
without-front [] zs x h = without-absent zs x h
without-front (y ∷ ys) zs x h = by_test (nat_eq y x) (λ t. rw t refl) (λ t. rw t (ap (λ ws. y ∷ ws) (without-front ys zs x h)))

without-back : (xs zs : List ℕ) (x : ℕ) → has xs x ≡ false → without (xs ++ zs) x ≡ xs ++ without zs x
without-back [] zs x h = refl
without-back (y ∷ ys) zs x h = by_test (nat_eq y x)
    (λ t. let bad : true ≡ false = rw t at h in absurd (cc))
    (λ t. let h' : has ys x ≡ false = rw t at h in rw t (ap (λ ws. y ∷ ws) (without-back ys zs x h')))

one-gone : (y x : ℕ) → nat_eq y x ≡ true → without (y ∷ []) x ≡ []
one-gone y x t = rw t refl

one-other : (y x : ℕ) → nat_eq y x ≡ false → has (y ∷ []) x ≡ false
one-other y x t = rw t refl

pub numbers-left : (ws : List Watch) (x : Obj) → AreEventsOnce ws → numbers_of (unwatched ws x) ≡ without (numbers_of ws) x.0
numbers-left [] x a = refl
numbers-left (y ∷ ys) x a = by_test (same y.object x)
    (λ t. let absent : is_watching ys x ≡ false = ap (is_watching ys) (sym (same-true y.object x t)) ∙ a.0 in
    let out : has (numbers_of ys) x.0 ≡ false = has-numbers ys x.0 ∙ absent in
    rw t (ap numbers_of (unwatched-none ys x absent)
    ∙ sym (without-back (numbers_of ys) (y.object.0 ∷ []) x.0 out ∙ ap (λ (zs : List ℕ). numbers_of ys ++ zs) (one-gone y.object.0 x.0 t) ∙ append-nil (numbers_of ys))))
    (λ t. rw t (ap (λ (zs : List ℕ). zs ++ y.object.0 ∷ []) (numbers-left ys x a.1)
    ∙ sym (without-front (numbers_of ys) (y.object.0 ∷ []) x.0 (one-other y.object.0 x.0 t))))

pub numbers-length : (ws : List Watch) → length (numbers_of ws) ≡ length ws
numbers-length [] = refl
numbers-length (w ∷ ws) = let l = length-append (numbers_of ws) (w.object.0 ∷ []) in let ih = numbers-length ws in omega (arith, l, ih)

few-length : (p : Watch → Bool) (ws : List Watch) → length (filter p ws) ≤ length ws
few-length p [] = omega arith
few-length p (w ∷ ws) = let ih = few-length p ws in by_test (p w) (λ t. rw t (omega (arith, ih))) (λ t. rw t (omega (arith, ih)))

-- ---- the lane of a context

pub lane-length : (ws : List Watch) (d : ℕ) → length (lane_in ws d) ≤ length ws
lane-length ws d = let l = numbers-length (ring_in ws (numbered d)) in let f = few-length (λ w. is_same w.context (numbered d)) ws in omega (arith, l, f)

at-same : (o : Option Obj) (d : ℕ) → is_at (option_map number_of o) d ≡ is_same o (numbered d)
at-same None d = refl
at-same (Some c) d = refl

pub lane-joined : (ws : List Watch) (w : Watch) (d : ℕ) → lane_in (ws ++ w ∷ []) d ≡ lanes_joined (lane_in ws) w.object.0 (context_of w) d
lane-joined ws w d = ap numbers_of (filter-append (λ v. is_same v.context (numbered d)) ws (w ∷ [])) ∙ by_test (is_same w.context (numbered d))
    (λ t. let u : is_at (context_of w) d ≡ true = at-same w.context d ∙ t in rw (t, u) (numbers-joined (ring_in ws (numbered d)) w))
    (λ t. let u : is_at (context_of w) d ≡ false = at-same w.context d ∙ t in rw (t, u) (ap numbers_of (append-nil (ring_in ws (numbered d)))))

pub lane-left : (ws : List Watch) (x : Obj) (d : ℕ) → AreEventsOnce ws → lane_in (unwatched ws x) d ≡ lanes_left (lane_in ws) x.0 d
lane-left ws x d a =
    ap numbers_of (ring-unwatched ws x (numbered d))
    ∙ numbers-left (ring_in ws (numbered d)) x (once-filtered (λ (v : Watch). v.object.0) (λ w. is_same w.context (numbered d)) ws a)

module _ (g : Watch → Watch) (objects : (w : Watch) → (g w).object ≡ w.object) (contexts : (w : Watch) → (g w).context ≡ w.context) where
  numbers-changed : (ws : List Watch) → numbers_of (map g ws) ≡ numbers_of ws
  numbers-changed [] = refl
  numbers-changed (w ∷ ws) = (λ i. numbers-changed ws i ++ (objects w i).0 ∷ [])

  ring-changed : (ws : List Watch) (c : Obj) → ring_in (map g ws) c ≡ map g (ring_in ws c)
  ring-changed [] c = refl
  ring-changed (w ∷ ws) c =
      let is : is_same (g w).context c ≡ is_same w.context c = ap (λ o. is_same o c) (contexts w) in
      by_test (is_same w.context c) (λ t. rw (is ∙ t, t) (ap (λ (zs : List Watch). g w ∷ zs) (ring-changed ws c))) (λ t. rw (is ∙ t, t) (ring-changed ws c))

  lane-mapped : (ws : List Watch) (d : ℕ) → lane_in (map g ws) d ≡ lane_in ws d
  lane-mapped ws d = ap numbers_of (ring-changed ws (numbered d)) ∙ numbers-changed (ring_in ws (numbered d))

pub lane-changed : (f : Watch → Watch) (ws : List Watch) (x : Obj) (d : ℕ) → ((w : Watch) → (f w).object ≡ w.object) → ((w : Watch) → (f w).context ≡ w.context) → lane_in (rewatched f ws x) d ≡ lane_in ws d
lane-changed f ws x d objects contexts = lane-mapped g
    (λ w. by_test (same w.object x) (λ t. rw t (objects w)) (λ t. rw t refl))
    (λ w. by_test (same w.object x) (λ t. rw t (contexts w)) (λ t. rw t refl)) ws d
  where
    g : Watch → Watch
    g w = if same w.object x then f w else w

-- ---- the oldest of a list, and the list that its numbers tell

last-append : (p : Option ℕ) (xs : List ℕ) (x : ℕ) → last_from p (xs ++ x ∷ []) ≡ Some x
last-append p [] x = refl
last-append p (y ∷ ys) x = last-append (Some y) ys x

pub last-numbers : (ws : List Watch) → option_map numbered (last (numbers_of ws)) ≡ option_map object_of (slice_get ws 0)
last-numbers [] = refl
last-numbers (w ∷ ws) = ap (option_map numbered) (last-append None (numbers_of ws) w.object.0)

listed-append : (W : ℕ → Option Watch) (xs : List ℕ) (y : ℕ) → listed W (xs ++ y ∷ []) ≡ listed_one (W y) ++ listed W xs
listed-append W [] y = sym (append-nil (listed_one (W y)))
listed-append W (x ∷ xs) y = ap (λ (zs : List Watch). zs ++ listed_one (W x)) (listed-append W xs y) ∙ append_assoc (listed_one (W y)) (listed W xs) (listed_one (W x))

abbrev pub watch_in : List Watch → ℕ → Option Watch
watch_in ws q = watch_of ws (numbered q)

pub listed-numbers : (ws : List Watch) → AreEventsOnce ws → listed (watch_in ws) (numbers_of ws) ≡ ws
listed-numbers [] a = refl
listed-numbers (w ∷ ws) a =
    let rest : listed (watch_in (w ∷ ws)) (numbers_of ws) ≡ ws = listed-same (watch_in ws) (watch_in (w ∷ ws)) (numbers_of ws) still ∙ listed-numbers ws a.1 in
    listed-append (watch_in (w ∷ ws)) (numbers_of ws) w.object.0 ∙ (λ i. listed_one (own i) ++ rest i)
  where
    own : watch_in (w ∷ ws) w.object.0 ≡ Some w
    own = rw (eqb-self w.object.0) refl

    off : (q : ℕ) → has (numbers_of ws) q ≡ true → nat_eq w.object.0 q ≡ false
    off q m = false_by _ (λ t. not_both m (has-numbers ws q ∙ ap (is_watching ws) (sym (same-true w.object (numbered q) t)) ∙ a.0))

    still : (q : ℕ) → has (numbers_of ws) q ≡ true → watch_in (w ∷ ws) q ≡ watch_in ws q
    still q m = let t = off q m in rw t refl

-- ---- one fewer

pub length-gone : (ws : List Watch) (x : Obj) → AreEventsOnce ws → is_watching ws x ≡ true → length (unwatched ws x) + 1 ≡ length ws
length-gone [] x a e = let bad : true ≡ false = sym e in cc
length-gone (y ∷ ys) x a e = by_test (same y.object x)
    (λ t. let absent : is_watching ys x ≡ false = ap (is_watching ys) (sym (same-true y.object x t)) ∙ a.0 in
    let l = ap (λ (zs : List Watch). length zs) (unwatched-none ys x absent) in rw t (omega (arith, l)))
    (λ t. let e' : is_watching ys x ≡ true = rw t at e in let ih = length-gone ys x a.1 e' in rw t (omega (arith, ih)))
