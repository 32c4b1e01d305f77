-- The lane of a context, which has the newest first, and the list of those that come soon.
use Rattle.std.proofs.Common.{◌≡◌, ℕ, ◌≤◌, true, false, cond, ◌||◌, nat_eq, List, [], ◌∷◌, ◌++◌, length, Option, Some, None, refl, sym, ap, ◌∙◌, arith, append_assoc}
use Rattle.std.proofs.lemmas.List.{append-nil, length-append}
use Rattle.std.specs.Option.{option_map}
use Rattle.tree_specs.specs.declared.object.Obj.{Obj}
use Rattle.tree_specs.specs.Words.Objects.{same}
use Rattle.linked_lanes.specs.Lane.{has, last, last_from, without}
use Rattle.linked_lanes.proofs.Lanes.{by_test, without-absent}
use Rattle.tree_specs.specs.declared.coming.Coming.{Coming}
use Rattle.tree_specs.specs.Events.Pending.{is_scheduled, unscheduled, soon_in}
use Rattle.immediates.specs.Waiting.{AreOnce, next_in}
use Rattle.immediates.specs.Linked.{numbered, one_in, lane_in}
use Rattle.immediates.proofs.Once.{nobody-gone, absent-same}

-- ---- lanes that are put together

pub has-append : (xs ys : List ℕ) (q : ℕ) → has (xs ++ ys) q ≡ (has xs q || has ys q)
has-append [] ys q = refl
has-append (x ∷ xs) ys q = by_test (nat_eq x q) (λ t. rw t refl) (λ t. rw t (has-append xs ys q))

without-front : (xs zs : List ℕ) (x : ℕ) → has zs x ≡ false → without (xs ++ zs) x ≡ without xs x ++ zs
without-front [] zs x h = without-absent zs x h
without-front (y ∷ ys) zs x h = by_test (nat_eq y x) (λ t. rw t refl) (λ t. rw t (ap (λ ws. y ∷ ws) (without-front ys zs x h)))

without-back : (xs zs : List ℕ) (x : ℕ) → has xs x ≡ false → without (xs ++ zs) x ≡ xs ++ without zs x
without-back [] zs x h = refl
without-back (y ∷ ys) zs x h = by_test (nat_eq y x)
    (λ t. let bad : true ≡ false = rw t at h in absurd (cc))
    (λ t. let h' : has ys x ≡ false = rw t at h in rw t (ap (λ ws. y ∷ ws) (without-back ys zs x h')))

last-append : (p : Option ℕ) (xs : List ℕ) (x : ℕ) → last_from p (xs ++ x ∷ []) ≡ Some x
last-append p [] x = refl
last-append p (y ∷ ys) x = last-append (Some y) ys x

-- ---- one of them

pub one-has : (y : Coming) (q c : ℕ) → nat_eq y.object.0 q ≡ true → has (one_in y c) q ≡ nat_eq y.context.0 c
one-has y q c t = by_test (nat_eq y.context.0 c) (λ u. rw (u, t) refl) (λ u. rw u refl)

pub one-other : (y : Coming) (q c : ℕ) → nat_eq y.object.0 q ≡ false → has (one_in y c) q ≡ false
one-other y q c n = by_test (nat_eq y.context.0 c) (λ u. rw (u, n) refl) (λ u. rw u refl)

one-gone : (y : Coming) (q c : ℕ) → nat_eq y.object.0 q ≡ true → without (one_in y c) q ≡ []
one-gone y q c t = by_test (nat_eq y.context.0 c) (λ u. rw (u, t) refl) (λ u. rw u refl)

one-length : (y : Coming) (c : ℕ) → length (one_in y c) ≤ 1
one-length y c = by_test (nat_eq y.context.0 c) (λ u. rw u (omega arith)) (λ u. rw u (omega arith))

-- ---- the list

-- one that doesn't wait stands in no lane
pub absent-lane : (xs : List Coming) (x : Obj) (c : ℕ) → is_scheduled xs x ≡ false → has (lane_in xs c) x.0 ≡ false
absent-lane [] x c h = refl
absent-lane (y ∷ ys) x c h = by_test (same y.object x)
    (λ t. let bad : true ≡ false = rw t at h in absurd (cc))
    (λ t. let h' : is_scheduled ys x ≡ false = rw t at h in
    let out = absent-lane ys x c h' in
    let one = one-other y x.0 c t in
    has-append (lane_in ys c) (one_in y c) x.0 ∙ (λ i. out i || one i))

lane-longer : (xs : List Coming) (y : Coming) (c : ℕ) → lane_in (xs ++ y ∷ []) c ≡ one_in y c ++ lane_in xs c
lane-longer [] y c = sym (append-nil (one_in y c))
lane-longer (x ∷ xs) y c = ap (λ zs. zs ++ one_in x c) (lane-longer xs y c) ∙ append_assoc (one_in y c) (lane_in xs c) (one_in x c)

-- one joins at the front of the lane of its context, and the other lanes stay
pub lane-joined : (xs : List Coming) (y : Coming) (c : ℕ) → lane_in (xs ++ y ∷ []) c ≡ cond (nat_eq y.context.0 c) (y.object.0 ∷ lane_in xs c) (lane_in xs c)
lane-joined xs y c = lane-longer xs y c ∙ by_test (nat_eq y.context.0 c) (λ t. rw t refl) (λ t. rw t refl)

-- one leaves the lane in which it stands
pub lane-left : (xs : List Coming) (x : Obj) (c : ℕ) → AreOnce xs → lane_in (unscheduled xs x) c ≡ without (lane_in xs c) x.0
lane-left [] x c a = refl
lane-left (y ∷ ys) x c a = by_test (same y.object x)
    (λ t. let absent = absent-same ys y.object x t a.0 in
    let out = absent-lane ys x c absent in
    rw t (ap (λ (zs : List Coming). lane_in zs c) (nobody-gone ys x absent)
    ∙ sym (without-back (lane_in ys c) (one_in y c) x.0 out ∙ ap (λ (zs : List ℕ). lane_in ys c ++ zs) (one-gone y x.0 c t) ∙ append-nil (lane_in ys c))))
    (λ t. rw t (ap (λ (zs : List ℕ). zs ++ one_in y c) (lane-left ys x c a.1) ∙ sym (without-front (lane_in ys c) (one_in y c) x.0 (one-other y x.0 c t))))

pub lane-length : (xs : List Coming) (c : ℕ) → length (lane_in xs c) ≤ length xs
lane-length [] c = omega arith
lane-length (y ∷ ys) c =
    let l = length-append (lane_in ys c) (one_in y c) in
    let one = one-length y c in
    let ih = lane-length ys c in omega (arith, l, one, ih)

-- ---- those of one context

pub soon-length : (xs : List Coming) (c : Obj) → length (soon_in xs c) ≡ length (lane_in xs c.0)
soon-length [] c = refl
soon-length (y ∷ ys) c =
    let ih = soon-length ys c in
    by_test (same y.context c)
    (λ t. let l = length-append (lane_in ys c.0) (y.object.0 ∷ []) in rw t (omega (arith, l, ih)))
    (λ t. rw t (ih ∙ ap (λ (zs : List ℕ). length zs) (sym (append-nil (lane_in ys c.0)))))

pub soon-next : (xs : List Coming) (c : Obj) → next_in xs c ≡ option_map numbered (last (lane_in xs c.0))
soon-next [] c = refl
soon-next (y ∷ ys) c = by_test (same y.context c)
    (λ t. rw t (sym (ap (option_map numbered) (last-append None (lane_in ys c.0) y.object.0))))
    (λ t. rw t (soon-next ys c ∙ ap (λ (zs : List ℕ). option_map numbered (last zs)) (sym (append-nil (lane_in ys c.0)))))

nil : (xs : List ℕ) → length xs ≡ 0 → xs ≡ []
nil [] e = refl
nil (x ∷ xs) e = absurd (omega arith)

pub soon-none : (xs : List Coming) (c : Obj) → soon_in xs c ≡ [] → lane_in xs c.0 ≡ []
soon-none xs c e = nil (lane_in xs c.0) (sym (soon-length xs c) ∙ ap (λ (zs : List Coming). length zs) e)
