-- The entries of one queue: what the list of all entries says of them.
use Rattle.std.proofs.Common.{◌≡◌, ℕ, suc, ◌<◌, ◌≤◌, Bool, true, false, cond, ◌&&◌, not, nat_eq, if◌then◌else◌, List, [], ◌∷◌, ◌++◌, length, Option, Some, None, refl, sym, ◌∙◌, ap, subst, arith, T}
use Rattle.std.specs.List.{filter}
use Rattle.std.specs.Option.{option_map}
use Rattle.std.specs.Ordering.{nat_cmp, eq_by_cmp, is_lt}
use Rattle.std.specs.declared.cmp.Ordering.{Ordering}
use Rattle.std.specs.declared.cmp.Ordering.TheVariants.{Less, Equal, Greater}
use Rattle.std.specs.Cmp.{nat_cmp_is}
use Rattle.std.specs.FinMap.Entries.{find, put, is_sorted, below_all}
use Rattle.std.proofs.lemmas.Bool.{eqb-true, eq-eqb}
use Rattle.pool_arena.proofs.Keeps.{ties}
use Rattle.tree_specs.specs.declared.object.Obj.{Obj}
use Rattle.tree_specs.specs.declared.queue.QueueEntry.{QueueEntry}
use Rattle.tree_specs.specs.Words.Objects.{same}
use Rattle.tree_specs.specs.Events.Queues.{Head, head_in, entries_in}
use Rattle.linked_lanes.specs.Lane.{has, last, without, Distinct}
use Rattle.linked_lanes.proofs.Lanes.{by_test, not_both, false_by, eqb-false, without-absent}
use Rattle.request_queue.specs.Register.{IsAbove}
use Rattle.request_queue.specs.Linked.{lane}
use Rattle.request_queue.proofs.Behind.{has-last-one, has-another, distinct-behind, without-last, without-another, last-behind, length-behind}

abbrev Entries : Type 0
Entries = List (ℕ × QueueEntry)

-- ---- the order of the entries

-- its number is below that of each entry
abbrev IsBelow : ℕ → Entries → Type 0
IsBelow x [] = Unit {0}
IsBelow x (e ∷ es) = (x < e.0) × IsBelow x es

abbrev Rises : Entries → Type 0
Rises [] = Unit {0}
Rises (e ∷ es) = IsBelow e.0 es × Rises es

one_of : (a b : Bool) → T (a && b) → T a × T b
one_of true b p = (tt, p)
one_of false b p = absurd p

lower : (x k : ℕ) → T (is_lt (nat_cmp x k)) → x < k
lower x k h = grind (arith)

below-all : (x : ℕ) (es : Entries) → T (below_all nat_cmp x es) → IsBelow x es
below-all x [] h = tt
below-all x (e ∷ es) h = let p = one_of _ _ h in (lower x e.0 p.0, below-all x es p.1)

rises : (es : Entries) → T (is_sorted nat_cmp es) → Rises es
rises [] h = tt
rises (e ∷ es) h = let p = one_of _ _ h in (below-all e.0 es p.0, rises es p.1)

below-less : (x y : ℕ) (es : Entries) → y ≤ x → IsBelow x es → IsBelow y es
below-less x y [] l h = tt
below-less x y (e ∷ es) l h = let m : x < e.0 = h.0 in (omega (arith, l, m), below-less x y es l h.1)

-- ---- what is found among them

found-here : (e : ℕ × QueueEntry) (es : Entries) (x : ℕ) → nat_eq e.0 x ≡ true → find nat_cmp x (e ∷ es) ≡ Some e.1
found-here e es x t = ap (λ b. cond b (Some e.1) (find nat_cmp x es)) (ties x e.0 ∙ t)

found-later : (e : ℕ × QueueEntry) (es : Entries) (x : ℕ) → nat_eq e.0 x ≡ false → find nat_cmp x (e ∷ es) ≡ find nat_cmp x es
found-later e es x t = ap (λ b. cond b (Some e.1) (find nat_cmp x es)) (ties x e.0 ∙ t)

none-below : (es : Entries) (x : ℕ) → IsBelow x es → find nat_cmp x es ≡ None
none-below [] x h = refl
none-below (e ∷ es) x h = found-later e es x (eqb-false e.0 x (λ k. let l : x < e.0 = h.0 in absurd (omega (arith, k, l)))) ∙ none-below es x h.1

pub none-above : (es : Entries) (x : Obj) → IsAbove x es → find nat_cmp x.0 es ≡ None
none-above [] x h = refl
none-above (e ∷ es) x h = found-later e es x.0 (eqb-false e.0 x.0 (λ k. let l : e.0 < x.0 = h.0 in absurd (omega (arith, k, l)))) ∙ none-above es x h.1

-- whether what is found is an entry of this queue
abbrev pub is_of : Obj → Option QueueEntry → Bool
is_of q None = false
is_of q (Some v) = same v.queue q

absent-below : (es : Entries) (q : Obj) (x : ℕ) → IsBelow x es → has (lane es q) x ≡ false
absent-below [] q x h = refl
absent-below (e ∷ es) q x h =
    let n : nat_eq e.0 x ≡ false = eqb-false e.0 x (λ k. let l : x < e.0 = h.0 in absurd (omega (arith, k, l))) in
    by_test (same e.1.queue q)
    (λ u. rw u (has-another (lane es q) e.0 x n ∙ absent-below es q x h.1))
    (λ u. rw u (absent-below es q x h.1))

below-same : (e : ℕ × QueueEntry) (es : Entries) (x : ℕ) → nat_eq e.0 x ≡ true → IsBelow e.0 es → IsBelow x es
below-same e es x t h = let k = eqb-true e.0 x t in below-less e.0 x es (omega (arith, k)) h

has-risen : (es : Entries) (q : Obj) (x : ℕ) → Rises es → has (lane es q) x ≡ is_of q (find nat_cmp x es)
has-risen [] q x r = refl
has-risen (e ∷ es) q x r = by_test (nat_eq e.0 x)
    (λ a. by_test (same e.1.queue q)
    (λ u. rw u (has-last-one (lane es q) e.0 x a) ∙ sym (ap (is_of q) (found-here e es x a) ∙ u))
    (λ u. rw u (absent-below es q x (below-same e es x a r.0)) ∙ sym (ap (is_of q) (found-here e es x a) ∙ u)))
    (λ a. by_test (same e.1.queue q)
    (λ u. rw u (has-another (lane es q) e.0 x a ∙ has-risen es q x r.1) ∙ sym (ap (is_of q) (found-later e es x a)))
    (λ u. rw u (has-risen es q x r.1) ∙ sym (ap (is_of q) (found-later e es x a))))

module _ (es : Entries) (sorted : T (is_sorted nat_cmp es)) where
  -- those in the lane of a queue are its entries, and no others
  pub has-lane : (q : Obj) (x : ℕ) → has (lane es q) x ≡ is_of q (find nat_cmp x es)
  has-lane q x = has-risen es q x (rises es sorted)

  pub lanes-apart : (q s : Obj) (k : ℕ) → same q s ≡ false → has (lane es s) k ≡ true → has (lane es q) k ≡ false
  lanes-apart q s k n m = has-lane q k ∙ go (find nat_cmp k es) (sym (has-lane s k) ∙ m)
    where
      go : (o : Option QueueEntry) → is_of s o ≡ true → is_of q o ≡ false
      go None t = refl
      go (Some v) t = false_by _ (λ u.
          let a : v.queue.0 ≡ s.0 = eqb-true v.queue.0 s.0 t in
          let b : v.queue.0 ≡ q.0 = eqb-true v.queue.0 q.0 u in
          not_both (eq-eqb q.0 s.0 (sym b ∙ a)) n)

distinct-risen : (es : Entries) (q : Obj) → Rises es → Distinct (lane es q)
distinct-risen [] q r = tt
distinct-risen (e ∷ es) q r = by_test (same e.1.queue q)
    (λ u. rw u (distinct-behind (lane es q) e.0 (distinct-risen es q r.1) (absent-below es q e.0 r.0)))
    (λ u. rw u (distinct-risen es q r.1))

pub distinct-lane : (es : Entries) (q : Obj) → T (is_sorted nat_cmp es) → Distinct (lane es q)
distinct-lane es q s = distinct-risen es q (rises es s)

-- ---- the first entry, and how many there are

pub last-lane : (es : Entries) (q : Obj) → last (lane es q) ≡ option_map (λ (h : Head). h.object.0) (head_in es q)
last-lane [] q = refl
last-lane (e ∷ es) q = by_test (same e.1.queue q) (λ u. rw u (last-behind None (lane es q) e.0)) (λ u. rw u (last-lane es q))

pub length-lane : (es : Entries) (q : Obj) → length (lane es q) ≡ length (entries_in es q)
length-lane [] q = refl
length-lane (e ∷ es) q = by_test (same e.1.queue q)
    (λ u. rw u (length-behind (lane es q) e.0 ∙ ap suc (length-lane es q)))
    (λ u. rw u (length-lane es q))

pub few-lane : (es : Entries) (q : Obj) → length (lane es q) ≤ length es
few-lane [] q = omega arith
few-lane (e ∷ es) q =
    let ih = few-lane es q in
    by_test (same e.1.queue q)
    (λ u. let l = length-behind (lane es q) e.0 in rw u (omega (arith, ih, l)))
    (λ u. rw u (omega (arith, ih)))

-- the first entry of a queue is found
head-risen : (es : Entries) (q : Obj) (h : Head) → Rises es → head_in es q ≡ Some h → find nat_cmp h.object.0 es ≡ Some h.entry
head-risen [] q h r e = cc
head-risen (e ∷ es) q h r is = by_test (same e.1.queue q)
    (λ u. let is' : Some (record { object = record { 0 = e.0 }; entry = e.1 }) ≡ Some h = rw u at is in one (record { object = record { 0 = e.0 }; entry = e.1 }) refl is')
    (λ u. let is' : head_in es q ≡ Some h = rw u at is in
    let there = head-risen es q h r.1 is' in
    found-later e es h.object.0 (false_by _ (λ t. none there (none-below es h.object.0 (below-same e es h.object.0 t r.0)))) ∙ there)
  where
    none : find nat_cmp h.object.0 es ≡ Some h.entry → find nat_cmp h.object.0 es ≡ None → ⊥
    none a b = let bad : Some h.entry ≡ None = sym a ∙ b in cc

    one : (g : Head) → g ≡ record { object = record { 0 = e.0 }; entry = e.1 } → Some g ≡ Some h → find nat_cmp h.object.0 (e ∷ es) ≡ Some h.entry
    one g k s =
        let same_one : record { object = record { 0 = e.0 }; entry = e.1 } ≡ h = cc in
        subst (λ (h : Head). find nat_cmp h.object.0 (e ∷ es) ≡ Some h.entry) same_one (found-here e es e.0 (eq-eqb e.0 e.0 refl))

pub head-found : (es : Entries) (q : Obj) (h : Head) → T (is_sorted nat_cmp es) → head_in es q ≡ Some h → find nat_cmp h.object.0 es ≡ Some h.entry
head-found es q h s e = head-risen es q h (rises es s) e

-- ---- single changes

-- a new entry comes behind all others
pub lane-added : (es : Entries) (x : Obj) (v : QueueEntry) (q : Obj) → IsAbove x es → lane (put nat_cmp x.0 v es) q ≡ (if same v.queue q then x.0 ∷ lane es q else lane es q)
lane-added [] x v q h = refl
lane-added (e ∷ es) x v q h =
    let later : Greater ≡ nat_cmp x.0 e.0 = nat_cmp_is x.0 e.0 Greater h.0 in
    let ih = lane-added es x v q h.1 in
    rw (sym later) (by_test (same e.1.queue q)
    (λ u. by_test (same v.queue q)
    (λ w. let ih' : lane (put nat_cmp x.0 v es) q ≡ x.0 ∷ lane es q = rw w at ih in rw (u, w) (ap (λ ys. ys ++ e.0 ∷ []) ih'))
    (λ w. let ih' : lane (put nat_cmp x.0 v es) q ≡ lane es q = rw w at ih in rw (u, w) (ap (λ ys. ys ++ e.0 ∷ []) ih')))
    (λ u. rw u ih))

-- an entry of the same queue stands in the place of one
lane-placed : (es : Entries) (x : ℕ) (v u : QueueEntry) (q : Obj) → Rises es → find nat_cmp x es ≡ Some u → v.queue ≡ u.queue → lane (put nat_cmp x v es) q ≡ lane es q
lane-placed [] x v u q r e w = cc
lane-placed (e ∷ es) x v u q r is w = each (nat_cmp x e.0) refl (lane-placed es x v u q r.1)
  where
    each : (o : Ordering) → nat_cmp x e.0 ≡ o → (find nat_cmp x es ≡ Some u → v.queue ≡ u.queue → lane (put nat_cmp x v es) q ≡ lane es q) → lane (put nat_cmp x v (e ∷ es)) q ≡ lane (e ∷ es) q
    each Less k ih =
        let l : x < e.0 = lower x e.0 (subst (λ r. T (is_lt r)) (sym k) tt) in
        let bad : Some u ≡ None = sym is ∙ none-below (e ∷ es) x (l, below-less e.0 x es (omega (arith, l)) r.0) in
        cc
    each Equal k ih =
        let is' : Some e.1 ≡ Some u = rw k at is in
        let at : e.1 ≡ u = cc in
        let to : v.queue ≡ e.1.queue = w ∙ sym (ap (λ (f : QueueEntry). f.queue) at) in
        rw (k, to) refl
    each Greater k ih =
        let is' : find nat_cmp x es ≡ Some u = rw k at is in
        rw k (by_test (same e.1.queue q) (λ t. rw t (ap (λ ys. ys ++ e.0 ∷ []) (ih is' w))) (λ t. rw t (ih is' w)))

pub lane-changed : (es : Entries) (x : ℕ) (v u : QueueEntry) (q : Obj) → T (is_sorted nat_cmp es) → find nat_cmp x es ≡ Some u → v.queue ≡ u.queue → lane (put nat_cmp x v es) q ≡ lane es q
lane-changed es x v u q s e w = lane-placed es x v u q (rises es s) e w

-- an entry leaves
lane-risen : (es : Entries) (x : ℕ) (q : Obj) → Rises es → lane (filter (λ e. not (eq_by_cmp nat_cmp x e.0)) es) q ≡ without (lane es q) x
lane-risen [] x q r = refl
lane-risen (e ∷ es) x q r =
    let ih = lane-risen es x q r.1 in
    by_test (nat_eq e.0 x)
    (λ a.
    let absent = absent-below es q x (below-same e es x a r.0) in
    let t : eq_by_cmp nat_cmp x e.0 ≡ true = ties x e.0 ∙ a in
    rw t (by_test (same e.1.queue q)
    (λ u. rw u (ih ∙ without-absent (lane es q) x absent ∙ sym (without-last (lane es q) e.0 x a absent)))
    (λ u. rw u ih)))
    (λ a.
    let t : eq_by_cmp nat_cmp x e.0 ≡ false = ties x e.0 ∙ a in
    rw t (by_test (same e.1.queue q)
    (λ u. rw u (ap (λ ys. ys ++ e.0 ∷ []) ih ∙ sym (without-another (lane es q) e.0 x a)))
    (λ u. rw u ih)))

pub lane-without : (es : Entries) (x : ℕ) (q : Obj) → T (is_sorted nat_cmp es) → lane (filter (λ e. not (eq_by_cmp nat_cmp x e.0)) es) q ≡ without (lane es q) x
lane-without es x q s = lane-risen es x q (rises es s)
