-- How many requests are still to be received, where what is kept of one is changed, and how many queues are still to be drained.
use Rattle.std.proofs.Common.{◌≡◌, ℕ, ◌+◌, ◌≤◌, Bool, true, false, T, ◌&&◌, [], ◌∷◌, Option, Some, None, refl, arith}
use Rattle.std.specs.Prelude.{nat_lt, nat_eq, if◌then◌else◌}
use Rattle.std.specs.Ordering.{nat_cmp}
use Rattle.std.specs.Cmp.{nat_cmp_total}
use Rattle.std.specs.FinMap.Entries.{find, put, is_sorted, below_all, is_sorted-put}
use Rattle.std.proofs.lemmas.Bool.{ltb-true, lt-ltb}
use Rattle.tree_specs.specs.declared.handler.Handler.{Handler}
use Rattle.tree_specs.specs.declared.object.Obj.{Obj}
use Rattle.tree_specs.specs.declared.request.Note.{Note}
use Rattle.tree_specs.specs.declared.reply.Refusal.TheVariants.{BadState}
use Rattle.tree_specs.specs.declared.request.State.{State}
use Rattle.tree_specs.specs.declared.request.State.TheVariants.{InProgress, Received}
use Rattle.tree_specs.specs.Calls.Refusals.{in_progress}
use Rattle.tree_specs.specs.Events.Requests.{Notes, note_of, new_note, is_in_progress, is_received, is_unreceived, renoted, cleaned, not_deferring, in_state, state_number}
use Rattle.tree_specs.specs.Tree.Pool.{Pool, is_usable, new_row}
use Rattle.tree_specs.specs.Calls.Plans.{Change, changed_by}
use Rattle.tree_specs.specs.Calls.Plans.Change.{Edit, Add, Place, AddRequest, Renotes, Enter, Then}
use Rattle.tree_specs.specs.declared.row.Mark.TheVariants.{Busy}
use Rattle.tree_specs.specs.Words.Objects.{same, first_context}
use Rattle.tree_specs.proofs.Tree.Numbered.{by_test}
use Rattle.tree_specs.proofs.Calls.Changes.{MayDo, added}
use Rattle.requests.specs.Register.{AreInOrder}
use Rattle.requests.specs.declared.requests.Notify.{Notify}
use Rattle.requests.specs.declared.requests.Notify.TheVariants.{Post}
use Rattle.object_pool.specs.Objects.{Objects}
use Rattle.object_pool.specs.Requests.{cleaning, notifying, count_unreceived}
use Rattle.host_core.specs.Places.{undrained, owed}
use Rattle.host_core.proofs.Draining.{one-most as one-queue, changed-fewer, marked-fewer, placed-fewer}

-- ---- one note in its place

abbrev one : Note → ℕ
one n = if is_unreceived (Some n) then 1 else 0

first-of : (a b : Bool) → T (a && b) → T a
first-of true b t = tt
first-of false b t = absurd t

second-of : (a b : Bool) → T (a && b) → T b
second-of true b t = t
second-of false b t = absurd t

-- nothing is found before the first number
before-first : (k x : ℕ) (es : Notes) → nat_lt k x ≡ true → T (below_all nat_cmp x es) → find nat_cmp k es ≡ None
before-first k x [] l b = refl
before-first k x (e ∷ es) l b = by_test (nat_lt x e.0)
    (λ t.
    let b' : T (below_all nat_cmp x es) = rw t at b in
    let first = ltb-true k x l in
    let second = ltb-true x e.0 t in
    let less : nat_lt k e.0 ≡ true = lt-ltb k e.0 (omega (arith, first, second)) in
    rw less (before-first k x es l b'))
    (λ t. by_test (nat_eq x e.0) (λ u. absurd (rw (t, u) at b)) (λ u. absurd (rw (t, u) at b)))

counted : (e : ℕ × Note) (es : Notes) → count_unreceived (e ∷ es) ≡ one e.1 + count_unreceived es
counted e es = by_test (is_unreceived (Some e.1)) (λ t. rw t (omega arith)) (λ t. rw t (omega arith))

-- a note that is found is changed, and the others stay
swapped : (k : ℕ) (v w : Note) (es : Notes) → AreInOrder es → find nat_cmp k es ≡ Some v → count_unreceived (put nat_cmp k w es) + one v ≡ count_unreceived es + one w
swapped k v w [] o e = cc
swapped k v w (x ∷ es) o e = by_test (nat_lt k x.0)
    (λ t.
    let below : T (below_all nat_cmp x.0 es) = first-of (below_all nat_cmp x.0 es) (is_sorted nat_cmp es) o in
    let found : find nat_cmp k es ≡ Some v = rw t at e in
    let none = before-first k x.0 es t below in
    let bad : None ≡ Some v = rw none at found in
    cc)
    (λ t. by_test (nat_eq k x.0)
    (λ u.
    let same : Some x.1 ≡ Some v = rw (t, u) at e in
    let same' : x.1 ≡ v = cc in
    let a = counted (x.0, w) es in
    let b = counted x es in
    rw (t, u) (rw (← same') (omega (arith, a, b))))
    (λ u.
    let found : find nat_cmp k es ≡ Some v = rw (t, u) at e in
    let ih = swapped k v w es (second-of (below_all nat_cmp x.0 es) (is_sorted nat_cmp es) o) found in
    let a = counted x (put nat_cmp k w es) in
    let b = counted x es in
    rw (t, u) (omega (arith, a, b, ih))))

one-most : (n : Note) → one n ≤ 1
one-most n = by_test (is_unreceived (Some n)) (λ t. rw t (omega arith)) (λ t. rw t (omega arith))

-- one more note is one more at most
pub put-most : (k : ℕ) (w : Note) (es : Notes) → count_unreceived (put nat_cmp k w es) ≤ count_unreceived es + 1
put-most k w [] = let a = counted (k, w) [] in let m = one-most w in omega (arith, a, m)
put-most k w (x ∷ es) = by_test (nat_lt k x.0)
    (λ t. let a = counted (k, w) (x ∷ es) in let m = one-most w in rw t (omega (arith, a, m)))
    (λ t. by_test (nat_eq k x.0)
    (λ u. let a = counted (x.0, w) es in let b = counted x es in let m = one-most w in rw (t, u) (omega (arith, a, b, m)))
    (λ u. let a = counted x (put nat_cmp k w es) in let b = counted x es in let ih = put-most k w es in rw (t, u) (omega (arith, a, b, ih))))

-- ---- what is kept of one is changed

pub renoted-order : (change : Note → Note) (notes : Notes) (x : Obj) → AreInOrder notes → AreInOrder (renoted change notes x)
renoted-order change notes x o = each (note_of notes x) refl
  where
    each : (found : Option Note) → note_of notes x ≡ found → AreInOrder (renoted change notes x)
    each None e = rw e o
    each (Some n) e = rw e (is_sorted-put nat_cmp nat_cmp_total x.0 (change n) notes o)

-- where its state stays as many are to be received
pub renoted-many : (change : Note → Note) (notes : Notes) (x : Obj) → AreInOrder notes → ((n : Note) → (change n).state ≡ n.state) → count_unreceived (renoted change notes x) ≡ count_unreceived notes
renoted-many change notes x o same = each (note_of notes x) refl
  where
    each : (found : Option Note) → note_of notes x ≡ found → count_unreceived (renoted change notes x) ≡ count_unreceived notes
    each None e = rw e refl
    each (Some n) e =
        let s = swapped x.0 n (change n) notes o e in
        let k : one (change n) ≡ one n = rw (same n) refl in
        rw e (omega (arith, s, k))

-- one that was received is one fewer
pub received-fewer : (notes : Notes) (x : Obj) → AreInOrder notes → is_unreceived (note_of notes x) ≡ true → count_unreceived (renoted (in_state Received) notes x) + 1 ≡ count_unreceived notes
received-fewer notes x o still = each (note_of notes x) refl
  where
    each : (found : Option Note) → note_of notes x ≡ found → count_unreceived (renoted (in_state Received) notes x) + 1 ≡ count_unreceived notes
    each None e = let bad : false ≡ true = rw e at still in cc
    each (Some n) e =
        let t : is_unreceived (Some n) ≡ true = rw e at still in
        let s = swapped x.0 n (in_state Received n) notes o e in
        let k : one n ≡ 1 = rw t refl in
        rw e (omega (arith, s, k))

-- one that was in progress is to be received in any state
pub finished-most : (state : State) (p : Pool) (x : Obj) → AreInOrder p.requests → in_progress p x ≡ [] → count_unreceived (renoted (in_state state) p.requests x) ≤ count_unreceived p.requests
finished-most state p x o running = each (note_of p.requests x) refl
  where
    unreceived : (s : State) → is_in_progress s ≡ true → is_received s ≡ false
    unreceived InProgress t = refl
    unreceived _ t = cc

    each : (found : Option Note) → note_of p.requests x ≡ found → count_unreceived (renoted (in_state state) p.requests x) ≤ count_unreceived p.requests
    each None e = rw e (omega arith)
    each (Some n) e = by_test (is_in_progress n.state)
        (λ t.
        let s = swapped x.0 n (in_state state n) p.requests o e in
        let k : one n ≡ 1 = rw (unreceived n.state t) refl in
        let m = one-most (in_state state n) in
        rw e (omega (arith, s, k, m)))
        (λ t. let bad : BadState x (state_number n.state) ∷ [] ≡ [] = rw (e, t) at running in cc)

-- as many are to be received after a cleanup, and once one was notified
pub cleaning_many : (x : Obj) (handler : Option Handler) (p : Pool) → AreInOrder p.requests → count_unreceived (cleaning x handler p).requests ≡ count_unreceived p.requests
cleaning_many x None p o = refl
cleaning_many x (Some handler) p o = renoted-many cleaned p.requests x o (λ n. refl)

pub notifying_many : (x : Obj) (notify : Notify) (o : Objects) → AreInOrder o.pool.requests → count_unreceived (notifying x notify o).pool.requests ≡ count_unreceived o.pool.requests
notifying_many x (Post c) o k =
    let many = renoted-many not_deferring o.pool.requests x k (λ n. refl) in
    by_test (is_usable o.pool.rows c) (λ t. rw t many) (λ t. rw t many)
notifying_many x _ o k = refl

-- ---- a change by a call

pub record Counted (p q : Pool) (more : ℕ) : Type 0 where
  pub order : AreInOrder q.requests
  pub few : owed q ≤ owed p + more

-- with so many more rows there is so much more for frees to come to, at most
pub change-counted : (c : Change) (p : Pool) → AreInOrder p.requests → MayDo p c → Counted p (changed_by c p) (added c)
change-counted (Renotes x g) p o may = let e = renoted-many g p.requests x o may in record { order = renoted-order g p.requests x o; few = omega (arith, e) }
change-counted (AddRequest owner size name) p o may =
    let n : Note = new_note (record { 0 = p.next + 1 }) in
    let m = put-most p.next n p.requests in
    record { order = is_sorted-put nat_cmp nat_cmp_total p.next n p.requests o; few = omega (arith, m) }
change-counted (Then first second) p o may =
    let f = change-counted first p o may.0 in
    let s = change-counted second (changed_by first p) f.order may.1 in
    let few = f.few in
    let fewer = s.few in
    record { order = s.order; few = omega (arith, few, fewer) }
change-counted (Edit x g) p o may =
    let m = changed-fewer g p.rows x (λ r. let same : undrained (g r) ≡ undrained r = rw (may.place.kind r, may.mark r) refl in omega (arith, same)) in
    record { order = o; few = omega (arith, m) }
change-counted (Place owner x) p o may = let m = placed-fewer p owner x in record { order = o; few = omega (arith, m) }
change-counted (Add kind owner size name) p o may = let m = one-queue (new_row (record { 0 = p.next }) kind owner size name) in record { order = o; few = omega (arith, m) }
change-counted (Enter c) p o may = by_test (same c first_context)
    (λ t. rw t (record { order = o; few = omega arith }))
    (λ t. rw t (let n = marked-fewer Busy p.rows c refl in record { order = o; few = omega (arith, n) }))
change-counted _ p o may = record { order = o; few = omega arith }
