-- How many may wait for their turn, and how many requests are still to be received, where some are no more.
use Rattle.std.proofs.Common.{◌≡◌, ◌+◌, ◌≤◌, ℕ, Bool, true, false, not, List, [], ◌∷◌, ◌++◌, map, length, Option, Some, None, refl, sym, ap, ◌∙◌, arith}
use Rattle.std.specs.List.{filter}
use Rattle.std.specs.Ordering.{nat_cmp, eq_by_cmp}
use Rattle.std.specs.FinMap.Entries.{find, put, by_order}
use Rattle.std.specs.declared.cmp.Ordering.{Ordering}
use Rattle.std.specs.declared.cmp.Ordering.TheVariants.{Less, Equal, Greater}
use Rattle.request_queue.specs.Register.{looked_for}
use Rattle.tree_specs.specs.declared.queue.QueueEntry.{QueueEntry}
use Rattle.tree_specs.specs.declared.coming.Coming.{Coming}
use Rattle.tree_specs.specs.declared.row.Row.{Row}
use Rattle.tree_specs.specs.Events.Queues.{Queues, Head, entry_of, without_entry, next_of}
use Rattle.tree_specs.specs.Tree.Pool.{is_usable, put_soon, looked_at, looked_after}
use Rattle.tree_specs.specs.declared.free_step.FreeStep.{FreeStep}
use Rattle.tree_specs.specs.declared.free_step.FreeStep.TheVariants.{Dropped, Doom, Left, Gone}
use Rattle.tree_specs.specs.declared.object.Obj.{Obj}
use Rattle.tree_specs.specs.declared.watch.Watch.{Watch}
use Rattle.tree_specs.specs.Events.Pending.{scheduled, unscheduled, soon_in, soon_without, disarmed, times_in, times_without}
use Rattle.tree_specs.specs.Events.Requests.{Notes}
use Rattle.tree_specs.specs.Events.Rotation.{watch_of, unwatched, rewatched, behind_all, turned_back, lost, ring_in, ring_without}
use Rattle.tree_specs.specs.Words.Objects.{same, is_same}
use Rattle.tree_specs.proofs.Tree.Numbered.{by_test}
use Rattle.loop_core.specs.declared.pick.Pick.{Pick}
use Rattle.loop_core.specs.declared.pick.Pick.TheVariants.{Soon, Time}
use Rattle.object_pool.specs.Requests.{count_unreceived}
use Rattle.object_pool.specs.Upcoming.{Upcoming, after, count_of, with_coming, picked, pending, pending_most, without_event}

module _ {A : Type 0} where
  pub filtered-fewer : (keep : A → Bool) (xs : List A) → length (filter keep xs) ≤ length xs
  filtered-fewer keep [] = omega arith
  filtered-fewer keep (x ∷ xs) = let n = filtered-fewer keep xs in by_test (keep x) (λ t. rw t (omega (arith, n))) (λ t. rw t (omega (arith, n)))

  -- of fewer no more pass
  filtered-twice : (keep test : A → Bool) (xs : List A) → length (filter test (filter keep xs)) ≤ length (filter test xs)
  filtered-twice keep test [] = omega arith
  filtered-twice keep test (x ∷ xs) =
      let n = filtered-twice keep test xs in
      by_test (keep x)
      (λ t. by_test (test x) (λ u. rw (t, u) (omega (arith, n))) (λ u. rw (t, u) n))
      (λ t. by_test (test x) (λ u. rw (t, u) (omega (arith, n))) (λ u. rw (t, u) n))

  one-more : (xs : List A) (x : A) → length (xs ++ x ∷ []) ≡ length xs + 1
  one-more [] x = refl
  one-more (y ∷ ys) x = let n = one-more ys x in omega (arith, n)

-- ---- the events that watch

pub rewatched-many : (change : Watch → Watch) (ws : List Watch) (x : Obj) → length (rewatched change ws x) ≡ length ws
rewatched-many change [] x = refl
rewatched-many change (w ∷ ws) x = let n = rewatched-many change ws x in omega (arith, n)

-- one that watches leaves one fewer
pub turned-fewer : (ws : List Watch) (x : Obj) → length (turned_back ws x) ≤ length ws
turned-fewer ws x = each (watch_of ws x) refl
  where
    gone : (vs : List Watch) (w : Watch) → watch_of vs x ≡ Some w → length (unwatched vs x) + 1 ≤ length vs
    gone [] w e = cc
    gone (v ∷ vs) w e = by_test (same v.object x)
        (λ t. let n : length (unwatched vs x) ≤ length vs = filtered-fewer _ vs in rw t (omega (arith, n)))
        (λ t. let n = gone vs w (rw t at e) in rw t (omega (arith, n)))

    each : (o : Option Watch) → watch_of ws x ≡ o → length (behind_all (unwatched ws x) o) ≤ length ws
    each None e = filtered-fewer _ ws
    each (Some w) e = let n = gone ws w e in let m = one-more (unwatched ws x) w in omega (arith, n, m)

-- ---- all that wait

pub soon-fewer : (u : Upcoming) (x : Obj) → length (unscheduled u.soon x) ≤ length u.soon
soon-fewer u x = filtered-fewer _ u.soon

pub times-fewer : (u : Upcoming) (x : Obj) → length (disarmed u.times x) ≤ length u.times
times-fewer u x = filtered-fewer _ u.times

-- an entry that leaves is one entry fewer
pub entries-fewer : {V : Type 0} (es : List (ℕ × V)) (n : ℕ) (e : V) → find nat_cmp n es ≡ Some e → length (filter (λ e. not (eq_by_cmp nat_cmp n e.0)) es) + 1 ≤ length es
entries-fewer [] n e is = cc
entries-fewer (f ∷ fs) n e is = by_test (eq_by_cmp nat_cmp n f.0)
    (λ t. let k : length (filter (λ e. not (eq_by_cmp nat_cmp n e.0)) fs) ≤ length fs = filtered-fewer _ fs in rw t (omega (arith, k)))
    (λ t. let k = entries-fewer fs n e (rw t at is) in rw t (omega (arith, k)))

-- where the queue that an entry leaves is to come soon, the entry was one
pub left-fewer : (qs : Queues) (x : Obj) (y : Coming) → looked_for (without_entry qs x) (entry_of qs x) ≡ Some y → length (without_entry qs x).entries + 1 ≤ length qs.entries
left-fewer qs x y is = each (entry_of qs x) refl is
  where
    each : (o : Option QueueEntry) → entry_of qs x ≡ o → looked_for (without_entry qs x) o ≡ Some y → length (without_entry qs x).entries + 1 ≤ length qs.entries
    each None e k = cc
    each (Some w) e k = entries-fewer qs.entries x.0 w e

pub without-entries : (qs : Queues) (x : Obj) → length (without_entry qs x).entries ≤ length qs.entries
without-entries qs x = filtered-fewer _ qs.entries

-- with the queue that comes soon there are no more than before
pub left-count : (qs new : Queues) (x : Obj) (o : Option Coming) → new ≡ without_entry qs x → o ≡ looked_for new (entry_of qs x) → length new.entries + count_of o ≤ length qs.entries
left-count qs new x o left comes =
    let n = ap (λ (z : Queues). length z.entries) left in
    let k = each o (ap (λ (z : Queues). looked_for z (entry_of qs x)) (sym left) ∙ sym comes) in
    omega (arith, n, k)
  where
    each : (o : Option Coming) → looked_for (without_entry qs x) (entry_of qs x) ≡ o → length (without_entry qs x).entries + count_of o ≤ length qs.entries
    each None e = let n = without-entries qs x in omega (arith, n)
    each (Some y) e = left-fewer qs x y e

-- what comes soon is in no queue
pub coming-entries : (rs : List Row) (o : Option Coming) (u : Upcoming) → length (with_coming rs o u).queues.entries ≡ length u.queues.entries
coming-entries rs None u = refl
coming-entries rs (Some y) u = refl

-- one that is put in is one more at most
pub entries-more : (es : List (ℕ × QueueEntry)) (n : ℕ) (e : QueueEntry) → length (put nat_cmp n e es) ≤ length es + 1
entries-more [] n e = omega arith
entries-more (f ∷ fs) n e = each (nat_cmp n f.0) (entries-more fs n e)
  where
    each : (o : Ordering) → length (put nat_cmp n e fs) ≤ length fs + 1 → length (by_order o ((n, e) ∷ f ∷ fs) ((f.0, e) ∷ fs) (f ∷ put nat_cmp n e fs)) ≤ length (f ∷ fs) + 1
    each Less k = omega arith
    each Equal k = omega arith
    each Greater k = omega (arith, k)

-- one that comes soon then is one more
scheduled-more : (xs : List Coming) (x c : Obj) → length (scheduled xs x c) ≤ length xs + 1
scheduled-more xs x c =
    let k : length (unscheduled xs x) ≤ length xs = filtered-fewer _ xs in
    let m = one-more (unscheduled xs x) (record { object = x; context = c }) in
    omega (arith, k, m)

looked-more : (rs : List Row) (qs : Queues) (q : Obj) (soon : List Coming) → length (looked_at rs qs q soon) ≤ length soon + 1
looked-more rs qs q soon = each (next_of qs q)
  where
    fewer : length (unscheduled soon q) ≤ length soon
    fewer = filtered-fewer _ soon

    each : (o : Option Head) → length (put_soon rs q o soon) ≤ length soon + 1
    each None = omega arith
    each (Some h) = by_test (is_usable rs h.entry.trigger.context)
        (λ t. rw t (scheduled-more soon q h.entry.trigger.context))
        (λ t. rw t (let n = fewer in omega (arith, n)))

-- the events of a context are lost, and none is less
lost-many : (ws : List Watch) (c : Obj) → length (ring_without ws c) ≡ length ws
lost-many ws c = joined (filter (λ w. not (is_same w.context c)) ws) (map lost (ring_in ws c)) ∙ each ws
  where
    joined : (vs us : List Watch) → length (vs ++ us) ≡ length vs + length us
    joined [] us = omega arith
    joined (v ∷ vs) us = let n = joined vs us in omega (arith, n)

    each : (vs : List Watch) → length (filter (λ w. not (is_same w.context c)) vs) + length (map lost (ring_in vs c)) ≡ length vs
    each [] = refl
    each (v ∷ vs) = let n = each vs in by_test (is_same v.context c) (λ t. rw t (omega (arith, n))) (λ t. rw t (omega (arith, n)))

without-fewer : (rs : List Row) (x : Obj) (u : Upcoming) → pending_most (without_event rs x u) ≤ pending_most u
without-fewer rs x u =
    let s : length (soon_without soon x) ≤ length soon = filtered-fewer _ soon in
    let t : length (times_without (disarmed u.times x) x) ≤ length (disarmed u.times x) = filtered-fewer _ (disarmed u.times x) in
    let r = lost-many (unwatched u.ring x) x in
    let k = each (entry_of u.queues x) refl in
    omega (arith, s, t, r, k)
  where
    soon : List Coming
    soon = looked_after rs (without_entry u.queues x) (entry_of u.queues x) (unscheduled u.soon x)

    each : (o : Option QueueEntry) → entry_of u.queues x ≡ o
        → length (looked_after rs (without_entry u.queues x) o (unscheduled u.soon x)) + length (disarmed u.times x) + length (unwatched u.ring x) + length (without_entry u.queues x).entries ≤ pending_most u
    each None e =
        let m = soon-fewer u x in
        let n = times-fewer u x in
        let k : length (unwatched u.ring x) ≤ length u.ring = filtered-fewer _ u.ring in
        let l : length (without_entry u.queues x).entries ≤ length u.queues.entries = filtered-fewer _ u.queues.entries in
        omega (arith, m, n, k, l)
    each (Some w) e =
        let m = soon-fewer u x in
        let s = looked-more rs (without_entry u.queues x) w.queue (unscheduled u.soon x) in
        let n = times-fewer u x in
        let k : length (unwatched u.ring x) ≤ length u.ring = filtered-fewer _ u.ring in
        let l = entries-fewer u.queues.entries x.0 w e in
        omega (arith, m, s, n, k, l)

pub told-fewer : (rs : List Row) (told : FreeStep) (u : Upcoming) → pending_most (after rs (Some told) u) ≤ pending_most u
told-fewer rs (Left x from) u = without-fewer rs x u
told-fewer rs (Doom x) u = without-fewer rs x u
told-fewer rs _ u = omega arith

-- those of one context are no more than all
pub pending-most : (c : Obj) (u : Upcoming) → pending c u ≤ pending_most u
pending-most c u =
    let s : length (soon_in u.soon c) ≤ length u.soon = filtered-fewer _ u.soon in
    let t : length (times_in u.times c) ≤ length u.times = filtered-fewer _ u.times in
    let r : length (ring_in u.ring c) ≤ length u.ring = filtered-fewer _ u.ring in
    omega (arith, s, t, r)

pub picked-fewer : (pick : Pick) (u : Upcoming) → pending_most (picked pick u) ≤ pending_most u
picked-fewer (Soon x) u = let m = soon-fewer u x in omega (arith, m)
picked-fewer (Time x now) u = let n = times-fewer u x in omega (arith, n)
picked-fewer _ u = omega arith

-- ---- the requests

pub unreceived-most : (notes : Notes) → count_unreceived notes ≤ length notes
unreceived-most notes = filtered-fewer _ notes

-- a step of a free leaves no more to be received
pub told-unreceived : (rs : List Row) (told : FreeStep) (u : Upcoming) → count_unreceived (after rs (Some told) u).requests ≤ count_unreceived u.requests
told-unreceived rs (Gone x h) u = filtered-twice _ _ u.requests
told-unreceived rs (Dropped r target) u = filtered-twice _ _ u.requests
told-unreceived rs _ u = omega arith
