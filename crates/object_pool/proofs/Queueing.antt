-- What stays in agreement where queues change.
use Rattle.std.proofs.Common.{◌≡◌, ℕ, ◌<◌, ◌≤◌, Bool, true, false, List, [], ◌∷◌, length, Option, Some, None, refl, sym, arith}
use Rattle.std.specs.Option.{option_map}
use Rattle.tree_specs.specs.declared.object.Obj.{Obj}
use Rattle.tree_specs.specs.declared.queue.QueueEntry.{QueueEntry}
use Rattle.tree_specs.specs.declared.row.Row.{Row}
use Rattle.tree_specs.specs.Tree.Pool.{put_soon, looked_at, looked_after}
use Rattle.tree_specs.specs.Words.Objects.{same}
use Rattle.tree_specs.specs.Events.Queues.{Queues, Head, head_in, next_of, runs, run_as, triggered_entry}
use Rattle.tree_specs.proofs.Invariants.Queues.{next-head}
use Rattle.tree_specs.proofs.Tree.Numbered.{by_test}
use Rattle.request_queue.specs.Register.{IsAbove, coming_for, coming_of, looked_for, starts_next, started, triggered_by}
use Rattle.object_pool.specs.declared.pool.ObjectPool.TheInside.{Inside}
use Rattle.object_pool.specs.Agreeing.{AgreeWith}
use Rattle.object_pool.specs.Upcoming.{Upcoming, Agenda, KeepsPlaces, KeepsContexts, AllBefore, AreGiven, key_number, running, with_coming, with_queues}
use Rattle.object_pool.proofs.Given.{kept-put, running-given, running-entries}
use Rattle.object_pool.proofs.Keeping.{becomes}

-- what is kept of queues is this now, of no more entries
pub queues-agree : (b : Inside) (e : Agenda) (qs : Queues) → e.upcoming ≡ with_queues qs b.events.upcoming → length qs.entries ≤ length b.events.upcoming.queues.entries → AllBefore key_number b.tree.next qs.running
    → AllBefore key_number b.tree.next qs.entries → KeepsPlaces b.events e → KeepsContexts b.events e → AgreeWith b → AgreeWith (record b { events = e })
queues-agree b e qs is n queues entries k kc a =
    becomes b e (with_queues qs b.events.upcoming) is k kc (omega (arith, n)) (record { times = a.given.times; ring = a.given.ring; requests = a.given.requests; queues = queues; entries = entries }) a

-- a queue runs, or it doesn't
pub ran-agree : (b : Inside) (e : Agenda) (q : Obj) (on : Bool) → e.upcoming ≡ with_queues (run_as b.events.upcoming.queues q on) b.events.upcoming → KeepsPlaces b.events e → KeepsContexts b.events e → AgreeWith b → AgreeWith (record b { events = e })
ran-agree b e q on is k kc a =
    let qs = b.events.upcoming.queues in
    let same_entries = running-entries qs q on in
    queues-agree b e (run_as qs q on) is (rw same_entries (omega arith)) (running-given b.tree.next qs q on a.given.queues) (rw same_entries a.given.entries) k kc a

-- an entry has a number that was given
head-before : (n : ℕ) (es : List (ℕ × QueueEntry)) (q : Obj) (h : Head) → AllBefore key_number n es → head_in es q ≡ Some h → h.object.0 < n
head-before n [] q h a e = cc
head-before n (f ∷ fs) q h a e = by_test (same f.1.queue q)
    (λ t. let e' : Some (record { object = record { 0 = f.0 }; entry = f.1 }) ≡ Some h = rw t at e in let is : record { object = record { 0 = f.0 }; entry = f.1 } ≡ h = cc in rw (sym is) a.0)
    (λ t. head-before n fs q h a.1 (rw t at e))

-- the trigger of an entry begins
pub triggered-agree : (b : Inside) (e : Agenda) (q : Obj) → e.upcoming ≡ with_queues (triggered_by (next_of b.events.upcoming.queues q) b.events.upcoming.queues) b.events.upcoming
    → length (triggered_by (next_of b.events.upcoming.queues q) b.events.upcoming.queues).entries ≡ length b.events.upcoming.queues.entries → KeepsPlaces b.events e → KeepsContexts b.events e → AgreeWith b → AgreeWith (record b { events = e })
triggered-agree b e q is n k kc a = queues-agree b e _ is (omega (arith, n)) (running (next_of qs q)) (entries (next_of qs q) refl) k kc a
  where
    qs : Queues
    qs = b.events.upcoming.queues

    running : (o : Option Head) → AllBefore key_number b.tree.next (triggered_by o qs).running
    running None = a.given.queues
    running (Some h) = a.given.queues

    entries : (o : Option Head) → next_of qs q ≡ o → AllBefore key_number b.tree.next (triggered_by o qs).entries
    entries None e = a.given.entries
    entries (Some h) e = kept-put b.tree.next qs.entries h.object.0 (triggered_entry h.entry) (head-before b.tree.next qs.entries q h a.given.entries (next-head qs q h e)) a.given.entries

-- a number that is still to be given is above those of all entries
pub above-all : (n : ℕ) (es : List (ℕ × QueueEntry)) → AllBefore key_number n es → IsAbove (record { 0 = n }) es
above-all n [] a = tt
above-all n (e ∷ es) a = (a.0, above-all n es a.1)

-- a queue that is to come soon does
pub coming-put : (rs : List Row) (qs : Queues) (q : Obj) (u : Upcoming) → with_coming rs (coming_of qs q) u ≡ record u { soon = looked_at rs qs q u.soon }
coming-put rs qs q u = each (next_of qs q)
  where
    each : (o : Option Head) → with_coming rs (option_map (coming_for q) o) u ≡ record u { soon = put_soon rs q o u.soon }
    each None = refl
    each (Some h) = refl

-- so does the queue that an entry has left
pub left-put : (rs : List Row) (qs : Queues) (o : Option QueueEntry) (u : Upcoming) → with_coming rs (looked_for qs o) u ≡ record u { soon = looked_after rs qs o u.soon }
left-put rs qs None u = refl
left-put rs qs (Some e) u = coming-put rs qs e.queue u

-- and one that starts
pub started-put : (rs : List Row) (q : Obj) (u : Upcoming) → with_coming rs (starts_next u.queues q) (record u { queues = started u.queues q }) ≡ running rs q u
started-put rs q u = by_test (runs u.queues q)
    (λ t. rw t refl)
    (λ t. rw t (coming-put rs (run_as u.queues q true) q (record u { queues = run_as u.queues q true })))

-- a queue that didn't run does
pub running-all : (n : ℕ) (rs : List Row) (u : Upcoming) (q : Obj) → AreGiven n u → AreGiven n (running rs q u)
running-all n rs u q a = by_test (runs u.queues q)
    (λ t. rw t a)
    (λ t. rw t (record {
      times = a.times;
      ring = a.ring;
      requests = a.requests;
      queues = running-given n u.queues q true a.queues;
      entries = rw (running-entries u.queues q true) a.entries;
    }))
