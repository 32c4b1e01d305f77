-- The numbers of what is to come, and of requests: all were given before the next one.
use Rattle.std.proofs.Common.{◌≡◌, ℕ, ◌<◌, ◌≤◌, nat_eq, Bool, false, List, [], ◌∷◌, ◌++◌, map, Option, Some, None, if◌then◌else◌, refl, sym, ◌∙◌, arith}
use Rattle.std.proofs.lemmas.Bool.{eqb-true, ne_eqb}
use Rattle.std.specs.List.{filter, find}
use Rattle.std.specs.Cmp.{unsigned_tied}
use Rattle.std.specs.FinMap.Entries.{by_order, put, find as find_kept}
use Rattle.std.specs.Ordering.{nat_cmp, eq_by_cmp}
use Rattle.std.specs.declared.cmp.Ordering.{Ordering}
use Rattle.std.specs.declared.cmp.Ordering.TheVariants.{Less, Equal, Greater}
use Rattle.tree_specs.specs.declared.due.Due.{Due}
use Rattle.tree_specs.specs.declared.free_step.FreeStep.{FreeStep}
use Rattle.tree_specs.specs.declared.free_step.FreeStep.TheVariants.{Dropped, Doom, Left, Gone}
use Rattle.tree_specs.specs.declared.object.Obj.{Obj}
use Rattle.tree_specs.specs.declared.request.Note.{Note}
use Rattle.tree_specs.specs.declared.row.Row.{Row}
use Rattle.tree_specs.specs.declared.watch.Watch.{Watch}
use Rattle.tree_specs.specs.Events.Pending.{armed, comes_before, disarmed, is_numbered, put_in}
use Rattle.tree_specs.specs.Events.Queues.{Queues, running_of, has_queue, run_as}
use Rattle.tree_specs.specs.Events.Requests.{Notes, note_of, renoted}
use Rattle.tree_specs.specs.Events.Rotation.{behind_all, is_watching, lost, rewatched, ring_in, ring_without, turned_back, unwatched, watch_of}
use Rattle.tree_specs.specs.Words.Objects.{same}
use Rattle.tree_specs.proofs.Tree.Numbered.{by_test}
use Rattle.loop_core.specs.declared.pick.Pick.{Pick}
use Rattle.loop_core.specs.declared.pick.Pick.TheVariants.{Time}
use Rattle.object_pool.specs.Upcoming.{Upcoming, AllBefore, AreGiven, due_number, watcher_number, key_number, after, picked, without_event, forgotten}

-- ---- any list of what has a number

module _ {A : Type 0} (number : A → ℕ) where
  -- numbers that were given before one were given before a later one
  before-later : (n m : ℕ) (xs : List A) → n ≤ m → AllBefore number n xs → AllBefore number m xs
  before-later n m [] le a = tt
  before-later n m (x ∷ xs) le a = ((let l = a.0 in omega (arith, l, le)), before-later n m xs le a.1)

  before-filtered : (n : ℕ) (keep : A → Bool) (xs : List A) → AllBefore number n xs → AllBefore number n (filter keep xs)
  before-filtered n keep [] a = tt
  before-filtered n keep (x ∷ xs) a = by_test (keep x)
      (λ t. rw t (a.0, before-filtered n keep xs a.1))
      (λ t. rw t (before-filtered n keep xs a.1))

  pub before-pushed : (n : ℕ) (xs : List A) (x : A) → number x < n → AllBefore number n xs → AllBefore number n (xs ++ x ∷ [])
  before-pushed n [] x l a = (l, tt)
  before-pushed n (y ∷ ys) x l a = (a.0, before-pushed n ys x l a.1)

  before-joined : (n : ℕ) (xs ys : List A) → AllBefore number n xs → AllBefore number n ys → AllBefore number n (xs ++ ys)
  before-joined n [] ys a b = b
  before-joined n (x ∷ xs) ys a b = (a.0, before-joined n xs ys a.1 b)

  before-mapped : (n : ℕ) (f : A → A) (xs : List A) → ((x : A) → number (f x) ≡ number x) → AllBefore number n xs → AllBefore number n (map f xs)
  before-mapped n f [] k a = tt
  before-mapped n f (x ∷ xs) k a = ((let l = a.0 in let e = k x in omega (arith, l, e)), before-mapped n f xs k a.1)

  -- what is found among them has such a number
  before-found : (n : ℕ) (test : A → Bool) (xs : List A) (x : A) → AllBefore number n xs → find test xs ≡ Some x → number x < n
  before-found n test [] x a e = cc
  before-found n test (y ∷ ys) x a e = by_test (test y)
      (λ t. let e' : Some y ≡ Some x = rw t at e in let is : y ≡ x = cc in rw (sym is) a.0)
      (λ t. before-found n test ys x a.1 (rw t at e))

  -- a number that is still to be given is that of none
  none-numbered : (n : ℕ) (xs : List A) → AllBefore number n xs → find (λ x. nat_eq (number x) n) xs ≡ None
  none-numbered n [] a = refl
  none-numbered n (x ∷ xs) a =
      let l = a.0 in
      let ne : nat_eq (number x) n ≡ false = ne_eqb (number x) n (λ e. omega (arith, l, e)) in
      rw ne (none-numbered n xs a.1)

-- ---- times

before-put_in : (n : ℕ) (d : Due) (ds : List Due) → d.number < n → AllBefore due_number n ds → AllBefore due_number n (put_in d ds)
before-put_in n d [] l a = (l, tt)
before-put_in n d (e ∷ es) l a = by_test (comes_before d e)
    (λ t. rw t (l, a))
    (λ t. rw t (a.0, before-put_in n d es l a.1))

pub times-gone : (n : ℕ) (ds : List Due) (x : Obj) → AllBefore due_number n ds → AllBefore due_number n (disarmed ds x)
times-gone n ds x a = before-filtered due_number n _ ds a

pub times-armed : (n : ℕ) (ds : List Due) (x : Obj) (time number : ℕ) (c : Obj) → number < n → AllBefore due_number n ds → AllBefore due_number n (armed ds x time number c)
times-armed n ds x time number c l a = before-put_in n (record { time = time; number = number; object = x; context = c }) (disarmed ds x) l (times-gone n ds x a)

pub unnumbered : (n : ℕ) (ds : List Due) (x : Obj) → AllBefore due_number n ds → is_numbered (disarmed ds x) n ≡ false
unnumbered n ds x a = let none = none-numbered due_number n (disarmed ds x) (times-gone n ds x a) in rw none refl

-- ---- events that watch

pub unwatching : (n : ℕ) (ws : List Watch) → AllBefore watcher_number n ws → is_watching ws (record { 0 = n }) ≡ false
unwatching n ws a = let none = none-numbered watcher_number n ws a in rw none refl

pub ring-changed : (n : ℕ) (change : Watch → Watch) (ws : List Watch) (x : Obj) → ((w : Watch) → (change w).object ≡ w.object) → AllBefore watcher_number n ws → AllBefore watcher_number n (rewatched change ws x)
ring-changed n change ws x k a = before-mapped watcher_number n (λ w. if same w.object x then change w else w) ws (λ w. by_test (same w.object x) (λ t. rw (t, k w) refl) (λ t. rw t refl)) a

pub ring-turned : (n : ℕ) (ws : List Watch) (x : Obj) → AllBefore watcher_number n ws → AllBefore watcher_number n (turned_back ws x)
ring-turned n ws x a = each (watch_of ws x) refl
  where
    gone : AllBefore watcher_number n (unwatched ws x)
    gone = before-filtered watcher_number n _ ws a

    each : (o : Option Watch) → watch_of ws x ≡ o → AllBefore watcher_number n (behind_all (unwatched ws x) o)
    each None e = gone
    each (Some w) e = before-pushed watcher_number n (unwatched ws x) w (before-found watcher_number n _ ws w a e) gone

-- ---- what is kept under numbers

-- what is kept under numbers: notes of requests, queues, and entries
module _ {V : Type 0} where
  pub kept-put : (n : ℕ) (kept : List (ℕ × V)) (x : ℕ) (value : V) → x < n → AllBefore key_number n kept → AllBefore key_number n (put nat_cmp x value kept)
  kept-put n [] x value l a = (l, tt)
  kept-put n (m ∷ ms) x value l a = each (nat_cmp x m.0) (kept-put n ms x value l a.1)
    where
      each : (o : Ordering) → AllBefore key_number n (put nat_cmp x value ms) → AllBefore key_number n (by_order o ((x, value) ∷ m ∷ ms) ((m.0, value) ∷ ms) (m ∷ put nat_cmp x value ms))
      each Less ih = (l, a)
      each Equal ih = (a.0, a.1)
      each Greater ih = (a.0, ih)

  pub kept-before : (n : ℕ) (kept : List (ℕ × V)) (x : ℕ) (value : V) → AllBefore key_number n kept → find_kept nat_cmp x kept ≡ Some value → x < n
  kept-before n [] x value a e = cc
  kept-before n (m ∷ ms) x value a e = by_test (eq_by_cmp nat_cmp x m.0)
      (λ t. let is : x ≡ m.0 = eqb-true x m.0 (sym (unsigned_tied x m.0) ∙ t) in let l = a.0 in omega (arith, l, is))
      (λ t. kept-before n ms x value a.1 (rw t at e))

  -- a number that is still to be given is that of none
  pub unkept : (n : ℕ) (kept : List (ℕ × V)) → AllBefore key_number n kept → find_kept nat_cmp n kept ≡ None
  unkept n kept a = each (find_kept nat_cmp n kept) refl
    where
      each : (o : Option V) → find_kept nat_cmp n kept ≡ o → o ≡ None
      each None e = refl
      each (Some value) e = let l = kept-before n kept n value a e in absurd (omega (arith, l))

pub notes-changed : (n : ℕ) (change : Note → Note) (notes : Notes) (x : Obj) → AllBefore key_number n notes → AllBefore key_number n (renoted change notes x)
notes-changed n change notes x a = each (note_of notes x) refl
  where
    each : (o : Option Note) → note_of notes x ≡ o → AllBefore key_number n (renoted change notes x)
    each None e = rw e a
    each (Some note) e = rw e (kept-put n notes x.0 (change note) (kept-before n notes x.0 note a e) a)

-- what is kept of queues keeps their numbers
pub running-given : (n : ℕ) (qs : Queues) (q : Obj) (running : Bool) → AllBefore key_number n qs.running → AllBefore key_number n (run_as qs q running).running
running-given n qs q running a = each (running_of qs q) refl
  where
    each : (o : Option Bool) → running_of qs q ≡ o → AllBefore key_number n (run_as qs q running).running
    each None e = rw e a
    each (Some was) e = rw e (kept-put n qs.running q.0 running (kept-before n qs.running q.0 was a e) a)

pub running-entries : (qs : Queues) (q : Obj) (running : Bool) → (run_as qs q running).entries ≡ qs.entries
running-entries qs q running = by_test (has_queue qs q) (λ t. rw t refl) (λ t. rw t refl)

-- ---- all that is to come

pub given-later : (n m : ℕ) (u : Upcoming) → n ≤ m → AreGiven n u → AreGiven m u
given-later n m u le a = record {
  times = before-later due_number n m u.times le a.times;
  ring = before-later watcher_number n m u.ring le a.ring;
  requests = before-later key_number n m u.requests le a.requests;
  queues = before-later key_number n m u.queues.running le a.queues;
  entries = before-later key_number n m u.queues.entries le a.entries;
}

-- the events of a context are lost
ring-lost : (n : ℕ) (ws : List Watch) (c : Obj) → AllBefore watcher_number n ws → AllBefore watcher_number n (ring_without ws c)
ring-lost n ws c a =
    before-joined watcher_number n _ _ (before-filtered watcher_number n _ ws a)
    (before-mapped watcher_number n lost (ring_in ws c) (λ w. refl) (before-filtered watcher_number n _ ws a))

gone-given : (n : ℕ) (rs : List Row) (u : Upcoming) (x : Obj) → AreGiven n u → AreGiven n (without_event rs x u)
gone-given n rs u x a = record {
  times = before-filtered due_number n _ (disarmed u.times x) (times-gone n u.times x a.times);
  ring = ring-lost n (unwatched u.ring x) x (before-filtered watcher_number n _ u.ring a.ring);
  requests = a.requests;
  queues = a.queues;
  entries = before-filtered key_number n _ u.queues.entries a.entries;
}

forgotten-given : (n : ℕ) (u : Upcoming) (x : Obj) → AreGiven n u → AreGiven n (forgotten x u)
forgotten-given n u x a = record {
  times = a.times;
  ring = a.ring;
  requests = before-filtered key_number n _ u.requests a.requests;
  queues = before-filtered key_number n _ u.queues.running a.queues;
  entries = a.entries;
}

pub told-given : (n : ℕ) (rs : List Row) (u : Upcoming) (told : FreeStep) → AreGiven n u → AreGiven n (after rs (Some told) u)
told-given n rs u (Left x from) a = gone-given n rs u x a
told-given n rs u (Doom x) a = gone-given n rs u x a
told-given n rs u (Gone x h) a = forgotten-given n u x a
told-given n rs u (Dropped r target) a = forgotten-given n u r a
told-given n rs u _ a = a

pub picked-given : (n : ℕ) (u : Upcoming) (pick : Pick) → AreGiven n u → AreGiven n (picked pick u)
picked-given n u (Time x now) a = record { times = times-gone n u.times x a.times; ring = a.ring; requests = a.requests; queues = a.queues; entries = a.entries }
picked-given n u _ a = record { times = a.times; ring = a.ring; requests = a.requests; queues = a.queues; entries = a.entries }
