-- Each context in which something waits is live: what each change of the pool leaves of this.
use Rattle.std.proofs.Common.{◌≡◌, ◌≢◌, ℕ, Bool, true, false, List, [], ◌∷◌, ◌++◌, Option, Some, None, is_some, refl, sym, ◌∙◌, ap, subst, ◌⊎◌, inl, inr}
use Rattle.std.specs.Prelude.{not, ◌&&◌, map}
use Rattle.std.specs.List.{find, filter}
use Rattle.tree_specs.specs.declared.object.Obj.{Obj}
use Rattle.tree_specs.specs.declared.object.Owner.{Owner}
use Rattle.tree_specs.specs.declared.row.Row.{Row}
use Rattle.tree_specs.specs.declared.row.Mark.{Mark}
use Rattle.tree_specs.specs.declared.row.Mark.TheVariants as mark
use Rattle.tree_specs.specs.declared.coming.Coming.{Coming}
use Rattle.tree_specs.specs.declared.due.Due.{Due}
use Rattle.tree_specs.specs.declared.watch.Watch.{Watch}
use Rattle.tree_specs.specs.declared.queue.QueueEntry.{QueueEntry}
use Rattle.tree_specs.specs.Words.Objects.{same, is_same, first_context}
use Rattle.tree_specs.specs.Tree.Targets.{is_context, is_usable_mark}
use Rattle.tree_specs.specs.Tree.Pool.{Pool, row_of, changed, without, place, is_usable, is_context_row, is_usable_row, put_soon, looked_at, looked_after, let_go}
use Rattle.tree_specs.specs.Events.Pending.{unscheduled, scheduled, soon_without, disarmed, comes_before, put_in, armed, times_without}
use Rattle.tree_specs.specs.Events.Queues.{Queues, Head, without_entry, entry_of, next_of}
use Rattle.tree_specs.specs.Events.Rotation.{watch_of, watched, unwatched, rewatched, behind_all, turned_back, lost, ring_in, ring_without}
use Rattle.tree_specs.specs.Calls.Refusals.{is_doomed_mark}
use Rattle.tree_specs.specs.Calls.Passed.{IsUsable, First, Stays}
use Rattle.tree_specs.specs.Invariants.Sound.{MayBePlaced}
use Rattle.tree_specs.specs.Invariants.Awaiting.{has_soon, has_times, has_watches, is_live_context_row, is_live_context, InLiveContexts}
use Rattle.tree_specs.proofs.Tree.Numbered.{by_test, same-true, same_or_not}
use Rattle.tree_specs.proofs.Tree.Rows.{row_of-changed-other, row_of-changed-same, row_of-without-other, row_of-placed-other, row_of-placed-same}

-- ---- the first that passes a test

kept-found : {A : Type 0} (q keep : A → Bool) (xs : List A) → is_some (find q (filter keep xs)) ≡ true → is_some (find q xs) ≡ true
kept-found q keep [] h = h
kept-found q keep (x ∷ xs) h = by_test (q x)
    (λ u. rw u refl)
    (λ u. rw u (kept-found q keep xs (by_test (keep x) (λ t. rw (t, u) at h) (λ t. rw t at h))))

-- none is found where each that is kept doesn't pass
none-kept : {A : Type 0} (q keep : A → Bool) (xs : List A) → ((x : A) → keep x ≡ true → q x ≡ false) → is_some (find q (filter keep xs)) ≡ true → ⊥
none-kept q keep [] h e = cc
none-kept q keep (x ∷ xs) h e = by_test (keep x)
    (λ t. none-kept q keep xs h (rw (t, h x t) at e))
    (λ t. none-kept q keep xs h (rw t at e))

joined-found : {A : Type 0} (q : A → Bool) (xs ys : List A) → is_some (find q (xs ++ ys)) ≡ true → (is_some (find q xs) ≡ true) ⊎ (is_some (find q ys) ≡ true)
joined-found q [] ys h = inr h
joined-found q (x ∷ xs) ys h = by_test (q x) (λ u. inl (rw u refl)) (λ u. elim (joined-found q xs ys (rw u at h)) [
  | inl l ↦ inl (rw u l)
  | inr r ↦ inr r
])

only-found : {A : Type 0} (q : A → Bool) (x : A) → is_some (find q (x ∷ [])) ≡ true → q x ≡ true
only-found q x h = by_test (q x) (λ u. u) (λ u. let bad : false ≡ true = rw u at h in cc)

negated : (b : Bool) → not b ≡ true → b ≡ false
negated true e = cc
negated false e = refl

both : (a b : Bool) → (a && b) ≡ true → (a ≡ true) × (b ≡ true)
both true b e = (refl, e)
both false b e = cc

-- ---- live contexts

-- by the row
pub live-by : (rs ss : List Row) (c : Obj) → (is_live_context_row (row_of rs c) ≡ true → is_live_context_row (row_of ss c) ≡ true) → is_live_context rs c ≡ true → is_live_context ss c ≡ true
live-by rs ss c h l = by_test (same c first_context) (λ t. rw t refl) (λ t. rw t (h (rw t at l)))

usable-live : (o : Option Row) → is_context_row o ≡ true → is_usable_row o ≡ true → is_live_context_row o ≡ true
usable-live None k m = cc
usable-live (Some r) k m = rw k (marks r.mark m)
  where
    marks : (m : Mark) → is_usable_mark m ≡ true → not (is_doomed_mark m) ≡ true
    marks mark.Quiet e = refl
    marks mark.Busy e = refl
    marks _ e = cc

-- one that is usable
pub usable-context : (rs : List Row) (c : Obj) → is_usable rs c ≡ true → is_live_context rs c ≡ true
usable-context rs c h = by_test (same c first_context)
    (λ t. rw t refl)
    (λ t. let b = both (is_context_row (row_of rs c)) (is_usable_row (row_of rs c)) (rw t at h) in rw t (usable-live (row_of rs c) b.0 b.1))

pub passed-context : (p : Pool) (c : Obj) → IsUsable p c → is_live_context p.rows c ≡ true
passed-context p c (First t) = rw t refl
passed-context p c (Stays k m) = by_test (same c first_context) (λ t. rw t refl) (λ t. rw t (usable-live (row_of p.rows c) k m))

-- a row that is changed and isn't doomed by it
pub live-changed : (g : Row → Row) (rs : List Row) (x c : Obj) → ((r : Row) → (g r).serial ≡ r.serial) → ((r : Row) → (g r).kind ≡ r.kind) → ((r : Row) → is_doomed_mark r.mark ≡ false → is_doomed_mark (g r).mark ≡ false)
    → is_live_context rs c ≡ true → is_live_context (changed g rs x) c ≡ true
live-changed g rs x c serial kind mark = live-by rs (changed g rs x) c (elim (same_or_not x c) [
  | inl e ↦ subst (λ (z : Obj). is_live_context_row (row_of rs z) ≡ true → is_live_context_row (row_of (changed g rs x) z) ≡ true) e (here (row_of rs x) refl)
  | inr ne ↦ λ h. rw (row_of-changed-other g rs x c serial ne) h
])
  where
    here : (o : Option Row) → row_of rs x ≡ o → is_live_context_row (row_of rs x) ≡ true → is_live_context_row (row_of (changed g rs x) x) ≡ true
    here None e h = let bad : false ≡ true = rw e at h in cc
    here (Some r) e h =
        let h' : (is_context r.kind && not (is_doomed_mark r.mark)) ≡ true = rw e at h in
        let b = both (is_context r.kind) (not (is_doomed_mark r.mark)) h' in
        rw (row_of-changed-same g rs x r serial e, kind r, b.0, mark r (negated (is_doomed_mark r.mark) b.1)) refl

-- another row that is changed
pub live-other : (g : Row → Row) (rs : List Row) (x c : Obj) → ((r : Row) → (g r).serial ≡ r.serial) → x ≢ c → is_live_context rs c ≡ true → is_live_context (changed g rs x) c ≡ true
live-other g rs x c serial ne = live-by rs (changed g rs x) c (λ h. rw (row_of-changed-other g rs x c serial ne) h)

pub live-placed : (p : Pool) (o : Owner) (x c : Obj) → MayBePlaced p o x → is_live_context p.rows c ≡ true → is_live_context (place p o x).rows c ≡ true
live-placed p o x c may = live-by p.rows (place p o x).rows c (elim (same_or_not x c) [
  | inl e ↦ subst (λ (z : Obj). is_live_context_row (row_of p.rows z) ≡ true → is_live_context_row (row_of (place p o x).rows z) ≡ true) e
      (λ h. let h' : is_live_context_row (Some may.row) ≡ true = rw may.is at h in rw (row_of-placed-same p o x may.row may.is) h')
  | inr ne ↦ λ h. rw (row_of-placed-other p o x c may.row may.is ne) h
])

-- an object that is no live context is removed
pub live-without : (rs : List Row) (x c : Obj) → is_live_context_row (row_of rs x) ≡ false → is_live_context rs c ≡ true → is_live_context (without rs x) c ≡ true
live-without rs x c dead = live-by rs (without rs x) c (elim (same_or_not x c) [
  | inl e ↦ λ h. (let h' : is_live_context_row (row_of rs x) ≡ true = subst (λ (z : Obj). is_live_context_row (row_of rs z) ≡ true) (sym e) h in let bad : true ≡ false = sym h' ∙ dead in cc)
  | inr ne ↦ λ h. rw (row_of-without-other rs x c ne) h
])

-- a new row, with a number that nobody has
pub live-added : (rs : List Row) (r : Row) (c : Obj) → row_of rs r.serial ≡ None → is_live_context rs c ≡ true → is_live_context (r ∷ rs) c ≡ true
live-added rs r c nobody = live-by rs (r ∷ rs) c (λ h. by_test (same r.serial c)
    (λ t. let none : row_of rs c ≡ None = ap (row_of rs) (sym (same-true r.serial c t)) ∙ nobody in let bad : false ≡ true = rw none at h in cc)
    (λ t. rw t h))

-- ---- what waits in a context after a change

pub soon-scheduled : (xs : List Coming) (x d c : Obj) → has_soon (scheduled xs x d) c ≡ true → (has_soon xs c ≡ true) ⊎ (d ≡ c)
soon-scheduled xs x d c h = elim (joined-found (λ (y : Coming). same y.context c) (unscheduled xs x) (record { object = x; context = d } ∷ []) h) [
  | inl l ↦ inl (kept-found (λ (y : Coming). same y.context c) (λ (y : Coming). not (same y.object x)) xs l)
  | inr r ↦ inr (same-true d c (only-found (λ (y : Coming). same y.context c) (record { object = x; context = d }) r))
]

pub soon-unscheduled : (xs : List Coming) (x c : Obj) → has_soon (unscheduled xs x) c ≡ true → has_soon xs c ≡ true
soon-unscheduled xs x c h = kept-found (λ (y : Coming). same y.context c) (λ (y : Coming). not (same y.object x)) xs h

-- a queue comes in a context that is usable
pub soon-put : (rs : List Row) (q : Obj) (o : Option Head) (xs : List Coming) (c : Obj) → has_soon (put_soon rs q o xs) c ≡ true → (has_soon xs c ≡ true) ⊎ (is_live_context rs c ≡ true)
soon-put rs q None xs c h = inl h
soon-put rs q (Some k) xs c h =
    let d : Obj = k.entry.trigger.context in
    by_test (is_usable rs d)
    (λ t. elim (soon-scheduled xs q d c (rw t at h)) [
      | inl l ↦ inl l
      | inr e ↦ inr (subst (λ (z : Obj). is_live_context rs z ≡ true) e (usable-context rs d t))
    ])
    (λ t. inl (soon-unscheduled xs q c (rw t at h)))

soon-after : (rs : List Row) (qs : Queues) (o : Option QueueEntry) (xs : List Coming) (c : Obj) → has_soon (looked_after rs qs o xs) c ≡ true → (has_soon xs c ≡ true) ⊎ (is_live_context rs c ≡ true)
soon-after rs qs None xs c h = inl h
soon-after rs qs (Some e) xs c h = soon-put rs e.queue (next_of qs e.queue) xs c h

times-put : (d : Due) (es : List Due) (c : Obj) → has_times (put_in d es) c ≡ true → (has_times es c ≡ true) ⊎ (d.context ≡ c)
times-put d [] c h = inr (same-true d.context c (only-found (λ (e : Due). same e.context c) d h))
times-put d (e ∷ es) c h = by_test (comes_before d e)
    (λ t. by_test (same d.context c) (λ u. inr (same-true d.context c u)) (λ u. inl (rw (t, u) at h)))
    (λ t. by_test (same e.context c)
    (λ u. inl (rw u refl))
    (λ u. elim (times-put d es c (rw (t, u) at h)) [
      | inl l ↦ inl (rw u l)
      | inr q ↦ inr q
    ]))

pub times-disarmed : (ds : List Due) (x c : Obj) → has_times (disarmed ds x) c ≡ true → has_times ds c ≡ true
times-disarmed ds x c h = kept-found (λ (d : Due). same d.context c) (λ (d : Due). not (same d.object x)) ds h

pub times-armed : (ds : List Due) (x : Obj) (time number : ℕ) (d c : Obj) → has_times (armed ds x time number d) c ≡ true → (has_times ds c ≡ true) ⊎ (d ≡ c)
times-armed ds x time number d c h = elim (times-put (record { time = time; number = number; object = x; context = d }) (disarmed ds x) c h) [
  | inl l ↦ inl (times-disarmed ds x c l)
  | inr e ↦ inr e
]

pub ring-watched : (ws : List Watch) (x : Obj) (fd flags : ℕ) (d c : Obj) → has_watches (watched ws x fd flags d) c ≡ true → (has_watches ws c ≡ true) ⊎ (d ≡ c)
ring-watched ws x fd flags d c h =
    let w : Watch = record { object = x; fd = fd; flags = flags; closes = false; context = Some d } in
    elim (joined-found (λ (v : Watch). is_same v.context c) ws (w ∷ []) h) [
      | inl l ↦ inl l
      | inr r ↦ inr (same-true d c (only-found (λ (v : Watch). is_same v.context c) w r))
    ]

pub ring-rewatched : (g : Watch → Watch) (ws : List Watch) (x c : Obj) → ((w : Watch) → (g w).context ≡ w.context) → has_watches (rewatched g ws x) c ≡ true → has_watches ws c ≡ true
ring-rewatched g [] x c k h = h
ring-rewatched g (w ∷ ws) x c k h =
    let same_one : is_same (g w).context c ≡ is_same w.context c = ap (λ (o : Option Obj). is_same o c) (k w) in
    by_test (is_same w.context c)
    (λ u. rw u refl)
    (λ u. rw u (ring-rewatched g ws x c k (by_test (same w.object x) (λ t. rw (t, same_one, u) at h) (λ t. rw (t, u) at h))))

ring-unwatched : (ws : List Watch) (x c : Obj) → has_watches (unwatched ws x) c ≡ true → has_watches ws c ≡ true
ring-unwatched ws x c h = kept-found (λ (w : Watch). is_same w.context c) (λ (w : Watch). not (same w.object x)) ws h

-- the one that an event has passes, where it does
watch-passes : (q : Watch → Bool) (ws : List Watch) (x : Obj) (w : Watch) → watch_of ws x ≡ Some w → q w ≡ true → is_some (find q ws) ≡ true
watch-passes q [] x w e t = cc
watch-passes q (v ∷ ws) x w e t = by_test (q v)
    (λ u. rw u refl)
    (λ u. rw u (watch-passes q ws x w (by_test (same v.object x)
    (λ s. let e' : Some v ≡ Some w = rw s at e in let is : v ≡ w = cc in let bad : true ≡ false = sym t ∙ sym (ap q is) ∙ u in cc)
    (λ s. rw s at e)) t))

pub ring-turned : (ws : List Watch) (x c : Obj) → has_watches (turned_back ws x) c ≡ true → has_watches ws c ≡ true
ring-turned ws x c = each (watch_of ws x) refl
  where
    each : (o : Option Watch) → watch_of ws x ≡ o → has_watches (behind_all (unwatched ws x) o) c ≡ true → has_watches ws c ≡ true
    each None e h = ring-unwatched ws x c h
    each (Some w) e h = elim (joined-found (λ (v : Watch). is_same v.context c) (unwatched ws x) (w ∷ []) h) [
      | inl l ↦ ring-unwatched ws x c l
      | inr r ↦ watch-passes (λ (v : Watch). is_same v.context c) ws x w e (only-found (λ (v : Watch). is_same v.context c) w r)
    ]

-- ---- a context that goes has nothing any more

soon-without : (xs : List Coming) (x c : Obj) → has_soon (soon_without xs x) c ≡ true → (has_soon xs c ≡ true) × (x ≢ c)
soon-without xs x c h = (
  kept-found (λ (y : Coming). same y.context c) (λ (y : Coming). not (same y.context x)) xs h,
  λ e. none-kept (λ (y : Coming). same y.context x) (λ (y : Coming). not (same y.context x)) xs (λ y k. negated (same y.context x) k) (subst (λ (z : Obj). has_soon (soon_without xs x) z ≡ true) (sym e) h),
)

times-without : (ds : List Due) (x c : Obj) → has_times (times_without ds x) c ≡ true → (has_times ds c ≡ true) × (x ≢ c)
times-without ds x c h = (
  kept-found (λ (d : Due). same d.context c) (λ (d : Due). not (same d.context x)) ds h,
  λ e. none-kept (λ (d : Due). same d.context x) (λ (d : Due). not (same d.context x)) ds (λ d k. negated (same d.context x) k) (subst (λ (z : Obj). has_times (times_without ds x) z ≡ true) (sym e) h),
)

lost-nowhere : (ws : List Watch) (c : Obj) → has_watches (map lost ws) c ≡ true → ⊥
lost-nowhere [] c h = cc
lost-nowhere (w ∷ ws) c h = lost-nowhere ws c h

ring-without : (ws : List Watch) (x c : Obj) → has_watches (ring_without ws x) c ≡ true → (has_watches ws c ≡ true) × (x ≢ c)
ring-without ws x c h = elim (joined-found (λ (w : Watch). is_same w.context c) (filter (λ (w : Watch). not (is_same w.context x)) ws) (map lost (ring_in ws x)) h) [
  | inl l ↦ (
    kept-found (λ (w : Watch). is_same w.context c) (λ (w : Watch). not (is_same w.context x)) ws l,
    λ e. none-kept (λ (w : Watch). is_same w.context x) (λ (w : Watch). not (is_same w.context x)) ws (λ w k. negated (is_same w.context x) k) (subst (λ (z : Obj). has_watches (filter (λ (w : Watch). not (is_same w.context x)) ws) z ≡ true) (sym e) l),
  )
  | inr r ↦ absurd (lost-nowhere (ring_in ws x) c r)
]

-- ---- the pool

-- the same contexts are live, and nothing waits in others
pub live-still : (p q : Pool) → ((c : Obj) → is_live_context p.rows c ≡ true → is_live_context q.rows c ≡ true) → ((c : Obj) → has_soon q.soon c ≡ true → has_soon p.soon c ≡ true)
    → ((c : Obj) → has_times q.times c ≡ true → has_times p.times c ≡ true) → ((c : Obj) → has_watches q.ring c ≡ true → has_watches p.ring c ≡ true) → InLiveContexts p → InLiveContexts q
live-still p q live soon times ring a = record {
  soon = λ c h. live c (a.soon c (soon c h));
  times = λ c h. live c (a.times c (times c h));
  ring = λ c h. live c (a.ring c (ring c h));
}

-- an object leaves, or is doomed
pub live-gone : (g : Row → Row) (p : Pool) (x : Obj) → ((r : Row) → (g r).serial ≡ r.serial) → InLiveContexts p → InLiveContexts (let_go p x g)
live-gone g p x serial a = record {
  soon = λ c h. (
      let w = soon-without (looked_after p.rows (without_entry p.queues x) (entry_of p.queues x) (unscheduled p.soon x)) x c h in
      live-other g p.rows x c serial w.1 (elim (soon-after p.rows (without_entry p.queues x) (entry_of p.queues x) (unscheduled p.soon x) c w.0) [
        | inl l ↦ a.soon c (soon-unscheduled p.soon x c l)
        | inr r ↦ r
      ]));
  times = λ c h. (let w = times-without (disarmed p.times x) x c h in live-other g p.rows x c serial w.1 (a.times c (times-disarmed p.times x c w.0)));
  ring = λ c h. (let w = ring-without (unwatched p.ring x) x c h in live-other g p.rows x c serial w.1 (a.ring c (ring-unwatched p.ring x c w.0)));
}

-- a queue that is looked at
pub live-looked : (p : Pool) (q : Obj) (c : Obj) → InLiveContexts p → has_soon (looked_at p.rows p.queues q p.soon) c ≡ true → is_live_context p.rows c ≡ true
live-looked p q c a h = elim (soon-put p.rows q (next_of p.queues q) p.soon c h) [
  | inl l ↦ a.soon c l
  | inr r ↦ r
]
