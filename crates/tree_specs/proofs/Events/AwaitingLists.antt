-- What each change of the lists of those that wait leaves of what waits, and of what is watched.
use Rattle.std.proofs.Common.{◌≡◌, ℕ, List, nat_eq, Option, Some, None, true, false, refl, sym, ◌∙◌, ap, subst, inl, inr}
use Rattle.std.proofs.lemmas.Bool.{eqb-true}
use Rattle.std.specs.Prelude.{is_some}
use Rattle.tree_specs.specs.declared.object.Obj.{Obj}
use Rattle.tree_specs.specs.declared.handler.Handler.{Handler}
use Rattle.tree_specs.specs.declared.moment.What.{What}
use Rattle.tree_specs.specs.declared.moment.What.TheVariants.{Immediate, Timer, Descriptor}
use Rattle.tree_specs.specs.declared.watch.Watch.{Watch}
use Rattle.tree_specs.specs.Words.Objects.{same}
use Rattle.tree_specs.specs.Tree.Pool.{Pool, row_of, put_soon, look_at, set_handler, schedule, unschedule, arm, disarm, watch, rewatch, turn_back, open_descriptor, close_descriptor}
use Rattle.tree_specs.specs.Events.Pending.{is_scheduled, scheduled}
use Rattle.tree_specs.specs.Events.Queues.{Head, next_of}
use Rattle.tree_specs.specs.Events.Rotation.{is_watching, is_watched}
use Rattle.tree_specs.specs.Events.Descriptors.{Descriptors, is_open_in}
use Rattle.tree_specs.specs.Calls.Refusals.{is_open}
use Rattle.tree_specs.specs.Invariants.Awaiting.{waits, MayCome, is_event_row, IsHandled, AreDistinct, has_soon, has_times, has_watches, is_live_context, Awaits}
use Rattle.tree_specs.proofs.Tree.Numbered.{by_test, same-true}
use Rattle.tree_specs.specs.Events.Handlers.{handler_of}
use Rattle.tree_specs.proofs.Events.EntryLaws.{with-same, with-other}
use Rattle.tree_specs.proofs.Events.PendingLaws.{unscheduled-other, scheduled-either, disarmed-other, armed-either}
use Rattle.tree_specs.proofs.Events.RotationLaws.{watched-watching, watched-watched, watched-distinct, rewatched-watching, rewatched-watched, rewatched-distinct, turned-watching, turned-watched, turned-distinct}
use Rattle.tree_specs.proofs.Events.DescriptorLaws.{opened-still, closed-other}
use Rattle.tree_specs.proofs.Events.LiveContexts.{soon-scheduled, soon-unscheduled, times-disarmed, times-armed, ring-watched, ring-rewatched, ring-turned, live-still, live-looked}
use Rattle.tree_specs.proofs.Events.Awaiting.{put-either, same-awaits}

-- ---- an object is to come

pub handled-awaits : (p : Pool) (x : Obj) (h : Handler) → is_event_row (row_of p.rows x) ≡ true → Awaits p → Awaits (set_handler p x h)
handled-awaits p x h there a = record {
  events = events;
  handlers = handlers;
  distinct = a.distinct;
  watched = a.watched;
  contexts = live-still p (set_handler p x h) (λ c l. l) (λ c k. k) (λ c k. k) (λ c k. k) a.contexts;
}
  where
    still : (w : What) (y : Obj) → waits w (set_handler p x h) y ≡ true → waits w p y ≡ true
    still Immediate y k = k
    still Timer y k = k
    still Descriptor y k = k
    still _ y k = cc

    events : (w : What) (y : Obj) → waits w (set_handler p x h) y ≡ true → MayCome w (row_of p.rows y) × IsHandled (row_of p.rows y) (handler_of (set_handler p x h).handlers y)
    events w y k =
        let e = a.events w y (still w y k) in
        by_test (same y x) (λ t. (e.0, λ i. ap is_some (with-same p.handlers x y h t))) (λ t. (e.0, λ i. ap is_some (with-other p.handlers x y h t) ∙ e.1 i))

    handlers : (y : Obj) → is_event_row (row_of p.rows y) ≡ false → handler_of (set_handler p x h).handlers y ≡ None
    handlers y e = by_test (same y x)
        (λ t. let e' : is_event_row (row_of p.rows x) ≡ false = subst (λ (z : Obj). is_event_row (row_of p.rows z) ≡ false) (same-true y x t) e in let bad : true ≡ false = sym there ∙ e' in cc)
        (λ t. with-other p.handlers x y h t ∙ a.handlers y e)

pub scheduled-awaits : (p : Pool) (x c : Obj) → MayCome Immediate (row_of p.rows x) → IsHandled (row_of p.rows x) (handler_of p.handlers x) → is_live_context p.rows c ≡ true → Awaits p → Awaits (schedule p x c)
scheduled-awaits p x c comes ready live a = record {
  events = events;
  handlers = a.handlers;
  distinct = a.distinct;
  watched = a.watched;
  contexts = record { soon = soon; times = a.contexts.times; ring = a.contexts.ring };
}
  where
    soon : (d : Obj) → has_soon (scheduled p.soon x c) d ≡ true → is_live_context p.rows d ≡ true
    soon d h = elim (soon-scheduled p.soon x c d h) [
      | inl l ↦ a.contexts.soon d l
      | inr e ↦ subst (λ (z : Obj). is_live_context p.rows z ≡ true) e live
    ]

    events : (w : What) (y : Obj) → waits w (schedule p x c) y ≡ true → MayCome w (row_of p.rows y) × IsHandled (row_of p.rows y) (handler_of p.handlers y)
    events Immediate y h = elim (scheduled-either p.soon x c y h) [
      | inl l ↦ a.events Immediate y l
      | inr e ↦ subst (λ (z : Obj). MayCome Immediate (row_of p.rows z) × IsHandled (row_of p.rows z) (handler_of p.handlers z)) e (comes, ready)
    ]
    events Timer y h = a.events Timer y h
    events Descriptor y h = a.events Descriptor y h
    events _ y h = cc

-- a queue that is looked at
pub looked-awaits : (p : Pool) (q : Obj) → MayCome Immediate (row_of p.rows q) → IsHandled (row_of p.rows q) (handler_of p.handlers q) → Awaits p → Awaits (look_at p q)
looked-awaits p q comes ready a = record {
  events = events;
  handlers = a.handlers;
  distinct = a.distinct;
  watched = a.watched;
  contexts = record { soon = λ c h. live-looked p q c a.contexts h; times = a.contexts.times; ring = a.contexts.ring };
}
  where
    after : (o : Option Head) (y : Obj) → is_scheduled (put_soon p.rows q o p.soon) y ≡ true → MayCome Immediate (row_of p.rows y) × IsHandled (row_of p.rows y) (handler_of p.handlers y)
    after None y h = a.events Immediate y h
    after (Some k) y h = elim (put-either p.rows q k p.soon y h) [
      | inl l ↦ a.events Immediate y l
      | inr e ↦ subst (λ (z : Obj). MayCome Immediate (row_of p.rows z) × IsHandled (row_of p.rows z) (handler_of p.handlers z)) e (comes, ready)
    ]

    events : (w : What) (y : Obj) → waits w (look_at p q) y ≡ true → MayCome w (row_of p.rows y) × IsHandled (row_of p.rows y) (handler_of p.handlers y)
    events Immediate y h = after (next_of p.queues q) y h
    events Timer y h = a.events Timer y h
    events Descriptor y h = a.events Descriptor y h
    events _ y h = cc

pub armed-awaits : (p : Pool) (x : Obj) (time number : ℕ) (c : Obj) → MayCome Timer (row_of p.rows x) → IsHandled (row_of p.rows x) (handler_of p.handlers x) → is_live_context p.rows c ≡ true → Awaits p → Awaits (arm p x time number c)
armed-awaits p x time number c comes ready live a = record {
  events = events;
  handlers = a.handlers;
  distinct = a.distinct;
  watched = a.watched;
  contexts = record { soon = a.contexts.soon; times = times; ring = a.contexts.ring };
}
  where
    times : (d : Obj) → has_times (arm p x time number c).times d ≡ true → is_live_context p.rows d ≡ true
    times d h = elim (times-armed p.times x time number c d h) [
      | inl l ↦ a.contexts.times d l
      | inr e ↦ subst (λ (z : Obj). is_live_context p.rows z ≡ true) e live
    ]

    events : (w : What) (y : Obj) → waits w (arm p x time number c) y ≡ true → MayCome w (row_of p.rows y) × IsHandled (row_of p.rows y) (handler_of p.handlers y)
    events Timer y h = elim (armed-either p.times x time number c y h) [
      | inl l ↦ a.events Timer y l
      | inr e ↦ subst (λ (z : Obj). MayCome Timer (row_of p.rows z) × IsHandled (row_of p.rows z) (handler_of p.handlers z)) e (comes, ready)
    ]
    events Immediate y h = a.events Immediate y h
    events Descriptor y h = a.events Descriptor y h
    events _ y h = cc

-- fewer objects are to come soon, or at a time
fewer-awaits : (p q : Pool) → Awaits p → ((y : Obj) → waits Immediate q y ≡ true → waits Immediate p y ≡ true) → ((y : Obj) → waits Timer q y ≡ true → waits Timer p y ≡ true)
    → q.rows ≡ p.rows → q.handlers ≡ p.handlers → q.ring ≡ p.ring → q.descriptors ≡ p.descriptors
    → ((c : Obj) → has_soon q.soon c ≡ true → has_soon p.soon c ≡ true) → ((c : Obj) → has_times q.times c ≡ true → has_times p.times c ≡ true) → Awaits q
fewer-awaits p q a soon times rows handlers ring descriptors soon-in times-in = same-awaits p q a fewer rows handlers ring descriptors soon-in times-in
  where
    fewer : (w : What) (y : Obj) → waits w q y ≡ true → waits w p y ≡ true
    fewer Immediate y h = soon y h
    fewer Timer y h = times y h
    fewer Descriptor y h = rw ring at h
    fewer _ y h = cc

pub unscheduled-awaits : (p : Pool) (x : Obj) → Awaits p → Awaits (unschedule p x)
unscheduled-awaits p x a = fewer-awaits p (unschedule p x) a (λ y h. (unscheduled-other p.soon x y h).0) (λ y h. h) refl refl refl refl (λ c h. soon-unscheduled p.soon x c h) (λ c h. h)

pub disarmed-awaits : (p : Pool) (x : Obj) → Awaits p → Awaits (disarm p x)
disarmed-awaits p x a = fewer-awaits p (disarm p x) a (λ y h. h) (λ y h. (disarmed-other p.times x y h).0) refl refl refl refl (λ c h. h) (λ c h. times-disarmed p.times x c h)

-- a change of what is kept of requests, or of the next number
pub kept-awaits : (p q : Pool) → Awaits p → q.rows ≡ p.rows → q.handlers ≡ p.handlers → q.ring ≡ p.ring → q.descriptors ≡ p.descriptors → q.soon ≡ p.soon → q.times ≡ p.times → Awaits q
kept-awaits p q a rows handlers ring descriptors soon times = fewer-awaits p q a (λ y h. rw soon at h) (λ y h. rw times at h) rows handlers ring descriptors (λ c h. rw soon at h) (λ c h. rw times at h)

-- ---- an event watches a descriptor

-- the same wait otherwise, and who is in the rotation may come
ring-awaits : (p : Pool) (ring : List Watch) → ((y : Obj) → is_watching ring y ≡ true → MayCome Descriptor (row_of p.rows y) × IsHandled (row_of p.rows y) (handler_of p.handlers y)) → AreDistinct ring
    → ((fd : ℕ) → is_watched ring fd ≡ true → is_open p fd ≡ true) → ((c : Obj) → has_watches ring c ≡ true → is_live_context p.rows c ≡ true) → Awaits p → Awaits (record p { ring = ring })
ring-awaits p ring comes distinct still_open live a = record {
  events = events;
  handlers = a.handlers;
  distinct = distinct;
  watched = still_open;
  contexts = record { soon = a.contexts.soon; times = a.contexts.times; ring = live };
}
  where
    events : (w : What) (y : Obj) → waits w (record p { ring = ring }) y ≡ true → MayCome w (row_of p.rows y) × IsHandled (row_of p.rows y) (handler_of p.handlers y)
    events Descriptor y h = comes y h
    events Immediate y h = a.events Immediate y h
    events Timer y h = a.events Timer y h
    events _ y h = cc

pub watching-awaits : (p : Pool) (x : Obj) (fd flags : ℕ) (c : Obj) → MayCome Descriptor (row_of p.rows x) → IsHandled (row_of p.rows x) (handler_of p.handlers x) → is_watching p.ring x ≡ false → is_watched p.ring fd ≡ false
    → is_open p fd ≡ true → is_live_context p.rows c ≡ true → Awaits p → Awaits (watch p x fd flags c)
watching-awaits p x fd flags c comes ready new free still_open live a =
    ring-awaits p (watch p x fd flags c).ring
    (λ y h. elim (watched-watching p.ring x fd flags c y h) [
      | inl l ↦ a.events Descriptor y l
      | inr e ↦ subst (λ (z : Obj). MayCome Descriptor (row_of p.rows z) × IsHandled (row_of p.rows z) (handler_of p.handlers z)) e (comes, ready)
    ])
    (watched-distinct p.ring x fd flags c a.distinct new free)
    (λ g h. elim (watched-watched p.ring x fd flags c g h) [
      | inl l ↦ a.watched g l
      | inr e ↦ subst (λ (n : ℕ). is_open p n ≡ true) e still_open
    ])
    (λ d h. elim (ring-watched p.ring x fd flags c d h) [
      | inl l ↦ a.contexts.ring d l
      | inr e ↦ subst (λ (z : Obj). is_live_context p.rows z ≡ true) e live
    ]) a

pub rewatched-awaits : (p : Pool) (x : Obj) (change : Watch → Watch) → ((w : Watch) → (change w).object ≡ w.object) → ((w : Watch) → (change w).fd ≡ w.fd) → ((w : Watch) → (change w).context ≡ w.context) → Awaits p → Awaits (rewatch p x change)
rewatched-awaits p x change same_object same_fd same_context a =
    ring-awaits p (rewatch p x change).ring (λ y h. a.events Descriptor y (sym (rewatched-watching change p.ring x y same_object) ∙ h)) (rewatched-distinct change p.ring x same_object same_fd a.distinct)
    (λ fd h. a.watched fd (sym (rewatched-watched change p.ring x fd same_fd) ∙ h)) (λ c h. a.contexts.ring c (ring-rewatched change p.ring x c same_context h)) a

pub turned-awaits : (p : Pool) (x : Obj) → Awaits p → Awaits (turn_back p x)
turned-awaits p x a =
    ring-awaits p (turn_back p x).ring (λ y h. a.events Descriptor y (turned-watching p.ring x y h)) (turned-distinct p.ring x a.distinct) (λ fd h. a.watched fd (turned-watched p.ring x fd h))
    (λ c h. a.contexts.ring c (ring-turned p.ring x c h)) a

-- ---- a descriptor is opened or closed

-- what is watched is among those that are open then
shut-awaits : (p : Pool) (ds : Descriptors) → ((fd : ℕ) → is_watched p.ring fd ≡ true → is_open_in ds fd ≡ true) → Awaits p → Awaits (record p { descriptors = ds })
shut-awaits p ds still_open a = record {
  events = events;
  handlers = a.handlers;
  distinct = a.distinct;
  watched = still_open;
  contexts = live-still p (record p { descriptors = ds }) (λ c l. l) (λ c h. h) (λ c h. h) (λ c h. h) a.contexts;
}
  where
    events : (w : What) (y : Obj) → waits w (record p { descriptors = ds }) y ≡ true → MayCome w (row_of p.rows y) × IsHandled (row_of p.rows y) (handler_of p.handlers y)
    events Descriptor y h = a.events Descriptor y h
    events Immediate y h = a.events Immediate y h
    events Timer y h = a.events Timer y h
    events _ y h = cc

pub opened-awaits : (p : Pool) (fd : ℕ) → Awaits p → Awaits (open_descriptor p fd)
opened-awaits p fd a = shut-awaits p (open_descriptor p fd).descriptors (λ g h. opened-still p.descriptors fd g (a.watched g h)) a

-- one that nobody watches
pub closed-awaits : (p : Pool) (fd : ℕ) → is_watched p.ring fd ≡ false → Awaits p → Awaits (close_descriptor p fd)
closed-awaits p fd free a = shut-awaits p (close_descriptor p fd).descriptors still_open a
  where
    still_open : (g : ℕ) → is_watched p.ring g ≡ true → is_open (close_descriptor p fd) g ≡ true
    still_open g h = by_test (nat_eq g fd)
        (λ t. let none : is_watched p.ring g ≡ false = subst (λ (n : ℕ). is_watched p.ring n ≡ false) (sym (eqb-true g fd t)) free in let bad : true ≡ false = sym h ∙ none in cc)
        (λ t. closed-other p.descriptors fd g t ∙ a.watched g h)
