-- What each change of the rows leaves of what waits.
use Rattle.std.proofs.Common.{◌≡◌, ◌≢◌, ℕ, List, [], ◌∷◌, nat_eq, Option, Some, None, true, false, refl, sym, ◌∙◌, ap, subst, ◌⊎◌, inl, inr}
use Rattle.std.proofs.lemmas.Bool.{eqb-true}
use Rattle.std.specs.Prelude.{is_some}
use Rattle.tree_specs.specs.declared.object.Obj.{Obj}
use Rattle.tree_specs.specs.declared.object.Owner.{Owner}
use Rattle.tree_specs.specs.declared.row.Row.{Row}
use Rattle.tree_specs.specs.declared.row.Mark.{Mark}
use Rattle.tree_specs.specs.declared.kind.Kind.{Kind}
use Rattle.tree_specs.specs.declared.kind.Kind.TheVariants as kind
use Rattle.tree_specs.specs.declared.queue.QueueEntry.{QueueEntry}
use Rattle.tree_specs.specs.declared.moment.What.{What}
use Rattle.tree_specs.specs.declared.moment.What.TheVariants.{Immediate, Timer, Descriptor}
use Rattle.tree_specs.specs.declared.coming.Coming.{Coming}
use Rattle.tree_specs.specs.Words.Objects.{same}
use Rattle.tree_specs.specs.Tree.Targets.{target_of}
use Rattle.tree_specs.specs.Tree.Pool.{Pool, row_of, target_at, changed, without, new_row, add, let_go, is_usable, put_soon, looked_after, remove, place, set_mark, marked_row}
use Rattle.tree_specs.specs.Events.Pending.{is_scheduled, unscheduled, disarmed}
use Rattle.tree_specs.specs.Events.Queues.{Head, entry_of, without_entry, next_of}
use Rattle.tree_specs.specs.Events.Rotation.{is_watched, closes_with, unwatched}
use Rattle.tree_specs.specs.Events.Descriptors.{is_open_in, shut}
use Rattle.tree_specs.specs.Calls.Refusals.{is_doomed_mark}
use Rattle.tree_specs.specs.Invariants.Sound.{MayBePlaced}
use Rattle.tree_specs.specs.Invariants.Awaiting.{waits, waits_as, MayCome, is_event_row, IsHandled, has_soon, has_times, is_live_context_row, is_live_context, Awaits}
use Rattle.tree_specs.proofs.Tree.Numbered.{by_test, same-true, same-equal, same-false, same_or_not}
use Rattle.tree_specs.proofs.Tree.Rows.{row_of-changed-other, row_of-without-other, row_of-placed-other, row_of-placed-same}
use Rattle.tree_specs.specs.Events.Handlers.{handler_of}
use Rattle.tree_specs.proofs.Events.EntryLaws.{without-same, without-other}
use Rattle.tree_specs.proofs.Events.PendingLaws.{unscheduled-other, scheduled-either, disarmed-other, without-scheduled, without-armed}
use Rattle.tree_specs.proofs.Events.RotationLaws.{without-watching, without-watched, without-distinct, unwatched-watched, unwatched-other, unwatched-distinct, unwatched-freed, closes-found}
use Rattle.tree_specs.proofs.Events.DescriptorLaws.{closed-other}
use Rattle.tree_specs.proofs.Events.LiveContexts.{live-changed, live-placed, live-without, live-added, live-still, live-gone}

-- ---- rows that come

-- a row that is changed and isn't doomed by it
pub record Stays (g : Row → Row) : Type 0 where
  pub serial : (r : Row) → (g r).serial ≡ r.serial
  pub kind : (r : Row) → (g r).kind ≡ r.kind
  pub mark : (r : Row) → is_doomed_mark r.mark ≡ false → is_doomed_mark (g r).mark ≡ false

changed-comes : (g : Row → Row) (rs : List Row) (x y : Obj) (w : What) → Stays g → MayCome w (row_of rs y) → MayCome w (row_of (changed g rs x) y)
changed-comes g [] x y w k h = h
changed-comes g (s ∷ rs) x y w k h = by_test (same s.serial x)
    (λ t. by_test (same s.serial y)
    (λ u. let h' : MayCome w (Some s) = rw u at h in rw (t, k.serial s, u) (ap (waits_as w) (k.kind s) ∙ h'.0, k.mark s h'.1))
    (λ u. let h' : MayCome w (row_of rs y) = rw u at h in rw (t, k.serial s, u) h'))
    (λ t. by_test (same s.serial y)
    (λ u. let h' : MayCome w (Some s) = rw u at h in rw (t, u) h')
    (λ u. let h' : MayCome w (row_of rs y) = rw u at h in rw (t, u) (changed-comes g rs x y w k h')))

-- it is an event exactly where it was one
changed-event : (g : Row → Row) (rs : List Row) (x y : Obj) → ((r : Row) → (g r).serial ≡ r.serial) → ((r : Row) → (g r).kind ≡ r.kind) → is_event_row (row_of (changed g rs x) y) ≡ is_event_row (row_of rs y)
changed-event g [] x y k l = refl
changed-event g (s ∷ rs) x y k l = by_test (same s.serial x)
    (λ t. by_test (same s.serial y) (λ u. rw (t, k s, u, l s) refl) (λ u. rw (t, k s, u) refl))
    (λ t. by_test (same s.serial y) (λ u. rw (t, u) refl) (λ u. let ih = changed-event g rs x y k l in rw (t, u) ih))

-- what waits is no reference
waits-object : (w : What) (k : Kind) → waits_as w k ≡ true → target_of k ≡ None
waits-object w kind.Request e = refl
waits-object w (kind.Reference t) e = refused w e
  where
    refused : (w : What) → waits_as w (kind.Reference t) ≡ true → target_of (kind.Reference t) ≡ None
    refused Immediate e = cc
    refused Timer e = cc
    refused _ e = cc
waits-object w _ e = refl

-- a reference doesn't come
pub reference-stays : (p : Pool) (r t : Obj) → target_at p.rows r ≡ Some t → (w : What) → MayCome w (row_of p.rows r) → ⊥
reference-stays p r t is w h = each (row_of p.rows r) refl h
  where
    each : (o : Option Row) → row_of p.rows r ≡ o → MayCome w o → ⊥
    each None e h = h
    each (Some row) e h =
        let at : target_of row.kind ≡ Some t = rw e at is in
        let bad : Some t ≡ None = sym at ∙ waits-object w row.kind h.0 in cc

-- ---- the same objects wait

pub same-awaits : (p q : Pool) → Awaits p → ((w : What) (x : Obj) → waits w q x ≡ true → waits w p x ≡ true) → q.rows ≡ p.rows → q.handlers ≡ p.handlers → q.ring ≡ p.ring → q.descriptors ≡ p.descriptors
    → ((c : Obj) → has_soon q.soon c ≡ true → has_soon p.soon c ≡ true) → ((c : Obj) → has_times q.times c ≡ true → has_times p.times c ≡ true) → Awaits q
same-awaits p q a fewer rows handlers ring descriptors soon times = record {
  events = λ w x h. rw (rows, handlers) (a.events w x (fewer w x h));
  handlers = λ x e. rw handlers (a.handlers x (rw rows at e));
  distinct = rw ring a.distinct;
  watched = λ fd h. rw descriptors (a.watched fd (rw ring at h));
  contexts = live-still p q (λ c l. rw rows l) soon times (λ c h. rw ring at h) a.contexts;
}

rows-awaits : (p : Pool) (rows : List Row) → Awaits p → ((w : What) (x : Obj) → MayCome w (row_of p.rows x) → MayCome w (row_of rows x)) → ((x : Obj) → is_event_row (row_of rows x) ≡ is_event_row (row_of p.rows x))
    → ((c : Obj) → is_live_context p.rows c ≡ true → is_live_context rows c ≡ true) → Awaits (record p { rows = rows })
rows-awaits p rows a comes event live = record {
  events = λ w x h. (let e = a.events w x (same-waits w x h) in (comes w x e.0, λ i. e.1 (sym (event x) ∙ i)));
  handlers = λ x e. a.handlers x (sym (event x) ∙ e);
  distinct = a.distinct;
  watched = a.watched;
  contexts = live-still p (record p { rows = rows }) live (λ c h. h) (λ c h. h) (λ c h. h) a.contexts;
}
  where
    same-waits : (w : What) (x : Obj) → waits w (record p { rows = rows }) x ≡ true → waits w p x ≡ true
    same-waits Immediate x h = h
    same-waits Timer x h = h
    same-waits Descriptor x h = h
    same-waits _ x h = cc

pub changed-awaits : (g : Row → Row) (p : Pool) (x : Obj) → Stays g → Awaits p → Awaits (record p { rows = changed g p.rows x })
changed-awaits g p x k a = rows-awaits p (changed g p.rows x) a (λ w y h. changed-comes g p.rows x y w k h) (λ y. changed-event g p.rows x y k.serial k.kind) (λ c l. live-changed g p.rows x c k.serial k.kind k.mark l)

pub marked-awaits : (m : Mark) (p : Pool) (x : Obj) → is_doomed_mark m ≡ false → Awaits p → Awaits (set_mark p x m)
marked-awaits m p x live a = changed-awaits (marked_row m) p x (record { serial = λ r. refl; kind = λ r. refl; mark = λ r h. live }) a

pub placed-awaits : (p : Pool) (o : Owner) (x : Obj) → MayBePlaced p o x → Awaits p → Awaits (place p o x)
placed-awaits p o x may a = rows-awaits p (place p o x).rows a comes event (λ c l. live-placed p o x c may l)
  where
    here : row_of (place p o x).rows x ≡ Some (record may.row { owner = Some o })
    here = row_of-placed-same p o x may.row may.is

    comes : (w : What) (y : Obj) → MayCome w (row_of p.rows y) → MayCome w (row_of (place p o x).rows y)
    comes w y h = elim (same_or_not x y) [
      | inl e ↦
          let h' : MayCome w (row_of p.rows x) = subst (λ (z : Obj). MayCome w (row_of p.rows z)) (sym e) h in
          let h'' : MayCome w (Some may.row) = rw may.is at h' in
          subst (λ (z : Obj). MayCome w (row_of (place p o x).rows z)) e (rw here h'')
      | inr ne ↦ rw (row_of-placed-other p o x y may.row may.is ne) h
    ]

    event : (y : Obj) → is_event_row (row_of (place p o x).rows y) ≡ is_event_row (row_of p.rows y)
    event y = elim (same_or_not x y) [
      | inl e ↦ subst (λ (z : Obj). is_event_row (row_of (place p o x).rows z) ≡ is_event_row (row_of p.rows z)) e (ap is_event_row here ∙ sym (ap is_event_row may.is))
      | inr ne ↦ ap is_event_row (row_of-placed-other p o x y may.row may.is ne)
    ]

-- ---- an object waits no more, and won't come

-- the queue that an entry leaves may come soon
abbrev pub MayLook : Pool → Obj → Option QueueEntry → Type 0
MayLook p x None = Unit {0}
MayLook p x (Some e) = is_some (next_of (without_entry p.queues x) e.queue) ≡ true → MayCome Immediate (row_of p.rows e.queue) × (is_event_row (row_of p.rows e.queue) ≡ false) × (x ≢ e.queue)

-- a queue that is put into a context comes soon, and so do the others
pub put-either : (rs : List Row) (q : Obj) (k : Head) (xs : List Coming) (y : Obj) → is_scheduled (put_soon rs q (Some k) xs) y ≡ true → (is_scheduled xs y ≡ true) ⊎ (q ≡ y)
put-either rs q k xs y h = by_test (is_usable rs k.entry.trigger.context)
    (λ t. scheduled-either xs q k.entry.trigger.context y (rw t at h))
    (λ t. inl (unscheduled-other xs q y (rw t at h)).0)

-- one that leaves, or is doomed
pub gone-awaits : (g : Row → Row) (p : Pool) (x : Obj) → ((r : Row) → (g r).serial ≡ r.serial) → ((r : Row) → (g r).kind ≡ r.kind) → MayLook p x (entry_of p.queues x) → Awaits p → Awaits (let_go p x g)
gone-awaits g p x serial kind look a = record {
  events = λ w y h. let o = other w y h in rw (row_of-changed-other g p.rows x y serial o.1) o.0;
  handlers = λ y e. a.handlers y (sym (changed-event g p.rows x y serial kind) ∙ e);
  distinct = without-distinct (unwatched p.ring x) x (unwatched-distinct p.ring x a.distinct);
  watched = λ fd h. still_open fd (closes_with p.ring x) refl (without-watched (unwatched p.ring x) x fd h);
  contexts = live-gone g p x serial a.contexts;
}
  where
    IsOther : What → Obj → Type 0
    IsOther w y = (MayCome w (row_of p.rows y) × IsHandled (row_of p.rows y) (handler_of p.handlers y)) × (x ≢ y)

    left : (y : Obj) → is_scheduled (unscheduled p.soon x) y ≡ true → IsOther Immediate y
    left y h = let o = unscheduled-other p.soon x y h in (a.events Immediate y o.0, o.1)

    -- those that come soon: the others, and the queue
    after : (q y : Obj) (o : Option Head) → (is_some o ≡ true → MayCome Immediate (row_of p.rows q) × (is_event_row (row_of p.rows q) ≡ false) × (x ≢ q))
        → is_scheduled (put_soon p.rows q o (unscheduled p.soon x)) y ≡ true → IsOther Immediate y
    after q y None may h = left y h
    after q y (Some k) may h = elim (put-either p.rows q k (unscheduled p.soon x) y h) [
      | inl l ↦ left y l
      | inr is ↦
          let m = may refl in
          subst (IsOther Immediate) is ((m.0, λ i. let bad : true ≡ false = sym i ∙ m.1 in cc), m.2)
    ]

    soon : (o : Option QueueEntry) → MayLook p x o → (y : Obj) → is_scheduled (looked_after p.rows (without_entry p.queues x) o (unscheduled p.soon x)) y ≡ true → IsOther Immediate y
    soon None may y h = left y h
    soon (Some e) may y h = after e.queue y (next_of (without_entry p.queues x) e.queue) may h

    other : (w : What) (y : Obj) → waits w (let_go p x g) y ≡ true → IsOther w y
    other Immediate y h = soon (entry_of p.queues x) look y (without-scheduled (looked_after p.rows (without_entry p.queues x) (entry_of p.queues x) (unscheduled p.soon x)) x y h)
    other Timer y h = let o = disarmed-other p.times x y (without-armed (disarmed p.times x) x y h) in (a.events Timer y o.0, o.1)
    other Descriptor y h = let o = unwatched-other p.ring x y (without-watching (unwatched p.ring x) x y h) in (a.events Descriptor y o.0, o.1)
    other _ y h = cc

    -- nobody else watches the descriptor that is closed with it
    still_open : (fd : ℕ) (o : Option ℕ) → closes_with p.ring x ≡ o → is_watched (unwatched p.ring x) fd ≡ true → is_open_in (shut p.descriptors o) fd ≡ true
    still_open fd None e h = a.watched fd (unwatched-watched p.ring x fd h)
    still_open fd (Some closing) e h =
        let w = closes-found p.ring x closing e in
        by_test (nat_eq fd closing)
        (λ t.
        let none : is_watched (unwatched p.ring x) fd ≡ false = subst (λ (n : ℕ). is_watched (unwatched p.ring x) n ≡ false) (w.2 ∙ sym (eqb-true fd closing t)) (unwatched-freed p.ring x w.0 a.distinct w.1) in
        let bad : true ≡ false = sym h ∙ none in cc)
        (λ t. closed-other p.descriptors closing fd t ∙ a.watched fd (unwatched-watched p.ring x fd h))

-- one that doesn't wait
pub removed-awaits : (p : Pool) (x : Obj) → ((w : What) → MayCome w (row_of p.rows x) → ⊥) → is_live_context_row (row_of p.rows x) ≡ false → Awaits p → Awaits (remove p x)
removed-awaits p x stays dead a = record {
  events = events;
  handlers = handlers;
  distinct = a.distinct;
  watched = a.watched;
  contexts = live-still p (remove p x) (λ c l. live-without p.rows x c dead l) (λ c h. h) (λ c h. h) (λ c h. h) a.contexts;
}
  where
    still : (w : What) (y : Obj) → waits w (remove p x) y ≡ true → waits w p y ≡ true
    still Immediate y h = h
    still Timer y h = h
    still Descriptor y h = h
    still _ y h = cc

    events : (w : What) (y : Obj) → waits w (remove p x) y ≡ true → MayCome w (row_of (without p.rows x) y) × IsHandled (row_of (without p.rows x) y) (handler_of (remove p x).handlers y)
    events w y h =
        let e = a.events w y (still w y h) in
        let ne : x ≢ y = (λ q. stays w (subst (λ (z : Obj). MayCome w (row_of p.rows z)) (sym q) e.0)) in
        let apart : same y x ≡ false = same-false y x (λ q. ne (sym q)) in
        (rw (row_of-without-other p.rows x y ne) e.0, λ i. ap is_some (without-other p.handlers x y apart) ∙ e.1 (sym (ap is_event_row (row_of-without-other p.rows x y ne)) ∙ i))

    handlers : (y : Obj) → is_event_row (row_of (without p.rows x) y) ≡ false → handler_of (remove p x).handlers y ≡ None
    handlers y e = by_test (same y x)
        (λ t. without-same p.handlers x y t)
        (λ t. without-other p.handlers x y t ∙ a.handlers y (sym (ap is_event_row (row_of-without-other p.rows x y (λ q. let u : same y x ≡ true = same-equal y x (sym q) in let bad : true ≡ false = sym u ∙ t in cc))) ∙ e))

-- ---- a new object

pub added-awaits : (p : Pool) (kind : Kind) (o : Owner) (size : ℕ) (name : List ℕ) → row_of p.rows (record { 0 = p.next }) ≡ None → Awaits p → Awaits (add p kind o size name)
added-awaits p kind o size name fresh a = record {
  events = events;
  handlers = handlers;
  distinct = a.distinct;
  watched = a.watched;
  contexts = live-still p (add p kind o size name) (λ c l. live-added p.rows (new_row (record { 0 = p.next }) kind o size name) c fresh l) (λ c h. h) (λ c h. h) (λ c h. h) a.contexts;
}
  where
    n : Obj
    n = record { 0 = p.next }

    still : (w : What) (y : Obj) → waits w (add p kind o size name) y ≡ true → waits w p y ≡ true
    still Immediate y h = h
    still Timer y h = h
    still Descriptor y h = h
    still _ y h = cc

    events : (w : What) (y : Obj) → waits w (add p kind o size name) y ≡ true → MayCome w (row_of (add p kind o size name).rows y) × IsHandled (row_of (add p kind o size name).rows y) (handler_of p.handlers y)
    events w y h =
        let e = a.events w y (still w y h) in
        let ne : same n y ≡ false = same-false n y (λ q. let bad : MayCome w None = rw fresh at (subst (λ (z : Obj). MayCome w (row_of p.rows z)) (sym q) e.0) in bad) in
        rw ne e

    handlers : (y : Obj) → is_event_row (row_of (add p kind o size name).rows y) ≡ false → handler_of p.handlers y ≡ None
    handlers y e = by_test (same n y)
        (λ t. a.handlers y (let q : n ≡ y = same-true n y t in subst (λ (z : Obj). is_event_row (row_of p.rows z) ≡ false) q (ap is_event_row fresh)))
        (λ t. a.handlers y (rw t at e))
