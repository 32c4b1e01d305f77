-- What stays in agreement where the objects change.
use Rattle.std.proofs.Common.{◌≡◌, Bool, ℕ, ◌+◌, ◌≤◌, ◌<◌, List, [], ◌∷◌, length, Option, Some, None, true, false, refl, sym, ◌∙◌, ap, subst, arith}
use Rattle.tree_specs.specs.declared.frame.FreeFrame.{FreeFrame}
use Rattle.tree_specs.specs.declared.frame.FreeFrame.TheVariants.{Unlinking, Hooked, Judged}
use Rattle.tree_specs.specs.declared.coming.Coming.{Coming}
use Rattle.tree_specs.specs.declared.object.Obj.{Obj}
use Rattle.tree_specs.specs.Events.Descriptors.{Descriptors}
use Rattle.tree_specs.specs.Events.Handlers.{Handlers}
use Rattle.tree_specs.specs.declared.object.Owner.{Owner}
use Rattle.tree_specs.specs.declared.kind.Kind.{Kind}
use Rattle.tree_specs.specs.declared.kind.Kind.TheVariants.{Context}
use Rattle.tree_specs.proofs.Tree.Numbered.{by_test, same-true}
use Rattle.tree_specs.specs.declared.row.Row.{Row}
use Rattle.tree_specs.specs.Tree.Inside.{total}
use Rattle.tree_specs.specs.declared.row.Mark.{Mark}
use Rattle.tree_specs.specs.Tree.Pool.{Pool, row_of, is_row, changed, marked_row, add, place, set_mark}
use Rattle.tree_specs.specs.Tree.Sums.{charge}
use Rattle.tree_specs.specs.Tree.Forest.{IsForest}
use Rattle.tree_specs.specs.Tree.Targets.{target_of, is_context}
use Rattle.tree_specs.proofs.Turns.Lowering.{total-kept, length-changed}
use Rattle.tree_specs.proofs.Turns.FallingFrees.{length-placed}
use Rattle.tree_specs.proofs.Tree.Rows.{total-placed}
use Rattle.tree_specs.proofs.Tree.SumLaws.{changed-weights}
use Rattle.tree_links.specs.Links.{Links, pool_of, works_of}
use Rattle.references.specs.Pairs.{Pairs}
use Rattle.references.specs.Rows.{AreRefsOf}
use Rattle.references.proofs.Rows.{refs-same, refs-added, same-changed}
use Rattle.references.proofs.SameRefs.{put-elsewhere}
use Rattle.memory_limits.specs.Limits.{Limits, AreLimitsOf}
use Rattle.destructors.specs.Frees.{OpenFrees, Steps, before, frees_of, returned}
use Rattle.tree_specs.specs.declared.free_step.FreeStep.{FreeStep}
use Rattle.tree_specs.specs.declared.watch.Watch.{Watch}
use Rattle.destructors.specs.Engine.{IsAsked, AreKept, HasRoom}
use Rattle.destructors.specs.Room.{mark_places, row_places, wanted}
use Rattle.destructors.proofs.Begins.{any-room}
use Rattle.destructors.proofs.Settling.{kept-same}
use Rattle.object_pool.specs.Objects.{MayWait}
use Rattle.tree_specs.specs.Events.Pending.{unscheduled}
use Rattle.tree_specs.specs.Events.Rotation.{rewatched, turned_back}
use Rattle.tree_specs.specs.Words.Objects.{same}
use Rattle.object_pool.specs.Agreeing.{AgreeWith}
use Rattle.loop_core.specs.declared.pick.Pick.{Pick}
use Rattle.loop_core.specs.declared.pick.Pick.TheVariants.{Soon}
use Rattle.object_pool.specs.Upcoming.{Upcoming, Agenda, KeepsPlaces, KeepsContexts, KeepsAllBut, gone_by, holds_context, AllBefore, AreGiven, watcher_number, after, picked, pending_most, turned_to, with_watch, with_closed}
use Rattle.object_pool.proofs.Numbers.{steps-next}
use Rattle.object_pool.proofs.Given.{given-later, told-given, picked-given, ring-changed, ring-turned}
use Rattle.object_pool.proofs.Fewer.{told-fewer, picked-fewer, rewatched-many, turned-fewer}
use Rattle.object_pool.specs.declared.pool.ObjectPool.TheInside.{Inside}
use Rattle.object_pool.proofs.Counted.{same-kept}
use Rattle.object_pool.proofs.Fields.{changed-kept}
use Rattle.destructors.specs.Changes.{SameRows, ChangedBy}
use Rattle.object_pool.proofs.Hosted.{NoMoreContexts, contexts-changed, contexts-placed, contexts-added, contexts-same, holds-told}

-- ---- rows that want no more room

pub record Stays (t t' : Links) : Type 0 where
  pub works : works_of t' ≡ works_of t
  pub spare : t.spare ≤ t'.spare
  pub rows : length t'.rows ≡ length t.rows
  pub next : t.next ≤ t'.next
  pub places : total row_places t'.rows ≡ total row_places t.rows
  pub contexts : NoMoreContexts t.rows t'.rows

wanted-same : (fs : List FreeFrame) (rs rs' : List Row) → total row_places rs' ≡ total row_places rs → wanted fs rs' ≡ wanted fs rs
wanted-same [] rs rs' e = e
wanted-same (f ∷ fs) rs rs' e = omega (arith, e)

-- those that wait may become fewer
fewer-wait : (a a' : Agenda) → KeepsPlaces a a' → pending_most a'.upcoming ≤ pending_most a.upcoming → MayWait a → MayWait a'
fewer-wait a a' k n h = record {
  event = record {
    soon = (let i = h.event.soon in let s = k.soon in omega (arith, i, s));
    time = (let i = h.event.time in let s = k.times in omega (arith, i, s));
    watch = (let i = h.event.watch in let s = k.ring in omega (arith, i, s));
    descriptor = (let i = h.event.descriptor in let s = k.descriptors in omega (arith, i, s));
    handler = (let i = h.event.handler in let s = k.handlers in omega (arith, i, s));
    request = (let i = h.event.request in let s = k.requests in omega (arith, i, s));
    queue = (let i = h.event.queue in let s = k.queues in omega (arith, i, s));
  };
  waiting = (let w = h.waiting in omega (arith, w, n));
}

pub stays : (b : Inside) (t' : Links) (ls' : Limits) → Stays b.tree t' → AreRefsOf b.refs.pairs t'.rows → AreLimitsOf ls'.limited t'.rows → b.sums.spare ≤ ls'.spare → AgreeWith b → AgreeWith (record b { tree = t'; sums = ls' })
stays b t' ls' s refs limits spare a =
    let frees : t'.frees ≡ b.tree.frees = ap (λ (z : List FreeFrame × ℕ). z.0) s.works in
    let room : t'.room ≡ b.tree.room = ap (λ (z : List FreeFrame × ℕ). z.1) s.works in
    record {
      references = refs;
      limits = limits;
      kept = kept-same b.engine b.tree t' frees a.kept;
      given = given-later b.tree.next t'.next b.events.upcoming s.next a.given;
      contexts = λ c is. a.contexts c (s.contexts c is);
      room = rw (frees, room, wanted-same (before b.engine b.tree.frees) b.tree.rows t'.rows s.places) a.room;
      call = λ e. let c = a.call e in record { row = (let r = c.row in omega (arith, r, s.spare)); works = rw (s.rows, room) c.works };
      placed = a.placed;
      reference = a.reference;
      limit = λ e. let l = a.limit e in omega (arith, l, spare);
      event = a.event;
      context = a.context;
    }

-- ---- a row is changed

-- a change that leaves what counts leaves all in agreement
pub changed-stays : (f : Row → Row) (o : Option FreeFrame) (t t' : Links) (x : Obj) → t'.rows ≡ changed f t.rows x → works_of t' ≡ works_of t → t.spare ≤ t'.spare → t.next ≤ t'.next → ((r : Row) → (f r).serial ≡ r.serial) → ((r : Row) → (f r).kind ≡ r.kind) → ((r : Row) → row_places (f r) ≡ row_places r) → Stays t t'
changed-stays f o t t' x rows works spare next k i m = record {
  next = next;
  works = works;
  spare = spare;
  rows = ap length rows ∙ length-changed f t.rows x;
  places = ap (total row_places) rows ∙ changed-weights row_places f t.rows x k m (λ y n. n);
  contexts = subst (NoMoreContexts t.rows) (sym rows) (contexts-changed f t.rows x k i);
}

pub changed-agree : (f : Row → Row) (b : Inside) (t' : Links) (x : Obj) → pool_of t' ≡ record (pool_of b.tree) { rows = changed f b.tree.rows x } → works_of t' ≡ works_of b.tree → b.tree.spare ≤ t'.spare
    → ((r : Row) → (f r).serial ≡ r.serial) → ((r : Row) → (f r).kind ≡ r.kind) → ((r : Row) → (f r).owner ≡ r.owner) → ((r : Row) → charge (f r) ≡ charge r) → ((r : Row) → (f r).limit ≡ r.limit) → ((r : Row) → row_places (f r) ≡ row_places r)
    → AgreeWith b → AgreeWith (record b { tree = t' })
changed-agree f b t' x is works spare k i w c l m a =
    let rows : t'.rows ≡ changed f b.tree.rows x = ap (λ (p : Pool). p.rows) is in
    let next : t'.next ≡ b.tree.next = ap (λ (p : Pool). p.next) is in
    stays b t' b.sums (changed-stays f b.engine b.tree t' x rows works spare (omega (arith, next)) k i m)
    (subst (AreRefsOf b.refs.pairs) (sym rows) (refs-same b.refs.pairs b.tree.rows (changed f b.tree.rows x) (same-changed f b.tree.rows x k i) a.references))
    (subst (AreLimitsOf b.sums.limited) (sym rows) (changed-kept f b.sums.limited b.tree.rows x k w c l a.limits)) (omega arith) a

-- ---- an object is put elsewhere

there : (rs : List Row) (x : Obj) → is_row rs x ≡ true → (r : Row) × (row_of rs x ≡ Some r)
there rs x is = each (row_of rs x) refl
  where
    each : (q : Option Row) → row_of rs x ≡ q → (r : Row) × (row_of rs x ≡ Some r)
    each None e = let bad : false ≡ true = rw e at is in cc
    each (Some r) e = (r, e)

pub placed-agree : (b : Inside) (t' : Links) (ls' : Limits) (x : Obj) (owner : Owner) → is_row b.tree.rows x ≡ true → pool_of t' ≡ place (pool_of b.tree) owner x → works_of t' ≡ works_of b.tree → b.tree.spare ≤ t'.spare
    → AreLimitsOf ls'.limited t'.rows → ls'.spare ≡ b.sums.spare → AgreeWith b → AgreeWith (record b { tree = t'; sums = ls' })
placed-agree b t' ls' x owner is rows works spare limits kept a =
    let r = there b.tree.rows x is in
    let e : t'.rows ≡ (place (pool_of b.tree) owner x).rows = ap (λ (p : Pool). p.rows) rows in
    stays b t' ls' (record {
      works = works;
      spare = spare;
      next = (let n = ap (λ (p : Pool). p.next) rows in omega (arith, n));
      rows = ap length e ∙ length-placed (pool_of b.tree) owner x r.0 r.1;
      places = ap (total row_places) e ∙ total-placed row_places (pool_of b.tree) owner x r.0 r.1 refl;
      contexts = subst (NoMoreContexts b.tree.rows) (sym e) (contexts-placed (pool_of b.tree) owner x r.0 r.1);
    })
    (subst (AreRefsOf b.refs.pairs) (sym e) (refs-same b.refs.pairs b.tree.rows _ (put-elsewhere (pool_of b.tree) owner x is) a.references)) limits (omega (arith, kept)) a

-- ---- what wants memory

pub never : {A : Type 0} → false ≡ true → A
never e = cc

-- what the memory for a call was taken for
pub spent : (b : Inside) (t' : Links) (ps' : Pairs) (ls' : Limits) (rf lf ef : Bool) → (rf ≡ true → 0 < ps'.spare) → (lf ≡ true → 0 < ls'.spare) → (ef ≡ true → MayWait b.events) → b.ready ≡ true → b.tree.next ≤ t'.next → length t'.rows ≤ length b.tree.rows + 2 → works_of t' ≡ works_of b.tree → AreRefsOf ps'.pairs t'.rows → AreLimitsOf ls'.limited t'.rows → NoMoreContexts b.tree.rows t'.rows
    → AgreeWith b → AgreeWith (record b { tree = t'; refs = ps'; sums = ls'; reference = rf; limit = lf; event = ef; ready = false })
spent b t' ps' ls' rf lf ef reference limit event ready next rows works refs limits contexts a =
    let frees : t'.frees ≡ b.tree.frees = ap (λ (z : List FreeFrame × ℕ). z.0) works in
    let room : t'.room ≡ b.tree.room = ap (λ (z : List FreeFrame × ℕ). z.1) works in
    let c = (a.call ready).works in
    record {
      references = refs;
      limits = limits;
      kept = kept-same b.engine b.tree t' frees a.kept;
      room = any-room b.engine t' (omega (arith, c, room, rows));
      given = given-later b.tree.next t'.next b.events.upcoming next a.given;
      contexts = λ c is. a.contexts c (contexts c is);
      call = never;
      placed = never;
      reference = reference;
      limit = limit;
      event = event;
      context = a.context;
    }

-- the references where there is a new row of an object that refers to no other
pub refs-with : (ps : Pairs) (t t' : Links) (x : Obj) (kind : Kind) (owner : Owner) (size : ℕ) (name : List ℕ) → target_of kind ≡ None → x ≡ record { 0 = t.next } → row_of t.rows x ≡ None → pool_of t' ≡ add (pool_of t) kind owner size name
    → AreRefsOf ps.pairs t.rows → AreRefsOf ps.pairs t'.rows
refs-with ps t t' x kind owner size name plain serial fresh is refs =
    let rows : t'.rows ≡ (add (pool_of t) kind owner size name).rows = ap (λ (p : Pool). p.rows) is in
    let absent = subst (λ (y : Obj). row_of t.rows y ≡ None) serial fresh in
    subst (AreRefsOf ps.pairs) (sym rows) (refs-added ps.pairs t.rows (record { 0 = t.next }) kind owner size name absent plain refs)

-- such a row
pub row-added : (b : Inside) (t' : Links) (ls' : Limits) (ef : Bool) (x : Obj) (kind : Kind) (owner : Owner) (size : ℕ) (name : List ℕ) → ls'.spare ≡ b.sums.spare → (ef ≡ true → MayWait b.events) → b.ready ≡ true → target_of kind ≡ None → is_context kind ≡ false
    → x ≡ record { 0 = b.tree.next } → row_of b.tree.rows x ≡ None → pool_of t' ≡ add (pool_of b.tree) kind owner size name → works_of t' ≡ works_of b.tree → AreLimitsOf ls'.limited t'.rows
    → AgreeWith b → AgreeWith (record b { tree = t'; sums = ls'; event = ef; ready = false })
row-added b t' ls' ef x kind owner size name spare event ready plain none serial fresh is works limits a =
    let more = ap (λ (p : Pool). length p.rows) is in
    let next = ap (λ (p : Pool). p.next) is in
    spent b t' b.refs ls' b.reference b.limit ef a.reference (λ e. let l = a.limit e in omega (arith, l, spare)) event ready (omega (arith, next)) (omega (arith, more)) works (refs-with b.refs b.tree t' x kind owner size name plain serial fresh is a.references) limits
    (subst (NoMoreContexts b.tree.rows) (sym (ap (λ (p : Pool). p.rows) is)) (contexts-added (pool_of b.tree) kind owner size name none)) a

-- ---- a destructor has returned

pub answer-room : (o o' : Option FreeFrame) (t : Links) (v : ℕ) → frees_of o' t ≡ record { works = returned v (frees_of o t); pool = pool_of t } → IsAsked o → HasRoom o t → HasRoom o' t
answer-room None o' t v e i h = absurd i
answer-room (Some (Hooked x g)) o' t v e i h =
    let w : before o' t.frees ≡ Judged x g v ∷ t.frees = ap (λ (z : OpenFrees). z.works) e in
    subst (λ (fs : List FreeFrame). wanted fs t.rows ≤ length t.frees + t.room) (sym w) h
answer-room (Some (Unlinking p x)) o' t v e i h = absurd i
answer-room (Some _) o' t v e i h = absurd i

-- a free that has begun, with the engine, tree and references after it
pub begun : (b : Inside) (o : Option FreeFrame) (t : Links) (r : Pairs) → AgreeWith b → AreRefsOf r.pairs t.rows → SameRows b.tree.rows t.rows → t.next ≡ b.tree.next → b.refs.spare ≤ r.spare → AreKept o t → HasRoom o t
    → AgreeWith (record b { engine = o; tree = t; refs = r; ready = false })
begun b o t r a refs same next spare kept room = record {
  references = refs;
  limits = same-kept b.sums.limited b.tree.rows t.rows same a.limits;
  kept = kept;
  room = room;
  given = given-later b.tree.next t.next b.events.upcoming (omega (arith, next)) a.given;
  contexts = λ c is. a.contexts c (contexts-same b.tree.rows t.rows same c is);
  call = never;
  placed = never;
  reference = λ e. let r' = a.reference e in omega (arith, r', spare);
  limit = a.limit;
  event = a.event;
  context = a.context;
}

-- what a step of a free leaves of the books beside the rows
pub record Books (b : Inside) (told : FreeStep) (r : Pairs) (ls : Limits) (e : Agenda) : Type 0 where
  pub refs : b.refs.spare ≤ r.spare
  pub sums : b.sums.spare ≤ ls.spare
  pub upcoming : e.upcoming ≡ after b.tree.rows (Some told) b.events.upcoming
  pub places : KeepsPlaces b.events e
  pub contexts : KeepsAllBut (gone_by (Some told)) b.events e

-- a step of a free, with the engine, the tree and all books after it
pub stepped : (b : Inside) (o : Option FreeFrame) (t : Links) (r : Pairs) (ls : Limits) (e : Agenda) (told : FreeStep) → Steps (frees_of b.engine b.tree) told (frees_of o t) → ChangedBy told b.tree.rows t.rows → IsForest b.tree.rows → Books b told r ls e
    → AreRefsOf r.pairs t.rows → AreLimitsOf ls.limited t.rows → AreKept o t → HasRoom o t → AgreeWith b → AgreeWith (record b { engine = o; tree = t; refs = r; sums = ls; events = e; ready = false })
stepped b o t r ls e told steps changes forest k refs limits kept room a =
    let n = steps-next _ _ _ steps in
    let given = told-given t.next b.tree.rows b.events.upcoming told (given-later b.tree.next t.next b.events.upcoming (omega (arith, n)) a.given) in
    record {
      references = refs;
      limits = limits;
      kept = kept;
      room = room;
      given = rw k.upcoming given;
      contexts = holds-told told b.tree.rows t.rows b.events e forest changes a.contexts k.contexts;
      call = never;
      placed = never;
      reference = λ there. let r' = a.reference there in let more = k.refs in omega (arith, r', more);
      limit = λ there. let l = a.limit there in let more = k.sums in omega (arith, l, more);
      event = λ there. fewer-wait b.events e k.places (rw k.upcoming (told-fewer b.tree.rows told b.events.upcoming)) (a.event there);
      context = λ there. let spare = a.context there in let more = k.contexts.spare in omega (arith, spare, more);
    }

-- ---- other events are to come

-- what is to come has changed, and the memory for one more is used up
pub waits : (b : Inside) (e : Agenda) → AreGiven b.tree.next e.upcoming → KeepsContexts b.events e → AgreeWith b → AgreeWith (record b { events = e; event = false; ready = false })
waits b e given kc a = record {
  references = a.references;
  limits = a.limits;
  kept = a.kept;
  room = a.room;
  given = given;
  contexts = λ c is. kc.held c (a.contexts c is);
  call = never;
  placed = never;
  reference = a.reference;
  limit = a.limit;
  event = never;
  context = λ there. let spare = a.context there in let more = kc.spare in omega (arith, spare, more);
}

-- what changes of it names no event
pub waits-alike : (b : Inside) (e : Agenda) (soon : List Coming) (descriptors : Descriptors) (handlers : Handlers) → e.upcoming ≡ record b.events.upcoming { soon = soon; descriptors = descriptors; handlers = handlers } → KeepsContexts b.events e → AgreeWith b → AgreeWith (record b { events = e; event = false; ready = false })
waits-alike b e soon descriptors handlers is kc a =
    let given = a.given in
    waits b e (rw is (record { times = given.times; ring = given.ring; requests = given.requests; queues = given.queues; entries = given.entries })) kc a

-- a new event, and what is to come with it
pub event-added : (b : Inside) (t' : Links) (ls' : Limits) (e : Agenda) (x : Obj) (kind : Kind) (owner : Owner) (name : List ℕ) → ls'.spare ≡ b.sums.spare → b.ready ≡ true → target_of kind ≡ None → is_context kind ≡ false
    → x ≡ record { 0 = b.tree.next } → row_of b.tree.rows x ≡ None → pool_of t' ≡ add (pool_of b.tree) kind owner 0 name → works_of t' ≡ works_of b.tree → AreLimitsOf ls'.limited t'.rows
    → (b.tree.next ≤ t'.next → x.0 < t'.next → AreGiven t'.next e.upcoming) → KeepsContexts b.events e → AgreeWith b → AgreeWith (record b { tree = t'; sums = ls'; events = e; event = false; ready = false })
event-added b t' ls' e x kind owner name spare ready plain none serial fresh is works limits given kc a =
    let next = ap (λ (p : Pool). p.next) is in
    let number = ap (λ (y : Obj). y.0) serial in
    let all = given (omega (arith, next)) (omega (arith, next, number)) in
    waits (record b { tree = t'; sums = ls'; event = false; ready = false }) e all kc (row-added b t' ls' false x kind owner 0 name spare never ready plain none serial fresh is works limits a)

-- a new context, in which all may come
pub context-added : (b : Inside) (t' : Links) (ls' : Limits) (e : Agenda) (x : Obj) (owner : Owner) (name : List ℕ) → ls'.spare ≡ b.sums.spare → b.ready ≡ true → x ≡ record { 0 = b.tree.next } → row_of b.tree.rows x ≡ None
    → pool_of t' ≡ add (pool_of b.tree) Context owner 0 name → works_of t' ≡ works_of b.tree → AreLimitsOf ls'.limited t'.rows → e.upcoming ≡ b.events.upcoming → holds_context e x ≡ true → ((d : Obj) → holds_context b.events d ≡ true → holds_context e d ≡ true)
    → AgreeWith b → AgreeWith (record b { tree = t'; sums = ls'; events = e; event = false; context = false; ready = false })
context-added b t' ls' e x owner name spare ready serial fresh is works limits same_events here held a =
    let next = ap (λ (p : Pool). p.next) is in
    let more = ap (λ (p : Pool). length p.rows) is in
    let rows : t'.rows ≡ (add (pool_of b.tree) Context owner 0 name).rows = ap (λ (p : Pool). p.rows) is in
    let frees : t'.frees ≡ b.tree.frees = ap (λ (z : List FreeFrame × ℕ). z.0) works in
    let room : t'.room ≡ b.tree.room = ap (λ (z : List FreeFrame × ℕ). z.1) works in
    let c = (a.call ready).works in
    record {
      references = refs-with b.refs b.tree t' x Context owner 0 name refl serial fresh is a.references;
      limits = limits;
      kept = kept-same b.engine b.tree t' frees a.kept;
      room = any-room b.engine t' (omega (arith, c, room, more));
      given = rw same_events (given-later b.tree.next t'.next b.events.upcoming (omega (arith, next)) a.given);
      contexts = λ d h. by_test (same x d)
          (λ t. subst (λ (y : Obj). holds_context e y ≡ true) (same-true x d t) here)
          (λ t. let was = rw rows at h in let apart : same (record { 0 = b.tree.next }) d ≡ false = subst (λ (y : Obj). same y d ≡ false) serial t in held d (a.contexts d (rw apart at was)));
      call = never;
      placed = never;
      reference = a.reference;
      limit = λ z. let l = a.limit z in omega (arith, l, spare);
      event = never;
      context = never;
    }

-- no more wait
pub still-agree : (b : Inside) (e : Agenda) → KeepsPlaces b.events e → KeepsContexts b.events e → pending_most e.upcoming ≤ pending_most b.events.upcoming → AreGiven b.tree.next e.upcoming → AgreeWith b → AgreeWith (record b { events = e })
still-agree b e k kc n given a = record {
  references = a.references;
  limits = a.limits;
  kept = a.kept;
  room = a.room;
  given = given;
  contexts = λ c is. kc.held c (a.contexts c is);
  call = a.call;
  placed = a.placed;
  reference = a.reference;
  limit = a.limit;
  event = λ there. fewer-wait b.events e k n (a.event there);
  context = λ there. let spare = a.context there in let more = kc.spare in omega (arith, spare, more);
}

-- what is to come is this now, of which no more wait
pub becomes : (b : Inside) (e : Agenda) (u : Upcoming) → e.upcoming ≡ u → KeepsPlaces b.events e → KeepsContexts b.events e → pending_most u ≤ pending_most b.events.upcoming → AreGiven b.tree.next u → AgreeWith b → AgreeWith (record b { events = e })
becomes b e u is k kc n given a = still-agree b e k kc (rw is n) (rw is given) a

pub unscheduled-agree : (b : Inside) (e : Agenda) (x : Obj) → e.upcoming ≡ record b.events.upcoming { soon = unscheduled b.events.upcoming.soon x } → KeepsPlaces b.events e → KeepsContexts b.events e → AgreeWith b → AgreeWith (record b { events = e })
unscheduled-agree b e x is k kc a =
    let u = b.events.upcoming in
    becomes b e (record u { soon = unscheduled u.soon x }) is k kc (picked-fewer (Soon x) u) (record { times = a.given.times; ring = a.given.ring; requests = a.given.requests; queues = a.given.queues; entries = a.given.entries }) a

pub picked-agree : (b : Inside) (e : Agenda) (pick : Pick) → e.upcoming ≡ picked pick b.events.upcoming → KeepsPlaces b.events e → KeepsContexts b.events e → AgreeWith b → AgreeWith (record b { events = e })
picked-agree b e pick is k kc a = becomes b e (picked pick b.events.upcoming) is k kc (picked-fewer pick b.events.upcoming) (picked-given b.tree.next b.events.upcoming pick a.given) a

-- another context's turn is under way
pub turn-agree : (b : Inside) (e : Agenda) (o : Option Obj) → e.upcoming ≡ turned_to o b.events.upcoming → KeepsPlaces b.events e → KeepsContexts b.events e → AgreeWith b → AgreeWith (record b { events = e })
turn-agree b e o is k kc a =
    becomes b e (turned_to o b.events.upcoming) is k kc (omega arith) (record { times = a.given.times; ring = a.given.ring; requests = a.given.requests; queues = a.given.queues; entries = a.given.entries }) a

-- ---- the events on descriptors

-- the rotation is another one, of no more events, whose numbers were given
pub ring-agree : (b : Inside) (e : Agenda) (ring : List Watch) → e.upcoming ≡ record b.events.upcoming { ring = ring } → length ring ≤ length b.events.upcoming.ring → AllBefore watcher_number b.tree.next ring → KeepsPlaces b.events e → KeepsContexts b.events e
    → AgreeWith b → AgreeWith (record b { events = e })
ring-agree b e ring is n watchers k kc a =
    becomes b e (record b.events.upcoming { ring = ring }) is k kc (omega (arith, n)) (record { times = a.given.times; ring = watchers; requests = a.given.requests; queues = a.given.queues; entries = a.given.entries }) a

-- how an event watches is changed
pub rewatched-agree : (b : Inside) (e : Agenda) (change : Watch → Watch) (x : Obj) → e.upcoming ≡ with_watch change x b.events.upcoming → ((w : Watch) → (change w).object ≡ w.object) → KeepsPlaces b.events e → KeepsContexts b.events e
    → AgreeWith b → AgreeWith (record b { events = e })
rewatched-agree b e change x is same_object k kc a =
    let ring = b.events.upcoming.ring in
    let n = rewatched-many change ring x in
    ring-agree b e (rewatched change ring x) is (omega (arith, n)) (ring-changed b.tree.next change ring x same_object a.given.ring) k kc a

pub turned-agree : (b : Inside) (e : Agenda) (x : Obj) → e.upcoming ≡ record b.events.upcoming { ring = turned_back b.events.upcoming.ring x } → KeepsPlaces b.events e → KeepsContexts b.events e → AgreeWith b → AgreeWith (record b { events = e })
turned-agree b e x is k kc a =
    let ring = b.events.upcoming.ring in
    ring-agree b e (turned_back ring x) is (turned-fewer ring x) (ring-turned b.tree.next ring x a.given.ring) k kc a

pub closed-agree : (b : Inside) (e : Agenda) (fd : ℕ) → e.upcoming ≡ with_closed fd b.events.upcoming → KeepsPlaces b.events e → KeepsContexts b.events e → AgreeWith b → AgreeWith (record b { events = e })
closed-agree b e fd is k kc a =
    becomes b e (with_closed fd b.events.upcoming) is k kc (omega arith) (record { times = a.given.times; ring = a.given.ring; requests = a.given.requests; queues = a.given.queues; entries = a.given.entries }) a

-- ---- an object that doesn't die gets another mark

pub marked-agree : (m : Mark) (b : Inside) (t' : Links) (x : Obj) → pool_of t' ≡ set_mark (pool_of b.tree) x m → works_of t' ≡ works_of b.tree → b.tree.spare ≤ t'.spare → (r : Row) → row_of b.tree.rows x ≡ Some r → mark_places m ≡ mark_places r.mark
    → AgreeWith b → AgreeWith (record b { tree = t' })
marked-agree m b t' x is works spare r at same_places a =
    let rows : t'.rows ≡ changed (marked_row m) b.tree.rows x = ap (λ (p : Pool). p.rows) is in
    let next : t'.next ≡ b.tree.next = ap (λ (p : Pool). p.next) is in
    stays b t' b.sums (record {
      works = works;
      spare = spare;
      rows = ap length rows ∙ length-changed (marked_row m) b.tree.rows x;
      next = omega (arith, next);
      places = ap (total row_places) rows ∙ total-kept row_places (marked_row m) b.tree.rows x r at same_places;
      contexts = subst (NoMoreContexts b.tree.rows) (sym rows) (contexts-changed (marked_row m) b.tree.rows x (λ q. refl) (λ q. refl));
    })
    (subst (AreRefsOf b.refs.pairs) (sym rows) (refs-same b.refs.pairs b.tree.rows (changed (marked_row m) b.tree.rows x) (same-changed (marked_row m) b.tree.rows x (λ q. refl) (λ q. refl)) a.references))
    (subst (AreLimitsOf b.sums.limited) (sym rows) (changed-kept (marked_row m) b.sums.limited b.tree.rows x (λ q. refl) (λ q. refl) (λ q. refl) (λ q. refl) a.limits)) (omega arith) a
