-- What stays in agreement where requests change.
use Rattle.std.proofs.Common.{◌≡◌, ℕ, List, ◌∷◌, length, Option, Some, None, true, false, nat_eq, ◌<◌, ◌-◌, ◌^◌, refl, sym, ap, ◌∙◌, subst, arith}
use Rattle.std.proofs.lemmas.Bool.{ne_eqb}
use Rattle.tree_specs.specs.declared.handler.Handler.{Handler}
use Rattle.tree_specs.specs.declared.kind.Kind.{Kind}
use Rattle.tree_specs.specs.declared.kind.Kind.TheVariants.{Plain, Request}
use Rattle.tree_specs.specs.declared.object.Obj.{Obj}
use Rattle.tree_specs.specs.declared.object.Owner.{Owner}
use Rattle.tree_specs.specs.declared.object.Owner.TheVariants.{Of}
use Rattle.tree_specs.specs.declared.request.Note.{Note}
use Rattle.tree_specs.specs.declared.request.State.{State}
use Rattle.tree_specs.specs.declared.row.Row.{Row}
use Rattle.tree_specs.specs.Events.Requests.{Notes, new_note, cleaned, not_deferring, in_state}
use Rattle.tree_specs.specs.Tree.Pool.{Pool, row_of, new_row, is_owner, add, take_number}
use Rattle.tree_specs.specs.Tree.Targets.{is_context}
use Rattle.tree_specs.specs.Words.Objects.{same}
use Rattle.tree_specs.proofs.Tree.Numbered.{same-equal}
use Rattle.tree_links.specs.Links.{Links, pool_of, works_of, number_after}
use Rattle.references.specs.Rows.{AreRefsOf}
use Rattle.memory_limits.specs.Limits.{Limits, AreLimitsOf}
use Rattle.requests.specs.Register.{left_by, posted_by}
use Rattle.requests.specs.declared.requests.Notify.{Notify}
use Rattle.requests.specs.declared.requests.Notify.TheVariants.{Post}
use Rattle.object_pool.specs.Agreeing.{AgreeWith}
use Rattle.object_pool.specs.Upcoming.{Agenda, KeepsPlaces, KeepsContexts, AllBefore, key_number, finished, requested, timed_under, with_request}
use Rattle.object_pool.specs.declared.pool.ObjectPool.TheInside.{Inside}
use Rattle.object_pool.proofs.Fewer.{times-fewer}
use Rattle.object_pool.proofs.Hosted.{NoMoreContexts, contexts-added}
use Rattle.object_pool.proofs.Given.{given-later, notes-changed, kept-put, times-armed, times-gone}
use Rattle.object_pool.proofs.Keeping.{becomes, never, refs-with, spent, waits}

-- what is kept of requests is this now, and all of it is of numbers that were given
pub notes-agree : (b : Inside) (e : Agenda) (notes : Notes) → e.upcoming ≡ record b.events.upcoming { requests = notes } → AllBefore key_number b.tree.next notes → KeepsPlaces b.events e → KeepsContexts b.events e → AgreeWith b → AgreeWith (record b { events = e })
notes-agree b e notes is given k kc a =
    becomes b e (record b.events.upcoming { requests = notes }) is k kc (omega arith) (record { times = a.given.times; ring = a.given.ring; requests = given; queues = a.given.queues; entries = a.given.entries }) a

-- what is kept of a request is changed
pub renoted-agree : (b : Inside) (e : Agenda) (change : Note → Note) (x : Obj) → e.upcoming ≡ with_request change x b.events.upcoming → KeepsPlaces b.events e → KeepsContexts b.events e → AgreeWith b → AgreeWith (record b { events = e })
renoted-agree b e change x is k kc a = notes-agree b e _ is (notes-changed b.tree.next change b.events.upcoming.requests x a.given.requests) k kc a

-- a cleanup counts as run
pub cleaned-agree : (b : Inside) (e : Agenda) (handler : Option Handler) (x : Obj) → e.upcoming ≡ record b.events.upcoming { requests = left_by handler b.events.upcoming.requests x } → KeepsPlaces b.events e → KeepsContexts b.events e → AgreeWith b → AgreeWith (record b { events = e })
cleaned-agree b e None x is k kc a = notes-agree b e _ is a.given.requests k kc a
cleaned-agree b e (Some handler) x is k kc a = renoted-agree b e cleaned x is k kc a

-- one that comes soon is deferred no more
pub posted-agree : (b : Inside) (e : Agenda) (notify : Notify) (x : Obj) → e.upcoming ≡ record b.events.upcoming { requests = posted_by notify b.events.upcoming.requests x } → KeepsPlaces b.events e → KeepsContexts b.events e → AgreeWith b → AgreeWith (record b { events = e })
posted-agree b e (Post c) x is k kc a = renoted-agree b e not_deferring x is k kc a
posted-agree b e _ x is k kc a = notes-agree b e _ is a.given.requests k kc a

-- a request has come to a state
pub finished-agree : (b : Inside) (e : Agenda) (x : Obj) (state : State) → e.upcoming ≡ finished x state b.events.upcoming → KeepsPlaces b.events e → KeepsContexts b.events e → AgreeWith b → AgreeWith (record b { events = e })
finished-agree b e x state is k kc a =
    let u = b.events.upcoming in
    let n = times-fewer u x in
    becomes b e (finished x state u) is k kc (omega (arith, n))
    (record { times = times-gone b.tree.next u.times x a.given.times; ring = a.given.ring; requests = notes-changed b.tree.next (in_state state) u.requests x a.given.requests; queues = a.given.queues; entries = a.given.entries }) a

-- ---- a new request

-- it may own what it is made with
pub new-owner : (rows : List Row) (x : Obj) (owner : Owner) (size : ℕ) (name : List ℕ) → is_owner (new_row x Request owner size name ∷ rows) (Of x) ≡ true
new-owner rows x owner size name = let t : same x x ≡ true = same-equal x x refl in rw t refl

-- no context comes with a row of another kind
pub grows : (t' t : Links) (kind : Kind) (owner : Owner) (size : ℕ) (name : List ℕ) → is_context kind ≡ false → pool_of t' ≡ add (pool_of t) kind owner size name → NoMoreContexts t.rows t'.rows
grows t' t kind owner size name none is =
    subst (NoMoreContexts t.rows) (sym (ap (λ (p : Pool). p.rows) is)) (contexts-added (pool_of t) kind owner size name none)

module _ (b : Inside) (t t' : Links) (ls' : Limits) (e : Agenda) (x y : Obj) (owner : Owner) (size : ℕ) (word name : List ℕ) where
  pub request-added : ls'.spare ≡ b.sums.spare → b.ready ≡ true → x ≡ record { 0 = b.tree.next } → y ≡ record { 0 = t.next } → row_of b.tree.rows x ≡ None → row_of t.rows y ≡ None
      → pool_of t ≡ add (pool_of b.tree) Request owner 0 word → pool_of t' ≡ add (pool_of t) Plain (Of x) size name → works_of t ≡ works_of b.tree → works_of t' ≡ works_of t
      → AreLimitsOf ls'.limited t'.rows → e.upcoming ≡ requested x y b.events.upcoming → KeepsContexts b.events e → AgreeWith b → AgreeWith (record b { tree = t'; sums = ls'; events = e; event = false; ready = false })
  request-added spare ready serial serial' fresh fresh' is is' works works' limits comes kc a =
      let more = ap (λ (p : Pool). length p.rows) is in
      let more' = ap (λ (p : Pool). length p.rows) is' in
      let next = ap (λ (p : Pool). p.next) is in
      let next' = ap (λ (p : Pool). p.next) is' in
      let number = ap (λ (z : Obj). z.0) serial in
      let later = given-later b.tree.next t'.next b.events.upcoming (omega (arith, next, next')) a.given in
      waits (record b { tree = t'; sums = ls'; event = false; ready = false }) e
      (rw comes
      (record { times = later.times; ring = later.ring; requests = kept-put t'.next b.events.upcoming.requests x.0 (new_note y) (omega (arith, number, next, next')) later.requests; queues = later.queues; entries = later.entries })) kc
      (spent b t' b.refs ls' b.reference b.limit false a.reference (λ z. let l = a.limit z in omega (arith, l, spare)) never ready (omega (arith, next, next')) (omega (arith, more, more')) (works' ∙ works)
      (refs-with b.refs t t' y Plain (Of x) size name refl serial' fresh' is' (refs-with b.refs b.tree t x Request owner 0 word refl serial fresh is a.references)) limits
      (λ c h. grows t b.tree Request owner 0 word refl is c (grows t' t Plain (Of x) size name refl is' c h)) a)

-- ---- an end time

-- the number that is taken is the next one
pub taken-next : (n m : ℕ) → n < 2 ^ 64 - 1 → Some m ≡ number_after n → m ≡ n
taken-next n m l e =
    let more : nat_eq n (2 ^ 64 - 1) ≡ false = ne_eqb n (2 ^ 64 - 1) (λ q. omega (arith, l, q)) in
    let is : Some m ≡ Some n = rw more at e in
    cc

pub timed-agree : (b : Inside) (t' : Links) (e : Agenda) (x : Obj) (time : ℕ) (c : Obj) → b.ready ≡ true → pool_of t' ≡ take_number (pool_of b.tree) → works_of t' ≡ works_of b.tree → e.upcoming ≡ timed_under x time b.tree.next c b.events.upcoming
    → KeepsContexts b.events e → AgreeWith b → AgreeWith (record b { tree = t'; events = e; event = false; ready = false })
timed-agree b t' e x time c ready is works comes kc a =
    let rows = ap (λ (p : Pool). p.rows) is in
    let many = ap (λ (p : Pool). length p.rows) is in
    let next = ap (λ (p : Pool). p.next) is in
    let times = b.events.upcoming.times in
    let later = given-later b.tree.next t'.next b.events.upcoming (omega (arith, next)) a.given in
    waits (record b { tree = t'; event = false; ready = false }) e
    (rw comes (record { times = times-armed t'.next times x time b.tree.next c (omega (arith, next)) later.times; ring = later.ring; requests = later.requests; queues = later.queues; entries = later.entries })) kc
    (spent b t' b.refs b.sums b.reference b.limit false a.reference a.limit never ready (omega (arith, next)) (omega (arith, many)) works (subst (AreRefsOf b.refs.pairs) (sym rows) a.references) (subst (AreLimitsOf b.sums.limited) (sym rows) a.limits)
    (λ d h. rw rows at h) a)
