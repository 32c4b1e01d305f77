-- What a plan asks for, what its change of the rows leaves so, and that a call which isn't refused may carry out its plan.
use Rattle.std.proofs.Common.{nat_eq, ◌≡◌, ◌≢◌, ◌≤◌, List, [], ◌∷◌, Option, Some, None, Bool, true, false, refl, sym, ◌∙◌, subst, arith}
use Rattle.std.specs.Prelude.{if◌then◌else◌}
use Rattle.tree_specs.specs.declared.object.Obj.{Obj}
use Rattle.tree_specs.specs.declared.object.Owner.{Owner}
use Rattle.tree_specs.specs.declared.object.Owner.TheVariants.{Root, Of}
use Rattle.tree_specs.specs.declared.kind.Kind.{Kind}
use Rattle.tree_specs.specs.declared.kind.Kind.TheVariants as kind
use Rattle.tree_specs.specs.Words.Objects.{same}
use Rattle.tree_specs.specs.declared.row.Row.{Row}
use Rattle.tree_specs.specs.declared.call.Call.{Call}
use Rattle.tree_specs.specs.declared.call.Call.TheVariants as call
use Rattle.tree_specs.specs.declared.reply.Reply.{Reply}
use Rattle.tree_specs.specs.declared.reply.Reply.TheVariants as reply
use Rattle.tree_specs.specs.declared.notice.Notice.{Notice}
use Rattle.tree_specs.specs.declared.notice.Notice.TheVariants.{Warned}
use Rattle.tree_specs.specs.declared.question.Ask.{Ask}
use Rattle.tree_specs.specs.declared.question.Ask.TheVariants as ask
use Rattle.tree_specs.specs.declared.frame.Frame.{Frame}
use Rattle.tree_specs.specs.Tree.Pool.{Pool, row_of, is_row, is_owner, owner_of, target_at, is_inside, place, hooked_row, named_row, sized_row, limited_row, renote}
use Rattle.tree_specs.specs.Tree.Targets.{target_of, newest_ref}
use Rattle.tree_specs.specs.Calls.Refusals.{tests, refusals, in_state, in_progress, is_immediate, is_request, is_request_row, is_queue, is_queue_row}
use Rattle.tree_specs.specs.declared.moment.What.TheVariants as what
use Rattle.tree_specs.specs.Invariants.Awaiting.{waits_as, waits_as_row, is_event, is_event_row}
use Rattle.tree_specs.specs.declared.test.Test.TheVariants.{IsContext, IsObject, IsImmediate, IsRequest, IsInProgress as IsInProgressTest, IsNotDoomed, IsQueue}
use Rattle.tree_specs.specs.Calls.Plans.{Plan, changed_by, plan, planned, places, warns, frees, handed, gift, planned_at}
use Rattle.tree_specs.specs.Calls.Plans.Change.{Nothing}
use Rattle.tree_specs.specs.Calls.Plans.Plan.{Does, Frees, Unlinks, Empties, Asks, Turns, Works}
use Rattle.tree_specs.specs.Invariants.Sound.{IsLive, IsReferable, IsQuietRow, MayReceive, MayBePlaced, Sound}
use Rattle.tree_specs.specs.Invariants.Noted.{IsInProgress, IsBetween}
use Rattle.tree_specs.proofs.Tree.Numbered.{by_test, same-equal, is_below-some}
use Rattle.tree_specs.proofs.Tree.Rows.{row_of-placed-same}
use Rattle.tree_specs.proofs.Tree.Rooted.{KeepsPlace}
use Rattle.tree_specs.proofs.Tree.Referring.{newest-refers, newest-of-refers, refers-nothing, reference-outside, object-refers}
use Rattle.tree_specs.specs.Calls.Passed.{IsUsable, Passed, AllPassed, Interest, AsOwner, AsHolder, Gives, Itself, ItsRef}
use Rattle.tree_specs.proofs.Events.HandlerLaws.{with-own}
use Rattle.tree_specs.proofs.Calls.Checks.{all-pass, planned-by, may-place, quiet-row, planned-at-by}
use Rattle.tree_specs.proofs.Invariants.Changes.{names-place, hooks-place, sizes-place, limits-place, nobody, owned-row}
use Rattle.tree_specs.proofs.Invariants.KeptGivings.{referred-live}
use Rattle.tree_specs.specs.declared.frame.Errand.{Errand}
use Rattle.tree_specs.specs.declared.frame.Errand.TheVariants.{Finish, Notify, Receive, Cancel}
use Rattle.tree_specs.specs.declared.moment.What.{What}
use Rattle.tree_specs.specs.declared.request.Note.{Note}
use Rattle.tree_specs.specs.declared.request.State.{State}
use Rattle.tree_specs.specs.declared.request.State.TheVariants as state
use Rattle.tree_specs.specs.Events.Requests.{is_in_progress, note_of, failed_with}
use Rattle.tree_specs.proofs.Events.NoteLaws.{renoted-same, renoted-none}
use Rattle.tree_specs.proofs.Calls.Changes.{MayWait, MayBeEdited, MayDo, heavier, added}
use Rattle.tree_specs.specs.Events.Queues.{runs}

-- ---- what a plan asks for

-- the object of which it warns is there after the change
abbrev pub IsThere : Option Notice → Pool → Type 0
IsThere (Some (Warned x)) p = is_row p.rows x ≡ true
IsThere notice p = Unit {0}

-- what a call asks the outside
abbrev pub IsOutside : Ask → Type 0
IsOutside ask.Quiet = ⊥
IsOutside (ask.Routine m) = ⊥
IsOutside (ask.Wait limit) = ⊥
IsOutside q = Unit {0}

-- only what is there is received, and only what is in progress goes to one of the states in between
abbrev pub MayWork : Pool → Errand → Obj → Type 0
MayWork p (Finish s) x = (is_request_row (row_of p.rows x) ≡ true) × IsInProgress p x × IsBetween s
MayWork p Receive x = MayReceive x p
MayWork p Notify x = ⊥
MayWork p Cancel x = Unit {0}

abbrev pub May : Pool → Plan → Type 0
May p (Does c notice r) = MayDo p c × (added c ≤ 2) × IsThere notice (changed_by c p) × (heavier c ≤ 6)
May p (Frees x) = (newest_ref p.rows x ≡ None) × (target_at p.rows x ≡ None)
May p (Unlinks o x) = (r : Row) × (row_of p.rows x ≡ Some r) × IsLive r.mark × (target_of r.kind ≡ None)
May p (Empties x) = Unit {0}
May p (Asks q) = IsOutside q
May p (Turns c) = IsUsable p c
May p (Works c errand x) = MayDo p c × (added c ≡ 0) × (heavier c ≡ 0) × MayWork (changed_by c p) errand x

-- the reference that goes in the place of its target
pub ref-placed : (f : Frame) (fs : List Frame) (p : Pool) (o : Owner) (x r : Obj) → Sound f fs p → target_at p.rows r ≡ Some x → is_owner p.rows o ≡ true → MayBePlaced p o r
ref-placed f fs p o x r s is there = by-row (row_of p.rows r) refl (s.refers.quiet r x is)
  where
    ne : o ≢ Of r
    ne e = refers-nothing p.rows r x (object-refers (row_of p.rows r) (subst (λ (z : Owner). is_owner p.rows z ≡ true) e there)) is

    by-row : (q : Option Row) → row_of p.rows r ≡ q → IsQuietRow q → MayBePlaced p o r
    by-row None e quiet = absurd quiet
    by-row (Some row) e quiet = record { row = row; is = e; live = rw quiet tt; apart = ne; there = there; outside = reference-outside p.rows r x o s.forest is ne }

-- what is kept of a request is changed, and not its state
still-in_progress : (g : Note → Note) (p : Pool) (x : Obj) → ((n : Note) → (g n).state ≡ n.state) → in_progress p x ≡ [] → in_progress (renote p x g) x ≡ []
still-in_progress g p x calm h = each (note_of p.requests x) refl
  where
    each : (o : Option Note) → note_of p.requests x ≡ o → in_progress (renote p x g) x ≡ []
    each None e = rw (renoted-none g p.requests x e) refl
    each (Some n) e = let h' : in_state x is_in_progress (Some n) ≡ [] = rw e at h in rw (renoted-same g p.requests x n e, calm n) h'

-- a call that isn't refused may carry out its plan
module _ (f : Frame) (fs : List Frame) (p : Pool) (s : Sound f fs p) where
  edited : (x : Obj) (g : Row → Row) → Passed p (IsObject x) → KeepsPlace g → ((r : Row) → (g r).mark ≡ r.mark) → MayBeEdited p x g
  edited x g h place mark = record { row = h.0; is = h.1; object = h.2; place = place; mark = mark }

  placed : (o : Owner) (x : Obj) (r : Reply) → MayBePlaced p o x → May p (places p o x r)
  placed o x r may = (may, omega arith, there (warns p o x), omega arith)
    where
      there : (b : Bool) → IsThere (if b then Some (Warned x) else None) (place p o x)
      there true = rw (row_of-placed-same p o x may.row may.is) refl
      there false = tt

  referred : (o : Owner) (x r : Obj) → Passed p (IsObject x) → target_at p.rows r ≡ Some x → May p (Unlinks o x)
  referred o x r h is = (h.0, h.1, referred-live p x r h.0 s.refers is h.1, h.2)

  freed : (x : Obj) → Passed p (IsObject x) → (n : Option Obj) → newest_ref p.rows x ≡ n → May p (frees n x)
  freed x h None e = (e, rw h.1 h.2)
  freed x h (Some r) e = let w = newest-refers p.rows x r s.forest.distinct e in referred Root x r h (rw w.1 w.2)

  unlinked : (o : Owner) (x : Obj) → Passed p (IsObject x) → Interest p o x → May p (Unlinks o x)
  unlinked o x h (AsOwner t) =
      let w = owned-row p x o s.valid (is_below-some (owner_of p.rows x) o t) in
      let same_row : Some w.0 ≡ Some h.0 = sym w.1 ∙ h.1 in
      let same_row' : w.0 ≡ h.0 = cc in
      (h.0, h.1, subst (λ (z : Row). IsLive z.mark) same_row' w.2, h.2)
  unlinked o x h (AsHolder r t e) = let w = newest-of-refers p.rows o x r s.forest.distinct e in referred o x r h (rw w.1 w.2)

  given : (from to : Owner) (x : Obj) → Gives p from to x → is_owner p.rows to ≡ true → (is_inside p.rows to (Of x) ≡ false → MayBePlaced p to x)
      → May p (Does (handed to (gift p from x)) None reply.Ok)
  given from to x (Itself t outside) there placed = rw t (placed outside, omega arith, tt, omega arith)
  given from to x (ItsRef r t n) there placed =
      let w = newest-of-refers p.rows from x r s.forest.distinct n in
      rw (t, n) (ref-placed f fs p to x r s (rw w.1 w.2) there, omega arith, tt, omega arith)

  -- an immediate that isn't doomed
  scheduled : (x c : Obj) → AllPassed p (IsObject x ∷ IsImmediate x ∷ IsNotDoomed x ∷ IsContext c ∷ []) → waits_as_row what.Immediate (row_of p.rows x) ≡ true
  scheduled x c h = let k : is_immediate h.0.0.kind ≡ true = rw h.0.1 at h.1.0 in rw h.0.1 (comes h.0.0.kind k)
    where
      comes : (k : Kind) → is_immediate k ≡ true → waits_as what.Immediate k ≡ true
      comes kind.Immediate e = refl
      comes _ e = cc

  -- it is an event
  event : (x c : Obj) → AllPassed p (IsObject x ∷ IsImmediate x ∷ IsNotDoomed x ∷ IsContext c ∷ []) → is_event_row (row_of p.rows x) ≡ true
  event x c h = let k : is_immediate h.0.0.kind ≡ true = rw h.0.1 at h.1.0 in rw h.0.1 (comes h.0.0.kind k)
    where
      comes : (k : Kind) → is_immediate k ≡ true → is_event k ≡ true
      comes kind.Immediate e = refl
      comes _ e = cc

  -- a request waits as what comes soon, and as what has a time; it needs no handler
  posted : (w : What) (x : Obj) → waits_as w kind.Request ≡ true → Passed p (IsRequest x) → MayWait p w x
  posted w x may h = each (row_of p.rows x) refl h
    where
      kinds : (k : Kind) → is_request k ≡ true → (waits_as w k ≡ true) × (is_event k ≡ false)
      kinds kind.Request e = (may, refl)
      kinds _ e = cc

      each : (o : Option Row) → row_of p.rows x ≡ o → is_request_row o ≡ true → MayWait p w x
      each None e t = cc
      each (Some r) e t = let k = kinds r.kind t in record { comes = rw e k.0; ready = λ i. let i' : is_event r.kind ≡ true = rw e at i in let bad : true ≡ false = sym i' ∙ k.1 in cc }

  -- so does a queue as what comes soon
  queue-waits : (q : Obj) → Passed p (IsQueue q) → MayWait p what.Immediate q
  queue-waits q h = each (row_of p.rows q) refl h
    where
      kinds : (k : Kind) → is_queue k ≡ true → (waits_as what.Immediate k ≡ true) × (is_event k ≡ false)
      kinds kind.Queue e = (refl, refl)
      kinds _ e = cc

      each : (o : Option Row) → row_of p.rows q ≡ o → is_queue_row o ≡ true → MayWait p what.Immediate q
      each None e t = cc
      each (Some r) e t = let k = kinds r.kind t in record { comes = rw e k.0; ready = λ i. let i' : is_event r.kind ≡ true = rw e at i in let bad : true ≡ false = sym i' ∙ k.1 in cc }

  finishes : (x : Obj) (s : State) → IsBetween s → Passed p (IsRequest x) → Passed p (IsInProgressTest x) → May p (Works Nothing (Finish s) x)
  finishes x s between h state = (tt, refl, refl, (h, state, between))

  each : (c : Call) → AllPassed p (tests c) → May p (plan p c)
  each (call.New o size name) h = (record { there = h.1.0; target = λ t e. cc }, omega arith, tt, omega arith)
  each (call.Free x) h = freed x h.0 (newest_ref p.rows x) refl
  each (call.Freekids x) h = tt
  each (call.Steal o x) h = placed o x reply.Ok (may-place p o x h.0 h.1.1.0 h.1.1.1.0 h.1.1.1.1.0)
  each (call.Move o x) h = placed o x (reply.Number x.0) (may-place p o x h.0 h.1.1.0 h.1.1.1.0 h.1.1.1.1.0)
  each (call.Reparent from to x) h = given from to x h.1.1.1.1.1.0 h.1.1.1.0 (λ outside. may-place p to x h.0 h.1.1.1.0 h.1.1.1.1.0 outside)
  each (call.Reference o x) h =
      let quiet = quiet-row p x h.0.0 h.0.1 h.1.1.1.0 h.1.1.1.1.0 in
      let plain : IsReferable (row_of p.rows x) = rw h.0.1 (rw h.0.1 at h.1.0, quiet) in
      (record { there = h.1.1.0; target = λ t e. let e' : x ≡ t = cc in subst (λ (z : Obj). IsReferable (row_of p.rows z)) e' plain }, omega arith, tt, omega arith)
  each (call.Unlink o x) h = unlinked o x h.0 h.1.1.0
  each (call.Hook x routine) h = (edited x (hooked_row routine) h.0 (hooks-place routine) (λ r. refl), omega arith, tt, omega arith)
  each (call.Unhook x) h = (edited x (hooked_row 0) h.0 (hooks-place 0) (λ r. refl), omega arith, tt, omega arith)
  each (call.Rename x name) h = (edited x (named_row name) h.0 (names-place name) (λ r. refl), omega arith, tt, omega arith)
  each (call.Resize x size) h = (edited x (sized_row size) h.1.0 (sizes-place size) (λ r. refl), omega arith, tt, omega arith)
  each (call.Limit x max) h = (edited x (limited_row max) h.0 (limits-place max) (λ r. refl), omega arith, tt, omega arith)
  each (call.Parent x) h = (tt, omega arith, tt, omega arith)
  each (call.Total o) h = (tt, omega arith, tt, omega arith)
  each (call.Count o) h = (tt, omega arith, tt, omega arith)
  each (call.Sum o) h = (tt, omega arith, tt, omega arith)
  each (call.Report o) h = (tt, omega arith, tt, omega arith)
  each (call.Context o) h = (record { there = h.0; target = λ t e. cc }, omega arith, tt, omega arith)
  each (call.Immediate o) h = (record { there = h.0; target = λ t e. cc }, omega arith, tt, omega arith)
  each (call.Schedule x routine user c) h = by_test (nat_eq routine 0)
      (λ t. rw t (tt, omega arith, tt, omega arith))
      (λ t. rw t ((event x c h, record { comes = scheduled x c h; ready = λ i. with-own p.handlers x (record { routine = routine; user = user; context = c }) }), omega arith, tt, omega arith))
  each (call.Unschedule x) h = (tt, omega arith, tt, omega arith)
  each (call.Timer o time routine user c) h =
      let n : Obj = record { 0 = p.next } in
      let self : same n n ≡ true = same-equal n n refl in
      ((record { there = h.0; target = λ t e. cc }, (rw self refl, record { comes = rw self refl; ready = λ i. with-own p.handlers n (record { routine = routine; user = user; context = c }) })), omega arith, tt, omega arith)
  each (call.Fd o fd flags routine user c) h =
      let n : Obj = record { 0 = p.next } in
      let self : same n n ≡ true = same-equal n n refl in (
        (
          record { there = h.0; target = λ t e. cc },
          (rw self refl, record { comes = rw self (refl, refl); ready = with-own p.handlers n (record { routine = routine; user = user; context = c }); free = h.1.1.0; open_one = h.1.0 }),
        ),
        omega arith,
        tt,
        omega arith,
      )
  each (call.Flags x flags) h = (record { object = λ w. refl; fd = λ w. refl; context = λ w. refl }, omega arith, tt, omega arith)
  each (call.Getflags x) h = (tt, omega arith, tt, omega arith)
  each (call.Autoclose x) h = (record { object = λ w. refl; fd = λ w. refl; context = λ w. refl }, omega arith, tt, omega arith)
  each (call.Close fd) h = (h.1.0, omega arith, tt, omega arith)
  each (call.Accept fd) h = tt
  each (call.Read fd len) h = tt
  each (call.Write fd bytes) h = tt
  each (call.Req o size name) h = ((h.1.0, nobody p s.valid), omega arith, tt, omega arith)
  each (call.Callback x routine user) h = (λ n. refl, omega arith, tt, omega arith)
  each (call.Defer x c) h = (λ n. refl, omega arith, tt, omega arith)
  each (call.Cleanup x routine) h = (λ n. refl, omega arith, tt, omega arith)
  each (call.Setcancel x routine) h = (λ n. refl, omega arith, tt, omega arith)
  each (call.Cancel x) h = (tt, refl, refl, tt)
  each (call.Post x c) h = (posted what.Immediate x refl h.1.0, omega arith, tt, omega arith)
  each (call.Done x) h = finishes x state.Done tt h.1.0 h.1.1.0
  each (call.Error x error) h = by_test (nat_eq error 0)
      (λ t. rw t (tt, omega arith, tt, omega arith))
      (λ t. let progress : in_progress p x ≡ [] = rw t at h.1.1.0 in rw t ((λ n. refl), refl, refl, (h.1.0, still-in_progress (failed_with error) p x (λ n. refl) progress, tt)))
  each (call.Oom x) h = finishes x state.NoMemory tt h.1.0 h.1.1.0
  each (call.Iserror x) h = (tt, omega arith, tt, omega arith)
  each (call.Progress x) h = (tt, omega arith, tt, omega arith)
  each (call.Endtime x time c) h = ((posted what.Timer x refl h.1.0, tt), omega arith, tt, omega arith)
  each (call.Received x) h = (tt, refl, refl, (h.0.0, h.0.1))
  each (call.Queue o name) h = (h.0, omega arith, tt, omega arith)
  each (call.Enqueue q x routine user c) h = ((h.1.1.1.1.0, queue-waits q h.1.0, h.1.0, nobody p s.valid), omega arith, tt, omega arith)
  each (call.Start q) h = by_test (runs p.queues q)
      (λ t. rw t (tt, omega arith, tt, omega arith))
      (λ t. let w = queue-waits q h.1.0 in rw t ((tt, record { comes = w.comes; ready = w.ready }), omega arith, tt, omega arith))
  each (call.Stop q) h = (tt, omega arith, tt, omega arith)
  each (call.Length q) h = (tt, omega arith, tt, omega arith)
  each (call.Running q) h = (tt, omega arith, tt, omega arith)
  each (call.Pending c) h = (tt, omega arith, tt, omega arith)
  each call.Now h = tt
  each (call.Turn c) h = h.0

  pub may : (c : Call) → refusals p c ≡ [] → May p (plan p c)
  may c none = each c (all-pass p (tests c) none)

  -- and one that is refused only replies
  pub may-planned : (c : Call) → May p (planned p c)
  may-planned c = planned-by (May p) p c (each c) (λ r. (tt, omega arith, tt, omega arith))

  -- wherever it is given
  pub may-planned-at : (q : Ask) (c : Call) → May p (planned_at q p c)
  may-planned-at q c = planned-at-by (May p) q p c (may-planned c) (λ t. (tt, omega arith, tt, omega arith))
