-- What comes next of a host that has settled.
use Rattle.std.proofs.Common.{◌≡◌, Option, List, [], ◌∷◌, reverse, Some, None, is_some, true, false, refl, sym, ◌∙◌, ap, subst, arith}
use Rattle.tree_specs.specs.declared.event.Event.{Event}
use Rattle.tree_specs.specs.declared.event.Event.TheVariants.{Replied, Fired, State as StateOf}
use Rattle.tree_specs.specs.declared.frame.CallFrame.{CallFrame}
use Rattle.tree_specs.specs.declared.frame.Errand.TheVariants.{Finish, Receive}
use Rattle.tree_specs.specs.declared.frame.Frame.TheVariants as frame
use Rattle.tree_specs.specs.declared.frame.FreeFrame.{FreeFrame}
use Rattle.tree_specs.specs.declared.frame.TurnFrame.{TurnFrame}
use Rattle.tree_specs.specs.declared.frame.TurnFrame.TheVariants.{Timing, Polling, Firing, Handling}
use Rattle.tree_specs.specs.declared.free_step.FreeStep.{FreeStep}
use Rattle.tree_specs.specs.declared.free_step.FreeStep.TheVariants.{Ask, Prepare, Drain, Done}
use Rattle.tree_specs.specs.declared.question.Ask.{Ask as Question}
use Rattle.tree_specs.specs.declared.question.Ask.TheVariants.{Clock, Wait}
use Rattle.tree_specs.specs.declared.request.State.TheVariants.{Received}
use Rattle.tree_specs.specs.declared.watch.Watch.{Watch}
use Rattle.tree_specs.specs.declared.free_step.FreeReply.{FreeReply}
use Rattle.tree_specs.specs.declared.moment.What.TheVariants.{Trigger}
use Rattle.tree_specs.specs.Events.Queues.{Head, next_of}
use Rattle.tree_specs.specs.Events.Requests.{note_of, is_unreceived, state_number}
use Rattle.tree_specs.specs.Rules.Pieces.{notice_event}
use Rattle.tree_specs.specs.Tree.Pool.{Pool, finish, receive}
use Rattle.tree_specs.specs.Machine.Table.{event_of}
use Rattle.tree_specs.specs.Machine.View.{View}
use Rattle.tree_specs.specs.Invariants.Consistent.{IsConsistent}
use Rattle.tree_specs.proofs.Tree.Numbered.{by_test}
use Rattle.destructors.specs.Frees.{is_event, Steps}
use Rattle.destructors.specs.Runs.{IsNews}
use Rattle.object_pool.specs.Objects.{Objects, frees_in}
use Rattle.host_core.specs.declared.active.Active.{Active}
use Rattle.host_core.specs.declared.active.Active.TheVariants as active
use Rattle.host_core.specs.declared.caller.Caller.{Caller}
use Rattle.host_core.specs.declared.caller.Stage.{Stage}
use Rattle.host_core.specs.declared.caller.Stage.TheVariants as stage
use Rattle.host_core.specs.declared.parts.Parts.{Parts}
use Rattle.host_core.specs.declared.waiting.Waiting.{Waiting}
use Rattle.host_core.specs.declared.work.Work.{Work}
use Rattle.host_core.specs.declared.work.Work.TheVariants as work
use Rattle.host_core.specs.Callers.{frame_of, staged, told_by, after_telling, open_at}
use Rattle.host_core.specs.Promises.{Waits, NextLaw}
use Rattle.host_core.specs.Stacks.{FreesFit, freeing_view}
use Rattle.host_core.specs.Turns.{turn_asks, turn_tells, turn_speaks, frame_fired}
use Rattle.host_core.specs.Places.{drains_of}
use Rattle.host_core.specs.Requests.{work_speaks, work_tells, fired_in, triggered_work, work_told, pool_told}
use Rattle.object_pool.specs.Queueing.{triggering}
use Rattle.requests.specs.Register.{AreInOrder}
use Rattle.host_core.specs.Hosts.{host_view, below_in, speaking_view, asked_now, IsBetweenSteps, Tells, FreeTells, TellsSameStory}
use Rattle.host_core.proofs.StepsSilently.{AfterEvent, after-event, event-along}
use Rattle.host_core.proofs.FreeSteps.{speaks-events, step-event}
use Rattle.host_core.proofs.Emptied.{may-forget}
use Rattle.host_core.proofs.FreeStepping.{step-fits, step-fewer, goes-on-fewer, news-work, news-fit}
use Rattle.host_core.proofs.Offering.{caller-now, waits-now}
use Rattle.host_core.proofs.Speaking.{question_seen}
use Rattle.host_core.proofs.StepPools.{turn_speaking, work_keeps}
use Rattle.host_core.proofs.Unreceived.{finished-most, received-fewer}

-- the same works that wait
abbrev with : Parts → Objects → Parts
with parts o = record { waiting = parts.waiting; objects = o }

-- what has told an event, and is ready for the steps after it
pub record Told (e : Event) (old : Active) (parts : Parts) (now : Active) (o : Objects) : Type 0 where
  pub ready : IsBetweenSteps now (with parts o)
  pub after : AfterEvent (host_view old parts) (host_view now (with parts o)) e

-- ---- a caller

caller-told : (e : Event) (c : Caller) (parts : Parts) (now : Active) (o : Objects) → IsBetweenSteps (active.Caller c) parts → Tells (Some e) (active.Caller c) parts.objects now o → Told e (active.Caller c) parts now o
caller-told e c parts now o b t =
    let n = caller-now now (after_telling (frame_of c)) t.1 in
    let v = λ (z : CallFrame). let r : View = record { innermost = frame.Call z; below = below_in parts; pool = parts.objects.pool } in r in
    let a : AfterEvent (v (frame_of c)) (v (frame_of n.0)) e = subst (λ (z : CallFrame). AfterEvent (v (frame_of c)) (v z) e) (sym n.2) (each c.stage b.whole t.0) in
    rw (n.1, t.2) (record {
      ready = record { whole = a.whole; fit = b.fit; ready = tt; places = tt };
      after = a;
    })
  where
    each : (s : Stage) → IsConsistent (record { innermost = frame.Call (staged c.ask s); below = below_in parts; pool = parts.objects.pool }) → Some e ≡ told_by (staged c.ask s)
        → AfterEvent (record { innermost = frame.Call (staged c.ask s); below = below_in parts; pool = parts.objects.pool }) (record { innermost = frame.Call (after_telling (staged c.ask s)); below = below_in parts; pool = parts.objects.pool }) e
    each stage.Asking h told = cc
    each (stage.Announcing notice r) h told = let is : notice_event notice ≡ e = cc in rw (← is) (after-event _ _ (notice_event notice) h refl)
    each (stage.Telling r) h told = let is : Replied r ≡ e = cc in rw (← is) (after-event _ _ (Replied r) h refl)

-- ---- the open frees

-- what tells an event is news
told-news : (ring : List Watch) (t : FreeStep) (e : Event) → event_of ring t ≡ Some e → IsNews t
told-news ring (Ask x) e l = cc
told-news ring (Prepare x) e l = cc
told-news ring (Drain x) e l = cc
told-news ring (Done a) e l = cc
told-news ring _ e l = tt

news-goes : (t : FreeStep) → IsNews t → (a : FreeReply) → t ≡ Done a → ⊥
news-goes t n a e = none (subst IsNews e n)
  where
    none : IsNews (Done a) → ⊥
    none n = n

free-told : (e : Event) (parts : Parts) (now : Active) (o : Objects) → IsBetweenSteps active.Freeing parts → FreeTells (Some e) parts.objects now o → Told e active.Freeing parts now o
free-told e parts now o b t = rw t.still (each parts.objects.works refl b.fit b.whole t.steps)
  where
    ws : List Waiting
    ws = reverse parts.waiting.items

    news : IsNews t.step
    news = told-news parts.objects.pool.ring t.step e (sym t.event)

    each : (works : List FreeFrame) → parts.objects.works ≡ works → FreesFit works ws → IsConsistent (freeing_view works ws parts.objects.pool) → Steps (record { works = works; pool = parts.objects.pool }) t.step (frees_in o) → Told e active.Freeing parts active.Freeing o
    each [] k fit h s = absurd fit.0
    each (f ∷ fs) k fit h s =
        let a = step-event f fs ws parts.objects.pool (frees_in o) h t.step e s (sym t.event) news in
        let a' : AfterEvent (host_view active.Freeing parts) (host_view active.Freeing (with parts o)) e = subst (λ (z : List FreeFrame). AfterEvent (freeing_view z ws parts.objects.pool) (freeing_view o.works ws o.pool) e) (sym k) a in
        let room = b.places in
        let fewer = t.requests in
        let were = ap (λ (z : List FreeFrame). drains_of z parts.objects.pool.rows) k in
        let drains = goes-on-fewer _ t.step (frees_in o) (news-goes t.step news) (step-fewer f fs ws parts.objects.pool (frees_in o) h t.step s) in
        record {
          ready = record {
            whole = a'.whole;
            fit = news-fit t.step (frees_in o) ws news (step-fits f fs ws parts.objects.pool (frees_in o) h t.step fit s);
            ready = record { at_work = news-work t.step (frees_in o) news t.goes_on; settled = s.settles; forgettable = may-forget o.works ws o.pool a'.whole };
            places = omega (arith, room, fewer, drains, were);
          };
          after = a';
        }

-- ---- a turn

abbrev a_turn : TurnFrame → Option Question → Active
a_turn f question = active.Turning (record { frame = f; question = question })

turn-told : (e : Event) (f : TurnFrame) (question : Option Question) (parts : Parts) → IsBetweenSteps (a_turn f question) parts → Some e ≡ turn_tells f → Told e (a_turn f question) parts (a_turn (frame_fired f) question) parts.objects
turn-told e (Firing what x handler occasion) question parts b told =
    let is : Fired what x handler.routine ≡ e = cc in
    let a = after-event (host_view (a_turn (Firing what x handler occasion) question) parts) (host_view (a_turn (Handling what x handler occasion) question) parts) (Fired what x handler.routine) b.whole refl in
    rw (← is) (record { ready = record { whole = a.whole; fit = b.fit; ready = record { question = b.ready.question; frame = tt }; places = b.places }; after = a })
turn-told e _ question parts b told = cc

-- ---- the work of a request

work-told : (e : Event) (w : Work) (parts : Parts) → AreInOrder parts.objects.pool.requests → IsBetweenSteps (active.Requesting w) parts → Some e ≡ work_tells w parts.objects.pool
    → Told e (active.Requesting w) parts (active.Requesting (work_told w parts.objects.pool)) (record parts.objects { pool = pool_told w parts.objects.pool })
work-told e (work.Finishing x state) parts order b told =
    let o : Objects = record parts.objects { pool = finish parts.objects.pool x state } in
    let is : StateOf x (state_number state) ≡ e = cc in
    let a = after-event (host_view (active.Requesting (work.Finishing x state)) parts) (host_view (active.Requesting (work.Cleaning x (Finish state))) (with parts o)) (StateOf x (state_number state)) b.whole refl in
    let m = finished-most state parts.objects.pool x order b.whole.noted.works.1 in
    let room = b.places in
    rw (← is) (record { ready = record { whole = a.whole; fit = b.fit; ready = b.ready; places = omega (arith, m, room) }; after = a })
work-told e (work.Receiving x) parts order b told = by_test (is_unreceived (note_of parts.objects.pool.requests x))
    (λ t.
    let o : Objects = record parts.objects { pool = receive parts.objects.pool x } in
    let told' : Some e ≡ Some (StateOf x (state_number Received)) = rw t at told in
    let is : StateOf x (state_number Received) ≡ e = cc in
    let a = after-event (host_view (active.Requesting (work.Receiving x)) parts) (host_view (active.Requesting (work.Cleaning x Receive)) (with parts o)) (StateOf x (state_number Received)) b.whole (rw t refl) in
    let m = received-fewer parts.objects.pool.requests x order t in
    let room = b.places in
    rw (t, ← is) (record { ready = record { whole = a.whole; fit = b.fit; ready = b.ready; places = omega (arith, m, room) }; after = a }))
    (λ t. let bad : Some e ≡ None = rw t at told in cc)
work-told e (work.Calling what x handler errand) parts order b told =
    let is : Fired what x handler.routine ≡ e = cc in
    let a = after-event (host_view (active.Requesting (work.Calling what x handler errand)) parts) (host_view (active.Requesting (work.Called what x handler errand)) parts) (Fired what x handler.routine) b.whole refl in
    rw (← is) (record { ready = record { whole = a.whole; fit = b.fit; ready = tt; places = b.places }; after = a })
work-told e (work.Triggering queue) parts order b told = each (next_of parts.objects.pool.queues queue) refl
  where
    each : (o : Option Head) → next_of parts.objects.pool.queues queue ≡ o → Told e (active.Requesting (work.Triggering queue)) parts (active.Requesting (triggered_work queue o)) (record parts.objects { pool = triggering o parts.objects.pool })
    each None n = let bad : Some e ≡ None = rw n at told in cc
    each (Some h) n =
        let o : Objects = record parts.objects { pool = triggering (Some h) parts.objects.pool } in
        let told' : Some e ≡ Some (Fired Trigger h.entry.request h.entry.trigger.routine) = rw n at told in
        let is : Fired Trigger h.entry.request h.entry.trigger.routine ≡ e = cc in
        let a = after-event (host_view (active.Requesting (work.Triggering queue)) parts) (host_view (active.Requesting (triggered_work queue (Some h))) (with parts o)) (Fired Trigger h.entry.request h.entry.trigger.routine) b.whole (rw n refl) in
        rw (← is) (record { ready = record { whole = a.whole; fit = b.fit; ready = tt; places = b.places }; after = a })
work-told e _ parts order b told = cc

-- ---- by the parts of a host

pub told-next : (e : Event) (old : Active) (parts : Parts) (now : Active) (o : Objects) → IsBetweenSteps old parts → Tells (Some e) old parts.objects now o → Told e old parts now o
told-next e (active.Caller c) parts now o b t = caller-told e c parts now o b t
told-next e active.Freeing parts now o b t = free-told e parts now o b t
told-next e (active.Turning f) parts now o b t = rw (t.1, t.2) (turn-told e f.frame f.question parts b t.0)
told-next e (active.Reaching q) parts now o b t = cc
told-next e (active.Requesting w) parts now o b t = rw (t.1, t.2) (work-told e w parts t.3 b t.0)

-- an event is the next item of the story
pub next-law : (e : Event) (old : Active) (parts : Parts) (now : Active) (o : Objects) (v w : View) → IsBetweenSteps old parts → speaking_view (host_view old parts) ≡ true → host_view old parts ≡ v → Tells (Some e) old parts.objects now o
    → TellsSameStory (host_view now (with parts o)) w → NextLaw (Some e) v w
next-law e old parts now o v w b s is t along =
    let told = told-next e old parts now o b t in
    let a = event-along _ _ _ e told.after along in
    subst (λ (z : View). NextLaw (Some e) z w) is (question_seen old (reverse parts.waiting.items) parts.objects b.ready s ∙ unasked old b t, a.law, a.strays, a.seen)
  where
    unasked : (old : Active) → IsBetweenSteps old parts → Tells (Some e) old parts.objects now o → asked_now old ≡ None
    unasked (active.Caller c) b t = stages c.stage t.0
      where
        stages : (s : Stage) → Some e ≡ told_by (staged c.ask s) → open_at s c.ask ≡ None
        stages stage.Asking t = cc
        stages (stage.Announcing notice r) t = refl
        stages (stage.Telling r) t = refl
    unasked active.Freeing b t = refl
    unasked (active.Turning f) b t = b.ready.question ∙ fires f.frame t.0
      where
        fires : (f : TurnFrame) → Some e ≡ turn_tells f → turn_asks f ≡ None
        fires (Firing what x handler occasion) t = refl
        fires _ t = cc
    unasked (active.Reaching q) b t = cc
    unasked (active.Requesting w) b t = refl

-- ---- a question is open

-- nothing was told, and nothing has changed
pub record Still (old : Active) (parts : Parts) (now : Active) (o : Objects) : Type 0 where
  pub ready : IsBetweenSteps now (with parts o)
  pub same : host_view now (with parts o) ≡ host_view old parts
  pub waits : Waits (host_view old parts)

caller-still : (c : Caller) (parts : Parts) (now : Active) (o : Objects) → IsBetweenSteps (active.Caller c) parts → Tells None (active.Caller c) parts.objects now o → Still (active.Caller c) parts now o
caller-still c parts now o b t =
    let n = caller-now now (after_telling (frame_of c)) t.1 in
    let k : (frame_of n.0 ≡ frame_of c) × (asked_now (active.Caller c) ≡ Some c.ask) = each c.stage t.0 n.2 in
    let v = λ (z : CallFrame). let r : View = record { innermost = frame.Call z; below = below_in parts; pool = parts.objects.pool } in r in
    rw (n.1, t.2) (record {
      ready = record { whole = subst (λ (z : CallFrame). IsConsistent (v z)) (sym k.0) b.whole; fit = b.fit; ready = tt; places = tt };
      same = ap v k.0;
      waits = waits-now (active.Caller c) parts c.ask k.1 b;
    })
  where
    each : {d : CallFrame} (s : Stage) → None ≡ told_by (staged c.ask s) → d ≡ after_telling (staged c.ask s) → (d ≡ staged c.ask s) × (open_at s c.ask ≡ Some c.ask)
    each stage.Asking told e = (e, refl)
    each (stage.Announcing notice r) told e = cc
    each (stage.Telling r) told e = cc

free-still : (parts : Parts) (now : Active) (o : Objects) → IsBetweenSteps active.Freeing parts → speaking_view (host_view active.Freeing parts) ≡ true → FreeTells None parts.objects now o → Still active.Freeing parts now o
free-still parts now o b s t = each parts.objects.works b.fit s t.steps
  where
    each : (works : List FreeFrame) → FreesFit works (reverse parts.waiting.items) → speaking_view (freeing_view works (reverse parts.waiting.items) parts.objects.pool) ≡ true → Steps (record { works = works; pool = parts.objects.pool }) t.step (frees_in o) → Still active.Freeing parts now o
    each [] fit s st = absurd fit.0
    each (f ∷ fs) fit s st =
        let loud : is_some (event_of parts.objects.pool.ring t.step) ≡ true = ap (is_event parts.objects.pool.ring) (sym st.tells) ∙ sym (speaks-events f fs (reverse parts.waiting.items) parts.objects.pool) ∙ s in
        let bad : false ≡ true = ap is_some t.event ∙ loud in
        cc

turn-still : (f : TurnFrame) (question : Option Question) (parts : Parts) → IsBetweenSteps (a_turn f question) parts → turn_speaks f ≡ true → None ≡ turn_tells f → Still (a_turn f question) parts (a_turn (frame_fired f) question) parts.objects
turn-still (Timing again) question parts b s told = record { ready = b; same = refl; waits = waits-now (a_turn (Timing again) question) parts Clock b.ready.question b }
turn-still (Polling limit) question parts b s told = record { ready = b; same = refl; waits = waits-now (a_turn (Polling limit) question) parts (Wait limit) b.ready.question b }
turn-still (Firing what x handler occasion) question parts b s told = cc
turn-still _ question parts b s told = cc

work-loud : (w : Work) (p : Pool) → work_speaks w p ≡ true → None ≡ work_tells w p → ⊥
work-loud (work.Receiving x) p s told = let bad : None ≡ Some (StateOf x (state_number Received)) = rw s at told in cc
work-loud (work.Triggering queue) p s told = each (next_of p.queues queue) s told
  where
    each : (o : Option Head) → is_some o ≡ true → None ≡ fired_in o → ⊥
    each None s t = cc
    each (Some h) s t = cc
work-loud _ p s told = cc

pub still-waits : (old : Active) (parts : Parts) (now : Active) (o : Objects) → IsBetweenSteps old parts → speaking_view (host_view old parts) ≡ true → Tells None old parts.objects now o → Still old parts now o
still-waits (active.Caller c) parts now o b s t = caller-still c parts now o b t
still-waits active.Freeing parts now o b s t = free-still parts now o b s t
still-waits (active.Turning f) parts now o b s t = rw (t.1, t.2) (turn-still f.frame f.question parts b (sym (turn_speaking f.frame parts.objects.pool) ∙ s) t.0)
still-waits (active.Reaching q) parts now o b s t = rw (t.1, t.2) (record { ready = b; same = refl; waits = waits-now (active.Reaching q) parts q refl b })
still-waits (active.Requesting w) parts now o b s t = absurd (work-loud w parts.objects.pool (sym (work_keeps w parts.objects.pool).0 ∙ s) t.0)
