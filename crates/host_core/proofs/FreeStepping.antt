-- A step of the innermost free by the parts of a host.
use Rattle.std.proofs.Common.{◌≡◌, ℕ, ◌+◌, ◌*◌, ◌≤◌, List, [], ◌∷◌, ◌++◌, reverse, Option, Some, None, true, false, refl, sym, ◌∙◌, ap, subst, inr, arith}
use Rattle.std.specs.Prelude.{slice_get, vec_capacity}
use Rattle.step_machine.specs.Machine.{Move as Do}
use Rattle.tree_specs.specs.declared.frame.CallFrame.TheVariants.{Asking}
use Rattle.tree_specs.specs.declared.frame.Frame.TheVariants as frame
use Rattle.tree_specs.specs.declared.frame.FreeFrame.{FreeFrame}
use Rattle.tree_specs.specs.declared.frame.FreeFrame.TheVariants.{Preparing, Draining}
use Rattle.tree_specs.specs.declared.free_step.FreeReply.{FreeReply}
use Rattle.tree_specs.specs.declared.free_step.FreeStep.{FreeStep}
use Rattle.tree_specs.specs.declared.free_step.FreeStep.TheVariants.{Ask as AskOf, Prepare, Drain, Done}
use Rattle.tree_specs.specs.declared.object.Obj.{Obj}
use Rattle.tree_specs.specs.declared.question.Ask.TheVariants.{Routine}
use Rattle.tree_specs.specs.Rules.Answers.{hook_moment}
use Rattle.tree_specs.specs.Tree.Pool.{Pool, row_of}
use Rattle.tree_specs.specs.Invariants.Sound.{HasHook}
use Rattle.tree_specs.specs.Invariants.Consistent.{IsConsistent}
use Rattle.destructors.specs.Engine.{IsPreparing}
use Rattle.destructors.specs.Frees.{OpenFrees, moves, Silently, Steps}
use Rattle.tree_specs.proofs.Tree.Numbered.{by_test}
use Rattle.tree_specs.specs.Machine.FreeTable.{FreeMove, free_step}
use Rattle.tree_specs.specs.Machine.Table.{event_of, run_for}
use Rattle.tree_specs.specs.declared.frame.Frame.{Frame}
use Rattle.tree_specs.specs.declared.row.Row.{Row}
use Rattle.tree_specs.specs.Invariants.Sound.{AllWait}
use Rattle.tree_specs.specs.Invariants.Consistent.{IsStacked}
use Rattle.tree_specs.specs.Invariants.Noted.{AllCalm}
use Rattle.destructors.specs.Frees.{awaits_run}
use Rattle.destructors.specs.Frees.{moved as free_moved, answered as frees_answered}
use Rattle.destructors.proofs.FreeMoves.{IsMoveOf, is_move}
use Rattle.destructors.specs.Runs.{IsNews, AsksFor}
use Rattle.destructors.specs.Works.{IsAtWork, IsAwaiting, GoesOn}
use Rattle.destructors.proofs.Hosting.{AwaitsRun, awaiting-runs}
use Rattle.object_pool.specs.Objects.{Objects, frees_in, MayBeginFree}
use Rattle.object_pool.specs.Requests.{count_unreceived}
use Rattle.host_core.specs.declared.active.Active.TheVariants as active
use Rattle.host_core.specs.declared.answer.Answer.TheVariants.{Freed}
use Rattle.host_core.specs.declared.caller.Caller.{Caller}
use Rattle.host_core.specs.declared.parts.Parts.{Parts}
use Rattle.host_core.specs.declared.waiting.Waiting.{Waiting}
use Rattle.host_core.specs.declared.waiting.Waiting.TheVariants.{Freeing}
use Rattle.host_core.specs.declared.work.Work.{Work}
use Rattle.host_core.specs.declared.work.Work.TheVariants.{Receiving, Vacating}
use Rattle.host_core.specs.Callers.{frame_of}
use Rattle.host_core.specs.Places.{count_undrained, drains_after, drains_of, owed, work_places}
use Rattle.host_core.specs.Requests.{WorkReady}
use Rattle.host_core.specs.Stacks.{work_frame, standing, Fits, FreesFit, other_view, freeing_view}
use Rattle.host_core.specs.Hosts.{host_view, speaking_view, StepsSilently, IsBetweenSteps}
use Rattle.host_core.specs.Going.{with_objects, ended_view, is_news, Answers, CameFrom, LeadsToEnd}
use Rattle.host_core.proofs.Draining.{DrainsAfter, moves-fewer, silently-fewer, try-below}
use Rattle.host_core.proofs.Emptied.{may-forget}
use Rattle.host_core.proofs.FreeSteps.{step-news, step-asks, step-prepares, step-ends, ends-there}
use Rattle.host_core.proofs.KeptPlace.{one_more}
use Rattle.host_core.proofs.Going.{may_free_on, pushed, below-begun, FitAfter, fit-next, fits-silently}
use Rattle.host_core.proofs.Ending.{freed-answers}

-- ---- the free that makes the step, and those below it

module _ (f : FreeFrame) (fs : List FreeFrame) (ws : List Waiting) (p : Pool) (new : OpenFrees) (h : IsConsistent (freeing_view (f ∷ fs) ws p)) where
  pub step-fits : (t : FreeStep) → FreesFit (f ∷ fs) ws → Steps (record { works = f ∷ fs; pool = p }) t new → FitAfter (Some t, new) ws
  step-fits t e s = each t s (subst (λ (z : Option FreeStep). FitAfter (z, (moves (f ∷ fs) p).1) ws) s.tells (fit-next f fs p ws e))
    where
      each : (t : FreeStep) → Steps (record { works = f ∷ fs; pool = p }) t new → FitAfter (Some t, (moves (f ∷ fs) p).1) ws → FitAfter (Some t, new) ws
      each (Done a) s k = subst (λ (z : OpenFrees). Fits z.works ws) (ends-there f fs ws p new h a s) k
      each _ s k = fits-silently (moves (f ∷ fs) p).1 new ws s.moves_on k

  -- frees come to no more queues than they might before
  pub step-fewer : (t : FreeStep) → Steps (record { works = f ∷ fs; pool = p }) t new → DrainsAfter (drains_after f p.rows) (Some t, new)
  step-fewer t s = each t s (subst (λ (z : Option FreeStep). DrainsAfter (drains_after f p.rows) (z, (moves (f ∷ fs) p).1)) s.tells (moves-fewer f fs p (try-below fs ws h.sound.waiting)))
    where
      later : DrainsAfter (drains_after f p.rows) (None, (moves (f ∷ fs) p).1) → Silently (moves (f ∷ fs) p).1 new → DrainsAfter (drains_after f p.rows) (None, new)
      later d on = let l = silently-fewer (moves (f ∷ fs) p).1 new on d.1 in let first = d.0 in let second = l.0 in (omega (arith, first, second), l.1)

      each : (t : FreeStep) → Steps (record { works = f ∷ fs; pool = p }) t new → DrainsAfter (drains_after f p.rows) (Some t, (moves (f ∷ fs) p).1) → DrainsAfter (drains_after f p.rows) (Some t, new)
      each (Done a) s d = subst (λ (z : OpenFrees). count_undrained z.pool.rows ≤ drains_after f p.rows) (ends-there f fs ws p new h a s) d
      each _ s d = later d s.moves_on

  -- when a free is over those below it are as they were
  ends-below : (a : FreeReply) → Steps (record { works = f ∷ fs; pool = p }) (Done a) new → new.works ≡ fs
  ends-below a s = ap (λ (z : OpenFrees). z.works) (sym (ends-there f fs ws p new h a s)) ∙ each (free_step f p) (is_move f p) s.tells
    where
      over : (b : FreeReply) (q : Pool) (gs : List FreeFrame) → (frees_answered b q gs).0 ≡ Some (Done a) → (frees_answered b q gs).1.works ≡ gs
      over b q [] e = refl
      over b q (g ∷ gs) e = by_test (awaits_run g)
          (λ u. rw u refl)
          (λ u. let e' : (let z : Option FreeStep = None in z) ≡ Some (Done a) = rw u at e in cc)

      each : (m : FreeMove) → IsMoveOf f p m → (free_moved m fs).0 ≡ Some (Done a) → (free_moved m fs).1.works ≡ fs
      each (Do.Done b q) of e = over b q fs e
      each (Do.Go g q) of e = cc
      each (Do.Call g k q) of e = cc
      each (Do.Emit t g q) of e = absurd (no-news (let is : t ≡ Done a = cc in subst IsNews is of))
        where
          no-news : IsNews (Done a) → ⊥
          no-news n = n
      each (Do.Wait t g q) of e = absurd (let is : t ≡ Done a = cc in subst (λ (z : FreeStep). AsksFor z f) is of.2)

-- a step that doesn't end the free
pub goes-on-fewer : (n : ℕ) (t : FreeStep) (s : OpenFrees) → ((a : FreeReply) → t ≡ Done a → ⊥) → DrainsAfter n (Some t, s) → drains_of s.works s.pool.rows ≤ n
goes-on-fewer n (Done a) s goes d = absurd (goes a refl)
goes-on-fewer n _ s goes d = d.0

pub is-news : (t : FreeStep) → is_news t ≡ true → IsNews t
is-news (AskOf x) e = cc
is-news (Prepare x) e = cc
is-news (Drain x) e = cc
is-news (Done a) e = cc
is-news _ e = tt

pub news-work : (t : FreeStep) (s : OpenFrees) → IsNews t → GoesOn t s → IsAtWork s
news-work (AskOf x) s n g = absurd n
news-work (Prepare x) s n g = absurd n
news-work (Drain x) s n g = absurd n
news-work (Done a) s n g = absurd n
news-work _ s n g = g

pub asks-fit : (t : FreeStep) (g : FreeFrame) (s : OpenFrees) (ws : List Waiting) → AsksFor t g → FitAfter (Some t, s) ws → FreesFit s.works ws
asks-fit (Done a) g s ws n e = absurd n
asks-fit _ g s ws n e = e

pub news-fit : (t : FreeStep) (s : OpenFrees) (ws : List Waiting) → IsNews t → FitAfter (Some t, s) ws → FreesFit s.works ws
news-fit (AskOf x) s ws n e = absurd n
news-fit (Prepare x) s ws n e = absurd n
news-fit (Drain x) s ws n e = absurd n
news-fit (Done a) s ws n e = absurd n
news-fit _ s ws n e = e

-- ---- the work that comes before a freeing

-- a step of this free asks for this work, and waits for it
pub record ComesBefore (work : Work) (asked : FreeStep) (g : FreeFrame) : Type 0 where
  pub asks : AsksFor asked g
  pub waits : IsPreparing (Some g)
  pub runs : run_for g ≡ frame.Request (work_frame work)
  pub silent : (p : Pool) → event_of p.ring asked ≡ None
  pub may : (o : Objects) → MayBeginFree o → WorkReady work o
  pub few : (rows : List Row) → work_places work + 2 * count_undrained rows ≤ 1 + 2 * drains_after g rows

-- a request is received before
pub receiving-before : (x : Obj) → ComesBefore (Receiving x) (Prepare x) (Preparing x)
receiving-before x = record { asks = refl; waits = tt; runs = refl; silent = λ p. refl; may = λ o may. may; few = λ rows. omega arith }

-- a queue has no entries before
pub vacating-before : (queue : Obj) → ComesBefore (Vacating queue) (Drain queue) (Draining queue)
vacating-before queue = record { asks = refl; waits = tt; runs = refl; silent = λ p. refl; may = λ o may. may; few = λ rows. omega arith }

-- ---- a host whose innermost free makes a step that tells no event

module _ (old : Parts) (o : Objects) (had : IsBetweenSteps active.Freeing old) (quiet : speaking_view (host_view active.Freeing old) ≡ false)
    (requests : count_unreceived o.pool.requests ≤ count_unreceived old.objects.pool.requests) where
  abbrev ws : List Waiting
  ws = reverse old.waiting.items

  abbrev p : Pool
  p = old.objects.pool

  -- what a step of any free has shown
  abbrev Shows : FreeStep → Type 0 → Type 0
  Shows t A = (f : FreeFrame) (fs : List FreeFrame) → FreesFit (f ∷ fs) ws → IsConsistent (freeing_view (f ∷ fs) ws p) → speaking_view (freeing_view (f ∷ fs) ws p) ≡ false
      → old.objects.works ≡ f ∷ fs → Steps (record { works = f ∷ fs; pool = p }) t (frees_in o) → A

  shown : (A : Type 0) (t : FreeStep) → Steps (frees_in old.objects) t (frees_in o) → Shows t A → A
  shown A t s shows = each old.objects.works refl had.fit had.whole quiet s
    where
      each : (works : List FreeFrame) → old.objects.works ≡ works → FreesFit works ws → IsConsistent (freeing_view works ws p) → speaking_view (freeing_view works ws p) ≡ false → Steps (record { works = works; pool = p }) t (frees_in o) → A
      each [] k e w q s = absurd e.0
      each (f ∷ fs) k e w q s = shows f fs e w q k s

  pub news_onward : (t : FreeStep) → Steps (frees_in old.objects) t (frees_in o) → IsNews t → StepsSilently (host_view active.Freeing old) (freeing_view o.works ws o.pool)
  news_onward t s n = shown (StepsSilently (host_view active.Freeing old) (freeing_view o.works ws o.pool)) t s
      (λ f fs e w q k s. subst (λ (fs : List FreeFrame). StepsSilently (freeing_view fs ws p) (freeing_view o.works ws o.pool)) (sym k) (step-news f fs ws p (frees_in o) w t s n q))

  -- after its step the open frees come to no more queues
  pub drained : (t : FreeStep) → Steps (frees_in old.objects) t (frees_in o) → DrainsAfter (drains_of old.objects.works p.rows) (Some t, frees_in o)
  drained t s = shown (DrainsAfter (drains_of old.objects.works p.rows) (Some t, frees_in o)) t s
      (λ f fs e w q k s. subst (λ (fs : List FreeFrame). DrainsAfter (drains_of fs p.rows) (Some t, frees_in o)) (sym k) (step-fewer f fs ws p (frees_in o) w t s))

  no-end : (t : FreeStep) → IsNews t → (a : FreeReply) → t ≡ Done a → ⊥
  no-end t n a e = none (subst IsNews e n)
    where
      none : IsNews (Done a) → ⊥
      none n = n

  pub news_ready : (t : FreeStep) → Steps (frees_in old.objects) t (frees_in o) → IsNews t → GoesOn t (frees_in o) → IsBetweenSteps active.Freeing (record { waiting = old.waiting; objects = o })
  news_ready t s n goes = record {
    whole = (news_onward t s n).along.whole;
    fit = shown (FreesFit o.works ws) t s (λ f fs e w q k s. news-fit t (frees_in o) ws n (step-fits f fs ws p (frees_in o) w t e s));
    ready = record { at_work = news-work t (frees_in o) n goes; settled = s.settles; forgettable = may-forget o.works ws o.pool (news_onward t s n).along.whole };
    places = (let room = had.places in let fewer = requests in let drains = goes-on-fewer _ t (frees_in o) (no-end t n) (drained t s) in omega (arith, room, fewer, drains));
  }

  pub asks_onward : (x : Obj) (c : Caller) (new : Parts) → new.objects ≡ o → new.waiting.items ≡ old.waiting.items ++ Freeing ∷ [] → Steps (frees_in old.objects) (AskOf x) (frees_in o)
      → ((g : ℕ) → HasHook (row_of o.pool.rows x) g → frame_of c ≡ Asking (Routine (hook_moment x g))) → StepsSilently (host_view active.Freeing old) (host_view (active.Caller c) new)
  asks_onward x c new same push s runs =
      rw (same, pushed old.waiting.items new.waiting.items Freeing push)
      (shown (StepsSilently (host_view active.Freeing old) (other_view (frame.Call (frame_of c)) o.works (Freeing ∷ ws) o.pool)) (AskOf x) s
      (λ f fs e w q k s.
      let a = step-asks f fs ws p (frees_in o) w x s in
      let on : StepsSilently (freeing_view (f ∷ fs) ws p) (other_view (frame.Call (frame_of c)) o.works (Freeing ∷ ws) o.pool) = rw (runs a.0 a.1) a.2 in
      subst (λ (fs : List FreeFrame). StepsSilently (freeing_view fs ws p) (other_view (frame.Call (frame_of c)) o.works (Freeing ∷ ws) o.pool)) (sym k) on))

  marked : (t : FreeStep) (new : Parts) → new.objects ≡ o → new.waiting.items ≡ old.waiting.items ++ Freeing ∷ [] → FreesFit o.works ws → Fits new.objects.works (reverse new.waiting.items)
  marked t new same push e = rw (same, pushed old.waiting.items new.waiting.items Freeing push) e

  pub asks_ready : (x : Obj) (c : Caller) (new : Parts) → new.objects ≡ o → new.waiting.items ≡ old.waiting.items ++ Freeing ∷ [] → Steps (frees_in old.objects) (AskOf x) (frees_in o)
      → ((g : ℕ) → HasHook (row_of o.pool.rows x) g → frame_of c ≡ Asking (Routine (hook_moment x g))) → IsBetweenSteps (active.Caller c) new
  asks_ready x c new same push s runs = record {
    whole = (asks_onward x c new same push s runs).along.whole;
    fit = marked (AskOf x) new same push (shown (FreesFit o.works ws) (AskOf x) s (λ f fs e w q k s. step-fits f fs ws p (frees_in o) w (AskOf x) e s));
    ready = tt;
    places = tt;
  }

  -- what comes before the freeing of a request, or of a queue, begins as this work
  module _ (asked : FreeStep) (g : FreeFrame) (work : Work) (before : ComesBefore work asked g) (new : Parts)
      (same : new.objects ≡ o) (push : new.waiting.items ≡ old.waiting.items ++ Freeing ∷ []) (steps : Steps (frees_in old.objects) asked (frees_in o)) where
    prepares-onward : StepsSilently (host_view active.Freeing old) (host_view (active.Requesting work) new)
    prepares-onward =
        rw (same, pushed old.waiting.items new.waiting.items Freeing push)
        (shown (StepsSilently (host_view active.Freeing old) (other_view (frame.Request (work_frame work)) o.works (Freeing ∷ ws) o.pool)) asked steps
        (λ f fs e w q k s.
        let on : StepsSilently (freeing_view (f ∷ fs) ws p) (other_view (frame.Request (work_frame work)) o.works (Freeing ∷ ws) o.pool) = subst (λ (z : Frame). StepsSilently (freeing_view (f ∷ fs) ws p) (other_view z o.works (Freeing ∷ ws) o.pool)) before.runs (step-prepares f fs ws p (frees_in o) w asked g before.asks before.waits (before.silent p) s).1 in
        subst (λ (fs : List FreeFrame). StepsSilently (freeing_view fs ws p) (other_view (frame.Request (work_frame work)) o.works (Freeing ∷ ws) o.pool)) (sym k) on))

    -- the free waits that has asked for it
    first : (fs : List FreeFrame) × (o.works ≡ g ∷ fs)
    first = shown ((fs : List FreeFrame) × (o.works ≡ g ∷ fs)) asked steps
        (λ f fs e w q k s. (fs, ap (λ (z : OpenFrees). z.works) (step-prepares f fs ws p (frees_in o) w asked g before.asks before.waits (before.silent p) s).0))

    no-answer : (a : FreeReply) → asked ≡ Done a → ⊥
    no-answer a e = none (subst (λ (z : FreeStep). AsksFor z g) e before.asks)
      where
        none : AsksFor (Done a) g → ⊥
        none n = n

    prepares-ready : vec_capacity new.waiting ≡ vec_capacity old.waiting → IsBetweenSteps (active.Requesting work) new
    prepares-ready cap =
        let counts : owed new.objects.pool ≡ owed o.pool = ap (λ (z : Objects). owed z.pool) same in
        let n = one_more old.waiting.items new.waiting.items Freeing push in
        let room = had.places in
        let fewer = requests in
        let takes = before.few o.pool.rows in
        let drains : drains_after g o.pool.rows ≤ drains_of old.objects.works p.rows = subst (λ (fs : List FreeFrame). drains_of fs o.pool.rows ≤ drains_of old.objects.works p.rows) first.1 (goes-on-fewer _ asked (frees_in o) no-answer (drained asked steps)) in
        record {
          whole = prepares-onward.along.whole;
          fit = marked asked new same push (shown (FreesFit o.works ws) asked steps (λ f fs e w q k s. asks-fit asked g (frees_in o) ws before.asks (step-fits f fs ws p (frees_in o) w asked e s)));
          ready = rw same (before.may o (inr (may_free_on (slice_get o.works 0) (subst (λ (fs : List FreeFrame). IsPreparing (slice_get fs 0)) (sym first.1) before.waits))));
          places = omega (arith, room, fewer, cap, n, counts, takes, drains);
        }

  ends-onward : (a : FreeReply) → Steps (frees_in old.objects) (Done a) (frees_in o) → StepsSilently (host_view active.Freeing old) (ended_view (Freed a) (record { waiting = old.waiting; objects = o }))
  ends-onward a s = shown (StepsSilently (host_view active.Freeing old) (ended_view (Freed a) (record { waiting = old.waiting; objects = o }))) (Done a) s
      (λ f fs e w q k s.
      subst (λ (fs : List FreeFrame). StepsSilently (freeing_view fs ws p) (ended_view (Freed a) (record { waiting = old.waiting; objects = o }))) (sym k) (step-ends f fs ws p (frees_in o) w a s))

  ends-answers : (a : FreeReply) → Steps (frees_in old.objects) (Done a) (frees_in o) → GoesOn (Done a) (frees_in o) → Answers (Freed a) ws o
  ends-answers a s goes = shown (Answers (Freed a) ws o) (Done a) s
      (λ f fs e w q k s.
      let runs : AwaitsRun o.works = awaiting-runs o.works o.pool goes in
      let are : o.works ≡ fs = ends-below f fs ws p (frees_in o) w a s in
      let runs' : AwaitsRun fs = subst AwaitsRun are runs in
      let stands = below-begun fs ws runs' in
      let waits : AllWait (standing fs ws) = rw stands at w.sound.waiting in
      let seated : IsStacked (frame.Free f) (standing fs ws) = rw stands at w.seated in
      let calm : AllCalm (standing fs ws) = rw stands at w.calm.1 in
      let fits : Fits fs ws = subst (λ (z : List FreeFrame). Fits z ws) are (step-fits f fs ws p (frees_in o) w (Done a) e s) in
      freed-answers f fs ws a o are runs' fits waits seated calm)

  ends-leads : (a : FreeReply) → Steps (frees_in old.objects) (Done a) (frees_in o) → GoesOn (Done a) (frees_in o) → LeadsToEnd (host_view active.Freeing old) (Freed a) (record { waiting = old.waiting; objects = o })
  ends-leads a s goes =
      let room = had.places in
      let fewer = requests in
      let drains = drained (Done a) s in
      record {
        onward = ends-onward a s;
        may = record {
          answers = ends-answers a s goes;
          whole = (ends-onward a s).along.whole;
          fit = shown (Fits o.works ws) (Done a) s (λ f fs e w q k s. step-fits f fs ws p (frees_in o) w (Done a) e s);
          places = omega (arith, room, fewer, drains);
        };
      }

-- ---- by where a step has come from

-- the work that comes before is at work, and the free waits for it
module _ {asked : FreeStep} {g : FreeFrame} {work : Work} (before : ComesBefore work asked g) (o : Objects) (parts : Parts) (step : FreeStep) (is : step ≡ asked) (came : CameFrom o step parts)
    (new : Parts) (same : new.objects ≡ parts.objects) (push : new.waiting.items ≡ parts.waiting.items ++ Freeing ∷ []) where
  here : CameFrom o asked parts
  here = subst (λ (t : FreeStep). CameFrom o t parts) is came

  pub before_onward : StepsSilently (host_view active.Freeing (with_objects o parts)) (host_view (active.Requesting work) new)
  before_onward = prepares-onward (with_objects o parts) parts.objects here.ready here.quiet here.requests asked g work before new same push here.steps

  pub before_ready : vec_capacity new.waiting ≡ vec_capacity parts.waiting → IsBetweenSteps (active.Requesting work) new
  before_ready cap = prepares-ready (with_objects o parts) parts.objects here.ready here.quiet here.requests asked g work before new same push here.steps cap

-- the free is over
pub free_leads : (o : Objects) (parts : Parts) (step : FreeStep) (a : FreeReply) → step ≡ Done a → CameFrom o step parts → LeadsToEnd (host_view active.Freeing (with_objects o parts)) (Freed a) parts
free_leads o parts step a is came =
    let k = subst (λ (t : FreeStep). CameFrom o t parts) is came in
    ends-leads (with_objects o parts) parts.objects k.ready k.quiet k.requests a k.steps k.goes_on

-- it was over, and is ended with no step of its own
pub over_leads : (old : Parts) (o : Objects) (a : FreeReply) → IsBetweenSteps active.Freeing old → speaking_view (host_view active.Freeing old) ≡ false → Steps (frees_in old.objects) (Done a) (frees_in o) → IsAwaiting (frees_in o)
    → o.pool.requests ≡ old.objects.pool.requests → LeadsToEnd (host_view active.Freeing old) (Freed a) (record old { objects = o })
over_leads old o a ready quiet steps awaits same =
    let requests = ap count_unreceived same in
    free_leads old.objects (record old { objects = o }) (Done a) a refl (record { ready = ready; quiet = quiet; steps = steps; goes_on = awaits; requests = omega (arith, requests) })
