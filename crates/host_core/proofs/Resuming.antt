-- What waited for a work goes on once it is over.
use Rattle.std.proofs.Common.{◌≡◌, ℕ, ◌+◌, ◌*◌, ◌≤◌, inl, inr, List, [], ◌∷◌, ◌++◌, reverse, true, refl, sym, ◌∙◌, ap, subst, arith}
use Rattle.std.specs.Prelude.{slice_get, vec_capacity}
use Rattle.step_machine.specs.Machine.{Move as Do}
use Rattle.tree_specs.specs.declared.frame.Frame.{Frame}
use Rattle.tree_specs.specs.declared.frame.FreeFrame.{FreeFrame}
use Rattle.tree_specs.specs.declared.frame.FreeFrame.TheVariants.{Hooked, Preparing, Draining}
use Rattle.tree_specs.specs.declared.frame.Errand.{Errand}
use Rattle.tree_specs.specs.declared.frame.Errand.TheVariants.{Receive}
use Rattle.tree_specs.specs.declared.frame.RequestFrame.TheVariants as request
use Rattle.tree_specs.specs.declared.object.Obj.{Obj}
use Rattle.tree_specs.specs.declared.frame.TurnFrame.{TurnFrame}
use Rattle.tree_specs.specs.declared.frame.TurnFrame.TheVariants.{Handling, Clearing, Serving, Parting}
use Rattle.tree_specs.specs.declared.reply.Reply.{Reply}
use Rattle.tree_specs.specs.declared.moment.What.TheVariants.{Cleanup, Cancel}
use Rattle.tree_specs.specs.Machine.Table.{resume, turn_resume, request_resume}
use Rattle.tree_specs.specs.Machine.View.{View}
use Rattle.tree_specs.specs.Invariants.Consistent.{IsConsistent}
use Rattle.destructors.specs.Engine.{IsAsked, IsPreparing}
use Rattle.destructors.specs.Frees.{OpenFrees, returned, prepared, speaking, Silently, Still, Begins}
use Rattle.destructors.specs.Works.{IsAtWork}
use Rattle.tree_specs.specs.declared.row.Mark.TheVariants.{Quiet}
use Rattle.tree_specs.specs.Tree.Pool.{marked_row}
use Rattle.object_pool.specs.Objects.{Objects, frees_in, MayBeginFree}
use Rattle.object_pool.specs.Requests.{count_unreceived}
use Rattle.host_core.specs.declared.active.Active.{Active}
use Rattle.host_core.specs.declared.active.Active.TheVariants as active
use Rattle.host_core.specs.declared.answer.Answer.{Answer}
use Rattle.host_core.specs.declared.answer.Answer.TheVariants.{Freed, Returned, Heard}
use Rattle.host_core.specs.declared.parts.Parts.{Parts}
use Rattle.host_core.specs.declared.waiting.Waiting.{Waiting}
use Rattle.host_core.specs.declared.waiting.Waiting.TheVariants.{Freeing, Turn, Work as WorkOf}
use Rattle.host_core.specs.declared.work.Work.{Work}
use Rattle.host_core.specs.declared.work.Work.TheVariants as work
use Rattle.host_core.specs.Requests.{WorkReady, ErrandReady}
use Rattle.host_core.specs.Stacks.{waiting_frame, work_frame, active_frame, answer_of, standing, Fits, FreesFit, other_view, freeing_view}
use Rattle.host_core.specs.Steps.{IsOther, IsWaiter}
use Rattle.host_core.specs.Places.{count_undrained, drains_of, owed, places, errand_places, turn_places, work_places, own_place, taken_places}
use Rattle.host_core.specs.Hosts.{host_view, moved, FrameReady, PartsReady, TellsSameStory, IsBetweenSteps}
use Rattle.host_core.specs.Going.{AnswersTo, Answers, resumed_works, answer_places, ended_view, MayEnd}
use Rattle.host_core.proofs.Draining.{TryBelow, changed-most, without-fewer, silently-fewer, try-below}
use Rattle.host_core.proofs.Emptied.{may-forget}
use Rattle.host_core.proofs.StepsSilently.{stays}
use Rattle.host_core.proofs.FreeSteps.{silently-along}
use Rattle.host_core.proofs.KeptPlace.{one_fewer}
use Rattle.host_core.proofs.Going.{may_free_on, other-seen, other-fit, has-places, pushed, below-waiter, fits-silently}

-- ---- the open frees

pub returned_begins : (v : ℕ) (o new : Objects) → IsAsked (slice_get o.works 0) → new ≡ record o { works = returned v (frees_in o) } → speaking (frees_in new) ≡ true → Begins (resumed_works (Returned v) o.works) o.pool (frees_in new)
returned_begins v o new a e s = record { moves_on = rw e (each o.works a); settles = s }
  where
    each : (fs : List FreeFrame) → IsAsked (slice_get fs 0) → Silently (record { works = resumed_works (Returned v) fs; pool = o.pool }) (record { works = returned v (record { works = fs; pool = o.pool }); pool = o.pool })
    each [] a = absurd a
    each (Hooked x h ∷ fs) a = Still
    each (f ∷ fs) a = absurd a

pub prepared_begins : (a : Answer) (o new : Objects) → IsPreparing (slice_get o.works 0) → Begins (prepared o.works) o.pool (frees_in new) → Begins (resumed_works a o.works) o.pool (frees_in new)
prepared_begins a o new r b = subst (λ (z : List FreeFrame). Begins z o.pool (frees_in new)) (each o.works r) b
  where
    each : (fs : List FreeFrame) → IsPreparing (slice_get fs 0) → prepared fs ≡ resumed_works a fs
    each [] r = absurd r
    each (Preparing x ∷ fs) r = refl
    each (Draining x ∷ fs) r = refl
    each (f ∷ fs) r = absurd r

-- ---- the innermost of the works that wait

answers-popped : (a : Answer) (w : Waiting) (old new : List Waiting) (o : Objects) → Answers a (reverse old) o → old ≡ new ++ w ∷ [] → AnswersTo a w o
answers-popped a w old new o r e =
    let same : r.first ∷ r.others ≡ w ∷ reverse new = sym r.are ∙ pushed new old w e in
    let first : r.first ≡ w = cc in
    subst (λ (z : Waiting). AnswersTo a z o) first r.answers

-- ---- whoever waited

module _ (a : Answer) (w : Waiting) (next : Active) (old new : Parts) (waits : IsWaiter w) (other : IsOther next) (popped : old.waiting.items ≡ new.waiting.items ++ w ∷ [])
    (same : new.objects ≡ old.objects) (resumed : active_frame next ≡ resume (waiting_frame w) (answer_of a)) (may : MayEnd a old) where
  abbrev ws : List Waiting
  ws = reverse new.waiting.items

  turned : reverse old.waiting.items ≡ w ∷ ws
  turned = pushed new.waiting.items old.waiting.items w popped

  leads : ended_view a old ≡ host_view next new
  leads =
      ap (λ (l : List Waiting). (moved (Do.Done (answer_of a) old.objects.pool) (standing old.objects.works l)).1) turned
      ∙ ap (λ (l : List Frame). (moved (Do.Done (answer_of a) old.objects.pool) l).1) (below-waiter old.objects.works w ws waits).0
      ∙ ap (λ (g : Frame). other_view g old.objects.works ws old.objects.pool) (sym resumed)
      ∙ ap (λ (o : Objects). other_view (active_frame next) o.works ws o.pool) (sym same)
      ∙ sym (other-seen next new.objects.works ws new.objects.pool other)

  pub end_along : TellsSameStory (ended_view a old) (host_view next new)
  end_along = subst (TellsSameStory (ended_view a old)) leads (stays (ended_view a old) may.whole)

  pub end_ready : PartsReady next new.objects → places next ≤ own_place w + answer_places a → vec_capacity new.waiting ≡ vec_capacity old.waiting → IsBetweenSteps next new
  end_ready ready few cap =
      let room = may.places in
      let fit' : Fits old.objects.works (w ∷ ws) = subst (Fits old.objects.works) turned may.fit in
      let fits : Fits new.objects.works ws = subst (λ (o : Objects). Fits o.works ws) (sym same) ((below-waiter old.objects.works w ws waits).2 fit') in
      let n = one_fewer old.waiting.items new.waiting.items w popped in
      let counts : owed new.objects.pool ≡ owed old.objects.pool = ap (λ (o : Objects). owed o.pool) same in
      record {
        whole = subst IsConsistent leads may.whole;
        fit = other-fit next new.objects.works ws other fits;
        ready = ready;
        places = has-places next (taken_places new.waiting.items) new.objects (vec_capacity new.waiting) other (omega (arith, few, room, cap, n, counts));
      }

-- what waited is given this answer
pub end_answers : (a : Answer) (w : Waiting) (old new : Parts) → MayEnd a old → old.waiting.items ≡ new.waiting.items ++ w ∷ [] → AnswersTo a w old.objects
end_answers a w old new may popped = answers-popped a w old.waiting.items new.waiting.items old.objects may.answers popped

-- ---- the open frees, which waited

-- the places that the open frees may take then
again-places : (a : Answer) (o : Objects) → AnswersTo a Freeing o → 2 + 2 * drains_of (resumed_works a o.works) o.pool.rows ≤ 1 + answer_places a + 2 * count_undrained o.pool.rows
again-places (Returned v) o e = each o.works e.0
  where
    each : (fs : List FreeFrame) → IsAsked (slice_get fs 0) → 2 + 2 * drains_of (resumed_works (Returned v) fs) o.pool.rows ≤ 5 + 2 * count_undrained o.pool.rows
    each [] a = absurd a
    each (Hooked x h ∷ fs) a = let n = changed-most (marked_row Quiet) o.pool.rows x in omega (arith, n)
    each (f ∷ fs) a = absurd a
again-places (Heard r) o e = each o.works e.0
  where
    each : (fs : List FreeFrame) → IsPreparing (slice_get fs 0) → 2 + 2 * drains_of (resumed_works (Heard r) fs) o.pool.rows ≤ 2 + 2 * count_undrained o.pool.rows
    each [] i = absurd i
    each (Preparing x ∷ fs) i = let n = without-fewer o.pool.rows x in omega (arith, n)
    each (Draining x ∷ fs) i = let n = without-fewer o.pool.rows x in omega (arith, n)
    each (f ∷ fs) i = absurd i
again-places _ o e = absurd e

module _ (a : Answer) (old new : Parts) (popped : old.waiting.items ≡ new.waiting.items ++ Freeing ∷ []) (begins : Begins (resumed_works a old.objects.works) old.objects.pool (frees_in new.objects))
    (may : MayEnd a old) where
  abbrev free_ws : List Waiting
  free_ws = reverse new.waiting.items

  free-turned : reverse old.waiting.items ≡ Freeing ∷ free_ws
  free-turned = pushed new.waiting.items old.waiting.items Freeing popped

  free-fits : Fits old.objects.works (Freeing ∷ free_ws)
  free-fits = subst (Fits old.objects.works) free-turned may.fit

  abbrev resumed_frees : OpenFrees
  resumed_frees = record { works = resumed_works a old.objects.works; pool = old.objects.pool }

  free-leads : ended_view a old ≡ freeing_view resumed_frees.works free_ws resumed_frees.pool
  free-leads =
      ap (λ (l : List Waiting). (moved (Do.Done (answer_of a) old.objects.pool) (standing old.objects.works l)).1) free-turned
      ∙ each old.objects.works free-fits
    where
      each : (fs : List FreeFrame) → Fits fs (Freeing ∷ free_ws) → (moved (Do.Done (answer_of a) old.objects.pool) (standing fs (Freeing ∷ free_ws))).1 ≡ freeing_view (resumed_works a fs) free_ws old.objects.pool
      each [] e = absurd e.0
      each (f ∷ fs) e = refl

  pub again_along : TellsSameStory (ended_view a old) (host_view active.Freeing new)
  again_along =
      subst (λ (z : View). TellsSameStory z (host_view active.Freeing new)) (sym free-leads)
      (silently-along resumed_frees (frees_in new.objects) free_ws begins.moves_on (subst IsConsistent free-leads may.whole))

  pub again_ready : IsAtWork (frees_in new.objects) → speaking (frees_in new.objects) ≡ true → new.objects.pool.requests ≡ old.objects.pool.requests → vec_capacity new.waiting ≡ vec_capacity old.waiting
      → IsBetweenSteps active.Freeing new
  again_ready at settled requests cap =
      let few = again-places a old.objects (end_answers a Freeing old new may popped) in
      let room = may.places in
      let n = one_fewer old.waiting.items new.waiting.items Freeing popped in
      let counts = ap count_unreceived requests in
      let below : TryBelow (resumed_works a old.objects.works) = tries (resumed_works a old.objects.works) (subst IsConsistent free-leads may.whole) in
      let fewer = (silently-fewer resumed_frees (frees_in new.objects) begins.moves_on below).0 in
      record {
        whole = again_along.whole;
        fit = fits-silently resumed_frees (frees_in new.objects) free_ws begins.moves_on (each old.objects.works free-fits);
        ready = record { at_work = at; settled = settled; forgettable = may-forget new.objects.works free_ws new.objects.pool again_along.whole };
        places = omega (arith, few, room, cap, n, counts, fewer);
      }
    where
      each : (fs : List FreeFrame) → Fits fs (Freeing ∷ free_ws) → FreesFit (resumed_works a fs) free_ws
      each [] e = absurd e.0
      each (f ∷ fs) e = e

      tries : (fs : List FreeFrame) → IsConsistent (freeing_view fs free_ws old.objects.pool) → TryBelow fs
      tries [] h = tt
      tries (f ∷ fs) h = try-below fs free_ws h.sound.waiting

-- ---- what a turn or the work of a request may want then

pub turn_ready : (a : Answer) (t : TurnFrame) (o : Objects) → AnswersTo a (Turn t) o → FrameReady (turn_resume t) o × (turn_places (turn_resume t) ≤ own_place (Turn t) + answer_places a)
turn_ready (Freed r) (Clearing x) o e = (e, omega arith)
turn_ready (Freed r) (Parting x v) o e = (e, omega arith)
turn_ready (Returned v) (Handling what x handler occasion) o e = (e, omega arith)
turn_ready (Heard r) (Serving x) o e = (e, omega arith)
turn_ready _ _ o e = absurd e

errand-ready : (errand : Errand) (o : Objects) → o.ready ≡ true → ErrandReady errand o × (errand_places errand ≤ 3)
errand-ready Receive o e = (inl e, omega arith)
errand-ready _ o e = (e, omega arith)

over-ready : (r : Work) (reply : Reply) (o : Objects) → work_frame r ≡ request.Over reply → WorkReady r o × (work_places r ≤ 1)
over-ready (work.Over b) reply o e = (tt, omega arith)
over-ready _ reply o e = cc

vacating-ready : (r : Work) (queue : Obj) (o : Objects) → MayBeginFree o → work_frame r ≡ request.Vacating queue → WorkReady r o × (work_places r ≤ 3)
vacating-ready (work.Vacating q) queue o may k = (may, omega arith)
vacating-ready _ queue o may k = cc

cleaned-ready : (r : Work) (x : Obj) (errand : Errand) (o : Objects) → o.ready ≡ true → work_frame r ≡ request.Cleaned x errand → WorkReady r o × (work_places r ≤ 3)
cleaned-ready (work.Cleaned y e) x errand o ready k = errand-ready e o ready
cleaned-ready _ x errand o ready k = cc

pub work_ready : (a : Answer) (w r : Work) (o : Objects) → AnswersTo a (WorkOf w) o → work_frame r ≡ request_resume (work_frame w) (answer_of a) → WorkReady r o × (work_places r ≤ 1 + answer_places a)
work_ready (Freed b) (work.Releasing child) r o e k = let w = over-ready r _ o k in let few = w.1 in (w.0, omega (arith, few))
work_ready (Freed b) (work.Dropping queue entry) r o e k = let w = vacating-ready r queue o (inr (may_free_on (slice_get o.works 0) e)) k in let few = w.1 in (w.0, omega (arith, few))
work_ready (Returned v) (work.Called Cleanup x handler errand) r o e k = let w = cleaned-ready r x errand o e k in let few = w.1 in (w.0, omega (arith, few))
work_ready (Returned v) (work.Called Cancel x handler errand) r o e k = let w = over-ready r _ o k in let few = w.1 in (w.0, omega (arith, few))
work_ready (Returned v) (work.Called _ x handler errand) r o e k = let w = over-ready r _ o k in let few = w.1 in (w.0, omega (arith, few))
work_ready _ _ r o e k = absurd e

-- what was taken is what stood at the end
pub popped_one : (old new : List Waiting) (x w : Waiting) → old ≡ new ++ x ∷ [] → x ≡ w → old ≡ new ++ w ∷ []
popped_one old new x w e is = e ∙ ap (λ (z : Waiting). new ++ z ∷ []) is
