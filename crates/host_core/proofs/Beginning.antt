-- What a step begins stands on what waits for it.
use Rattle.std.proofs.Common.{◌≡◌, ◌+◌, List, [], ◌∷◌, ◌++◌, reverse, sym, ◌∙◌, ap, subst, arith}
use Rattle.std.specs.Prelude.{vec_capacity}
use Rattle.tree_specs.specs.declared.frame.Frame.{Frame}
use Rattle.tree_specs.specs.declared.frame.Frame.TheVariants as frame
use Rattle.tree_specs.specs.declared.frame.FreeFrame.{FreeFrame}
use Rattle.tree_specs.specs.declared.object.Obj.{Obj}
use Rattle.tree_specs.specs.declared.row.Row.{Row}
use Rattle.tree_specs.specs.Machine.View.{View}
use Rattle.tree_specs.specs.Invariants.Sound.{claim}
use Rattle.tree_specs.specs.Invariants.Consistent.{IsConsistent}
use Rattle.destructors.specs.Frees.{OpenFrees, Begins}
use Rattle.destructors.specs.Works.{IsAtWork, AreAwaiting}
use Rattle.destructors.proofs.Hosting.{AwaitsRun, awaiting-runs}
use Rattle.object_pool.specs.Objects.{Objects, frees_in}
use Rattle.object_pool.specs.Requests.{count_unreceived}
use Rattle.host_core.specs.declared.active.Active.{Active}
use Rattle.host_core.specs.declared.active.Active.TheVariants as active
use Rattle.host_core.specs.declared.parts.Parts.{Parts}
use Rattle.host_core.specs.declared.step.Step.{Step}
use Rattle.host_core.specs.declared.waiting.Waiting.{Waiting}
use Rattle.host_core.specs.Stacks.{waiting_frame, active_frame, Fits, FreesFit, other_view, freeing_view}
use Rattle.host_core.specs.Steps.{IsOther, IsWaiter}
use Rattle.host_core.specs.Places.{count_undrained, drains_after, owed, own_place, places, taken_places, HasPlacesFor}
use Rattle.host_core.specs.Hosts.{host_view, below_in, PartsReady, TellsSameStory, IsBetweenSteps}
use Rattle.host_core.specs.Going.{stepped_view}
use Rattle.host_core.proofs.Draining.{run-trying, silently-fewer}
use Rattle.host_core.proofs.Emptied.{may-forget}
use Rattle.host_core.proofs.StepsSilently.{stays}
use Rattle.host_core.proofs.FreeSteps.{silently-along}
use Rattle.host_core.proofs.Hosting.{begun-awaits}
use Rattle.host_core.proofs.KeptPlace.{one_more, own_more, parting_kept}
use Rattle.host_core.proofs.Going.{other-seen, other-fit, has-places, pushed, below-waiter, below-begun, none-ahead, fits-silently}

-- where a step leads that puts this on what waits
abbrev pub begun_view : Frame → Waiting → Parts → View
begun_view f w parts = record { innermost = f; below = waiting_frame w ∷ below_in parts; pool = parts.objects.pool }

-- ---- a work that is no free

module _ (step : Step) (first : Active) (w : Waiting) (old new : Parts) (leads_to : stepped_view step old ≡ begun_view (active_frame first) w old) (waits : IsWaiter w) (other : IsOther first)
    (push : new.waiting.items ≡ old.waiting.items ++ w ∷ []) (same : new.objects ≡ old.objects) (whole : IsConsistent (stepped_view step old)) where
  abbrev ws : List Waiting
  ws = reverse old.waiting.items

  turned : reverse new.waiting.items ≡ w ∷ ws
  turned = pushed old.waiting.items new.waiting.items w push

  leads : stepped_view step old ≡ host_view first new
  leads =
      leads_to
      ∙ ap (λ (l : List Frame). let v : View = record { innermost = active_frame first; below = l; pool = old.objects.pool } in v) (sym (below-waiter old.objects.works w ws waits).0)
      ∙ ap (λ (l : List Waiting). other_view (active_frame first) old.objects.works l old.objects.pool) (sym turned)
      ∙ ap (λ (o : Objects). other_view (active_frame first) o.works (reverse new.waiting.items) o.pool) (sym same)
      ∙ sym (other-seen first new.objects.works (reverse new.waiting.items) new.objects.pool other)

  pub calls_along : TellsSameStory (stepped_view step old) (host_view first new)
  calls_along = subst (TellsSameStory (stepped_view step old)) leads (stays (stepped_view step old) whole)

  pub calls_ready : Fits old.objects.works (reverse old.waiting.items) → PartsReady first new.objects → HasPlacesFor (1 + places first) old → vec_capacity new.waiting ≡ vec_capacity old.waiting → IsBetweenSteps first new
  calls_ready fit ready room cap =
      let fits : Fits old.objects.works (w ∷ ws) = (below-waiter old.objects.works w ws waits).1 fit in
      let fits' : Fits old.objects.works (reverse new.waiting.items) = subst (Fits old.objects.works) (sym turned) fits in
      let n = one_more old.waiting.items new.waiting.items w push in
      let counts : owed new.objects.pool ≡ owed old.objects.pool = ap (λ (o : Objects). owed o.pool) same in
      record {
        whole = subst IsConsistent leads whole;
        fit = other-fit first new.objects.works (reverse new.waiting.items) other (subst (λ (o : Objects). Fits o.works (reverse new.waiting.items)) (sym same) fits');
        ready = ready;
        places = has-places first (taken_places new.waiting.items) new.objects (vec_capacity new.waiting) other (omega (arith, room, cap, n, counts));
      }

-- ---- a free

module _ (step : Step) (f : FreeFrame) (w : Waiting) (old : Parts) (leads_to : stepped_view step old ≡ begun_view (frame.Free f) w old) (waits : IsWaiter w)
    (claimless : (x : Obj) → claim x (frame.Free f) ≡ []) (plain : (rows : List Row) → drains_after f rows ≡ count_undrained rows) (whole : IsConsistent (stepped_view step old)) (fit : Fits old.objects.works (reverse old.waiting.items)) where
  abbrev free_ws : List Waiting
  free_ws = w ∷ reverse old.waiting.items

  abbrev begun_frees : OpenFrees
  begun_frees = record { works = f ∷ old.objects.works; pool = old.objects.pool }

  pub begin_awaits : AreAwaiting old.objects.works old.objects.pool
  begin_awaits = begun-awaits f w old.objects.works (reverse old.waiting.items) old.objects.pool waits fit claimless (subst IsConsistent leads_to whole)

  on-run : AwaitsRun old.objects.works
  on-run = awaiting-runs old.objects.works old.objects.pool begin_awaits

  free-leads : stepped_view step old ≡ freeing_view begun_frees.works free_ws begun_frees.pool
  free-leads =
      leads_to
      ∙ ap (λ (l : List Frame). let v : View = record { innermost = frame.Free f; below = l; pool = old.objects.pool } in v)
      (sym (below-begun old.objects.works free_ws on-run ∙ (below-waiter old.objects.works w (reverse old.waiting.items) waits).0))

  free-fits : FreesFit begun_frees.works free_ws
  free-fits = (tt, subst (λ (fs : List FreeFrame). Fits fs free_ws) (sym (none-ahead old.objects.works on-run).1) ((below-waiter old.objects.works w (reverse old.waiting.items) waits).1 fit))

  pub begun_along : (new : Parts) → new.waiting.items ≡ old.waiting.items ++ w ∷ [] → Begins (f ∷ old.objects.works) old.objects.pool (frees_in new.objects) → TellsSameStory (stepped_view step old) (host_view active.Freeing new)
  begun_along new push begins =
      let at = silently-along begun_frees (frees_in new.objects) free_ws begins.moves_on (subst IsConsistent free-leads whole) in
      let from : TellsSameStory (stepped_view step old) (freeing_view new.objects.works free_ws new.objects.pool) = subst (λ (z : View). TellsSameStory z (freeing_view new.objects.works free_ws new.objects.pool)) (sym free-leads) at in
      subst (λ (l : List Waiting). TellsSameStory (stepped_view step old) (freeing_view new.objects.works l new.objects.pool)) (sym (pushed old.waiting.items new.waiting.items w push)) from

  pub begun_ready : (new : Parts) → new.waiting.items ≡ old.waiting.items ++ w ∷ [] → Begins (f ∷ old.objects.works) old.objects.pool (frees_in new.objects) → IsAtWork (frees_in new.objects) → new.objects.pool.requests ≡ old.objects.pool.requests
      → HasPlacesFor (own_place w + 2) old → vec_capacity new.waiting ≡ vec_capacity old.waiting → IsBetweenSteps active.Freeing new
  begun_ready new push begins at requests room cap =
      let n = own_more old.waiting.items new.waiting.items w push (parting_kept w f old.objects.works old.waiting.items old.objects.pool fit (subst IsConsistent leads_to whole)) in
      let counts = ap count_unreceived requests in
      let from = plain old.objects.pool.rows in
      let fewer = (silently-fewer begun_frees (frees_in new.objects) begins.moves_on (run-trying old.objects.works on-run)).0 in
      let fits = fits-silently begun_frees (frees_in new.objects) free_ws begins.moves_on free-fits in
      record {
        whole = (begun_along new push begins).whole;
        fit = subst (FreesFit new.objects.works) (sym (pushed old.waiting.items new.waiting.items w push)) fits;
        ready = record { at_work = at; settled = begins.settles; forgettable = may-forget new.objects.works (reverse new.waiting.items) new.objects.pool (begun_along new push begins).whole };
        places = omega (arith, room, cap, n, counts, from, fewer);
      }
