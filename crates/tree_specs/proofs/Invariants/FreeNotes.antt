-- What each step of a free keeps of what holds of requests.
use Rattle.std.proofs.Common.{◌≡◌, ℕ, nat_eq, List, [], ◌∷◌, Option, Some, None, true, false, refl, sym, ◌∙◌, ap, inr}
use Rattle.step_machine.specs.Machine.{Move, Move as Do}
use Rattle.step_machine.proofs.Ends.{Leads}
use Rattle.tree_specs.specs.declared.object.Obj.{Obj}
use Rattle.tree_specs.specs.declared.object.Owner.{Owner}
use Rattle.tree_specs.specs.declared.object.Owner.TheVariants.{Of}
use Rattle.tree_specs.specs.declared.row.Row.{Row}
use Rattle.tree_specs.specs.declared.row.Mark.{Mark}
use Rattle.tree_specs.specs.declared.row.Mark.TheVariants.{Quiet, Asked, Busy, Doomed}
use Rattle.tree_specs.specs.declared.event.Event.{Event}
use Rattle.tree_specs.specs.declared.handler.Handler.{Handler}
use Rattle.tree_specs.specs.declared.moment.What.{What}
use Rattle.tree_specs.specs.declared.moment.What.TheVariants as whats
use Rattle.tree_specs.specs.declared.watch.Watch.{Watch}
use Rattle.tree_specs.specs.declared.frame.Errand.{Errand}
use Rattle.tree_specs.specs.declared.frame.Frame.{Frame}
use Rattle.tree_specs.specs.declared.frame.Frame.TheVariants as frame
use Rattle.tree_specs.specs.declared.frame.FreeFrame.{FreeFrame}
use Rattle.tree_specs.specs.declared.frame.FreeFrame.TheVariants.{Unlinking, Releasing, Giving, Beginning, Hooked, Judged, Preparing, Prepared, Dooming, Leaving, Looping, FreeingChild, AfterChild, Ending, Draining}
use Rattle.tree_specs.specs.declared.frame.RequestFrame.TheVariants as request
use Rattle.tree_specs.specs.declared.frame.Purpose.{Purpose}
use Rattle.tree_specs.specs.declared.frame.Purpose.TheVariants.{Removal, Emptying}
use Rattle.tree_specs.specs.declared.frame.Answer.{Answer}
use Rattle.tree_specs.specs.declared.frame.Answer.TheVariants.{Freed}
use Rattle.tree_specs.specs.declared.free_step.FreeReply.{FreeReply}
use Rattle.tree_specs.specs.declared.free_step.FreeReply.TheVariants.{Ok}
use Rattle.tree_specs.specs.declared.kind.Kind.{Kind}
use Rattle.tree_specs.specs.declared.kind.Kind.TheVariants as kinds
use Rattle.tree_specs.specs.Rules.Items.{Item}
use Rattle.tree_specs.specs.Tree.Pool.{Pool, row_of, target_at, newest_ref_of, is_below, owner_of, is_inside, first_kid, left_row, marked_row, hooked_row, set_mark, detach, doom}
use Rattle.tree_specs.specs.Tree.Targets.{newest_ref, is_context}
use Rattle.tree_specs.specs.Tree.Heirs.{heir}
use Rattle.tree_specs.specs.Events.Requests.{note_of, is_unreceived}
use Rattle.tree_specs.specs.Events.Pending.{disarmed}
use Rattle.tree_specs.specs.Calls.Refusals.{is_request, is_request_row, is_queue}
use Rattle.tree_specs.specs.Machine.FreeTable.{FreeMove, begin_quiet, begin_step, refs_step, unlink_step, release_step, last_step, child_step, loop_step, hand_on_step, tried_step, free_step}
use Rattle.tree_specs.specs.Machine.Table.{table, event_of, announced, lifted, run_for, resume}
use Rattle.tree_specs.specs.Invariants.Sound.{phases, phase_of, claims, AllWait, Sound}
use Rattle.tree_specs.specs.Machine.Profiles.{Phase, InRun, InHandler}
use Rattle.tree_specs.specs.Invariants.Noted.{NotesHold, Noted}
use Rattle.tree_specs.proofs.Tree.Numbered.{by_test}
use Rattle.tree_specs.proofs.Events.PendingLaws.{disarmed-other, without-armed}
use Rattle.tree_specs.proofs.Invariants.Changes.{claim-here, heir-placed}
use Rattle.tree_specs.proofs.Invariants.Waiters.{Waiter, ForRoutine, waiter}
use Rattle.tree_specs.proofs.Invariants.Notes.{excepted, settled, unnoted-unreceived, changed-holds, unmarked-holds, quiet-holds, placed-holds, removed-holds}

-- what a step leads to
abbrev pub NotedBy : Move Frame Answer Pool Item → List Frame → ℕ → Type 0
NotedBy m fs k = Leads table (λ g gs q j. Noted g q) m fs k

-- a work that ends, over the same requests
pub ended : (a : Answer) (fs : List Frame) (p : Pool) (k : ℕ) → AllWait fs → NotesHold None p → NotedBy (Do.Done a p) fs k
ended a [] p k w h = tt
ended a (g ∷ gs) p k w h = below g (waiter g gs w.0)
  where
    after : (what : What) (x : Obj) (handler : Handler) (errand : Errand) → Noted (resume (frame.Request (request.Called what x handler errand)) a) p
    after whats.Cleanup x handler errand = record { pool = h; works = tt }
    after whats.Cancel x handler errand = record { pool = h; works = tt }
    after _ x handler errand = record { pool = h; works = tt }

    below : (g : Frame) → Waiter g → Noted (resume g a) p
    below _ (ForRoutine what x handler errand) = after what x handler errand
    below _ _ = record { pool = h; works = tt }

-- ---- frees

-- what a free by itself leads to
abbrev FreeNoted : FreeMove → Type 0
FreeNoted (Do.Done a p) = NotesHold None p
FreeNoted (Do.Go g p) = Noted (frame.Free g) p
FreeNoted (Do.Emit e g p) = Noted (frame.Free g) p
FreeNoted (Do.Wait q g p) = Noted (run_for g) p
FreeNoted (Do.Call g f p) = Noted (frame.Free g) p

-- nothing is to be received of an object with which something goes on
going : (p : Pool) (x : Obj) (a : Phase) (l : List Phase) → NotesHold None p → a ∷ l ≡ phases (row_of p.rows x) → is_unreceived (note_of p.requests x) ≡ false
going p x a l h e = by_test (is_unreceived (note_of p.requests x)) (λ t. let bad : a ∷ l ≡ [] = e ∙ settled p x h t in cc) (λ t. t)

beginning : (x : Obj) (fs : List Frame) (p : Pool) → Sound (frame.Free (Beginning x)) fs p → NotesHold None p → FreeNoted (free_step (Beginning x) p)
beginning x fs p s h = newest (newest_ref p.rows x)
  where
    -- what is no request has nothing to be received
    quiet : (r : Row) → row_of p.rows x ≡ Some r → FreeNoted (begin_quiet x r.kind r.hook p)
    quiet r e = by_test (is_request r.kind)
        (λ u. rw u (record { pool = changed-holds (marked_row Asked) p (set_mark p x Asked) x (excepted p x h) (λ r. refl) (λ r. refl) refl refl (λ y t. t) (λ t r. inr refl); works = tt }))
        (λ u. let none = unnoted-unreceived p x (h.notes x ∙ ap is_request_row e ∙ u) in by_test (is_queue r.kind)
        (λ w. rw (u, w) (record { pool = changed-holds (marked_row Asked) p (set_mark p x Asked) x h (λ r. refl) (λ r. refl) refl refl (λ y t. t) (λ v r. let bad : true ≡ false = sym v ∙ none in cc); works = tt }))
        (λ w. by_test (nat_eq r.hook 0)
        (λ t. rw (u, w, t) (record { pool = h; works = none }))
        (λ t. rw (u, w, t) (record { pool = changed-holds (marked_row Asked) p (set_mark p x Asked) x h (λ r. refl) (λ r. refl) refl refl (λ y t. t) (λ v r. let bad : true ≡ false = sym v ∙ none in cc); works = tt }))))

    -- nothing is to be received of what is busy
    busy : (r : Row) → r.mark ≡ Busy → row_of p.rows x ≡ Some r → is_unreceived (note_of p.requests x) ≡ false
    busy r m e = by_test (is_context r.kind)
        (λ t. unnoted-unreceived p x (h.notes x ∙ ap is_request_row e ∙ other r.kind t))
        (λ t. going p x InHandler [] h (sym (ap phases e ∙ ap (phase_of r.kind) m ∙ rw t refl)))
      where
        other : (k : Kind) → is_context k ≡ true → is_request k ≡ false
        other kinds.Context t = refl
        other _ t = cc

    marks : (r : Row) (m : Mark) → r.mark ≡ m → row_of p.rows x ≡ Some r → FreeNoted (begin_step x (Some r) p)
    marks r Quiet m e = rw m (quiet r e)
    marks r Busy m e =
        let received : is_unreceived (note_of p.requests x) ≡ false = busy r m e in
        rw m (record {
          pool = changed-holds (marked_row Doomed) p (doom p x) x h (λ r. refl) (λ r. refl) refl refl (λ y t. (disarmed-other p.times x y (without-armed (disarmed p.times x) x y t)).0)
              (λ v r. let bad : true ≡ false = sym v ∙ received in cc);
          works = tt;
        })
    marks r _ m e = rw m h

    each : (o : Option Row) → row_of p.rows x ≡ o → FreeNoted (begin_step x o p)
    each None e = h
    each (Some r) e = marks r r.mark refl e

    newest : (o : Option Obj) → FreeNoted (refs_step x o p)
    newest None = each (row_of p.rows x) refl
    newest (Some r) = by_test (is_inside p.rows (Of r) (Of x))
        (λ t. rw t (record { pool = removed-holds p r s.forest.distinct h; works = tt }))
        (λ t. rw t (record { pool = removed-holds p r s.forest.distinct h; works = tt }))

releasing : (x : Obj) (fs : List Frame) (p : Pool) → Sound (frame.Free (Releasing x)) fs p → NotesHold None p → FreeNoted (free_step (Releasing x) p)
releasing x fs p s h = each (newest_ref p.rows x)
  where
    each : (o : Option Obj) → FreeNoted (release_step x o p)
    each None = record { pool = h; works = tt }
    each (Some r) = by_test (is_inside p.rows (Of r) (Of x))
        (λ t. rw t (record { pool = removed-holds p r s.forest.distinct h; works = tt }))
        (λ t. rw t (record { pool = removed-holds p r s.forest.distinct h; works = tt }))

unlinking : (o : Owner) (x : Obj) (fs : List Frame) (p : Pool) → Sound (frame.Free (Unlinking o x)) fs p → NotesHold None p → FreeNoted (free_step (Unlinking o x) p)
unlinking o x fs p s h = each (newest_ref_of p.rows o x)
  where
    each : (n : Option Obj) → FreeNoted (unlink_step x n p)
    each None = record { pool = h; works = tt }
    each (Some r) = record { pool = removed-holds p r s.forest.distinct h; works = tt }

looping : (x : Obj) (purpose : Purpose) (fs : List Frame) (p : Pool) → Sound (frame.Free (Looping x purpose)) fs p → NotesHold None p → FreeNoted (free_step (Looping x purpose) p)
looping x purpose fs p s h = each (first_kid p.rows (Of x))
  where
    last : (purpose : Purpose) → FreeNoted (last_step x purpose p)
    last (Removal hook) = record { pool = removed-holds p x s.forest.distinct h; works = tt }
    last Emptying = h

    child : (c : Obj) (o : Option Obj) → FreeNoted (child_step x c purpose o p)
    child c None = record { pool = h; works = tt }
    child c (Some t) = record { pool = removed-holds p c s.forest.distinct h; works = tt }

    each : (o : Option Obj) → FreeNoted (loop_step x purpose o p)
    each None = last purpose
    each (Some c) = child c (target_at p.rows c)

tried : (x c : Obj) (noted : Option Owner) (purpose : Purpose) (b : FreeReply) (fs : List Frame) (p : Pool) → Sound (frame.Free (AfterChild x c noted purpose b)) fs p → NotesHold None p
    → FreeNoted (free_step (AfterChild x c noted purpose b) p)
tried x c noted purpose b fs p s h = each b
  where
    on : FreeNoted (hand_on_step x c noted purpose p)
    on = by_test (is_below (owner_of p.rows c) (Of x))
        (λ t. rw t (record { pool = placed-holds p (heir p.rows x c noted) c (heir-placed x c noted _ fs p s t) h; works = tt }))
        (λ t. rw t (record { pool = h; works = tt }))

    each : (b : FreeReply) → FreeNoted (tried_step x c noted purpose b p)
    each Ok = record { pool = h; works = tt }
    each _ = on

pub free-noted : (f : FreeFrame) (fs : List Frame) (p : Pool) → Sound (frame.Free f) fs p → Noted (frame.Free f) p → FreeNoted (free_step f p)
free-noted (Unlinking o x) fs p s n = unlinking o x fs p s n.pool
free-noted (Releasing x) fs p s n = releasing x fs p s n.pool
free-noted (Giving x o) fs p s n = record { pool = placed-holds p o x s.rests n.pool; works = tt }
free-noted (Beginning x) fs p s n = beginning x fs p s n.pool
free-noted (Hooked x hook) fs p s n = record { pool = n.pool; works = tt }
free-noted (Draining x) fs p s n = record { pool = n.pool; works = tt }
free-noted (Judged x hook v) fs p s n =
    let runs = claim-here x InRun (claims x fs) (row_of p.rows x) (s.open_frees x) in
    by_test (nat_eq v 0)
    (λ t. rw t (record { pool = unmarked-holds (hooked_row 0) p x (λ r. refl) (λ r. refl) (λ r. refl) n.pool; works = going p x InRun (claims x fs) n.pool runs }))
    (λ t. rw t (record { pool = quiet-holds p x n.pool; works = tt }))
free-noted (Preparing x) fs p s n = record { pool = n.pool; works = tt }
free-noted (Prepared x) fs p s n =
    record { pool = quiet-holds p x n.pool; works = going p x InRun (claims x fs) n.pool (claim-here x InRun (claims x fs) (row_of p.rows x) (s.open_frees x)) }
free-noted (Dooming x) fs p s n = n.pool
free-noted (Leaving x hook) fs p s n = record {
  pool = changed-holds left_row p (detach p x) x n.pool (λ r. refl) (λ r. refl) refl refl (λ y t. (disarmed-other p.times x y (without-armed (disarmed p.times x) x y t)).0) (λ v r. let bad : true ≡ false = sym v ∙ n.works in cc);
  works = tt;
}
free-noted (Looping x purpose) fs p s n = looping x purpose fs p s n.pool
free-noted (FreeingChild x c noted purpose) fs p s n = absurd s.rests
free-noted (AfterChild x c noted purpose b) fs p s n = tried x c noted purpose b fs p s n.pool
free-noted (Ending a) fs p s n = n.pool

-- among the host's works
pub lifted-noted : (ring : List Watch) (m : FreeMove) (fs : List Frame) (k : ℕ) → AllWait fs → FreeNoted m → NotedBy (lifted ring m) fs k
lifted-noted ring (Do.Done a p) fs k w h = ended (Freed a) fs p k w h
lifted-noted ring (Do.Go f p) fs k w h = h
lifted-noted ring (Do.Emit e f p) fs k w h = each (event_of ring e)
  where
    each : (o : Option Event) → NotedBy (announced o f p) fs k
    each None = h
    each (Some e) = h
lifted-noted ring (Do.Wait q f p) fs k w h = h
lifted-noted ring (Do.Call g f p) fs k w h = h
