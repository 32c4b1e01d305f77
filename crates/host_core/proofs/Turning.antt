-- The steps of a turn, by what was picked and by whose handler has returned.
use Rattle.std.proofs.Common.{◌≡◌, ℕ, ◌-◌, Bool, true, false, nat_eq, nat_le, List, [], ◌∷◌, Option, Some, None, is_some, refl}
use Rattle.std.specs.Prelude.{is_none}
use Rattle.tree_specs.specs.declared.coming.Coming.{Coming}
use Rattle.tree_specs.specs.declared.due.Due.{Due}
use Rattle.tree_specs.specs.declared.frame.Frame.{Frame}
use Rattle.tree_specs.specs.declared.frame.Frame.TheVariants as frame
use Rattle.tree_specs.specs.declared.frame.TurnFrame.{TurnFrame}
use Rattle.tree_specs.specs.declared.frame.TurnFrame.TheVariants.{Timed, Polling, Starting, Handling, Handled, Clearing, Serving, Parting, Closing, Taking}
use Rattle.tree_specs.specs.declared.moment.What.{What}
use Rattle.tree_specs.specs.declared.object.Obj.{Obj}
use Rattle.tree_specs.specs.declared.row.Mark.{Mark}
use Rattle.tree_specs.specs.declared.row.Mark.TheVariants.{Asked, Dying}
use Rattle.tree_specs.specs.declared.row.Row.{Row}
use Rattle.tree_specs.specs.declared.question.Input.TheVariants as input
use Rattle.tree_specs.specs.declared.wants.Want.{Want}
use Rattle.tree_specs.specs.Events.Coming.{looks_again}
use Rattle.tree_specs.specs.Events.Pending.{first}
use Rattle.tree_specs.specs.Events.Rotation.{Ready, first_ready}
use Rattle.tree_specs.specs.Texts.Schedule.{misfit}
use Rattle.tree_specs.specs.Invariants.Sound.{phases, claims}
use Rattle.tree_specs.specs.Invariants.Consistent.{IsConsistent}
use Rattle.tree_specs.specs.Machine.Profiles.{Phase, InRun, InHandler, InLoop}
use Rattle.tree_specs.specs.Machine.Table.{turn_step, due_step, taking_step, timed_step, early_step}
use Rattle.tree_specs.specs.Promises.Grounded.{is_asked_mark}
use Rattle.tree_specs.specs.Tree.Pool.{Pool, row_of, is_dying_mark, soon_here, times_here, ring_here}
use Rattle.tree_specs.proofs.Tree.Numbered.{by_test}
use Rattle.tree_specs.proofs.Invariants.Changes.{claim-here}
use Rattle.loop_core.specs.Picks.{begin_pick, time_pick, clock_pick, early_pick, ready_pick, watch_pick}
use Rattle.object_pool.specs.Upcoming.{pool_picked}
use Rattle.host_core.specs.Turns.{picked_step, MayTurn, turn_speaks, turn_asks, turn_given, frame_looked, looked_frame}

-- ---- what was picked

-- at the beginning of a turn
pub taking_picked : (p : Pool) → picked_step false (begin_pick (soon_here p) (times_here p)) (pool_picked (begin_pick (soon_here p) (times_here p)) p) ≡ turn_step Taking p
taking_picked p = soon (soon_here p)
  where
    due : (ds : List Due) → picked_step false (time_pick ds) (pool_picked (time_pick ds) p) ≡ due_step (first ds) p
    due [] = refl
    due (d ∷ ds) = by_test (nat_eq d.time 0) (λ t. rw t refl) (λ t. rw t refl)

    soon : (xs : List Coming) → picked_step false (begin_pick xs (times_here p)) (pool_picked (begin_pick xs (times_here p)) p) ≡ taking_step (first xs) p
    soon [] = due (times_here p)
    soon (x ∷ xs) = refl

-- once the clock has told the time
pub timed_picked : (again : Bool) (now : ℕ) (p : Pool) → picked_step again (clock_pick again now (times_here p)) (pool_picked (clock_pick again now (times_here p)) p) ≡ turn_step (Timed again now) p
timed_picked again now p = each (times_here p)
  where
    early : (again : Bool) (d : Due) → picked_step again (early_pick again (d.time - now)) (pool_picked (early_pick again (d.time - now)) p) ≡ early_step again d now p
    early true d = refl
    early false d = refl

    each : (ds : List Due) → picked_step again (clock_pick again now ds) (pool_picked (clock_pick again now ds) p) ≡ timed_step again now (first ds) p
    each [] = refl
    each (d ∷ ds) = by_test (nat_le d.time now) (λ t. rw t refl) (λ t. rw t (early again d))

-- once it is told which descriptors are ready
pub looked_given : (f : TurnFrame) (wants : List Want) (p : Pool) → is_none (misfit (turn_asks f) (input.Ready wants)) ≡ true → looked_frame (ready_pick wants (times_here p) (ring_here p)) ≡ turn_given f (input.Ready wants) p
looked_given (Polling limit) wants p fits = each wants
  where
    picked : (r : Option Ready) → looked_frame (watch_pick r) ≡ frame_looked false r
    picked None = refl
    picked (Some r) = refl

    waited : (ds : List Due) → looked_frame (ready_pick [] ds (ring_here p)) ≡ frame_looked (is_some (first ds)) (first_ready (ring_here p) [])
    waited [] = picked (first_ready (ring_here p) [])
    waited (d ∷ ds) = refl

    each : (wants : List Want) → looked_frame (ready_pick wants (times_here p) (ring_here p)) ≡ frame_looked (looks_again p wants) (first_ready (ring_here p) wants)
    each [] = waited (times_here p)
    each (w ∷ ws) = picked (first_ready (ring_here p) (w ∷ ws))
looked_given _ wants p fits = cc

-- ---- a handler that has returned

-- its event is live, and its destructor isn't asked
handled-mark : (r : Row) (l : List Phase) → InHandler ∷ l ≡ phases (Some r) → (is_dying_mark r.mark ≡ false) × (is_asked_mark r.mark ≡ false)
handled-mark r l e = marks r.mark refl e
  where
    marks : (m : Mark) → r.mark ≡ m → InHandler ∷ l ≡ phases (Some r) → (is_dying_mark r.mark ≡ false) × (is_asked_mark r.mark ≡ false)
    marks Asked m e = let e' : InHandler ∷ l ≡ InRun ∷ [] = rw m at e in cc
    marks (Dying former) m e = let e' : InHandler ∷ l ≡ InLoop ∷ [] = rw m at e in cc
    marks _ m e = rw m (refl, refl)

pub handled_may : (what : What) (x : Obj) (fs : List Frame) (p : Pool) → IsConsistent (record { innermost = frame.Turn (Handled what x); below = fs; pool = p }) → MayTurn (Handled what x) p
handled_may what x fs p h = each (row_of p.rows x) refl
  where
    here : InHandler ∷ claims x fs ≡ phases (row_of p.rows x)
    here = claim-here x InHandler (claims x fs) (row_of p.rows x) (h.sound.open_frees x)

    each : (found : Option Row) → row_of p.rows x ≡ found → MayTurn (Handled what x) p
    each None e = let bad : InHandler ∷ claims x fs ≡ [] = rw e at here in cc
    each (Some r) e = let m = handled-mark r (claims x fs) (rw e at here) in rw e ((refl, m.0), m.1)

-- what a turn may do that tells and asks nothing
pub may_turn : (f : TurnFrame) (fs : List Frame) (p : Pool) → IsConsistent (record { innermost = frame.Turn f; below = fs; pool = p }) → turn_speaks f ≡ false → MayTurn f p
may_turn (Handled what x) fs p h t = handled_may what x fs p h
may_turn Taking fs p h t = tt
may_turn (Timed again now) fs p h t = tt
may_turn (Starting what x occasion) fs p h t = tt
may_turn (Handling what x handler occasion) fs p h t = tt
may_turn (Closing v) fs p h t = h.sound.turned
may_turn (Parting c v) fs p h t = absurd h.sound.rests
may_turn (Clearing x) fs p h t = absurd h.sound.rests
may_turn (Serving x) fs p h t = absurd h.sound.rests
may_turn _ fs p h t = cc
