-- What each step keeps of what holds at every moment.
use Rattle.std.proofs.Common.{ℕ, List, ◌∷◌, Some, None, refl}
use Rattle.tree_specs.specs.declared.call.Call.{Call}
use Rattle.tree_specs.specs.declared.question.Ask.{Ask}
use Rattle.tree_specs.specs.declared.question.Ask.TheVariants.{Quiet}
use Rattle.tree_specs.specs.declared.reply.Reply.TheVariants as reply
use Rattle.tree_specs.specs.declared.reply.Refusal.TheVariants as refusal
use Rattle.tree_specs.specs.declared.frame.Frame.{Frame}
use Rattle.tree_specs.specs.declared.frame.Frame.TheVariants as frame
use Rattle.tree_specs.specs.declared.frame.CallFrame.TheVariants.{Asking, Doing, Awaiting, Turning, Requesting, Announcing, Telling, Returning}
use Rattle.tree_specs.specs.declared.frame.FreeFrame.TheVariants.{Unlinking, Releasing, Giving, Beginning, Hooked, Judged, Preparing, Prepared, Dooming, Leaving, Looping, AfterChild, Ending, Draining}
use Rattle.tree_specs.specs.declared.frame.Answer.TheVariants.{Freed, Returned}
use Rattle.tree_specs.specs.declared.free_step.FreeReply.TheVariants.{Ok}
use Rattle.tree_specs.specs.Tree.Pool.{Pool, enter}
use Rattle.tree_specs.specs.declared.object.Obj.{Obj}
use Rattle.tree_specs.specs.declared.frame.Errand.{Errand}
use Rattle.tree_specs.specs.declared.frame.Errand.TheVariants.{Finish, Notify, Receive, Cancel}
use Rattle.tree_specs.specs.declared.frame.RequestFrame.{RequestFrame}
use Rattle.tree_specs.specs.declared.frame.RequestFrame.TheVariants as request
use Rattle.tree_specs.specs.Calls.Plans.{Change, Plan, changed_by, planned_at}
use Rattle.tree_specs.specs.Calls.Plans.Plan.{Does, Frees, Unlinks, Empties, Asks, Turns, Works}
use Rattle.tree_specs.specs.Calls.Plans.Change.{Enter}
use Rattle.tree_specs.specs.Calls.Passed.{IsUsable}
use Rattle.tree_specs.specs.Rules.Answers.{later}
use Rattle.tree_specs.specs.Machine.Table.{step, plan_step, turning_step}
use Rattle.tree_specs.specs.Invariants.Sound.{RequestRests, Sound}
use Rattle.tree_specs.specs.Invariants.Sound.Footing.{OnRequesting}
use Rattle.tree_specs.proofs.Invariants.Changes.{stands, goes_on, placed-sound}
use Rattle.tree_specs.proofs.Calls.Plans.{MayWork, May, may-planned-at}
use Rattle.tree_specs.proofs.Calls.Changes.{MayDo, change-sound}
use Rattle.tree_specs.proofs.Invariants.KeptFrees.{KeptBy, asking, beginning, dooming, ended, hooked, judged, leaving, looping, still-there, tried}
use Rattle.tree_specs.proofs.Invariants.KeptGivings.{releasing, unlinking}
use Rattle.tree_specs.proofs.Invariants.KeptTurns.{turn-kept, outside-kept}
use Rattle.tree_specs.proofs.Invariants.KeptRequests.{preparing, prepared, request-kept, draining}
use Rattle.tree_specs.specs.Invariants.Queued.{AreQueued}

turning-kept : (q : Ask) (x : Obj) (c : Call) (fs : List Frame) (p : Pool) (k : ℕ) → IsUsable p x → Sound (frame.Call (Doing q c)) fs p → KeptBy (turning_step q x p) fs k
turning-kept Quiet x c fs p k may s =
    let f : Frame = frame.Call (Doing Quiet c) in
    stands f _ fs (frame.Call (Turning Quiet) ∷ fs) (enter p x) (λ y. refl) (tt, s.waiting) tt (change-sound f f fs p (Enter x) s may (λ y. refl) (λ q. tt) tt)
turning-kept q x c fs p k may s = goes_on (frame.Call (Doing q c)) (frame.Call (Telling (later q (reply.No refusal.Nested)) (reply.No refusal.Nested))) fs p (λ y. refl) tt s

-- the work of a request begins on the call that waits for it
work-kept : (q : Ask) (c : Call) (fs : List Frame) (p : Pool) (k : ℕ) (change : Change) (errand : Errand) (x : Obj) → Sound (frame.Call (Doing q c)) fs p → MayDo p change → MayWork (changed_by change p) errand x
    → KeptBy (plan_step q (Works change errand x) p) fs k
work-kept q c fs p k change errand x s may work = each errand work
  where
    -- the call over the changed objects
    over : Sound (frame.Call (Telling q reply.Ok)) fs (changed_by change p)
    over = change-sound (frame.Call (Doing q c)) (frame.Call (Telling q reply.Ok)) fs p change s may (λ y. refl) (λ p'. tt) tt

    on : (g : RequestFrame) → RequestRests g OnRequesting (changed_by change p) → Sound (frame.Request g) (frame.Call (Requesting q) ∷ fs) (changed_by change p)
    on g rests = stands (frame.Call (Telling q reply.Ok)) (frame.Request g) fs (frame.Call (Requesting q) ∷ fs) (changed_by change p) (λ y. refl) (tt, over.waiting) rests over

    each : (errand : Errand) → MayWork (changed_by change p) errand x → KeptBy (plan_step q (Works change errand x) p) fs k
    each (Finish s) work = on (request.Finishing x s) tt
    each Receive work = on (request.Receiving x) (tt, work)
    each Cancel work = on (request.Cancelling x) tt
    each Notify work = absurd work

-- the first step of a plan that may be carried out
planned-kept : (q : Ask) (c : Call) (fs : List Frame) (p : Pool) (k : ℕ) → Sound (frame.Call (Doing q c)) fs p → (plan : Plan) → May p plan → KeptBy (plan_step q plan p) fs k
planned-kept q c fs p k s (Does change None r) may = change-sound (frame.Call (Doing q c)) (frame.Call (Telling (later q r) r)) fs p change s may.0 (λ y. refl) (λ p'. tt) tt
planned-kept q c fs p k s (Does change (Some notice) r) may = change-sound (frame.Call (Doing q c)) (frame.Call (Announcing (later q r) notice r)) fs p change s may.0 (λ y. refl) (λ p'. tt) tt
planned-kept q c fs p k s (Frees x) may = stands _ _ fs (frame.Call (Awaiting q x) ∷ fs) p (λ y. refl) (tt, s.waiting) may s
planned-kept q c fs p k s (Unlinks o x) may = stands _ _ fs (frame.Call (Awaiting q x) ∷ fs) p (λ y. refl) (tt, s.waiting) (tt, may.0, may.1, may.2, may.3) s
planned-kept q c fs p k s (Empties x) may = stands _ _ fs (frame.Call (Awaiting q x) ∷ fs) p (λ y. refl) (tt, s.waiting) tt s
planned-kept q c fs p k s (Asks outside) may = stands _ _ fs (frame.Call (Turning q) ∷ fs) p (λ y. refl) (tt, s.waiting) tt s
planned-kept q c fs p k s (Turns x) may = turning-kept q x c fs p k may s
planned-kept q c fs p k s (Works change errand x) may = work-kept q c fs p k change errand x s may.0 may.3

-- every step keeps what is sound
pub sound-kept : (f : Frame) (fs : List Frame) (p : Pool) (k : ℕ) → Sound f fs p → AreQueued p → KeptBy (step f p) fs k
sound-kept (frame.Call (Asking q)) fs p k s w = asking q fs p k s
sound-kept (frame.Call (Doing q c)) fs p k s w = planned-kept q c fs p k s (planned_at q p c) (may-planned-at (frame.Call (Doing q c)) fs p s q c)
sound-kept (frame.Call (Announcing q notice r)) fs p k s w = goes_on (frame.Call (Announcing q notice r)) (frame.Call (Telling q r)) fs p (λ y. refl) tt s
sound-kept (frame.Call (Telling q r)) fs p k s w = goes_on (frame.Call (Telling q r)) (frame.Call (Asking q)) fs p (λ x. refl) tt s
sound-kept (frame.Call (Returning v)) fs p k s w = ended (Returned v) (frame.Call (Returning v)) fs p k s (λ x. refl) (λ x c n b gs e. tt)
sound-kept (frame.Free (Unlinking o x)) fs p k s w = unlinking o x fs p k s
sound-kept (frame.Free (Releasing x)) fs p k s w = releasing x fs p k s
sound-kept (frame.Free (Giving x o)) fs p k s w = placed-sound (frame.Free (Giving x o)) (frame.Free (Ending Ok)) o x fs p s s.rests (λ y. refl) (tt, tt)
sound-kept (frame.Free (Beginning x)) fs p k s w = beginning x fs p k s
sound-kept (frame.Free (Hooked x h)) fs p k s w = hooked x h fs p k s
sound-kept (frame.Free (Judged x h v)) fs p k s w = judged x h v fs p k s
sound-kept (frame.Free (Preparing x)) fs p k s w = preparing x fs p k s
sound-kept (frame.Free (Draining x)) fs p k s w = draining x fs p k s
sound-kept (frame.Free (Prepared x)) fs p k s w = prepared x fs p k s
sound-kept (frame.Free (Dooming x)) fs p k s w = dooming x fs p k s
sound-kept (frame.Free (Leaving x h)) fs p k s w = leaving x h fs p k s
sound-kept (frame.Free (Looping x purpose)) fs p k s w = looping x purpose fs p k s
sound-kept (frame.Free (AfterChild x c noted purpose a)) fs p k s w = tried x c noted purpose a fs p k s
sound-kept (frame.Free (Ending a)) fs p k s w = ended (Freed a) (frame.Free (Ending a)) fs p k s (λ x. refl) (λ x c n b gs e. still-there a x c n p s.rests.0)
sound-kept (frame.Turn f) fs p k s w = turn-kept f fs p k s
sound-kept (frame.Outside f) fs p k s w = outside-kept f fs p k s
sound-kept (frame.Request f) fs p k s w = request-kept f fs p k s w
-- a work that waits is not the innermost
sound-kept _ fs p k s w = absurd s.rests
