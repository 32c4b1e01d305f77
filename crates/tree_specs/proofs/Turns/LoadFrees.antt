-- What each step of a call or a free leaves of the works that are paid for.
use Rattle.tree_specs.specs.Machine.Profiles.{InRun, InLoop}
use Rattle.tree_specs.specs.declared.event.Event.{Event}
use Rattle.tree_specs.specs.declared.event.Event.TheVariants.{Unreferenced}
use Rattle.tree_specs.specs.Events.Rotation.{closes_with}
use Rattle.tree_specs.specs.Rules.Items.Item.{Told}
use Rattle.std.specs.Prelude.{unwrap_or}
use Rattle.tree_specs.proofs.Tree.Referring.{newest-refers, newest-of-refers}
use Rattle.tree_specs.proofs.Calls.Plans.{MayWork, May}
use Rattle.tree_specs.proofs.Calls.Changes.{MayDo, follows}
use Rattle.tree_specs.specs.Calls.Plans.{Change, Plan, changed_by}
use Rattle.tree_specs.specs.declared.frame.Errand.{Errand}
use Rattle.tree_specs.specs.declared.frame.Errand.TheVariants.{Finish, Notify, Receive, Cancel}
use Rattle.tree_specs.specs.Calls.Refusals.{is_request, is_queue}
use Rattle.tree_specs.specs.Calls.Plans.Plan.{Does, Frees, Unlinks, Empties, Asks, Turns, Works}
use Rattle.tree_specs.specs.Calls.Plans.Change.{Enter}
use Rattle.tree_specs.specs.Calls.Passed.{IsUsable}
use Rattle.tree_specs.specs.Tree.Targets.{newest_ref, is_context}
use Rattle.std.proofs.Common.{◌≡◌, ℕ, suc, zero, ◌+◌, ◌≤◌, List, [], Option, Some, None, nat_eq, refl, sym, ◌∙◌, ap, arith}
use Rattle.step_machine.specs.Machine.{Move as Do}
use Rattle.tree_specs.specs.declared.object.Obj.{Obj}
use Rattle.tree_specs.specs.declared.object.Owner.{Owner}
use Rattle.tree_specs.specs.declared.object.Owner.TheVariants.{Of, Root}
use Rattle.tree_specs.specs.declared.row.Row.{Row}
use Rattle.tree_specs.specs.declared.row.Mark.{Mark}
use Rattle.tree_specs.specs.declared.row.Mark.TheVariants.{Quiet, Asked, Busy, Doomed, Dying}
use Rattle.tree_specs.specs.declared.call.Call.{Call}
use Rattle.tree_specs.specs.declared.question.Ask.{Ask}
use Rattle.tree_specs.specs.declared.question.Ask.TheVariants as asks
use Rattle.tree_specs.specs.declared.frame.Frame.{Frame}
use Rattle.tree_specs.specs.declared.frame.Frame.TheVariants as frame
use Rattle.tree_specs.specs.declared.frame.CallFrame.TheVariants.{Asking, Doing, Awaiting, Turning, Requesting, Announcing, Returning}
use Rattle.tree_specs.specs.declared.reply.Reply.TheVariants as reply
use Rattle.tree_specs.specs.declared.reply.Refusal.TheVariants as refusal
use Rattle.tree_specs.specs.declared.frame.FreeFrame.{FreeFrame}
use Rattle.tree_specs.specs.declared.frame.FreeFrame.TheVariants.{Unlinking, Releasing, Giving, Beginning, Hooked, Judged, Preparing, Dooming, Leaving, Looping, FreeingChild, AfterChild, Ending, Draining}
use Rattle.tree_specs.specs.declared.frame.Purpose.{Purpose}
use Rattle.tree_specs.specs.declared.frame.Purpose.TheVariants.{Removal, Emptying}
use Rattle.tree_specs.specs.declared.frame.Answer.TheVariants.{Freed}
use Rattle.tree_specs.specs.declared.free_step.FreeReply.{FreeReply}
use Rattle.tree_specs.specs.declared.free_step.FreeReply.TheVariants.{Ok, Running, Refused, Held}
use Rattle.tree_specs.specs.declared.kind.Kind.{Kind}
use Rattle.tree_specs.specs.Tree.Pool.{Pool, row_of, is_below, owner_of, first_kid, changed, left_row, marked_row, hooked_row, target_at, noted_owner, newest_ref_of, is_inside, remove, detach, doom}
use Rattle.tree_specs.specs.Tree.Heirs.{heir}
use Rattle.tree_specs.specs.Rules.Items.{Item}
use Rattle.tree_specs.specs.Machine.FreeTable.{begin_quiet, begin_step, judge_step, last_step, loop_step, hand_on_step, child_step, refs_step, unlink_step, release_step}
use Rattle.tree_specs.specs.Machine.Table.{step, turning_step, lifted, announced, closed_event, plan_step}
use Rattle.tree_specs.specs.Invariants.Sound.{phase_of, phases, claims, Sound, Refers, IsQuietRow}
use Rattle.tree_specs.proofs.Tree.Numbered.{by_test}
use Rattle.tree_specs.proofs.Calls.Checks.{Heard, HeardCall, HeardReturn, heard-leads}
use Rattle.tree_specs.specs.Rules.Answers.{later}
use Rattle.tree_specs.specs.Invariants.Consistent.{IsStacked, innermost_size, sizes, mark_deposit, deposit, IsPaidFor}
use Rattle.tree_specs.specs.Tree.Inside.{total}
use Rattle.tree_specs.proofs.Tree.Rows.{total-without, total-placed, total-changed}
use Rattle.tree_specs.proofs.Invariants.Changes.{dying-row, running-row, claim-here, heir-placed}
use Rattle.tree_specs.proofs.Turns.Lowering.{total-kept}
use Rattle.tree_specs.proofs.Turns.Seats.{Placed, reseat, reseat-free, quiet-later, routine-later, not-both, reseat-told, over}

pub asking-placed : (q : Ask) (fs : List Frame) (p : Pool) (k : ℕ) → IsStacked (frame.Call (Asking q)) fs → IsPaidFor (frame.Call (Asking q)) fs p → Placed (step (frame.Call (Asking q)) p) fs k
asking-placed q fs p zero s l = tt
asking-placed q fs p (suc k) s l = λ i g e. leads g (heard-leads q i g e)
  where
    leads : (g : Frame) → Heard q g → IsStacked g fs × IsPaidFor g fs p
    leads _ (HeardCall c) = (reseat (frame.Call (Asking q)) (frame.Call (Doing q c)) fs (λ z. z) (λ z. z) (λ z. z) (λ z. z) (λ z. z) s, l)
    leads _ (HeardReturn v of) = (reseat (frame.Call (Asking q)) (frame.Call (Returning v)) fs (λ z. not-both q z of) (λ z. tt) (λ z. z) (λ z. z) (λ z. z) s, l)

turning-placed : (q : Ask) (x : Obj) (c : Call) (fs : List Frame) (p : Pool) (k : ℕ) → IsUsable p x → IsStacked (frame.Call (Doing q c)) fs → IsPaidFor (frame.Call (Doing q c)) fs p → Placed (turning_step q x p) fs k
turning-placed asks.Quiet x c fs p k may s l = ((tt, reseat (frame.Call (Doing asks.Quiet c)) (frame.Call (Turning asks.Quiet)) fs (λ z. z) (λ z. z) (λ z. z) (λ z. z) (λ z. z) s), omega (arith, l, (follows p (Enter x) may).deposit))
turning-placed q x c fs p k may s l = (reseat-told q c (reply.No refusal.Nested) fs s, l)

-- the first step of a plan that may be carried out
pub planned-placed : (q : Ask) (c : Call) (fs : List Frame) (p : Pool) (k : ℕ) → IsStacked (frame.Call (Doing q c)) fs → IsPaidFor (frame.Call (Doing q c)) fs p → (plan : Plan) → May p plan → Placed (plan_step q plan p) fs k
planned-placed q c fs p k s l plan may = each plan may
  where
    awaits : (x : Obj) → IsStacked (frame.Call (Awaiting q x)) fs
    awaits x = reseat (frame.Call (Doing q c)) (frame.Call (Awaiting q x)) fs (λ z. z) (λ z. z) (λ z. z) (λ z. z) (λ z. z) s

    works : (change : Change) (errand : Errand) (x : Obj) → MayDo p change → MayWork (changed_by change p) errand x → Placed (plan_step q (Works change errand x) p) fs k
    works change errand x may work = begun errand work
      where
        on : IsStacked (frame.Call (Requesting q)) fs
        on = reseat (frame.Call (Doing q c)) (frame.Call (Requesting q)) fs (λ z. z) (λ z. z) (λ z. z) (λ z. z) (λ z. z) s

        begun : (errand : Errand) → MayWork (changed_by change p) errand x → Placed (plan_step q (Works change errand x) p) fs k
        begun (Finish s) work = ((tt, on), omega (arith, l, (follows p change may).deposit))
        begun Receive work = ((tt, on), omega (arith, l, (follows p change may).deposit))
        begun Cancel work = ((tt, on), omega (arith, l, (follows p change may).deposit))
        begun Notify work = absurd work

    each : (plan : Plan) → May p plan → Placed (plan_step q plan p) fs k
    each (Does change None r) may = (reseat-told q c r fs s, omega (arith, l, (follows p change may.0).deposit))
    each (Does change (Some notice) r) may = (reseat (frame.Call (Doing q c)) (frame.Call (Announcing (later q r) notice r)) fs (quiet-later q r) (routine-later q r) (λ z. z) (λ z. z) (λ z. z) s, omega (arith, l, (follows p change may.0).deposit))
    each (Frees x) may = ((tt, awaits x), omega (arith, l))
    each (Unlinks o x) may = ((tt, awaits x), omega (arith, l))
    each (Empties x) may = ((tt, awaits x), omega (arith, l))
    each (Asks outside) may = ((tt, reseat (frame.Call (Doing q c)) (frame.Call (Turning q)) fs (λ z. z) (λ z. z) (λ z. z) (λ z. z) (λ z. z) s), omega (arith, l))
    each (Turns x) may = turning-placed q x c fs p k may s l
    each (Works change errand x) may = works change errand x may.0 may.3

-- what is told of it makes no difference
announced-placed : (o : Option Event) (g : FreeFrame) (q : Pool) (fs : List Frame) (k : ℕ) → IsStacked (frame.Free g) fs × IsPaidFor (frame.Free g) fs q → Placed (announced o g q) fs k
announced-placed None g q fs k l = l
announced-placed (Some e) g q fs k l = l

-- a reference bears nothing
dropped-placed : (f g : FreeFrame) (fs : List Frame) (p : Pool) (k : ℕ) (r t : Obj) (e : Item) → Refers p.rows → target_at p.rows r ≡ Some t → innermost_size (frame.Free g) ≤ innermost_size (frame.Free f)
    → IsStacked (frame.Free f) fs → IsPaidFor (frame.Free f) fs p → Placed (Do.Emit e (frame.Free g) (remove p r)) fs k
dropped-placed f g fs p k r t e refers is less s l = by-row (row_of p.rows r) refl (refers.quiet r t is)
  where
    by-row : (q : Option Row) → row_of p.rows r ≡ q → IsQuietRow q → Placed (Do.Emit e (frame.Free g) (remove p r)) fs k
    by-row None q quiet = absurd quiet
    by-row (Some row) q quiet = let w = total-without deposit p.rows r row q in (reseat-free f g fs s, omega (arith, w, l, less, ap (mark_deposit row.kind) quiet))

pub beginning-placed : (x : Obj) (fs : List Frame) (p : Pool) (k : ℕ) → Sound (frame.Free (Beginning x)) fs p → IsStacked (frame.Free (Beginning x)) fs → IsPaidFor (frame.Free (Beginning x)) fs p
    → Placed (step (frame.Free (Beginning x)) p) fs k
beginning-placed x fs p k sound s l = newest (newest_ref p.rows x) refl
  where
    done : (a : FreeReply) → Placed (Do.Done (Freed a) p) fs k
    done a = over (Freed a) (frame.Free (Beginning x)) fs p k sound.waiting s l

    quiet : (r : Row) → row_of p.rows x ≡ Some r → r.mark ≡ Quiet → Placed (lifted p.ring (begin_quiet x r.kind r.hook p)) fs k
    quiet r e m =
        let u = total-changed deposit (marked_row Asked) p.rows x r e in
        by_test (is_request r.kind)
        (λ v. rw v (reseat-free (Beginning x) (Preparing x) fs s, omega (arith, u, l, ap (mark_deposit r.kind) m)))
        (λ v. by_test (is_queue r.kind)
        (λ w. rw (v, w) (reseat-free (Beginning x) (Draining x) fs s, omega (arith, u, l, ap (mark_deposit r.kind) m)))
        (λ w. by_test (nat_eq r.hook 0)
        (λ t. rw (v, w, t) (reseat-free (Beginning x) (Leaving x 0) fs s, l))
        (λ t. rw (v, w, t) (reseat-free (Beginning x) (Hooked x r.hook) fs s, omega (arith, u, l, ap (mark_deposit r.kind) m)))))

    marks : (r : Row) (m : Mark) → r.mark ≡ m → row_of p.rows x ≡ Some r → Placed (lifted p.ring (begin_step x (row_of p.rows x) p)) fs k
    marks r Quiet m e = rw (e, m) (quiet r e m)
    marks r Asked m e = rw (e, m) (done Running)
    marks r Busy m e =
        let u : total deposit (changed (marked_row Doomed) p.rows x) ≡ total deposit p.rows = total-kept deposit (marked_row Doomed) p.rows x r e (sym (ap (mark_deposit r.kind) m)) in
        rw (e, m) (announced-placed (closed_event (closes_with p.ring x)) (Dooming x) (doom p x) fs k (reseat-free (Beginning x) (Dooming x) fs s, omega (arith, u, l)))
    marks r Doomed m e = rw (e, m) (done Running)
    marks r (Dying former) m e = rw (e, m) (done Ok)

    each : (o : Option Row) → row_of p.rows x ≡ o → Placed (lifted p.ring (begin_step x (row_of p.rows x) p)) fs k
    each None e = rw e (done Ok)
    each (Some r) e = marks r r.mark refl e

    newest : (o : Option Obj) → newest_ref p.rows x ≡ o → Placed (lifted p.ring (refs_step x (newest_ref p.rows x) p)) fs k
    newest None e = rw e (each (row_of p.rows x) refl)
    newest (Some r) e =
        let w = newest-refers p.rows x r sound.forest.distinct e in
        let is : target_at p.rows r ≡ Some x = rw w.1 w.2 in
        rw e (by_test (is_inside p.rows (Of r) (Of x))
        (λ t. rw t (dropped-placed (Beginning x) (Beginning x) fs p k r x (Told (Unreferenced r x)) sound.refers is (omega arith) s l))
        (λ t. rw t (dropped-placed (Beginning x) (Ending Held) fs p k r x (Told (Unreferenced r x)) sound.refers is (omega arith) s l)))

pub unlinking-placed : (o : Owner) (x : Obj) (fs : List Frame) (p : Pool) (k : ℕ) → Sound (frame.Free (Unlinking o x)) fs p → IsStacked (frame.Free (Unlinking o x)) fs → IsPaidFor (frame.Free (Unlinking o x)) fs p
    → Placed (step (frame.Free (Unlinking o x)) p) fs k
unlinking-placed o x fs p k sound s l = each (newest_ref_of p.rows o x) refl
  where
    each : (n : Option Obj) → newest_ref_of p.rows o x ≡ n → Placed (lifted p.ring (unlink_step x (newest_ref_of p.rows o x) p)) fs k
    each None e = rw e (reseat-free (Unlinking o x) (Releasing x) fs s, l)
    each (Some r) e = let w = newest-of-refers p.rows o x r sound.forest.distinct e in rw e (dropped-placed (Unlinking o x) (Ending Ok) fs p k r x (Told (Unreferenced r x)) sound.refers (rw w.1 w.2) (omega arith) s l)

pub releasing-placed : (x : Obj) (fs : List Frame) (p : Pool) (k : ℕ) → Sound (frame.Free (Releasing x)) fs p → IsStacked (frame.Free (Releasing x)) fs → IsPaidFor (frame.Free (Releasing x)) fs p
    → Placed (step (frame.Free (Releasing x)) p) fs k
releasing-placed x fs p k sound s l = each (newest_ref p.rows x) refl
  where
    each : (n : Option Obj) → newest_ref p.rows x ≡ n → Placed (lifted p.ring (release_step x (newest_ref p.rows x) p)) fs k
    each None e = rw e (reseat-free (Releasing x) (Beginning x) fs s, l)
    each (Some r) e =
        let w = newest-refers p.rows x r sound.forest.distinct e in
        let is : target_at p.rows r ≡ Some x = rw w.1 w.2 in
        rw e (by_test (is_inside p.rows (Of r) (Of x))
        (λ t. rw t (dropped-placed (Releasing x) (Releasing x) fs p k r x (Told (Unreferenced r x)) sound.refers is (omega arith) s l))
        (λ t. rw t (dropped-placed (Releasing x) (Giving x (unwrap_or (owner_of p.rows r) Root)) fs p k r x (Told (Unreferenced r x)) sound.refers is (omega arith) s l)))

pub mark_deposit-most : (k : Kind) (m : Mark) → mark_deposit k m ≤ 3
mark_deposit-most k Quiet = omega arith
mark_deposit-most k Asked = omega arith
mark_deposit-most k (Dying former) = omega arith
mark_deposit-most k _ = by_test (is_context k) (λ t. rw t (omega arith)) (λ t. rw t (omega arith))

pub judged-placed : (x : Obj) (h v : ℕ) (fs : List Frame) (p : Pool) (k : ℕ) → Sound (frame.Free (Judged x h v)) fs p → IsStacked (frame.Free (Judged x h v)) fs → IsPaidFor (frame.Free (Judged x h v)) fs p
    → Placed (step (frame.Free (Judged x h v)) p) fs k
judged-placed x h v fs p k s seats l =
    let row = running-row (row_of p.rows x) (claims x fs) (claim-here x InRun (claims x fs) (row_of p.rows x) (s.open_frees x)) in
    by-row row.0 row.1
  where
    by-row : (r : Row) → row_of p.rows x ≡ Some r → Placed (lifted p.ring (judge_step x h v p)) fs k
    by-row r e = by_test (nat_eq v 0)
        (λ t. let u = total-kept deposit (hooked_row 0) p.rows x r e refl in
        rw t (reseat-free (Judged x h v) (Leaving x h) fs seats, by_test (nat_eq h 0) (λ y. rw y (omega (arith, u, l))) (λ y. rw y (omega (arith, u, l)))))
        (λ t. let u = total-changed deposit (marked_row Quiet) p.rows x r e in
        rw t (reseat-free (Judged x h v) (Ending (Refused v)) fs seats, omega (arith, u, l, mark_deposit-most r.kind r.mark)))

pub leaving-placed : (x : Obj) (h : ℕ) (fs : List Frame) (p : Pool) (k : ℕ) → Sound (frame.Free (Leaving x h)) fs p → IsStacked (frame.Free (Leaving x h)) fs → IsPaidFor (frame.Free (Leaving x h)) fs p
    → Placed (step (frame.Free (Leaving x h)) p) fs k
leaving-placed x h fs p k s seats l =
    announced-placed (closed_event (closes_with p.ring x)) (Looping x (Removal h)) (detach p x) fs k (reseat-free (Leaving x h) (Looping x (Removal h)) fs seats, lighter s.rests.0 s.rests.1 s.rests.3)
  where
    calm : (k : Kind) (m : Mark) → [] ≡ phase_of k m → mark_deposit k m ≡ 0
    calm k Quiet e = refl
    calm k Asked e = cc
    calm k (Dying former) e = cc
    calm k _ e = by_test (is_context k) (λ t. rw t refl) (λ t. cc)

    lighter : (r : Row) → row_of p.rows x ≡ Some r → claims x fs ≡ [] → IsPaidFor (frame.Free (Looping x (Removal h))) fs (record p { rows = changed left_row p.rows x })
    lighter r e none = let w = total-changed deposit left_row p.rows x r e in by_test (nat_eq h 0)
        (λ t. let o : claims x fs ≡ phases (row_of p.rows x) = rw t at (s.open_frees x) in
        let i : mark_deposit r.kind r.mark ≡ 0 = calm r.kind r.mark (sym none ∙ o ∙ ap phases e) in
        let l' : 0 + sizes fs ≤ total deposit p.rows + 2 = rw t at l in omega (arith, w, i, l'))
        (λ t. let l' : 3 + sizes fs ≤ total deposit p.rows + 2 = rw t at l in omega (arith, w, mark_deposit-most r.kind r.mark, l'))

pub looping-placed : (x : Obj) (purpose : Purpose) (fs : List Frame) (p : Pool) (k : ℕ) → Sound (frame.Free (Looping x purpose)) fs p → IsStacked (frame.Free (Looping x purpose)) fs
    → IsPaidFor (frame.Free (Looping x purpose)) fs p → Placed (step (frame.Free (Looping x purpose)) p) fs k
looping-placed x purpose fs p k s seats l = each (first_kid p.rows (Of x))
  where
    last : (purpose : Purpose) → Sound (frame.Free (Looping x purpose)) fs p → IsStacked (frame.Free (Looping x purpose)) fs → IsPaidFor (frame.Free (Looping x purpose)) fs p
        → Placed (lifted p.ring (last_step x purpose p)) fs k
    last (Removal h) s seats l =
        let row = dying-row (row_of p.rows x) (claims x fs) (claim-here x InLoop (claims x fs) (row_of p.rows x) (s.open_frees x)) in
        let w = total-without deposit p.rows x row.0 row.1 in
        let i : deposit row.0 ≡ 3 = ap (mark_deposit row.0.kind) row.3 in
        (reseat-free (Looping x (Removal h)) (Ending Ok) fs seats, omega (arith, w, i, l))
    last Emptying s seats l = over (Freed Ok) (frame.Free (Looping x Emptying)) fs p k s.waiting seats l

    child : (c : Obj) (o : Option Obj) → target_at p.rows c ≡ o → Placed (lifted p.ring (child_step x c purpose o p)) fs k
    child c None e = ((tt, reseat-free (Looping x purpose) (FreeingChild x c (noted_owner p.rows c) purpose) fs seats), omega (arith, l))
    child c (Some t) e = dropped-placed (Looping x purpose) (Looping x purpose) fs p k c t (Told (Unreferenced c t)) s.refers e (omega arith) seats l

    each : (o : Option Obj) → Placed (lifted p.ring (loop_step x purpose o p)) fs k
    each (Some c) = child c (target_at p.rows c) refl
    each None = last purpose s seats l

pub tried-placed : (x c : Obj) (noted : Option Owner) (purpose : Purpose) (a : FreeReply) (fs : List Frame) (p : Pool) (k : ℕ) → Sound (frame.Free (AfterChild x c noted purpose a)) fs p → IsStacked (frame.Free (AfterChild x c noted purpose a)) fs
    → IsPaidFor (frame.Free (AfterChild x c noted purpose a)) fs p → Placed (step (frame.Free (AfterChild x c noted purpose a)) p) fs k
tried-placed x c noted purpose a fs p k s seats l = each a
  where
    on : IsStacked (frame.Free (Looping x purpose)) fs
    on = reseat-free (AfterChild x c noted purpose a) (Looping x purpose) fs seats

    handed : Placed (lifted p.ring (hand_on_step x c noted purpose p)) fs k
    handed = by_test (is_below (owner_of p.rows c) (Of x))
        (λ t. let may = heir-placed x c noted _ fs p s t in
        let w = total-placed deposit p (heir p.rows x c noted) c may.row may.is refl in rw t (on, omega (arith, w, l)))
        (λ t. rw t (on, l))

    each : (b : FreeReply) → Placed (step (frame.Free (AfterChild x c noted purpose b)) p) fs k
    each Ok = (on, l)
    each _ = handed
