-- The machine does what the rules' text says.
use Rattle.std.proofs.Common.{◌≡◌, ℕ, suc, zero, nat_eq, List, ◌∷◌, Option, Some, None, Bool, true, false, nat_le, refl, inl, inr}
use Rattle.step_machine.specs.Machine.{run}
use Rattle.step_machine.specs.Noted.{Noted, noted}
use Rattle.step_machine.proofs.Laws.{Below, Below-trans, Below-after, followed-tell, followed-tells, followed-followed}
use Rattle.tree_specs.specs.declared.object.Obj.{Obj}
use Rattle.tree_specs.specs.declared.question.Ask.{Ask}
use Rattle.tree_specs.specs.declared.question.Ask.TheVariants.{Clock, Wait}
use Rattle.tree_specs.specs.declared.question.Input.{Input}
use Rattle.tree_specs.specs.declared.frame.Frame.{Frame}
use Rattle.tree_specs.specs.declared.frame.Frame.TheVariants as frame
use Rattle.tree_specs.specs.declared.frame.CallFrame.TheVariants.{Asking, Doing, Awaiting, Turning, Requesting, Returning}
use Rattle.tree_specs.specs.declared.frame.TurnFrame.{TurnFrame}
use Rattle.tree_specs.specs.declared.frame.TurnFrame.TheVariants.{Taking, Timing, Timed, Polling, Starting, Handled, Clearing, Serving, Parting, Closing}
use Rattle.tree_specs.specs.declared.frame.FreeFrame.TheVariants.{Unlinking, Releasing, Beginning, Judged, Prepared, Dooming, Leaving, Looping, FreeingChild, AfterChild, Ending}
use Rattle.tree_specs.specs.declared.frame.OutsideFrame.TheVariants.{Reaching}
use Rattle.tree_specs.specs.declared.frame.RequestFrame.{RequestFrame}
use Rattle.tree_specs.specs.declared.frame.RequestFrame.TheVariants as request
use Rattle.tree_specs.specs.declared.call.Call.TheVariants as call
use Rattle.tree_specs.specs.declared.moment.What.TheVariants as whats
use Rattle.tree_specs.specs.declared.frame.Answer.TheVariants as answer
use Rattle.tree_specs.specs.Tree.Pool.{ring_here, times_here, soon_here, Pool}
use Rattle.std.specs.Prelude.{◌&&◌, not}
use Rattle.tree_specs.specs.Words.Ranges.{is_routine, is_time}
use Rattle.tree_specs.specs.Calls.Refusals.{is_doomed, is_open}
use Rattle.tree_specs.specs.Words.Wants.{is_wants}
use Rattle.tree_specs.specs.Events.Pending.{first}
use Rattle.tree_specs.specs.Events.Rotation.{Ready, first_ready}
use Rattle.tree_specs.specs.Events.Coming.{handler_for, goes_after, looks_again}
use Rattle.tree_specs.specs.declared.occasion.Occasion.{Occasion}
use Rattle.tree_specs.specs.declared.wants.Want.{Want}
use Rattle.tree_specs.specs.declared.due.Due.{Due}
use Rattle.tree_specs.specs.declared.handler.Handler.{Handler}
use Rattle.tree_specs.specs.declared.moment.What.{What}
use Rattle.tree_specs.specs.Calls.Given.{Given, given_to}
use Rattle.tree_specs.specs.Calls.Given.Given.{Tells, IsReady, Opens, Answers}
use Rattle.tree_specs.specs.declared.frame.Errand.{Errand}
use Rattle.tree_specs.specs.declared.frame.Errand.TheVariants.{Receive}
use Rattle.tree_specs.specs.declared.request.Note.{Note}
use Rattle.tree_specs.specs.declared.coming.Coming.{Coming}
use Rattle.tree_specs.specs.Events.Requests.{note_of, is_noted, is_unreceived, cleanup_in, cancel_in}
use Rattle.tree_specs.specs.Calls.Plans.{Plan, planned}
use Rattle.tree_specs.specs.Calls.Plans.Plan.{Frees, Unlinks}
use Rattle.tree_specs.specs.Rules.Sequence.{CallStart}
use Rattle.tree_specs.specs.Rules.Story.{closing, free, unlink, taking, timed, starting, handled, cancelling, cleaning, cleaned, notifying, called, over, vacating, triggering}
use Rattle.tree_specs.specs.Rules.Pieces.{freed_quietly}
use Rattle.tree_specs.specs.Rules.Errands.{reply_to}
use Rattle.tree_specs.specs.Machine.Meaning.{noted_table, ends_as, request_mean, mean}
use Rattle.tree_specs.specs.Machine.Table.{step, turn_step, request_step, release_object}
use Rattle.tree_specs.proofs.Tree.Numbered.{by_test}
use Rattle.tree_specs.specs.Events.Queues.{has_queue, head_of, next_of}
use Rattle.tree_specs.proofs.Rules.MeansFrees.{noted_mean, Turn, AsText, by-given, asking-turn, doing-turn, by-found, beginning-turn, unlinking-turn, releasing-turn, judged-turn, leaving-turn, looping-turn, tried-turn}

ruleset laws = (followed-tell, followed-tells, followed-followed)

-- ---- turns of the event loop

taking-turn : (n : ℕ) (b : Option CallStart) (p : Pool) (is : List Input) → Below (Turn n (frame.Turn Taking) b (turn_step Taking p) p is) (ends_as answer.Turned (taking (suc n)) p is)
taking-turn n b p is = each (first (soon_here p)) refl
  where
    due : first (soon_here p) ≡ None → (o : Option Due) → first (times_here p) ≡ o → Below (Turn n (frame.Turn Taking) b (turn_step Taking p) p is) (ends_as answer.Turned (taking (suc n)) p is)
    due e None k = rw (e, k) (inr refl)
    due e (Some d) k = by_test (nat_eq d.time 0)
        (λ t. by_test (is_noted p.requests d.object) (λ u. rw (e, k, t, u) (inr (simp laws))) (λ u. rw (e, k, t, u) (inr refl)))
        (λ t. rw (e, k, t) (inr refl))

    each : (o : Option Coming) → first (soon_here p) ≡ o → Below (Turn n (frame.Turn Taking) b (turn_step Taking p) p is) (ends_as answer.Turned (taking (suc n)) p is)
    each None e = due e (first (times_here p)) refl
    each (Some y) e = by_test (is_noted p.requests y.object)
        (λ u. rw (e, u) (inr (simp laws)))
        (λ u. by_test (has_queue p.queues y.object) (λ v. rw (e, u, v) (inr (simp laws))) (λ v. rw (e, u, v) (inr refl)))

timed-turn : (n : ℕ) (again : Bool) (now : ℕ) (b : Option CallStart) (p : Pool) (is : List Input)
    → Below (Turn n (frame.Turn (Timed again now)) b (turn_step (Timed again now) p) p is) (ends_as answer.Turned (timed (suc n) again now) p is)
timed-turn n again now b p is = each again (first (times_here p)) refl
  where
    has_come : (again : Bool) (d : Due) → first (times_here p) ≡ Some d → nat_le d.time now ≡ true → Below (Turn n (frame.Turn (Timed again now)) b (turn_step (Timed again now) p) p is) (ends_as answer.Turned (timed (suc n) again now) p is)
    has_come again d e t = by_test (is_noted p.requests d.object) (λ u. rw (e, t, u) (inr (simp laws))) (λ u. rw (e, t, u) (inr refl))

    each : (again : Bool) (o : Option Due) → first (times_here p) ≡ o → Below (Turn n (frame.Turn (Timed again now)) b (turn_step (Timed again now) p) p is) (ends_as answer.Turned (timed (suc n) again now) p is)
    each again None e = rw e (inr refl)
    each true (Some d) e = by_test (nat_le d.time now) (λ t. has_come true d e t) (λ t. rw (e, t) (inr refl))
    each false (Some d) e = by_test (nat_le d.time now) (λ t. has_come false d e t) (λ t. rw (e, t) (inr refl))

timing-turn : (n : ℕ) (again : Bool) (b : Option CallStart) (p : Pool) (is : List Input) → AsText n (frame.Turn (Timing again)) b p is
timing-turn n again b p is = by-given Clock n (frame.Turn (Timing again)) b p (inr refl) each is
  where
    each : (i : Input) (js : List Input) (g : Option Given) → given_to Clock i ≡ g → AsText n (frame.Turn (Timing again)) b p (i ∷ js)
    each i js (Some (Tells now)) e = by_test (is_time now) (λ t. rw (e, t) (inr (simp laws))) (λ t. rw (e, t) (inr refl))
    each i js _ e = rw e (inr refl)

polling-turn : (n limit : ℕ) (b : Option CallStart) (p : Pool) (is : List Input) → AsText n (frame.Turn (Polling limit)) b p is
polling-turn n limit b p is = by-given (Wait limit) n (frame.Turn (Polling limit)) b p (inr refl) each is
  where
    ready : (i : Input) (js : List Input) (wants : List Want) → given_to (Wait limit) i ≡ Some (IsReady wants) → is_wants wants ≡ true → looks_again p wants ≡ false → (o : Option Ready) → first_ready (ring_here p) wants ≡ o
        → AsText n (frame.Turn (Polling limit)) b p (i ∷ js)
    ready i js wants e t l None k = rw (e, t, l, k) (inr (simp laws))
    ready i js wants e t l (Some r) k = rw (e, t, l, k) (inr (simp laws))

    each : (i : Input) (js : List Input) (g : Option Given) → given_to (Wait limit) i ≡ g → AsText n (frame.Turn (Polling limit)) b p (i ∷ js)
    each i js (Some (IsReady wants)) e = by_test (is_wants wants)
        (λ t. by_test (looks_again p wants) (λ l. rw (e, t, l) (inr (simp laws))) (λ l. ready i js wants e t l (first_ready (ring_here p) wants) refl))
        (λ t. rw (e, t) (inr refl))
    each i js _ e = rw e (inr refl)

starting-turn : (n : ℕ) (what : What) (x : Obj) (occasion : Occasion) (b : Option CallStart) (p : Pool) (is : List Input)
    → Below (Turn n (frame.Turn (Starting what x occasion)) b (turn_step (Starting what x occasion) p) p is) (ends_as answer.Turned (starting (suc n) what x occasion) p is)
starting-turn n what x occasion b p is = by-found (handler_for p what x) (λ e. rw e (inr refl)) (λ handler e. rw e (inr refl))

handled-turn : (n : ℕ) (what : What) (x : Obj) (b : Option CallStart) (p : Pool) (is : List Input)
    → Below (Turn n (frame.Turn (Handled what x)) b (turn_step (Handled what x) p) p is) (ends_as answer.Turned (handled (suc n) what x) p is)
handled-turn n what x b p is = by_test (goes_after p what x) (λ t. rw t (inr (simp laws))) (λ t. rw t (inr refl))

closing-turn : (n v : ℕ) (b : Option CallStart) (p : Pool) (is : List Input)
    → Below (Turn n (frame.Turn (Closing v)) b (turn_step (Closing v) p) p is) (ends_as answer.Turned (closing (suc n) v) p is)
closing-turn n v b p is = each p.turning refl
  where
    each : (o : Option Obj) → p.turning ≡ o → Below (Turn n (frame.Turn (Closing v)) b (turn_step (Closing v) p) p is) (ends_as answer.Turned (closing (suc n) v) p is)
    each None e = rw e (inr refl)
    each (Some c) e = by_test (is_doomed p c) (λ t. rw (e, t) (inr (simp laws))) (λ t. rw (e, t) (inr refl))

loop-turn : (n : ℕ) (f : TurnFrame) (b : Option CallStart) (p : Pool) (is : List Input) → Below (Turn n (frame.Turn f) b (turn_step f p) p is) (mean (suc n) (frame.Turn f) b p is)
loop-turn n Taking b p is = taking-turn n b p is
loop-turn n (Timing again) b p is = timing-turn n again b p is
loop-turn n (Timed again now) b p is = timed-turn n again now b p is
loop-turn n (Polling limit) b p is = polling-turn n limit b p is
loop-turn n (Starting what x occasion) b p is = starting-turn n what x occasion b p is
loop-turn n (Handled what x) b p is = handled-turn n what x b p is
loop-turn n (Clearing x) b p is = inr refl
loop-turn n (Serving x) b p is = inr refl
loop-turn n (Parting c v) b p is = inr refl
loop-turn n (Closing v) b p is = closing-turn n v b p is
loop-turn n _ b p is = inr (simp laws)

-- ---- a question to the outside

reaching-turn : (n : ℕ) (q : Ask) (b : Option CallStart) (p : Pool) (is : List Input) → AsText n (frame.Outside (Reaching q)) b p is
reaching-turn n q b p is = by-given q n (frame.Outside (Reaching q)) b p (inr refl) each is
  where
    each : (i : Input) (js : List Input) (g : Option Given) → given_to q i ≡ g → AsText n (frame.Outside (Reaching q)) b p (i ∷ js)
    each i js (Some (Tells now)) e = by_test (is_time now) (λ t. rw (e, t) (inr (simp laws))) (λ t. rw (e, t) (inr refl))
    each i js (Some (Opens fd)) e = by_test (is_routine fd && not (is_open p fd)) (λ t. rw (e, t) (inr (simp laws))) (λ t. rw (e, t) (inr refl))
    each i js (Some (Answers r)) e = rw e (inr (simp laws))
    each i js _ e = rw e (inr refl)

-- ---- requests

cancelling-turn : (n : ℕ) (x : Obj) (b : Option CallStart) (p : Pool) (is : List Input)
    → Below (Turn n (frame.Request (request.Cancelling x)) b (request_step (request.Cancelling x) p) p is) (ends_as answer.Heard (cancelling (suc n) x) p is)
cancelling-turn n x b p is = each (cancel_in (note_of p.requests x)) refl
  where
    each : (o : Option Handler) → cancel_in (note_of p.requests x) ≡ o → Below (Turn n (frame.Request (request.Cancelling x)) b (request_step (request.Cancelling x) p) p is) (ends_as answer.Heard (cancelling (suc n) x) p is)
    each None e = rw e (inr refl)
    each (Some handler) e = rw e (inr refl)

cleaning-turn : (n : ℕ) (x : Obj) (errand : Errand) (b : Option CallStart) (p : Pool) (is : List Input)
    → Below (Turn n (frame.Request (request.Cleaning x errand)) b (request_step (request.Cleaning x errand) p) p is) (ends_as answer.Heard (cleaning (suc n) x errand) p is)
cleaning-turn n x errand b p is = each (cleanup_in (note_of p.requests x)) refl
  where
    each : (o : Option Handler) → cleanup_in (note_of p.requests x) ≡ o → Below (Turn n (frame.Request (request.Cleaning x errand)) b (request_step (request.Cleaning x errand) p) p is) (ends_as answer.Heard (cleaning (suc n) x errand) p is)
    each None e = rw e (inr refl)
    each (Some handler) e = rw e (inr refl)

-- the object of a request is freed as by a call
releasing-object : (n : ℕ) (x : Obj) (b : Option CallStart) (plan : Plan) (p : Pool) (is : List Input)
    → Below (Turn n (frame.Request (request.Cleaned x Receive)) b (release_object plan Receive p) p is) (ends_as answer.Heard (freed_quietly (free n) (unlink n) (over n (reply_to Receive)) plan) p is)
releasing-object n x b (Frees c) p is = inr (simp laws)
releasing-object n x b (Unlinks o c) p is = inr (simp laws)
releasing-object n x b _ p is = inr refl

cleaned-turn : (n : ℕ) (x : Obj) (errand : Errand) (b : Option CallStart) (p : Pool) (is : List Input)
    → Below (Turn n (frame.Request (request.Cleaned x errand)) b (request_step (request.Cleaned x errand) p) p is) (ends_as answer.Heard (cleaned (suc n) x errand) p is)
cleaned-turn n x errand b p is = each errand (note_of p.requests x) refl
  where
    each : (errand : Errand) (o : Option Note) → note_of p.requests x ≡ o
        → Below (Turn n (frame.Request (request.Cleaned x errand)) b (request_step (request.Cleaned x errand) p) p is) (ends_as answer.Heard (cleaned (suc n) x errand) p is)
    each errand None e = rw e (inr refl)
    each Receive (Some note) e = rw e (releasing-object n x b (planned p (call.Free note.child)) p is)
    each _ (Some note) e = rw e (inr refl)

notifying-turn : (n : ℕ) (x : Obj) (errand : Errand) (b : Option CallStart) (p : Pool) (is : List Input)
    → Below (Turn n (frame.Request (request.Notifying x errand)) b (request_step (request.Notifying x errand) p) p is) (ends_as answer.Heard (notifying (suc n) x errand) p is)
notifying-turn n x errand b p is = each (note_of p.requests x) refl
  where
    back : (note : Note) (o : Option Handler) → note.callback ≡ o → note.deferred ≡ None → note_of p.requests x ≡ Some note
        → Below (Turn n (frame.Request (request.Notifying x errand)) b (request_step (request.Notifying x errand) p) p is) (ends_as answer.Heard (notifying (suc n) x errand) p is)
    back note None c t e = rw (e, t, c) (inr refl)
    back note (Some handler) c t e = rw (e, t, c) (inr refl)

    deferred : (note : Note) (o : Option Obj) → note.deferred ≡ o → note_of p.requests x ≡ Some note
        → Below (Turn n (frame.Request (request.Notifying x errand)) b (request_step (request.Notifying x errand) p) p is) (ends_as answer.Heard (notifying (suc n) x errand) p is)
    deferred note None t e = back note note.callback refl t e
    deferred note (Some c) t e = rw (e, t) (inr refl)

    each : (o : Option Note) → note_of p.requests x ≡ o → Below (Turn n (frame.Request (request.Notifying x errand)) b (request_step (request.Notifying x errand) p) p is) (ends_as answer.Heard (notifying (suc n) x errand) p is)
    each None e = rw e (inr refl)
    each (Some note) e = deferred note note.deferred refl e

called-turn : (n : ℕ) (what : What) (x : Obj) (handler : Handler) (errand : Errand) (b : Option CallStart) (p : Pool) (is : List Input)
    → Below (Turn n (frame.Request (request.Called what x handler errand)) b (request_step (request.Called what x handler errand) p) p is) (ends_as answer.Heard (called (suc n) what x handler errand) p is)
called-turn n whats.Cleanup x handler errand b p is = inr (simp laws)
called-turn n whats.Cancel x handler errand b p is = inr (simp laws)
called-turn n _ x handler errand b p is = inr (simp laws)

vacating-turn : (n : ℕ) (q : Obj) (b : Option CallStart) (p : Pool) (is : List Input)
    → Below (Turn n (frame.Request (request.Vacating q)) b (request_step (request.Vacating q) p) p is) (ends_as answer.Heard (vacating (suc n) q) p is)
vacating-turn n q b p is = by-found (head_of p.queues q) (λ e. rw e (inr refl)) (λ h e. rw e (inr (simp laws)))

triggering-turn : (n : ℕ) (q : Obj) (b : Option CallStart) (p : Pool) (is : List Input)
    → Below (Turn n (frame.Request (request.Triggering q)) b (request_step (request.Triggering q) p) p is) (ends_as answer.Heard (triggering (suc n) q) p is)
triggering-turn n q b p is = by-found (next_of p.queues q) (λ e. rw e (inr refl)) (λ h e. rw e (inr (simp laws)))

request-turn : (n : ℕ) (f : RequestFrame) (b : Option CallStart) (p : Pool) (is : List Input) → Below (Turn n (frame.Request f) b (request_step f p) p is) (request_mean (suc n) f p is)
request-turn n (request.Receiving x) b p is = by_test (is_unreceived (note_of p.requests x)) (λ t. rw t (inr (simp laws))) (λ t. rw t (inr refl))
request-turn n (request.Cancelling x) b p is = cancelling-turn n x b p is
request-turn n (request.Cleaning x errand) b p is = cleaning-turn n x errand b p is
request-turn n (request.Cleaned x errand) b p is = cleaned-turn n x errand b p is
request-turn n (request.Notifying x errand) b p is = notifying-turn n x errand b p is
request-turn n (request.Called what x handler errand) b p is = called-turn n what x handler errand b p is
request-turn n (request.Releasing c) b p is = inr refl
request-turn n (request.Vacating q) b p is = vacating-turn n q b p is
request-turn n (request.Dropping q e) b p is = inr refl
request-turn n (request.Triggering q) b p is = triggering-turn n q b p is
request-turn n (request.Over r) b p is = inr refl
request-turn n _ b p is = inr (simp laws)

-- one turn of the machine is one turn of the text
pub turn : (n : ℕ) (f : Frame) (b : Option CallStart) (p : Pool) (is : List Input) → Below (Turn n f b (step f p) p is) (mean (suc n) f b p is)
turn n (frame.Call (Asking q)) b p is = asking-turn n q b p is
turn n (frame.Call (Doing q c)) b p is = doing-turn n q c b p is
turn n (frame.Call (Awaiting q x)) b p is = inr refl
turn n (frame.Call (Turning q)) b p is = inr refl
turn n (frame.Call (Requesting q)) b p is = inr refl
turn n (frame.Call (Returning v)) b p is = inr refl
turn n (frame.Turn f) b p is = loop-turn n f b p is
turn n (frame.Outside (Reaching q)) b p is = reaching-turn n q b p is
turn n (frame.Outside _) b p is = inr refl
turn n (frame.Request f) b p is = request-turn n f b p is
turn n (frame.Free (Unlinking o x)) b p is = unlinking-turn n o x b p is
turn n (frame.Free (Releasing x)) b p is = releasing-turn n x b p is
turn n (frame.Free (Beginning x)) b p is = beginning-turn n x b p is
turn n (frame.Free (Judged x h v)) b p is = judged-turn n x h v b p is
turn n (frame.Free (Dooming x)) b p is = inr refl
turn n (frame.Free (Prepared x)) b p is = inr refl
turn n (frame.Free (Leaving x h)) b p is = leaving-turn n x h b p is
turn n (frame.Free (Looping x purpose)) b p is = looping-turn n x purpose b p is
turn n (frame.Free (FreeingChild x c noted purpose)) b p is = inr refl
turn n (frame.Free (AfterChild x c noted purpose a)) b p is = tried-turn n x c noted purpose a b p is
turn n (frame.Free (Ending a)) b p is = inr refl
turn n _ b p is = inr (simp laws)

-- the machine's run of a work is what the text says of it
pub run-means : (n : ℕ) (w : Noted Frame CallStart) (p : Pool) (is : List Input) → Below (run noted_table n w p is) (noted_mean n w p is)
run-means zero w p is = inl refl
run-means (suc n) w p is =
    Below-trans _ _ _ (Below-after noted_table (run noted_table n) (noted_mean n) (run-means n) (noted_table.step w p) is) (turn n w.work w.note p is)
