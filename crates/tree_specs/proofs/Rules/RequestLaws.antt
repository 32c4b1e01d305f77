-- What is so of the works of requests: beside what is so of every work, none of them is refused.
use Rattle.std.proofs.Common.{◌≡◌, ℕ, suc, nat_eq, List, Option, Some, None, false, refl, subst}
use Rattle.step_machine.specs.Machine.{tell, followed}
use Rattle.step_machine.specs.Machine.Outcome.{Ended}
use Rattle.tree_specs.specs.declared.object.Obj.{Obj}
use Rattle.tree_specs.specs.declared.call.Call.TheVariants as call
use Rattle.tree_specs.specs.declared.event.Event.TheVariants.{Fired, State as StateOf}
use Rattle.tree_specs.specs.declared.handler.Handler.{Handler}
use Rattle.tree_specs.specs.declared.moment.What.{What}
use Rattle.tree_specs.specs.declared.moment.What.TheVariants as what
use Rattle.tree_specs.specs.declared.question.Ask.TheVariants as ask
use Rattle.tree_specs.specs.declared.question.Input.{Input}
use Rattle.tree_specs.specs.declared.reply.Refusal.{Refusal}
use Rattle.tree_specs.specs.declared.reply.Reply.{Reply}
use Rattle.tree_specs.specs.declared.reply.Reply.TheVariants.{No, Ok}
use Rattle.tree_specs.specs.declared.request.Note.{Note}
use Rattle.tree_specs.specs.declared.request.State.{State}
use Rattle.tree_specs.specs.declared.request.State.TheVariants.{UserError, Received}
use Rattle.tree_specs.specs.declared.frame.Errand.{Errand}
use Rattle.tree_specs.specs.declared.frame.Errand.TheVariants.{Finish, Notify, Receive, Cancel}
use Rattle.tree_specs.specs.Tree.Pool.{Pool, renote, finish, receive, run_queue, trigger, schedule_deferred}
use Rattle.tree_specs.specs.Events.Coming.{handler_moment, plainly}
use Rattle.tree_specs.specs.Events.Requests.{state_number, note_of, is_unreceived, cleanup_in, cancel_in, cleaned as is_cleaned}
use Rattle.tree_specs.specs.Calls.Plans.{Plan, planned}
use Rattle.tree_specs.specs.Calls.Plans.Plan.{Frees, Unlinks}
use Rattle.tree_specs.specs.Rules.Items.Item.{Told}
use Rattle.tree_specs.specs.Rules.Sequence.{Scene}
use Rattle.tree_specs.specs.Rules.Errands.{reply_to, cancelled_reply}
use Rattle.tree_specs.specs.Rules.Story.{free, unlink, asked, finishing, receiving, cancelling, cleaning, cleaned, notifying, calling, called, over, vacating, triggering}
use Rattle.tree_specs.specs.Rules.Pieces.{work_by, freed_quietly}
use Rattle.tree_specs.proofs.Tree.Numbered.{by_test}
use Rattle.tree_specs.proofs.Rules.Lawful.{Last, After, Lawful, Any, Said, same-lawful, told-lawful, followed-lawful, Returned, scene_of, AllLawful}
use Rattle.tree_specs.specs.Events.Queues.{Head, head_of, next_of}

said-done : (errand : Errand) (l : Last) → Said (reply_to errand) l
said-done (Finish UserError) l = tt
said-done _ l = tt

said-cancelled : (v : ℕ) (l : Last) → Said (cancelled_reply v) l
said-cancelled v l = by_test (nat_eq v 0) (λ t. rw t tt) (λ t. rw t tt)

pub finishing-lawful : (n : ℕ) → AllLawful n → (x : Obj) (s : State) (p : Pool) (last : Last) → Lawful last Said (finishing (suc n) x s p)
finishing-lawful n ih x s p last =
    told-lawful last Said (scene_of (Told (StateOf x (state_number s))) p) (cleaning n x (Finish s) (finish p x s)) tt (λ is. (refl, refl)) (ih.requests.cleaning x (Finish s) (finish p x s) None)

pub receiving-lawful : (n : ℕ) → AllLawful n → (x : Obj) (p : Pool) (last : Last) → Lawful last Said (receiving (suc n) x p)
receiving-lawful n ih x p last = by_test (is_unreceived (note_of p.requests x))
    (λ t. same-lawful last Said (receiving (suc n) x p) (λ js. tell (scene_of (Told (StateOf x (state_number Received))) p) (cleaning n x Receive (receive p x) js)) (λ js. rw t refl)
    (told-lawful last Said (scene_of (Told (StateOf x (state_number Received))) p) (cleaning n x Receive (receive p x)) tt (λ is. (refl, refl)) (ih.requests.cleaning x Receive (receive p x) None)))
    (λ t. same-lawful last Said (receiving (suc n) x p) (over n (reply_to Receive) p) (λ js. rw t refl) (ih.requests.over (reply_to Receive) p last (said-done Receive last)))

pub cancelling-lawful : (n : ℕ) → AllLawful n → (x : Obj) (p : Pool) (last : Last) → Lawful last Said (cancelling (suc n) x p)
cancelling-lawful n ih x p last = each (cancel_in (note_of p.requests x)) refl
  where
    each : (o : Option Handler) → cancel_in (note_of p.requests x) ≡ o → Lawful last Said (cancelling (suc n) x p)
    each None e = same-lawful last Said (cancelling (suc n) x p) (over n (cancelled_reply 0) p) (λ js. rw e refl) (ih.requests.over (cancelled_reply 0) p last tt)
    each (Some handler) e = same-lawful last Said (cancelling (suc n) x p) (calling n what.Cancel x handler Cancel p) (λ js. rw e refl) (ih.requests.calling what.Cancel x handler Cancel p last)

pub cleaning-lawful : (n : ℕ) → AllLawful n → (x : Obj) (errand : Errand) (p : Pool) (last : Last) → Lawful last Said (cleaning (suc n) x errand p)
cleaning-lawful n ih x errand p last = each (cleanup_in (note_of p.requests x)) refl
  where
    each : (o : Option Handler) → cleanup_in (note_of p.requests x) ≡ o → Lawful last Said (cleaning (suc n) x errand p)
    each None e = same-lawful last Said (cleaning (suc n) x errand p) (cleaned n x errand p) (λ js. rw e refl) (ih.requests.cleaned x errand p last)
    each (Some handler) e = same-lawful last Said (cleaning (suc n) x errand p) (calling n what.Cleanup x handler errand (renote p x is_cleaned)) (λ js. rw e refl)
        (ih.requests.calling what.Cleanup x handler errand (renote p x is_cleaned) last)

quietly-lawful : (n : ℕ) → AllLawful n → (r : Reply) → ((l : Last) → Said r l) → (plan : Plan) (p : Pool) (last : Last) → Lawful last Said (freed_quietly (free n) (unlink n) (over n r) plan p)
quietly-lawful n ih r said (Frees c) p last = followed-lawful last Any Said (free n c p) _ (ih.frees.free c p last) (λ a q l w. ih.requests.over r q l (said l))
quietly-lawful n ih r said (Unlinks o c) p last = followed-lawful last Any Said (unlink n o c p) _ (ih.frees.unlink o c p last) (λ a q l w. ih.requests.over r q l (said l))
quietly-lawful n ih r said _ p last = ih.requests.over r p last (said last)

pub cleaned-lawful : (n : ℕ) → AllLawful n → (x : Obj) (errand : Errand) (p : Pool) (last : Last) → Lawful last Said (cleaned (suc n) x errand p)
cleaned-lawful n ih x errand p last = each errand (note_of p.requests x) refl
  where
    each : (errand : Errand) (o : Option Note) → note_of p.requests x ≡ o → Lawful last Said (cleaned (suc n) x errand p)
    each errand None e = same-lawful last Said (cleaned (suc n) x errand p) (over n (reply_to errand) p) (λ js. rw e refl) (ih.requests.over (reply_to errand) p last (said-done errand last))
    each Receive (Some note) e = same-lawful last Said (cleaned (suc n) x Receive p) (freed_quietly (free n) (unlink n) (over n (reply_to Receive)) (planned p (call.Free note.child)) p) (λ js. rw e refl)
        (quietly-lawful n ih (reply_to Receive) (said-done Receive) (planned p (call.Free note.child)) p last)
    each (Finish s) (Some note) e = same-lawful last Said (cleaned (suc n) x (Finish s) p) (notifying n x (Finish s) p) (λ js. rw e refl) (ih.requests.notifying x (Finish s) p last)
    each Notify (Some note) e = same-lawful last Said (cleaned (suc n) x Notify p) (notifying n x Notify p) (λ js. rw e refl) (ih.requests.notifying x Notify p last)
    each Cancel (Some note) e = same-lawful last Said (cleaned (suc n) x Cancel p) (notifying n x Cancel p) (λ js. rw e refl) (ih.requests.notifying x Cancel p last)

pub notifying-lawful : (n : ℕ) → AllLawful n → (x : Obj) (errand : Errand) (p : Pool) (last : Last) → Lawful last Said (notifying (suc n) x errand p)
notifying-lawful n ih x errand p last = each (note_of p.requests x) refl
  where
    over-it : (q : Pool) → Lawful last Said (over n (reply_to errand) q)
    over-it q = ih.requests.over (reply_to errand) q last (said-done errand last)

    back : (note : Note) (o : Option Handler) → note.callback ≡ o → note.deferred ≡ None → note_of p.requests x ≡ Some note → Lawful last Said (notifying (suc n) x errand p)
    back note None c t e = same-lawful last Said (notifying (suc n) x errand p) (over n (reply_to errand) p) (λ js. rw (e, t, c) refl) (over-it p)
    back note (Some handler) c t e = same-lawful last Said (notifying (suc n) x errand p) (calling n what.Callback x handler errand p) (λ js. rw (e, t, c) refl) (ih.requests.calling what.Callback x handler errand p last)

    deferred : (note : Note) (o : Option Obj) → note.deferred ≡ o → note_of p.requests x ≡ Some note → Lawful last Said (notifying (suc n) x errand p)
    deferred note None t e = back note note.callback refl t e
    deferred note (Some c) t e = same-lawful last Said (notifying (suc n) x errand p) (over n (reply_to errand) (schedule_deferred p x c)) (λ js. rw (e, t, e) refl) (over-it (schedule_deferred p x c))

    each : (o : Option Note) → note_of p.requests x ≡ o → Lawful last Said (notifying (suc n) x errand p)
    each None e = same-lawful last Said (notifying (suc n) x errand p) (over n (reply_to errand) p) (λ js. rw e refl) (over-it p)
    each (Some note) e = deferred note note.deferred refl e

pub calling-lawful : (n : ℕ) → AllLawful n → (w : What) (x : Obj) (handler : Handler) (errand : Errand) (p : Pool) (last : Last) → Lawful last Said (calling (suc n) w x handler errand p)
calling-lawful n ih w x handler errand p last =
    told-lawful last Said (scene_of (Told (Fired w x handler.routine)) p) (called n w x handler errand p) tt (λ is. (refl, refl)) (ih.requests.called w x handler errand p None)

pub called-lawful : (n : ℕ) → AllLawful n → (w : What) (x : Obj) (handler : Handler) (errand : Errand) (p : Pool) (last : Last) → Lawful last Said (called (suc n) w x handler errand p)
called-lawful n ih w x handler errand p last = each w
  where
    each : (w : What) → Lawful last Said (called (suc n) w x handler errand p)
    each what.Cleanup = followed-lawful last (Returned (ask.Routine (handler_moment what.Cleanup x handler plainly))) Said (asked n (ask.Routine (handler_moment what.Cleanup x handler plainly)) p) _
        (ih.calls.asked (ask.Routine (handler_moment what.Cleanup x handler plainly)) p last) (λ v q l k. ih.requests.cleaned x errand q l)
    each what.Cancel = followed-lawful last (Returned (ask.Routine (handler_moment what.Cancel x handler plainly))) Said (asked n (ask.Routine (handler_moment what.Cancel x handler plainly)) p) _
        (ih.calls.asked (ask.Routine (handler_moment what.Cancel x handler plainly)) p last) (λ v q l k. ih.requests.over (cancelled_reply v) q l (said-cancelled v l))
    each u = followed-lawful last (Returned (ask.Routine (handler_moment u x handler plainly))) Said (asked n (ask.Routine (handler_moment u x handler plainly)) p) _
        (ih.calls.asked (ask.Routine (handler_moment u x handler plainly)) p last) (λ v q l k. ih.requests.over (reply_to errand) q l (said-done errand l))

pub vacating-lawful : (n : ℕ) → AllLawful n → (q : Obj) (p : Pool) (last : Last) → Lawful last Said (vacating (suc n) q p)
vacating-lawful n ih q p last = each (head_of p.queues q) refl
  where
    each : (o : Option Head) → head_of p.queues q ≡ o → Lawful last Said (vacating (suc n) q p)
    each None e = same-lawful last Said (vacating (suc n) q p) (over n Ok (run_queue p q false)) (λ js. rw e refl) (ih.requests.over Ok (run_queue p q false) last tt)
    each (Some h) e = same-lawful last Said (vacating (suc n) q p) (λ js. followed (free n h.object (run_queue p q false) js) (λ a r left. vacating n q r left)) (λ js. rw e refl)
        (followed-lawful last Any Said (free n h.object (run_queue p q false)) (λ a r left. vacating n q r left) (ih.frees.free h.object (run_queue p q false) last) (λ a r l w. ih.requests.vacating q r l))

pub triggering-lawful : (n : ℕ) → AllLawful n → (q : Obj) (p : Pool) (last : Last) → Lawful last Said (triggering (suc n) q p)
triggering-lawful n ih q p last = each (next_of p.queues q) refl
  where
    each : (o : Option Head) → next_of p.queues q ≡ o → Lawful last Said (triggering (suc n) q p)
    each None e = same-lawful last Said (triggering (suc n) q p) (over n Ok p) (λ js. rw e refl) (ih.requests.over Ok p last tt)
    each (Some h) e =
        let s : Scene = scene_of (Told (Fired what.Trigger h.entry.request h.entry.trigger.routine)) p in
        same-lawful last Said (triggering (suc n) q p) (λ js. tell s (called n what.Trigger h.entry.request h.entry.trigger Notify (trigger p h) js)) (λ js. rw e refl)
        (told-lawful last Said s (called n what.Trigger h.entry.request h.entry.trigger Notify (trigger p h)) tt (λ is. (refl, refl)) (ih.requests.called what.Trigger h.entry.request h.entry.trigger Notify (trigger p h) None))

-- an errand, with so many turns
pub work-lawful : (n : ℕ) → AllLawful n → (errand : Errand) (x : Obj) (p : Pool) (last : Last) → Lawful last Said (work_by (finishing n) (notifying n) (receiving n) (cancelling n) errand x p)
work-lawful n ih (Finish s) x p last = ih.requests.finishing x s p last
work-lawful n ih Notify x p last = ih.requests.notifying x Notify p last
work-lawful n ih Receive x p last = ih.requests.receiving x p last
work-lawful n ih Cancel x p last = ih.requests.cancelling x p last

-- so it isn't refused
pub work-said : (n : ℕ) → AllLawful n → (errand : Errand) (x : Obj) (why : Refusal) (p q : Pool) (is left : List Input) (told : List Scene)
    → work_by (finishing n) (notifying n) (receiving n) (cancelling n) errand x p is ≡ Ended (No why) q told left → ⊥
work-said n ih errand x why p q is left told e =
    let h = (work-lawful n ih errand x p None).accepts is in
    said e h
  where
    said : work_by (finishing n) (notifying n) (receiving n) (cancelling n) errand x p is ≡ Ended (No why) q told left
        → After None is Said (work_by (finishing n) (notifying n) (receiving n) (cancelling n) errand x p is) → ⊥
    said e h = let h' : After None is Said (Ended (No why) q told left) = subst (After None is Said) e h in h'.2
