-- The rules' text over every pool and every list of inputs: what an acceptance follows, and which inputs a free takes.
use Rattle.tree_specs.specs.declared.object.Owner.{Owner}
use Rattle.tree_specs.specs.Tree.Targets.{newest_ref}
use Rattle.std.proofs.Common.{◌≡◌, ℕ, suc, zero, nat_eq, List, [], Option, Some, None, true, false, refl, sym, ◌∙◌, ap, subst, inl, inr, unwrap_or}
use Rattle.std.proofs.lemmas.Bool.{eqb-true}
use Rattle.step_machine.specs.Machine.{Outcome, tell, followed, items as told_by}
use Rattle.step_machine.specs.Machine.Outcome.{Ended, Waits, Stray, Short}
use Rattle.tree_specs.specs.declared.object.Obj.{Obj}
use Rattle.tree_specs.specs.declared.object.Owner.TheVariants.{Of, Root}
use Rattle.tree_specs.specs.declared.row.Row.{Row}
use Rattle.tree_specs.specs.declared.row.Mark.{Mark}
use Rattle.tree_specs.specs.declared.row.Mark.TheVariants as mark
use Rattle.tree_specs.specs.declared.call.Call.{Call}
use Rattle.tree_specs.specs.declared.reply.Reply.{Reply}
use Rattle.tree_specs.specs.declared.reply.Reply.TheVariants.{Number}
use Rattle.tree_specs.specs.declared.notice.Notice.{Notice}
use Rattle.tree_specs.specs.declared.notice.Notice.TheVariants.{Warned, Closed as IsClosed}
use Rattle.tree_specs.specs.Events.Rotation.{closes_with}
use Rattle.tree_specs.specs.declared.event.Event.TheVariants.{Replied, Accepted, Refused, Moved, Freed, Closed, Unreferenced}
use Rattle.tree_specs.specs.declared.question.Ask.{Ask}
use Rattle.tree_specs.specs.declared.question.Ask.TheVariants as ask
use Rattle.tree_specs.specs.declared.question.Input.{Input}
use Rattle.tree_specs.specs.declared.free_step.FreeReply.{FreeReply}
use Rattle.tree_specs.specs.declared.free_step.FreeReply.TheVariants as free_reply
use Rattle.tree_specs.specs.Tree.Pool.{enter, Pool, row_of, is_below, owner_of, first_kid, detach, remove, place, set_mark, doom, set_hook, target_at, newest_ref_of, noted_owner, is_inside, open_descriptor}
use Rattle.tree_specs.specs.Tree.Heirs.{heir}
use Rattle.tree_specs.specs.Rules.Items.Item.{Told}
use Rattle.tree_specs.specs.Rules.Sequence.{Work, Scene, CallStart}
use Rattle.tree_specs.specs.Calls.Plans.{Plan, notice_of, changed_by, planned_at}
use Rattle.tree_specs.specs.Calls.Plans.Plan.{Does, Frees, Unlinks, Empties, Asks, Turns, Works}
use Rattle.tree_specs.specs.Calls.Refusals.{is_request, is_queue}
use Rattle.tree_specs.specs.Rules.Answers.{hook_moment, later, heard, reached}
use Rattle.tree_specs.specs.Rules.Story.{free, hooked, judged, dooming, leave, children, tried, asked, acting, telling, returning, items, announcing, unlink, release, given, taking, timed, reaching, opening, hearing, preparing, finishing, receiving, cancelling, notifying, draining, vacating}
use Rattle.tree_specs.specs.Rules.Pieces.{effect, numbered, turned, lets_go, notice_event, work_by}
use Rattle.tree_specs.specs.Promises.Acceptances.{returned_by, AcceptsAfterReturns}
use Rattle.tree_specs.proofs.Tree.Numbered.{by_test}
use Rattle.tree_specs.proofs.Calls.Checks.{heard-by, Reaches, IsOpened, IsTold, IsAnswered, reached-by}
use Rattle.tree_specs.proofs.Rules.Lawful.{Last, last_after, After, Lawful, Any, Said, same-lawful, ended-lawful, short-lawful, told-lawful, followed-lawful, asks-lawful, Returned, returned-later, scene_of, AllLawful}
use Rattle.tree_specs.proofs.Rules.RequestLaws.{finishing-lawful, receiving-lawful, cancelling-lawful, cleaning-lawful, cleaned-lawful, notifying-lawful, calling-lawful, called-lawful, work-lawful, vacating-lawful, triggering-lawful}
use Rattle.tree_specs.proofs.Rules.TurnLaws.{closing-lawful, clocked-lawful, taking-lawful, timed-lawful, polling-lawful, starting-lawful, firing-lawful, handling-lawful, handled-lawful}

weaker : {A : Type 0} (last : Last) (P Q : A → Last → Type 0) (go : List Input → Outcome A Pool Input Scene) → ((v : A) (l : Last) → P v l → Q v l) → Lawful last P go → Lawful last Q go
weaker {A = A} last P Q go h w = record { accepts = λ is. each is (go is) (w.accepts is); uses = w.uses }
  where
    each : (is : List Input) (o : Outcome A Pool Input Scene) → After last is P o → After last is Q o
    each is (Ended v q ts left) a = (a.0, a.1, h v (last_after last ts is) a.2)
    each is (Waits ts) a = a
    each is (Stray ts) a = a
    each is Short a = tt

-- a reference is dropped first
dropped-lawful : {A : Type 0} (last : Last) (Q : A → Last → Type 0) (r t : Obj) (p : Pool) (go : List Input → Outcome A Pool Input Scene) → Lawful None Q go → Lawful last Q (λ js. tell (scene_of (Told (Unreferenced r t)) p) (go js))
dropped-lawful last Q r t p go h = told-lawful last Q (scene_of (Told (Unreferenced r t)) p) go tt (λ is. (refl, refl)) h

unlink-lawful : (n : ℕ) → AllLawful n → (o : Owner) (x : Obj) (p : Pool) (last : Last) → Lawful last Any (unlink (suc n) o x p)
unlink-lawful n ih o x p last = each (newest_ref_of p.rows o x) refl
  where
    each : (r : Option Obj) → newest_ref_of p.rows o x ≡ r → Lawful last Any (unlink (suc n) o x p)
    each None k = same-lawful last Any (unlink (suc n) o x p) (release n x p) (λ js. rw k refl) (ih.frees.release x p last)
    each (Some r) k = same-lawful last Any (unlink (suc n) o x p) (λ js. tell (scene_of (Told (Unreferenced r x)) p) (Ended free_reply.Ok (remove p r) [] js)) (λ js. rw k refl)
        (dropped-lawful last Any r x p (λ js. Ended free_reply.Ok (remove p r) [] js) (ended-lawful None Any free_reply.Ok (remove p r) tt))

release-lawful : (n : ℕ) → AllLawful n → (x : Obj) (p : Pool) (last : Last) → Lawful last Any (release (suc n) x p)
release-lawful n ih x p last = each (newest_ref p.rows x) refl
  where
    each : (r : Option Obj) → newest_ref p.rows x ≡ r → Lawful last Any (release (suc n) x p)
    each None k = same-lawful last Any (release (suc n) x p) (free n x p) (λ js. rw k refl) (ih.frees.free x p last)
    each (Some r) k = by_test (is_inside p.rows (Of r) (Of x))
        (λ t. same-lawful last Any (release (suc n) x p) (λ js. tell (scene_of (Told (Unreferenced r x)) p) (release n x (remove p r) js)) (λ js. rw (k, t) refl)
        (dropped-lawful last Any r x p (release n x (remove p r)) (ih.frees.release x (remove p r) None)))
        (λ t. same-lawful last Any (release (suc n) x p) (λ js. tell (scene_of (Told (Unreferenced r x)) p) (given n x (unwrap_or (owner_of p.rows r) Root) (remove p r) js)) (λ js. rw (k, t) refl)
        (dropped-lawful last Any r x p (given n x (unwrap_or (owner_of p.rows r) Root) (remove p r)) (ih.frees.given x (unwrap_or (owner_of p.rows r) Root) (remove p r) None)))

given-lawful : (n : ℕ) (x : Obj) (o : Owner) (p : Pool) (last : Last) → Lawful last Any (given (suc n) x o p)
given-lawful n x o p last = told-lawful last Any (scene_of (Told (Moved x o)) p) (λ js. Ended free_reply.Ok (place p o x) [] js) tt (λ is. (refl, refl)) (ended-lawful None Any free_reply.Ok (place p o x) tt)

-- what is let go of may close a descriptor
lets_go-lawful : (x : Obj) (f : Pool → Pool) (p : Pool) (last : Last) → Lawful last Any (lets_go x f p)
lets_go-lawful x f p last = each (closes_with p.ring x) refl
  where
    each : (o : Option ℕ) → closes_with p.ring x ≡ o → Lawful last Any (lets_go x f p)
    each None e = same-lawful last Any (lets_go x f p) (λ js. Ended tt (f p) [] js) (λ js. rw e refl) (ended-lawful last Any tt (f p) tt)
    each (Some fd) e = same-lawful last Any (lets_go x f p) (λ js. tell (scene_of (Told (Closed fd)) p) (Ended tt (f p) [] js)) (λ js. rw e refl)
        (told-lawful last Any (scene_of (Told (Closed fd)) p) (λ js. Ended tt (f p) [] js) tt (λ is. (refl, refl)) (ended-lawful None Any tt (f p) tt))

free-lawful : (n : ℕ) → AllLawful n → (x : Obj) (p : Pool) (last : Last) → Lawful last Any (free (suc n) x p)
free-lawful n ih x p last = newest (newest_ref p.rows x) refl
  where
    gives : (a : FreeReply) (q : Pool) → ((js : List Input) → free (suc n) x p js ≡ Ended a q [] js) → Lawful last Any (free (suc n) x p)
    gives a q law = same-lawful last Any (free (suc n) x p) (λ js. Ended a q [] js) law (ended-lawful last Any a q tt)

    marks : newest_ref p.rows x ≡ None → (r : Row) (m : Mark) → r.mark ≡ m → row_of p.rows x ≡ Some r → Lawful last Any (free (suc n) x p)
    marks k r mark.Quiet m e = by_test (is_request r.kind)
        (λ u. same-lawful last Any (free (suc n) x p) (preparing n x (set_mark p x mark.Asked)) (λ js. rw (k, e, m, u) refl) (ih.frees.preparing x (set_mark p x mark.Asked) last))
        (λ u. by_test (is_queue r.kind)
        (λ v. same-lawful last Any (free (suc n) x p) (draining n x (set_mark p x mark.Asked)) (λ js. rw (k, e, m, u, v) refl) (ih.frees.draining x (set_mark p x mark.Asked) last))
        (λ v. by_test (nat_eq r.hook 0)
        (λ t. same-lawful last Any (free (suc n) x p) (leave n x 0 p) (λ js. rw (k, e, m, u, v, t) refl) (ih.frees.leave x 0 p last))
        (λ t. same-lawful last Any (free (suc n) x p) (hooked n x r.hook (set_mark p x mark.Asked)) (λ js. rw (k, e, m, u, v, t) refl) (ih.frees.hooked x r.hook (set_mark p x mark.Asked) last))))
    marks k r mark.Asked m e = gives free_reply.Running p (λ js. rw (k, e, m) refl)
    marks k r mark.Busy m e = same-lawful last Any (free (suc n) x p) (λ js. followed (lets_go x (λ q. doom q x) p js) (λ a q left. dooming n x q left)) (λ js. rw (k, e, m) refl)
        (followed-lawful last Any Any (lets_go x (λ q. doom q x) p) (λ a q left. dooming n x q left) (lets_go-lawful x (λ q. doom q x) p last) (λ a q l w. ih.frees.dooming x q l))
    marks k r mark.Doomed m e = gives free_reply.Running p (λ js. rw (k, e, m) refl)
    marks k r (mark.Dying former) m e = gives free_reply.Ok p (λ js. rw (k, e, m) refl)

    each : newest_ref p.rows x ≡ None → (o : Option Row) → row_of p.rows x ≡ o → Lawful last Any (free (suc n) x p)
    each k None e = gives free_reply.Ok p (λ js. rw (k, e) refl)
    each k (Some r) e = marks k r r.mark refl e

    newest : (o : Option Obj) → newest_ref p.rows x ≡ o → Lawful last Any (free (suc n) x p)
    newest None k = each k (row_of p.rows x) refl
    newest (Some r) k = by_test (is_inside p.rows (Of r) (Of x))
        (λ t. same-lawful last Any (free (suc n) x p) (λ js. tell (scene_of (Told (Unreferenced r x)) p) (free n x (remove p r) js)) (λ js. rw (k, t) refl)
        (dropped-lawful last Any r x p (free n x (remove p r)) (ih.frees.free x (remove p r) None)))
        (λ t. same-lawful last Any (free (suc n) x p) (λ js. tell (scene_of (Told (Unreferenced r x)) p) (Ended free_reply.Held (remove p r) [] js)) (λ js. rw (k, t) refl)
        (dropped-lawful last Any r x p (λ js. Ended free_reply.Held (remove p r) [] js) (ended-lawful None Any free_reply.Held (remove p r) tt)))

hooked-lawful : (n : ℕ) → AllLawful n → (x : Obj) (h : ℕ) (p : Pool) (last : Last) → Lawful last Any (hooked (suc n) x h p)
hooked-lawful n ih x h p last =
    followed-lawful last (Returned (ask.Routine (hook_moment x h))) Any (asked n (ask.Routine (hook_moment x h)) p) (λ v q js. judged n x h v q js) (ih.calls.asked (ask.Routine (hook_moment x h)) p last)
    (λ v q l k. ih.frees.judged x h v q l (k (record { object = x; value = v }) refl))

judged-lawful : (n : ℕ) → AllLawful n → (x : Obj) (h v : ℕ) (p : Pool) (last : Last) → last ≡ Some (record { object = x; value = v }) → Lawful last Any (judged (suc n) x h v p)
judged-lawful n ih x h v p last e = by_test (nat_eq v 0)
    (λ t. same-lawful last Any (judged (suc n) x h v p) (λ js. tell (scene_of (Told (Accepted x)) p) (leave n x h (set_hook p x 0) js)) (λ js. rw t refl)
    (told-lawful last Any (scene_of (Told (Accepted x)) p) (leave n x h (set_hook p x 0)) (e ∙ ap (λ (u : ℕ). Some (record { object = x; value = u })) (eqb-true v 0 t)) (λ is. (refl, refl))
    (ih.frees.leave x h (set_hook p x 0) None)))
    (λ t. same-lawful last Any (judged (suc n) x h v p) (λ js. tell (scene_of (Told (Refused x v)) p) (Ended (free_reply.Refused v) (set_mark p x mark.Quiet) [] js)) (λ js. rw t refl)
    (told-lawful last Any (scene_of (Told (Refused x v)) p) (λ js. Ended (free_reply.Refused v) (set_mark p x mark.Quiet) [] js) tt (λ is. (refl, refl))
    (ended-lawful None Any (free_reply.Refused v) (set_mark p x mark.Quiet) tt)))

leave-lawful : (n : ℕ) → AllLawful n → (x : Obj) (h : ℕ) (p : Pool) (last : Last) → Lawful last Any (leave (suc n) x h p)
leave-lawful n ih x h p last =
    followed-lawful last Any Any (lets_go x (λ q. detach q x) p) _ (lets_go-lawful x (λ q. detach q x) p last) (λ b r m w.
    followed-lawful m Any Any (children n x r) _ (ih.frees.children x r m)
    (λ a q l k. told-lawful l Any (scene_of (Told (Freed x h)) q) (λ js. Ended free_reply.Ok (remove q x) [] js) tt (λ is. (refl, refl)) (ended-lawful None Any free_reply.Ok (remove q x) tt)))

children-lawful : (n : ℕ) → AllLawful n → (x : Obj) (p : Pool) (last : Last) → Lawful last Any (children (suc n) x p)
children-lawful n ih x p last = each (first_kid p.rows (Of x)) refl
  where
    child : (c : Obj) → first_kid p.rows (Of x) ≡ Some c → (t : Option Obj) → target_at p.rows c ≡ t → Lawful last Any (children (suc n) x p)
    child c e (Some t) k = same-lawful last Any (children (suc n) x p) (λ js. tell (scene_of (Told (Unreferenced c t)) p) (children n x (remove p c) js)) (λ js. rw (e, k) refl)
        (dropped-lawful last Any c t p (children n x (remove p c)) (ih.frees.children x (remove p c) None))
    child c e None k = same-lawful last Any (children (suc n) x p) (λ js. followed (free n c p js) (λ a q left. tried n x c (noted_owner p.rows c) a q left)) (λ js. rw (e, k) refl)
        (followed-lawful last Any Any (free n c p) (λ a q left. tried n x c (noted_owner p.rows c) a q left) (ih.frees.free c p last) (λ a q l w. ih.frees.tried x c (noted_owner p.rows c) a q l))

    each : (o : Option Obj) → first_kid p.rows (Of x) ≡ o → Lawful last Any (children (suc n) x p)
    each None e = same-lawful last Any (children (suc n) x p) (λ js. Ended tt p [] js) (λ js. rw e refl) (ended-lawful last Any tt p tt)
    each (Some c) e = child c e (target_at p.rows c) refl

tried-lawful : (n : ℕ) → AllLawful n → (x c : Obj) (noted : Option Owner) (a : FreeReply) (p : Pool) (last : Last) → Lawful last Any (tried (suc n) x c noted a p)
tried-lawful n ih x c noted a p last = each a
  where
    handed : (b : FreeReply)
        → ((js : List Input) → is_below (owner_of p.rows c) (Of x) ≡ true → tried (suc n) x c noted b p js ≡ tell (scene_of (Told (Moved c (heir p.rows x c noted))) p) (children n x (place p (heir p.rows x c noted) c) js))
        → ((js : List Input) → is_below (owner_of p.rows c) (Of x) ≡ false → tried (suc n) x c noted b p js ≡ children n x p js) → Lawful last Any (tried (suc n) x c noted b p)
    handed b moves stays = by_test (is_below (owner_of p.rows c) (Of x))
        (λ t. same-lawful last Any (tried (suc n) x c noted b p) (λ js. tell (scene_of (Told (Moved c (heir p.rows x c noted))) p) (children n x (place p (heir p.rows x c noted) c) js)) (λ js. moves js t)
        (told-lawful last Any (scene_of (Told (Moved c (heir p.rows x c noted))) p) (children n x (place p (heir p.rows x c noted) c)) tt (λ is. (refl, refl)) (ih.frees.children x (place p (heir p.rows x c noted) c) None)))
        (λ t. same-lawful last Any (tried (suc n) x c noted b p) (children n x p) (λ js. stays js t) (ih.frees.children x p last))

    each : (b : FreeReply) → Lawful last Any (tried (suc n) x c noted b p)
    each free_reply.Ok = ih.frees.children x p last
    each free_reply.Held = handed free_reply.Held (λ js t. rw t refl) (λ js t. rw t refl)
    each free_reply.Running = handed free_reply.Running (λ js t. rw t refl) (λ js t. rw t refl)
    each (free_reply.Refused v) = handed (free_reply.Refused v) (λ js t. rw t refl) (λ js t. rw t refl)

reaching-lawful : (n : ℕ) → AllLawful n → (q : Ask) (p : Pool) (last : Last) → Lawful last Any (reaching (suc n) q p)
reaching-lawful n ih q p last = asks-lawful last Any q (reached p q (opening n) (hearing n)) p (λ i w e. next i w (reached-by p q (opening n) (hearing n) i w e))
  where
    next : (i : Input) (w : Work Reply) → Reaches p q (opening n) (hearing n) i w → Lawful (returned_by q i) Any (w p)
    next i w (IsOpened fd given number closed is) = subst (λ (u : Work Reply). Lawful (returned_by q i) Any (u p)) (sym is) (ih.outside.opening fd p (returned_by q i))
    next i w (IsTold now given time is) = subst (λ (u : Work Reply). Lawful (returned_by q i) Any (u p)) (sym is) (ih.outside.hearing (Number now) p (returned_by q i))
    next i w (IsAnswered r given is) = subst (λ (u : Work Reply). Lawful (returned_by q i) Any (u p)) (sym is) (ih.outside.hearing r p (returned_by q i))

asked-lawful : (n : ℕ) → AllLawful n → (q : Ask) (p : Pool) (last : Last) → Lawful last (Returned q) (asked (suc n) q p)
asked-lawful n ih q p last = asks-lawful last (Returned q) q (heard q (acting n q) (returning n)) p next
  where
    next : (i : Input) (w : Work ℕ) → heard q (acting n q) (returning n) i ≡ Some w → Lawful (returned_by q i) (Returned q) (w p)
    next i w e = elim (heard-by q (acting n q) (returning n) i w e) [
      | inl h ↦ subst (λ (u : Work ℕ). Lawful (returned_by q i) (Returned q) (u p)) (sym h.1) (ih.calls.acting q h.0 p (returned_by q i))
      | inr h ↦ subst (λ (u : Work ℕ). Lawful (returned_by q i) (Returned q) (u p)) (sym h.3)
          (ih.calls.returning q h.0 p (returned_by q i) (λ r k. ap (returned_by q) h.1 ∙ k))
    ]

numbered-lawful : (w : Work ℕ) (p : Pool) (last : Last) → Lawful last Any (w p) → Lawful last Any (numbered w p)
numbered-lawful w p last h = followed-lawful last Any Any (w p) _ h (λ v q l k. ended-lawful l Any _ q tt)

turned-lawful : (q : Ask) (w : Work ℕ) (c : Obj) (p : Pool) (last : Last) → Lawful last Any (w (enter p c)) → Lawful last Any (turned q w c p)
turned-lawful ask.Quiet w c p last h = numbered-lawful w (enter p c) last h
turned-lawful _ w c p last h = ended-lawful last Any _ p tt

plan-lawful : (n : ℕ) → AllLawful n → (q : Ask) (plan : Plan) (p : Pool) (last : Last) → Lawful last Any (effect (free n) (unlink n) (children n) (reaching n) (turned q (taking n)) (work_by (finishing n) (notifying n) (receiving n) (cancelling n)) plan p)
plan-lawful n ih q (Does change notice r) p last = ended-lawful last Any r (changed_by change p) tt
plan-lawful n ih q (Frees x) p last = followed-lawful last Any Any (free n x p) _ (ih.frees.free x p last) (λ a q l k. ended-lawful l Any _ q tt)
plan-lawful n ih q (Unlinks o x) p last = followed-lawful last Any Any (unlink n o x p) _ (ih.frees.unlink o x p last) (λ a q l k. ended-lawful l Any _ q tt)
plan-lawful n ih q (Empties x) p last = followed-lawful last Any Any (children n x p) _ (ih.frees.children x p last) (λ a q l k. ended-lawful l Any _ q tt)
plan-lawful n ih q (Asks outside) p last = ih.outside.reaching outside p last
plan-lawful n ih q (Turns c) p last = turned-lawful q (taking n) c p last (ih.turns.taking (enter p c) last)
plan-lawful n ih q (Works change errand x) p last = weaker last Said Any (work_by (finishing n) (notifying n) (receiving n) (cancelling n) errand x (changed_by change p)) (λ r l s. tt) (work-lawful n ih errand x (changed_by change p) last)

acting-lawful : (n : ℕ) → AllLawful n → (q : Ask) (c : Call) (p : Pool) (last : Last) → Lawful last (Returned q) (acting (suc n) q c p)
acting-lawful n ih q c p last = each (notice_of (planned_at q p c)) refl
  where
    done : Work Reply
    done = effect (free n) (unlink n) (children n) (reaching n) (turned q (taking n)) (work_by (finishing n) (notifying n) (receiving n) (cancelling n)) (planned_at q p c)

    each : (o : Option Notice) → notice_of (planned_at q p c) ≡ o → Lawful last (Returned q) (acting (suc n) q c p)
    each None k = same-lawful last (Returned q) (acting (suc n) q c p)
        (λ js. followed (done p js) (λ r p' left. telling n (Some (record { call = c; start = p })) (later q r) r p' left)) (λ js. rw k refl)
        (followed-lawful last Any (Returned q) (done p) (λ r p' left. telling n (Some (record { call = c; start = p })) (later q r) r p' left)
        (plan-lawful n ih q (planned_at q p c) p last) (λ r p' l w. ih.calls.later q r (Some (record { call = c; start = p })) p' l))
    each (Some notice) k = same-lawful last (Returned q) (acting (suc n) q c p)
        (λ js. followed (done p js) (λ r p' left. announcing n (Some (record { call = c; start = p })) (later q r) notice r p' left)) (λ js. rw k refl)
        (followed-lawful last Any (Returned q) (done p) (λ r p' left. announcing n (Some (record { call = c; start = p })) (later q r) notice r p' left)
        (plan-lawful n ih q (planned_at q p c) p last) (λ r p' l w. ih.calls.announcing q notice r (Some (record { call = c; start = p })) p' l))

announcing-lawful : (n : ℕ) → AllLawful n → (q : Ask) (notice : Notice) (r : Reply) (about : Option CallStart) (p : Pool) (last : Last) → Lawful last (Returned q) (announcing (suc n) about (later q r) notice r p)
announcing-lawful n ih q notice r about p last = each notice
  where
    each : (notice : Notice) → Lawful last (Returned q) (announcing (suc n) about (later q r) notice r p)
    each (Warned x) = told-lawful last (Returned q) (scene_of (Told (notice_event (Warned x))) p) (telling n about (later q r) r p) tt (λ is. (refl, refl)) (ih.calls.later q r about p None)
    each (IsClosed fd) = told-lawful last (Returned q) (scene_of (Told (notice_event (IsClosed fd))) p) (telling n about (later q r) r p) tt (λ is. (refl, refl)) (ih.calls.later q r about p None)

later-lawful : (n : ℕ) → AllLawful n → (q : Ask) (r : Reply) (about : Option CallStart) (p : Pool) (last : Last) → Lawful last (Returned q) (telling (suc n) about (later q r) r p)
later-lawful n ih q r about p last =
    told-lawful last (Returned q) (record { item = Told (Replied r); before = p; about = about }) (asked n (later q r) p) tt (λ is. (refl, refl))
    (weaker None (Returned (later q r)) (Returned q) (asked n (later q r) p) (λ v l k s e. k s (returned-later q r v ∙ e)) (ih.calls.asked (later q r) p None))

returning-lawful : (n : ℕ) (q : Ask) (v : ℕ) (p : Pool) (last : Last) → Returned q v last → Lawful last (Returned q) (returning (suc n) v p)
returning-lawful n q v p last h = ended-lawful last (Returned q) v p h

-- each turn rests on one turn less
pub all-lawful : (n : ℕ) → AllLawful n
all-lawful zero = record {
  frees = record {
    unlink = λ o x p last. short-lawful last Any;
    release = λ x p last. short-lawful last Any;
    given = λ x o p last. short-lawful last Any;
    free = λ x p last. short-lawful last Any;
    hooked = λ x h p last. short-lawful last Any;
    judged = λ x h v p last e. short-lawful last Any;
    preparing = λ x p last. short-lawful last Any;
    draining = λ x p last. short-lawful last Any;
    prepared = λ x p last. short-lawful last Any;
    dooming = λ x p last. short-lawful last Any;
    leave = λ x h p last. short-lawful last Any;
    children = λ x p last. short-lawful last Any;
    tried = λ x c noted a p last. short-lawful last Any;
  };
  calls = record {
    asked = λ q p last. short-lawful last (Returned q);
    acting = λ q c p last. short-lawful last (Returned q);
    announcing = λ q notice r about p last. short-lawful last (Returned q);
    later = λ q r about p last. short-lawful last (Returned q);
    returning = λ q v p last h. short-lawful last (Returned q);
  };
  turns = record {
    taking = λ p last. short-lawful last Any;
    timing = λ again p last. short-lawful last Any;
    timed = λ again now p last. short-lawful last Any;
    polling = λ limit p last. short-lawful last Any;
    starting = λ what x occasion p last. short-lawful last Any;
    firing = λ what x h occasion p last. short-lawful last Any;
    handling = λ what x h occasion p last. short-lawful last Any;
    handled = λ what x p last. short-lawful last Any;
    closing = λ v p last. short-lawful last Any;
  };
  outside = record {
    reaching = λ q p last. short-lawful last Any;
    opening = λ fd p last. short-lawful last Any;
    hearing = λ r p last. short-lawful last Any;
  };
  requests = record {
    finishing = λ x s p last. short-lawful last Said;
    receiving = λ x p last. short-lawful last Said;
    cancelling = λ x p last. short-lawful last Said;
    cleaning = λ x errand p last. short-lawful last Said;
    cleaned = λ x errand p last. short-lawful last Said;
    notifying = λ x errand p last. short-lawful last Said;
    calling = λ what x h errand p last. short-lawful last Said;
    called = λ what x h errand p last. short-lawful last Said;
    vacating = λ q p last. short-lawful last Said;
    triggering = λ q p last. short-lawful last Said;
    over = λ r p last s. short-lawful last Said;
  };
}
all-lawful (suc n) =
    let ih : AllLawful n = all-lawful n in
    record {
      frees = record {
        unlink = unlink-lawful n ih;
        release = release-lawful n ih;
        given = given-lawful n;
        free = free-lawful n ih;
        hooked = hooked-lawful n ih;
        judged = judged-lawful n ih;
        preparing = λ x p last. followed-lawful last Said Any (receiving n x p) _ (ih.requests.receiving x p last) (λ r q l s. ih.frees.prepared x q l);
        draining = λ x p last. followed-lawful last Said Any (vacating n x p) _ (ih.requests.vacating x p last) (λ r q l s. ih.frees.prepared x q l);
        prepared = λ x p last. ih.frees.leave x 0 (set_mark p x mark.Quiet) last;
        dooming = λ x p last. ended-lawful last Any free_reply.Running p tt;
        leave = leave-lawful n ih;
        children = children-lawful n ih;
        tried = tried-lawful n ih;
      };
      calls = record {
        asked = asked-lawful n ih;
        acting = acting-lawful n ih;
        announcing = announcing-lawful n ih;
        later = later-lawful n ih;
        returning = returning-lawful n;
      };
      turns = record {
        taking = taking-lawful n ih;
        timing = λ again p last. clocked-lawful (timed n again) p last (λ now l. ih.turns.timed again now p l);
        timed = timed-lawful n ih;
        polling = polling-lawful n ih;
        starting = starting-lawful n ih;
        firing = firing-lawful n ih;
        handling = handling-lawful n ih;
        handled = handled-lawful n ih;
        closing = λ v p last. closing-lawful n ih v p last;
      };
      outside = record {
        reaching = reaching-lawful n ih;
        opening = λ fd p last. ended-lawful last Any (Number fd) (open_descriptor p fd) tt;
        hearing = λ r p last. ended-lawful last Any r p tt;
      };
      requests = record {
        finishing = finishing-lawful n ih;
        receiving = receiving-lawful n ih;
        cancelling = cancelling-lawful n ih;
        cleaning = cleaning-lawful n ih;
        cleaned = cleaned-lawful n ih;
        notifying = notifying-lawful n ih;
        calling = calling-lawful n ih;
        vacating = vacating-lawful n ih;
        triggering = triggering-lawful n ih;
        called = called-lawful n ih;
        over = λ r p last s. ended-lawful last Said r p s;
      };
    }

-- the items of an outcome
pub accepts-items : {A : Type 0} {last : Last} {Q : A → Last → Type 0} {go : List Input → Outcome A Pool Input Scene} → Lawful last Q go → (is : List Input) → AcceptsAfterReturns last (items (told_by (go is))) is
accepts-items {A = A} {last = last} {Q = Q} {go = go} h is = each (go is) (h.accepts is)
  where
    each : (o : Outcome A Pool Input Scene) → After last is Q o → AcceptsAfterReturns last (items (told_by o)) is
    each (Ended a q ts left) h = h.0
    each (Waits ts) h = h
    each (Stray ts) h = h
    each Short h = tt
