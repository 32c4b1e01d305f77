-- What an answer to the open question leads to.
use Rattle.std.proofs.Common.{Result, Err, IsErrAnd, ◌≡◌, List, [], ◌∷◌, reverse, Option, Some, None, true, false, refl, sym, ◌∙◌, ap, subst}
use Rattle.std.specs.Prelude.{is_none, is_some}
use Rattle.std.specs.Option.{option_map}
use Rattle.step_machine.specs.Machine.{Move as Do}
use Rattle.std.proofs.lemmas.Result.{err_from_is_err_and}
use Rattle.tree_specs.specs.declared.call.Call.{Call}
use Rattle.tree_specs.specs.declared.call.Call.TheVariants as call
use Rattle.tree_specs.specs.declared.object.Owner.{Owner}
use Rattle.tree_specs.specs.declared.question.Ask.{Ask}
use Rattle.tree_specs.specs.declared.question.Ask.TheVariants as ask
use Rattle.tree_specs.specs.declared.question.Ask.TheVariants.{Clock, Wait}
use Rattle.tree_specs.specs.declared.question.Act.TheVariants as act
use Rattle.tree_specs.specs.declared.question.Input.{Input}
use Rattle.tree_specs.specs.declared.question.Input.TheVariants as input
use Rattle.tree_specs.specs.declared.reply.Reply.{Reply}
use Rattle.tree_specs.specs.declared.schedule.Reason.TheVariants.{NotAsked}
use Rattle.tree_specs.specs.declared.frame.Frame.{Frame}
use Rattle.tree_specs.specs.declared.frame.Frame.TheVariants as frame
use Rattle.tree_specs.specs.declared.frame.TurnFrame.{TurnFrame}
use Rattle.tree_specs.specs.declared.frame.TurnFrame.TheVariants.{Timing, Polling}
use Rattle.tree_specs.specs.declared.frame.FreeFrame.{FreeFrame}
use Rattle.tree_specs.specs.declared.frame.OutsideFrame.TheVariants.{Reaching}
use Rattle.tree_specs.specs.declared.frame.CallFrame.{CallFrame}
use Rattle.tree_specs.specs.declared.frame.CallFrame.TheVariants.{Asking, Doing, Telling}
use Rattle.tree_specs.specs.Events.Rotation.{Ready, first_ready}
use Rattle.tree_specs.specs.Tree.Pool.{Pool, ring_here}
use Rattle.tree_specs.specs.Rules.Items.{Item}
use Rattle.tree_specs.specs.Rules.Items.Item.{Asked}
use Rattle.tree_specs.specs.Calls.Refusals.{Check, refusals, refusals_at}
use Rattle.tree_specs.specs.Calls.Given.{Given, given_to}
use Rattle.tree_specs.specs.Texts.Schedule.{unless_given, misfit}
use Rattle.tree_specs.specs.Words.Ranges.{is_sound}
use Rattle.tree_specs.specs.Rules.Answers.{later, heard}
use Rattle.tree_specs.specs.Events.Coming.{looks_again}
use Rattle.tree_specs.specs.Machine.Table.{step, taken, call_step, replied, doing, returning, ready_turn, turn_taken}
use Rattle.tree_specs.specs.Machine.View.{View, rest_of, strays_of, question_of}
use Rattle.tree_specs.specs.Invariants.Consistent.{IsConsistent}
use Rattle.tree_specs.proofs.Tree.Numbered.{by_test}
use Rattle.tree_specs.proofs.Rules.Rest.{question-whole, question-items}
use Rattle.object_pool.specs.Objects.{Objects}
use Rattle.host_core.specs.declared.active.Active.{Active}
use Rattle.host_core.specs.declared.active.Active.TheVariants as active
use Rattle.host_core.specs.declared.caller.Stage.{Stage}
use Rattle.host_core.specs.declared.caller.Stage.TheVariants as stage
use Rattle.host_core.specs.declared.fault.OfferFault.{OfferFault}
use Rattle.host_core.specs.declared.fault.OfferFault.TheVariants as fault
use Rattle.host_core.specs.declared.owned_reply.OwnedReply.{OwnedReply}
use Rattle.host_core.specs.declared.parts.Parts.{Parts}
use Rattle.host_core.specs.declared.caller.Caller.{Caller}
use Rattle.host_core.specs.Callers.{frame_of, staged, open_at, remembers}
use Rattle.host_core.specs.declared.waiting.Waiting.{Waiting}
use Rattle.host_core.specs.Stacks.{active_frame, seen}
use Rattle.host_core.specs.Moves.{report_of, call_of, reported}
use Rattle.host_core.specs.Promises.{Waits, TakesAnswer, taken_in}
use Rattle.machine_driver.specs.Seen.{sight}
use Rattle.tree_stories.specs.Sights.{Sight, sights_of}
use Rattle.tree_stories.proofs.Seeing.{question-seen}
use Rattle.tree_stories.proofs.Strays.{question-strays}
use Rattle.host_core.specs.Reaches.{outside_given, IsOutside}
use Rattle.host_core.specs.Turns.{turn_asks, turn_given, frame_ready}
use Rattle.host_core.specs.Hosts.{host_view, below_in, given_view, called_view, speaking_view, caller_asked, asked_now, begins_with, PartsReady, IsBetweenSteps, IsActing, TellsSameStory, IsReplyOf, IsCopy, IsReport}
use Rattle.host_core.proofs.StepsSilently.{onward, waits-at, waits-asked, always-more}
use Rattle.host_core.proofs.Answering.{IsForCaller, caller-kind, turn-acts-not, outside-acts-not}
use Rattle.host_core.proofs.Reaching.{outside-answered, no-reason}
use Rattle.host_core.proofs.Speaking.{question_seen}

-- the works with this innermost
abbrev at : Frame → List Frame → Pool → View
at f below p = record { innermost = f; below = below; pool = p }

-- ---- the open question

pub caller-now : (now : Active) (f : CallFrame) → active_frame now ≡ frame.Call f → (c : Caller) × (now ≡ active.Caller c) × (frame_of c ≡ f)
caller-now (active.Caller c) f e = let e' : frame_of c ≡ f = cc in (c, refl, e')
caller-now _ f e = cc

-- who is asked, and stands at its question
asking : (s : Stage) (q asked : Ask) → open_at s q ≡ Some asked → (staged q s ≡ Asking asked) × (q ≡ asked)
asking stage.Asking q asked e = let e' : q ≡ asked = cc in (ap Asking e', e')
asking (stage.Telling r) q asked e = cc
asking (stage.Announcing notice r) q asked e = cc

turn-waits : (f : TurnFrame) (asked : Ask) (below : List Frame) (p : Pool) → turn_asks f ≡ Some asked → IsConsistent (at (frame.Turn f) below p) → Waits (at (frame.Turn f) below p)
turn-waits (Timing again) asked below p e h = waits-at (at (frame.Turn (Timing again)) below p) Clock h refl
turn-waits (Polling limit) asked below p e h = waits-at (at (frame.Turn (Polling limit)) below p) (Wait limit) h refl
turn-waits _ asked below p e h = cc

-- a host that asks waits
pub waits-now : (now : Active) (parts : Parts) (q : Ask) → asked_now now ≡ Some q → IsBetweenSteps now parts → Waits (host_view now parts)
waits-now (active.Caller c) parts q e b =
    let a = (asking c.stage c.ask q e).0 in
    let at-caller = λ (z : CallFrame). at (frame.Call z) (below_in parts) parts.objects.pool in
    subst (λ (z : CallFrame). Waits (at-caller z)) (sym a) (waits-asked q (below_in parts) parts.objects.pool (subst (λ (z : CallFrame). IsConsistent (at-caller z)) a b.whole))
waits-now active.Freeing parts q e b = cc
waits-now (active.Turning t) parts q e b = turn-waits t.frame q (below_in parts) parts.objects.pool (sym b.ready.question ∙ e) b.whole
waits-now (active.Reaching asked) parts q e b = waits-at (host_view (active.Reaching asked) parts) asked b.whole refl
waits-now (active.Requesting w) parts q e b = cc

-- an answer that doesn't fit isn't asked for
pub unasked : (o : Option Ask) (i : Input) → is_none (misfit o i) ≡ false → misfit o i ≡ Some NotAsked
unasked None i e = refl
unasked (Some q) i e = each (given_to q i) e
  where
    each : (g : Option Given) → is_none (unless_given g) ≡ false → unless_given g ≡ Some NotAsked
    each None e = refl
    each (Some g) e = cc

-- a fault of memory isn't that nothing asks
pub out-of-memory : {A B : Type 0} (r : Result B OfferFault) → IsErrAnd r (λ y. y ≡ fault.Memory) → r ≡ Err fault.NotAsked → A
out-of-memory r fails e =
    let why = err_from_is_err_and r fails in
    cc (why.1, why.2, e)

-- an answer that fits what is asked isn't refused as not asked
pub fitting-asked : {A : Type 0} (o asked : Option Ask) (i : Input) → o ≡ asked → is_none (misfit asked i) ≡ true → misfit o i ≡ Some NotAsked → A
fitting-asked o asked i is fits e = never (sym fits ∙ ap is_none (sym (ap (λ z. misfit z i) is) ∙ e))
  where
    never : {A : Type 0} → true ≡ false → A
    never e = cc

-- an answer that fits comes to a question
pub fitting : (o : Option Ask) (i : Input) → is_none (misfit o i) ≡ true → (q : Ask) × (o ≡ Some q) × (misfit (Some q) i ≡ None)
fitting None i e = cc
fitting (Some q) i e = (q, refl, no-reason (misfit (Some q) i) e)

-- ---- the call of a report

-- it is a report that takes memory for its reply
is-report : (c : Call) (o : Owner) → report_of c ≡ Some o → c ≡ call.Report o
is-report (call.Report o) p e = let e' : o ≡ p = cc in ap call.Report e'
is-report c p e = cc

same-reply : (o : Owner) (r s : Reply) (p : Pool) → IsReplyOf o r p → IsReplyOf o s p → r ≡ s
same-reply o r s p a b = let e : replied ask.Quiet r p ≡ replied ask.Quiet s p = sym (a ask.Quiet) ∙ b ask.Quiet in let e' : Telling ask.Quiet r ≡ Telling ask.Quiet s = cc in cc

-- what is remembered of it
copy-is : (q : Ask) (i : Input) (r : OwnedReply) (o : Owner) (p : Pool) → IsActing i → misfit (Some q) i ≡ None → IsReplyOf o r.reply p → IsCopy i r.copy o p → remembers q r.copy ≡ later q r.reply
copy-is ask.Quiet (input.Call c) r o p acting m a k = rw k refl
copy-is (ask.Routine n) (input.Act b) r o p acting m a k = remembered r.copy k
  where
    remembered : (copy : Option Reply) → IsCopy (input.Act b) copy o p → remembers (ask.Routine n) copy ≡ later (ask.Routine n) r.reply
    remembered None k = absurd k
    remembered (Some s) k = ap (later (ask.Routine n)) (same-reply o s r.reply p k a)
copy-is _ (input.Call c) r o p acting m a k = cc
copy-is _ (input.Act b) r o p acting m a k = cc
copy-is _ _ r o p acting m a k = absurd acting

-- ---- a question with its answer

-- the answer leads to a call, or to the end of a run
answered : (q : Ask) (i : Input) → IsForCaller q → misfit (Some q) i ≡ None → is_sound i ≡ true → heard q (doing q) returning i ≡ Some (frame.Call (begins_with q i))
answered ask.Quiet (input.Call c) k m s = rw s refl
answered (ask.Routine n) (input.Act (act.Do c)) k m s = rw s refl
answered (ask.Routine n) (input.Act (act.Ret v)) k m s = rw s refl
answered ask.Quiet _ k m s = cc
answered (ask.Routine n) _ k m s = cc
answered _ i k m s = absurd k

-- the first event that waits for what is ready
ready-goes : (o : Option Ready) → ready_turn o ≡ frame.Turn (frame_ready o)
ready-goes None = refl
ready-goes (Some r) = refl

-- or to what is still to do of a turn
turn-answered : (f : TurnFrame) (asked : Ask) (p : Pool) (i : Input) → turn_asks f ≡ Some asked → misfit (Some asked) i ≡ None → is_sound i ≡ true → turn_taken f p i ≡ Some (frame.Turn (turn_given f i p))
turn-answered (Timing again) asked p i e m s = clock i (ap (λ (z : Option Ask). misfit z i) e ∙ m) s
  where
    clock : (i : Input) → misfit (turn_asks (Timing again)) i ≡ None → is_sound i ≡ true → turn_taken (Timing again) p i ≡ Some (frame.Turn (turn_given (Timing again) i p))
    clock (input.Clock now) m s = rw s refl
    clock _ m s = cc
turn-answered (Polling limit) asked p i e m s = ready i (ap (λ (z : Option Ask). misfit z i) e ∙ m) s
  where
    ready : (i : Input) → misfit (turn_asks (Polling limit)) i ≡ None → is_sound i ≡ true → turn_taken (Polling limit) p i ≡ Some (frame.Turn (turn_given (Polling limit) i p))
    ready (input.Ready wants) m s = by_test (looks_again p wants) (λ t. rw (s, t) refl) (λ t. rw (s, t) (ap Some (ready-goes (first_ready (ring_here p) wants))))
    ready _ m s = cc
turn-answered _ asked p i e m s = cc

-- what stands after it, and the story that goes on
pub record Goes (q : Ask) (i : Input) (v w : View) : Type 0 where
  pub whole : IsConsistent w
  pub law : (is : List Input) → rest_of v (i ∷ is) ≡ Asked q ∷ rest_of w is
  pub seen : (is : List Input) → sights_of v (i ∷ is) ≡ sight v.pool (Asked q) ∷ sights_of w is
  pub strays : (is : List Input) → strays_of v (i ∷ is) ≡ strays_of w is

goes-to : (v : View) (q : Ask) (f g : Frame) (i : Input) → IsConsistent v → step v.innermost v.pool ≡ Do.Wait (Asked q) f v.pool → taken f v.pool i ≡ Some g → Goes q i v (record { innermost = g; below = v.below; pool = v.pool })
goes-to v q f g i h w a = record {
  whole = question-whole v (Asked q) f g v.pool i h w a;
  law = λ is. question-items v (Asked q) f g v.pool i is h w a;
  seen = λ is. question-seen v (Asked q) f g v.pool i is h w a;
  strays = λ is. question-strays v (Asked q) f g v.pool i is h w a;
}

goes-heard : (q : Ask) (i : Input) (below : List Frame) (p : Pool) → IsForCaller q → misfit (Some q) i ≡ None → is_sound i ≡ true → IsConsistent (at (frame.Call (Asking q)) below p)
    → Goes q i (at (frame.Call (Asking q)) below p) (at (frame.Call (begins_with q i)) below p)
goes-heard q i below p k m s h = goes-to (at (frame.Call (Asking q)) below p) q (frame.Call (Asking q)) (frame.Call (begins_with q i)) i h refl (answered q i k m s)

goes-told : (f : TurnFrame) (q : Ask) (i : Input) (below : List Frame) (p : Pool) → turn_asks f ≡ Some q → misfit (Some q) i ≡ None → is_sound i ≡ true → IsConsistent (at (frame.Turn f) below p)
    → Goes q i (at (frame.Turn f) below p) (at (frame.Turn (turn_given f i p)) below p)
goes-told f q i below p e m s h = goes-to (at (frame.Turn f) below p) q (frame.Turn f) (frame.Turn (turn_given f i p)) i h (asks-step f q p e) (turn-answered f q p i e m s)
  where
    asks-step : (f : TurnFrame) (q : Ask) (p : Pool) → turn_asks f ≡ Some q → step (frame.Turn f) p ≡ Do.Wait (Asked q) (frame.Turn f) p
    asks-step (Timing again) q p e = let e' : Clock ≡ q = cc in rw (← e') refl
    asks-step (Polling limit) q p e = let e' : Wait limit ≡ q = cc in rw (← e') refl
    asks-step _ q p e = cc

goes-reached : (q : Ask) (i : Input) (below : List Frame) (p : Pool) → IsOutside q → misfit (Some q) i ≡ None → is_sound i ≡ true → taken_in p i ≡ None → IsConsistent (at (frame.Outside (Reaching q)) below p)
    → Goes q i (at (frame.Outside (Reaching q)) below p) (at (frame.Outside (outside_given q i)) below p)
goes-reached q i below p o m s none h =
    goes-to (at (frame.Outside (Reaching q)) below p) q (frame.Outside (Reaching q)) (frame.Outside (outside_given q i)) i h refl (outside-answered q p i o m s none)

-- a call whose report was made is at once at its reply
goes-replied : (q : Ask) (c : Call) (r : Reply) (i : Input) (v : View) (below : List Frame) (p : Pool) → call_step (refusals_at q p c) q c p ≡ replied q r p → Goes q i v (at (frame.Call (Doing q c)) below p)
    → Goes q i v (at (frame.Call (Telling (later q r) r)) below p)
goes-replied q c r i v below p e g =
    let w : View = at (frame.Call (Doing q c)) below p in
    let quiet : speaking_view w ≡ false = rw e refl in
    let o = onward w (at (frame.Call (Telling (later q r) r)) below p) g.whole quiet (rw e refl) in
    record { whole = o.along.whole; law = λ is. g.law is ∙ ap (λ (l : List Item). Asked q ∷ l) (o.along.same is); seen = λ is. g.seen is ∙ ap (λ (l : List Sight). sight v.pool (Asked q) ∷ l) (o.along.seen is); strays = λ is. g.strays is ∙ o.along.strays is }

-- the answer that wants a report is to do it
reports : (q : Ask) (i : Input) (o : Owner) → reported (call_of i) ≡ Some o → begins_with q i ≡ Doing q (call.Report o)
reports q (input.Call c) o e = ap (Doing q) (is-report c o e)
reports q (input.Act (act.Do c)) o e = ap (Doing q) (is-report c o e)
reports q _ o e = cc

-- a report is refused alike wherever it is wanted
report-at : (q : Ask) (o : Owner) (p : Pool) → refusals_at q p (call.Report o) ≡ refusals p (call.Report o)
report-at (ask.Routine m) o p = refl
report-at _ o p = refl

-- ---- by the parts of a host

-- a host that was given an answer, and what it is then
pub record Offered (now : Active) (parts : Parts) (i : Input) (q : Ask) (w : View) : Type 0 where
  pub open_before : asked_now now ≡ Some q
  pub fits : misfit (asked_now now) i ≡ None
  pub whole : IsConsistent w
  pub law : (is : List Input) → rest_of (host_view now parts) (i ∷ is) ≡ Asked q ∷ rest_of w is
  pub seen : (is : List Input) → sights_of (host_view now parts) (i ∷ is) ≡ sight (host_view now parts).pool (Asked q) ∷ sights_of w is
  pub strays : (is : List Input) → strays_of (host_view now parts) (i ∷ is) ≡ strays_of w is

-- the works of a host whose caller, which was asked this, is told a reply that owns memory
abbrev pub told_view : Ask → OwnedReply → Parts → View
told_view q r parts = at (frame.Call (Telling (remembers q r.copy) r.reply)) (below_in parts) parts.objects.pool

-- only a caller asks for a call, or for what a routine does
pub acting-caller : (now : Active) (i : Input) (objects : Objects) → PartsReady now objects → is_none (misfit (asked_now now) i) ≡ true → IsActing i → (q : Ask) × (caller_asked now ≡ Some q)
acting-caller (active.Caller c) i objects r e k = let f = fitting (open_at c.stage c.ask) i e in (f.0, f.1)
acting-caller (active.Turning t) i objects r e k = absurd (turn-acts-not t.frame i (ap (λ (z : Option Ask). is_none (misfit z i)) (sym r.question) ∙ e) k)
acting-caller (active.Reaching q) i objects r e k = absurd (outside-acts-not q i r e k)
acting-caller _ i objects r e k = cc

-- the question of a caller that was asked
pub asked-of : (o : Option Ask) → is_some o ≡ true → (q : Ask) × (o ≡ Some q)
asked-of None s = cc
asked-of (Some q) s = (q, refl)

pub same-asked : (o : Option Ask) (p q : Ask) → o ≡ Some p → o ≡ Some q → p ≡ q
same-asked o p q a b = let e : Some p ≡ Some q = sym a ∙ b in let e' : p ≡ q = cc in e'

acts : (i : Input) (o : Owner) → reported (call_of i) ≡ Some o → IsActing i
acts (input.Call c) o e = tt
acts (input.Act a) o e = tt
acts _ o e = cc

module _ (now : Active) (parts : Parts) (i : Input) (ready : IsBetweenSteps now parts) (fits : is_none (misfit (asked_now now) i) ≡ true) (s : is_sound i ≡ true) where
  -- who wants a report
  pub report-caller : (o : Owner) → reported (call_of i) ≡ Some o → (q : Ask) × (caller_asked now ≡ Some q)
  report-caller o wants = acting-caller now i parts.objects ready.ready fits (acts i o wants)

  fits-at : (q : Ask) → asked_now now ≡ Some q → misfit (Some q) i ≡ None
  fits-at q e =
      let f = fitting (asked_now now) i fits in
      let same : Some f.0 ≡ Some q = sym f.1 ∙ e in
      let same' : f.0 ≡ q = cc in
      ap (λ (z : Ask). misfit (Some z) i) (sym same') ∙ f.2

  pub offered-caller : (q : Ask) → caller_asked now ≡ Some q → Offered now parts i q (called_view q i parts)
  offered-caller q e = each now ready fits-at e
    where
      each : (now : Active) → IsBetweenSteps now parts → ((q : Ask) → asked_now now ≡ Some q → misfit (Some q) i ≡ None) → caller_asked now ≡ Some q → Offered now parts i q (called_view q i parts)
      each (active.Caller c) ready fits e =
          let a = (asking c.stage c.ask q e).0 in
          let v = λ (z : CallFrame). at (frame.Call z) (below_in parts) parts.objects.pool in
          let h : IsConsistent (v (Asking q)) = subst (λ (z : CallFrame). IsConsistent (v z)) a ready.whole in
          let g = goes-heard q i (below_in parts) parts.objects.pool (caller-kind (frame.Call (Asking q)) q (below_in parts) refl h.seated) (fits q e) s h in
          record {
            open_before = e;
            fits = rw e (fits q e);
            whole = g.whole;
            law = λ is. ap (λ (z : CallFrame). rest_of (v z) (i ∷ is)) a ∙ g.law is;
            seen = λ is. ap (λ (z : CallFrame). sights_of (v z) (i ∷ is)) a ∙ g.seen is;
            strays = λ is. ap (λ (z : CallFrame). strays_of (v z) (i ∷ is)) a ∙ g.strays is;
          }
      each _ ready fits e = cc

  -- the report that it wants is told at once
  pub offered-report : (q : Ask) (o : Owner) (r : OwnedReply) → caller_asked now ≡ Some q → reported (call_of i) ≡ Some o → IsReport i r o parts.objects.pool
      → Offered now parts i q (told_view q r parts)
  offered-report q o r e wants is =
      let f = offered-caller q e in
      let fit = fits-at q f.open_before in
      let does = reports q i o wants in
      let v = λ (z : CallFrame). at (frame.Call z) (below_in parts) parts.objects.pool in
      let g : Goes q i (host_view now parts) (v (Doing q (call.Report o))) = record {
        whole = subst (λ (z : CallFrame). IsConsistent (v z)) does f.whole;
        law = λ is. f.law is ∙ ap (λ (z : CallFrame). Asked q ∷ rest_of (v z) is) does;
        seen = λ is. f.seen is ∙ ap (λ (z : CallFrame). sight (host_view now parts).pool (Asked q) ∷ sights_of (v z) is) does;
        strays = λ is. f.strays is ∙ ap (λ (z : CallFrame). strays_of (v z) is) does;
      } in
      let t = goes-replied q (call.Report o) r.reply i _ (below_in parts) parts.objects.pool (ap (λ (check : Check). call_step check q (call.Report o) parts.objects.pool) (report-at q o parts.objects.pool) ∙ is.reply q) g in
      let l : remembers q r.copy ≡ later q r.reply = copy-is q i r o parts.objects.pool (acts i o wants) fit is.reply is.copy in
      rw l (record { open_before = f.open_before; fits = f.fits; whole = t.whole; law = t.law; seen = t.seen; strays = t.strays })

-- any answer that fits
pub offered : (now : Active) (parts : Parts) (i : Input) → IsBetweenSteps now parts → is_none (misfit (asked_now now) i) ≡ true → is_sound i ≡ true → taken_in parts.objects.pool i ≡ None
    → (q : Ask) × Offered now parts i q (given_view now i parts)
offered (active.Caller c) parts i ready fits s none =
    let f = fitting (open_at c.stage c.ask) i fits in
    let is = (asking c.stage c.ask f.0 f.1).1 in
    (f.0, subst (λ (z : Ask). Offered (active.Caller c) parts i f.0 (called_view z i parts)) (sym is) (offered-caller (active.Caller c) parts i ready fits s f.0 f.1))
offered (active.Turning t) parts i ready fits s none =
    let f = fitting t.question i fits in
    let g = goes-told t.frame f.0 i (below_in parts) parts.objects.pool (sym ready.ready.question ∙ f.1) f.2 s ready.whole in
    (f.0, record { open_before = f.1; fits = rw f.1 f.2; whole = g.whole; law = g.law; seen = g.seen; strays = g.strays })
offered (active.Reaching q) parts i ready fits s none =
    let m = no-reason (misfit (Some q) i) fits in
    let g = goes-reached q i (below_in parts) parts.objects.pool ready.ready m s none ready.whole in
    (q, record { open_before = refl; fits = m; whole = g.whole; law = g.law; seen = g.seen; strays = g.strays })
offered _ parts i ready fits s none = cc

-- the question of a host by its parts
pub question-view : (v : View) (now : Active) (parts : Parts) → IsBetweenSteps now parts → speaking_view (host_view now parts) ≡ true → host_view now parts ≡ v → question_of v ≡ asked_now now
question-view v now parts b s e = ap question_of (sym e) ∙ question_seen now (reverse parts.waiting.items) parts.objects b.ready s

-- an answer that fits the question of a host fits what is asked
pub fits-there : (v : View) (now : Active) (parts : Parts) (i : Input) → IsBetweenSteps now parts → speaking_view (host_view now parts) ≡ true → host_view now parts ≡ v → misfit (question_of v) i ≡ None → is_none (misfit (asked_now now) i) ≡ true
fits-there v now parts i b s e fits = ap (λ (o : Option Ask). is_none (misfit o i)) (sym (question-view v now parts b s e)) ∙ ap is_none fits

-- an open question that is lent is waited at
pub waits-some : {R : Type 0} (v : R → Ask) (lent : Option R) (now : Active) (parts : Parts) → IsBetweenSteps now parts → option_map v lent ≡ asked_now now → is_some lent ≡ true → Waits (host_view now parts)
waits-some v None now parts h e s = cc
waits-some v (Some r) now parts h e s = waits-now now parts (v r) (sym e) h

-- what waits for the outside has asked it what the outside is asked
asks-outside : (now : Active) (fs : List FreeFrame) (ws : List Waiting) (objects : Objects) → PartsReady now objects → (q : Ask) → (seen now fs ws objects.pool).innermost ≡ frame.Outside (Reaching q) → IsOutside q
asks-outside (active.Reaching asked) fs ws objects ready q e = let e' : asked ≡ q = cc in subst IsOutside e' ready
asks-outside active.Freeing [] ws objects ready q e = cc
asks-outside active.Freeing (f ∷ fs) ws objects ready q e = cc
asks-outside _ fs ws objects ready q e = cc

-- the answer was taken, and the story goes on after the steps that tell nothing
pub takes-answer : (v : View) (now : Active) (parts : Parts) (i : Input) (q : Ask) (w : View) (next : Active) (after : Parts) → IsBetweenSteps now parts → speaking_view (host_view now parts) ≡ true → host_view now parts ≡ v → Offered now parts i q w
    → TellsSameStory w (host_view next after) → IsBetweenSteps next after → TakesAnswer v i (host_view next after)
takes-answer v now parts i q w next after b s e o a ready = let w' : View = host_view next after in record {
  question = q;
  open_before = question-view v now parts b s e ∙ o.open_before;
  fits = ap (λ (z : Option Ask). misfit z i) (question-view v now parts b s e) ∙ o.fits;
  goes_on = λ is. ap (λ (z : View). rest_of z (i ∷ is)) (sym e) ∙ o.law is ∙ ap (λ (l : List Item). Asked q ∷ l) (a.same is);
  seen = λ is.
      ap (λ (z : View). sights_of z (i ∷ is)) (sym e) ∙ o.seen is ∙ ap (λ (l : List Sight). sight (host_view now parts).pool (Asked q) ∷ l) (a.seen is)
      ∙ ap (λ (z : View). sight z.pool (Asked q) ∷ sights_of w' is) e;
  strays = λ is. ap (λ (z : View). strays_of z (i ∷ is)) (sym e) ∙ o.strays is ∙ a.strays is;
  more = λ is. always-more w' is a.whole;
  whole = a.whole;
  outside = λ asked reaches. asks-outside next after.objects.works (reverse after.waiting.items) after.objects ready.ready asked reaches;
}
