-- What the steps of a station do to what is still to come of it.
use Rattle.std.proofs.Common.{◌≡◌, ℕ, zero, suc, ◌+◌, ◌*◌, length, Bool, true, false, List, [], ◌∷◌, Option, Some, None, refl, sym, ◌∙◌, ap, subst}
use Rattle.std.specs.Prelude.{nat_lt}
use Rattle.tree_specs.specs.declared.call.Call.{Call}
use Rattle.tree_specs.specs.declared.call.Call.TheVariants.{Turn}
use Rattle.tree_specs.specs.Words.Objects.{first_context}
use Rattle.tree_specs.specs.declared.event.Event.{Event}
use Rattle.tree_specs.specs.declared.event.Event.TheVariants.{Replied}
use Rattle.tree_specs.specs.declared.frame.Frame.{Frame}
use Rattle.tree_specs.specs.declared.frame.Frame.TheVariants as frame
use Rattle.tree_specs.specs.declared.frame.OutsideFrame.TheVariants.{Reaching}
use Rattle.tree_specs.specs.declared.moment.Moment.{Moment}
use Rattle.tree_specs.specs.declared.question.Act.{Act}
use Rattle.tree_specs.specs.declared.question.Act.TheVariants.{Do, Ret}
use Rattle.tree_specs.specs.declared.question.Ask.{Ask}
use Rattle.tree_specs.specs.declared.question.Ask.TheVariants as ask
use Rattle.tree_specs.specs.declared.question.Input.{Input}
use Rattle.tree_specs.specs.declared.question.Input.TheVariants as input
use Rattle.tree_specs.specs.declared.reply.Reply.{Reply}
use Rattle.tree_specs.specs.Rules.Items.Item.{Asked}
use Rattle.tree_specs.specs.Texts.Schedule.{misfit}
use Rattle.tree_specs.specs.Words.Ranges.{is_sound_call}
use Rattle.tree_specs.specs.Machine.View.{View, begin, question_of, strays_of}
use Rattle.machine_driver.specs.Driver.{with_front}
use Rattle.machine_driver.specs.Seen.{sight}
use Rattle.tree_stories.specs.Sights.{sights_of}
use Rattle.tree_stories.proofs.Outsides.{AsksOutside}
use Rattle.host_core.specs.Promises as promises
use Rattle.host_core.specs.Promises.{NextLaw, Waits}
use Rattle.host_core.specs.Reaches.{IsOutside}
use Rattle.service_rules.specs.declared.task.Run.TheVariants.{Own}
use Rattle.service_rules.specs.declared.task.Task.{Task}
use Rattle.service_rules.specs.Knowledge.{Knowledge, Setup, further, nothing_known, resting_call, with_run}
use Rattle.service_rules.specs.Knowledge.Setup.{Nothing, Unwatched, Complete}
use Rattle.service_rules.specs.Routines.{Heard, comes_to, does, next_act}
use Rattle.service_rules.specs.Routines.Next.{Does, Returns}
use Rattle.service_rules.specs.Service.{after_act, answer_of, done_if, first_of_outside, heard, own, own_if, shown_events, told}
use Rattle.service_rules.specs.Stations.{IsAsked, Shows, StationView, TakesAnswer, asked_of, more_answers, outside_question, question_now, still_to_come, strays_to_come, unborn, unless_own, watched_to_come}
use Rattle.service_rules.proofs.Ending.{rest-ends}
use Rattle.service_rules.proofs.Fitting.{rest-fits}
use Rattle.service_rules.proofs.Steps.{Opens, Takes, Tells, at, at_due, due_done, due_found, due_same, event-next, not-own, opening, begins-with, open-next, open-strays, open-watched, own-next, passed-next, passed-strays, passed-watched, shows-nothing, shows-then, strays-next}
use Rattle.service_desk.specs.Desks.{known}
use Rattle.line_service.specs.declared.answerer.Answerer.TheVariants as answerer
use Rattle.line_service.specs.Runs.{change_by, change_of, changed}
use Rattle.line_service.specs.Steps.{Gives, IsSetUp, SetsUp, answerer_of, is_own, may_be_due, routine_answerer}

-- ---- what a host does, as a driver sees it

pub question-is : (v : View) (w : Waits v) (q : Ask) → question_of v ≡ Some q → w.question ≡ q
question-is v w q e = let d : Some w.question ≡ Some q = sym w.open_now ∙ e in cc

pub opens : (v : View) (w : Waits v) (q : Ask) → question_of v ≡ Some q → Opens v q
opens v w q e = subst (λ (z : Ask). Opens v z) (question-is v w q e) w.begins_seen

asked-is : (v : View) (i : Input) (w : View) (t : promises.TakesAnswer v i w) (q : Ask) → question_of v ≡ Some q → t.question ≡ q
asked-is v i w t q e = let d : Some t.question ≡ Some q = sym t.open_before ∙ e in cc

pub takes : (v : View) (i : Input) (w : View) (q : Ask) → question_of v ≡ Some q → promises.TakesAnswer v i w → Takes v q i w
takes v i w q e t = subst (λ (z : Ask). Takes v z i w) (asked-is v i w t q e) (record { seen = t.seen; strays = t.strays })

pub tells : (e : Event) (v w : View) → NextLaw (Some e) v w → Tells v e w
tells e v w n = record { seen = n.3; strays = n.2 }

-- ---- a station by its parts

due-rebuilt : (s : StationView) (t : Task) (n : ℕ) → s.due ≡ Some t → s.left ≡ n → s ≡ at_due s.knows s.host t n
due-rebuilt s t n e f =
    ap (λ (z : Option Task). let v : StationView = record { knows = s.knows; host = s.host; due = z; left = s.left } in v) e
    ∙ ap (λ (z : ℕ). at_due s.knows s.host t z) f

rebuilt : (s : StationView) (n : ℕ) → s.due ≡ None → s.left ≡ n → s ≡ at s.knows s.host n
rebuilt s n e f =
    ap (λ (z : Option Task). let v : StationView = record { knows = s.knows; host = s.host; due = z; left = s.left } in v) e
    ∙ ap (λ (z : ℕ). at s.knows s.host z) f

along : (us : List Event) (s s' t t' : StationView) → s ≡ s' → t ≡ t' → Shows us s' t' → Shows us s t
along us s s' t t' e f h = subst (λ (z : StationView). Shows us z t) (sym e) (subst (λ (z : StationView). Shows us s' z) (sym f) h)

-- ---- what is due is done

answered : (c : Call) (t : Task) (k : Knowledge) → is_sound_call c ≡ true → answer_of (Does c t k) ≡ (input.Act (Do c), with_run (Own t) k)
answered c t k sound = ap (λ (b : Bool). done_if b c t k) sound

pub calls : (s s' : StationView) (t t' : Task) (c : Call) (k : Knowledge) (q : Ask) → s.due ≡ Some t → does s.knows s.host.pool t ≡ Does c t' k → is_sound_call c ≡ true
    → question_of s.host ≡ Some q → Gives s.host s.left (input.Act (Do c)) s'.host s'.left → s'.knows ≡ with_run (Own t') k → s'.due ≡ None → Shows [] s s'
calls s s' t t' c k q due e sound asked g knows none =
    along [] s (at_due s.knows s.host t (suc s'.left)) s' (at (with_run (Own t') k) s'.host s'.left) (due-rebuilt s t (suc s'.left) due g.counted) (rebuilt s' s'.left none refl ∙ ap (λ (z : Knowledge). at z s'.host s'.left) knows)
    (due_done s.knows (with_run (Own t') k) s.host s'.host s'.left q (input.Act (Do c)) t (ap answer_of e ∙ answered c t' k sound) (takes s.host (input.Act (Do c)) s'.host q asked g.taken))

pub returns : (s s' : StationView) (t : Task) (k : Knowledge) (q : Ask) → s.due ≡ Some t → does s.knows s.host.pool t ≡ Returns k → question_of s.host ≡ Some q → Gives s.host s.left (input.Act (Ret 0)) s'.host s'.left → s'.knows ≡ k → s'.due ≡ None → Shows [] s s'
returns s s' t k q due e asked g knows none =
    along [] s (at_due s.knows s.host t (suc s'.left)) s' (at k s'.host s'.left) (due-rebuilt s t (suc s'.left) due g.counted) (rebuilt s' s'.left none refl ∙ ap (λ (z : Knowledge). at z s'.host s'.left) knows)
    (due_done s.knows k s.host s'.host s'.left q (input.Act (Ret 0)) t (ap answer_of e) (takes s.host (input.Act (Ret 0)) s'.host q asked g.taken))

-- what is due goes on as what is due then
pub goes-on : (s s' : StationView) (t t' : Task) → s.due ≡ Some t → s'.due ≡ Some t' → s'.host ≡ s.host → s'.left ≡ s.left → does s.knows s.host.pool t ≡ does s'.knows s.host.pool t' → Shows [] s s'
goes-on s s' t t' due due' host left e =
    along [] s (at_due s.knows s.host t s.left) s' (at_due s'.knows s.host t' s.left) (due-rebuilt s t s.left due refl) (due-rebuilt s' t' s.left due' left ∙ ap (λ (z : View). at_due s'.knows z t' s.left) host)
    (due_same s.knows s'.knows s.host s.left t t' e)

-- ---- what is due is found out

pub finds : (s s' : StationView) (m : Moment) (h : Heard) → s.due ≡ None → question_of s.host ≡ Some (ask.Routine m) → nat_lt m.routine first_of_outside ≡ true → Waits s.host → h ≡ comes_to s.knows m m.last
    → s'.knows ≡ h.knowledge → s'.due ≡ Some h.task → s'.host ≡ s.host → s'.left ≡ s.left → Shows [] s s'
finds s s' m h none asked low waits comes knows due host left =
    along [] s (at s.knows s.host s.left) s' (at_due h.knowledge s.host h.task s.left) (rebuilt s s.left none refl)
    (due-rebuilt s' h.task s.left due left ∙ ap (λ (z : View). at_due s'.knows z h.task s.left) host ∙ ap (λ (z : Knowledge). at_due z s.host h.task s.left) knows)
    (due_found s.knows h.knowledge s.host s.left (ask.Routine m) h.task (opens s.host waits (ask.Routine m) asked)
    (ap (λ (b : Bool). own_if b (next_act s.knows s.host.pool m)) low ∙ ap (λ (z : Heard). Some (answer_of (does z.knowledge s.host.pool z.task))) (sym comes)))

-- ---- the next turn begins

pub turns : (s s' : StationView) → s.due ≡ None → s.knows.setup ≡ Complete → question_of s.host ≡ Some ask.Quiet → Waits s.host → Gives s.host s.left (input.Call (Turn first_context)) s'.host s'.left → s'.knows ≡ s.knows → s'.due ≡ None → Shows [] s s'
turns s s' none complete asked waits g knows none' =
    along [] s (at s.knows s.host (suc s'.left)) s' (at s.knows s'.host s'.left) (rebuilt s (suc s'.left) none g.counted) (rebuilt s' s'.left none' refl ∙ ap (λ (z : Knowledge). at z s'.host s'.left) knows)
    (own-next s.knows s.knows s.host s'.host s'.left ask.Quiet (input.Call (Turn first_context)) (opens s.host waits ask.Quiet asked) rests (takes s.host (input.Call (Turn first_context)) s'.host ask.Quiet asked g.taken))
  where
    rests : own s.knows (opening s.host ask.Quiet) ≡ Some (input.Call (Turn first_context), s.knows)
    rests = ap (λ (z : Setup). Some (input.Call (resting_call z), record s.knows { setup = further z })) complete
        ∙ ap (λ (z : Setup). Some (input.Call (Turn first_context), record s.knows { setup = z })) (sym complete)

-- ---- an event was told

pub hears : (s s' : StationView) (e : Event) → s.due ≡ None → NextLaw (Some e) s.host s'.host → s'.knows ≡ told s.knows e → s'.due ≡ None → s'.left ≡ s.left → Shows (shown_events s.knows e) s s'
hears s s' e none next knows none' left =
    along (shown_events s.knows e) s (at s.knows s.host s.left) s' (at (told s.knows e) s'.host s.left) (rebuilt s s.left none refl) (rebuilt s' s.left none' left ∙ ap (λ (z : Knowledge). at z s'.host s.left) knows)
    (event-next s.knows s.host s'.host s.left e (tells e s.host s'.host next))

-- ---- the outside is asked

pub is-asked : (s : StationView) (q : Ask) → s.due ≡ None → asked_of s ≡ Some q → Waits s.host → IsAsked s
is-asked s q none asked waits =
    let o = not-own s.knows s.host (question_of s.host) q asked in
    let b = opens s.host waits q o.0 in
    subst IsAsked (sym (rebuilt s s.left none refl)) (record {
      question = q;
      open_now = asked;
      last = open-next s.knows s.host s.left q b o.1;
      watched_last = open-watched s.knows s.host s.left q b o.1;
      begins = λ i is. begins-with s.knows s.host s.left q i is b o.1;
      fits = open-strays s.knows s.host s.left q b o.1 ∙ waits.fits;
    })

-- ---- the service is set up

set-up : (d d' : Knowledge) (v w : View) (n : ℕ) (c : Call) → SetsUp v c w → Waits v → own d (opening v ask.Quiet) ≡ Some (input.Call c, d') → ((r : Reply) → shown_events d' (Replied r) ≡ []) → Shows [] (at d v (suc n)) (at d' w n)
set-up d d' v w n c up waits e hides =
    let b : View = up.done.between in
    shows-then [] [] (at d v (suc n)) (at d' b n) (at d' w n)
    (own-next d d' v b n ask.Quiet (input.Call c) (opens v waits ask.Quiet up.asked) e (takes v (input.Call c) b ask.Quiet up.asked up.done.taken))
    (subst (λ (events : List Event). Shows events (at d' b n) (at d' w n)) (hides up.reply) (event-next d' b w n (Replied up.reply) (tells (Replied up.reply) b w up.done.told)))

-- ---- an answer of the outside is passed on

pub heard-changed : (q : Ask) (i : Input) (d : Knowledge) → changed (change_of q i) d ≡ heard d q i
heard-changed (ask.Routine m) (input.Act a) d = by-step m.step a
  where
    by-step : (n : ℕ) (a : Act) → changed (change_by n a) d ≡ after_act d n a
    by-step zero (Do c) = refl
    by-step zero (Ret v) = refl
    by-step (suc n) (Do c) = refl
    by-step (suc n) (Ret v) = refl
heard-changed (ask.Routine m) _ d = refl
heard-changed _ i d = refl

-- a host that was given an answer waits for no caller by what it asks of the outside
asks-outside : (f : Frame) → ((q : Ask) → f ≡ frame.Outside (Reaching q) → IsOutside q) → AsksOutside f
asks-outside (frame.Outside (Reaching q)) h = each q (h q refl)
  where
    each : (q : Ask) → IsOutside q → AsksOutside (frame.Outside (Reaching q))
    each ask.Clock o = tt
    each (ask.Accept fd) o = tt
    each (ask.Read fd most) o = tt
    each (ask.Write fd bytes) o = tt
    each _ o = absurd o
asks-outside _ h = tt

pub passes : (s s' : StationView) (q : Ask) (i : Input) → s.due ≡ None → asked_of s ≡ Some q → Waits s.host → promises.TakesAnswer s.host i s'.host → s'.left ≡ s.left + 4194303 → s'.knows ≡ changed (change_of q i) s.knows → s'.due ≡ None → TakesAnswer s i s'
unfolding is-asked
passes s s' q i none asked waits taken left knows none' =
    let o = not-own s.knows s.host (question_of s.host) q asked in
    let b = opens s.host waits q o.0 in
    let t = takes s.host i s'.host q o.0 taken in
    let d : Knowledge = heard s.knows q i in
    let now : s ≡ at s.knows s.host s.left = rebuilt s s.left none refl in
    let next : s' ≡ at d s'.host (s.left + 4194303) = rebuilt s' (s.left + 4194303) none' left ∙ ap (λ (z : Knowledge). at z s'.host (s.left + 4194303)) (knows ∙ heard-changed q i s.knows) in
    record {
      asked = is-asked s q none asked waits;
      fits = ap (λ (z : Option Ask). misfit z i) (sym o.0) ∙ taken.fits;
      goes_on = λ is.
          ap (λ (z : StationView). still_to_come z (i ∷ is)) now ∙ passed-next s.knows s.host s'.host s.left q i b o.1 t is
          ∙ ap (λ (z : StationView). with_front (Asked q ∷ []) (still_to_come z is)) (sym next);
      watched = λ is.
          ap (λ (z : StationView). watched_to_come z (i ∷ is)) now ∙ passed-watched s.knows s.host s'.host s.left q i b o.1 t is
          ∙ ap (λ (z : StationView). with_front (question_now s q ∷ []) (watched_to_come z is)) (sym next);
      strays = λ is.
          ap (λ (z : StationView). strays_to_come z (i ∷ is)) now ∙ passed-strays s.knows s.host s'.host s.left q i b o.1 t is
          ∙ ap (λ (z : StationView). strays_to_come z is) (sym next);
      settles =
          ap (λ (z : StationView). strays_to_come z []) next
          ∙ rest-fits (suc ((s.left + 4194303) + more_answers * length {A = Input} [])) d s'.host taken.whole (asks-outside s'.host.innermost taken.outside);
      ends = λ is items e.
          rest-ends (suc ((s.left + 4194303) + more_answers * length is)) d s'.host is items taken.whole (asks-outside s'.host.innermost taken.outside)
          (ap (λ (z : StationView). still_to_come z is) (sym next) ∙ e);
    }

-- one that is asked for and yet doesn't fit
pub strays : (s : StationView) (q : Ask) (i : Input) → s.due ≡ None → asked_of s ≡ Some q → Waits s.host → ((is : List Input) → sights_of s.host (i ∷ is) ≡ sights_of s.host []) → strays_of s.host (i ∷ []) ≡ true → sights_of s.host [] ≡ sight s.host.pool (Asked q) ∷ [] → strays_to_come s (i ∷ []) ≡ true
strays s q i none asked waits ends stray last =
    let o = not-own s.knows s.host (question_of s.host) q asked in
    let b = opens s.host waits q o.0 in
    ap (λ (z : StationView). strays_to_come z (i ∷ [])) (rebuilt s s.left none refl)
    ∙ strays-next s.knows s.host s.left q i b o.1 (λ is. ends is ∙ last)
    ∙ stray

-- ---- where something may be due

not-own-asked : (asked : Option Ask) (q : Ask) → outside_question asked ≡ Some q → is_own asked ≡ false
not-own-asked None q e = cc
not-own-asked (Some ask.Quiet) q e = cc
not-own-asked (Some (ask.Routine m)) q e = each (nat_lt m.routine first_of_outside) e
  where
    each : (b : Bool) → unless_own b (ask.Routine m) ≡ Some q → b ≡ false
    each true e = cc
    each false e = refl
not-own-asked (Some _) q e = refl

pub not-due : (due : Option Task) (asked : Option Ask) → may_be_due due asked ≡ true → is_own asked ≡ false → due ≡ None
not-due None asked e o = refl
not-due (Some t) asked e o = let bad : true ≡ false = sym e ∙ o in cc

pub asked-not-due : (due : Option Task) (asked : Option Ask) (q : Ask) → may_be_due due asked ≡ true → outside_question asked ≡ Some q → due ≡ None
asked-not-due due asked q e o = not-due due asked e (not-own-asked asked q o)

-- ---- a station whose service was set up

pub born : (w : View) → IsSetUp (begin 1) w → Waits (begin 1) → Shows [] unborn (at (known [] [] []) w 4194302)
born w up waits =
    let first : Knowledge = record nothing_known { setup = Unwatched } in
    shows-then [] [] unborn (at first up.between 4194303) (at (known [] [] []) w 4194302)
    (set-up nothing_known first (begin 1) up.between 4194303 (resting_call Nothing) up.service waits refl (λ r. refl))
    (set-up first (known [] [] []) up.between w 4194302 (resting_call Unwatched) up.listener up.service.done.waits refl (λ r. refl))

-- ---- nothing was done

pub unchanged : (s s' : StationView) → s'.knows ≡ s.knows → s'.host ≡ s.host → s'.due ≡ s.due → s'.left ≡ s.left → Shows [] s s'
unchanged s s' knows host due left = subst (Shows [] s) (sym same) (shows-nothing s)
  where
    same : s' ≡ s
    same = λ i. record { knows = knows i; host = host i; due = due i; left = left i }

-- ---- who answers

pub asked-quiet : (v : View) → Waits v → ((q : Ask) → question_of v ≡ Some q → answerer.Loop ≡ answerer_of q) → question_of v ≡ Some ask.Quiet
asked-quiet v w is = w.open_now ∙ ap Some (each w.question (is w.question w.open_now))
  where
    by-routine : (q : Ask) (b : Bool) → answerer.Loop ≡ routine_answerer b → q ≡ ask.Quiet
    by-routine q true e = cc
    by-routine q false e = cc

    each : (q : Ask) → answerer.Loop ≡ answerer_of q → q ≡ ask.Quiet
    each ask.Quiet e = refl
    each (ask.Routine m) e = by-routine (ask.Routine m) (nat_lt m.routine first_of_outside) e
    each _ e = cc

pub asked-own : (v : View) → Waits v → ((q : Ask) → question_of v ≡ Some q → answerer.Own ≡ answerer_of q) → is_own (question_of v) ≡ true
asked-own v w is = ap is_own w.open_now ∙ each w.question (is w.question w.open_now)
  where
    by-routine : (b : Bool) → answerer.Own ≡ routine_answerer b → b ≡ true
    by-routine true e = refl
    by-routine false e = cc

    each : (q : Ask) → answerer.Own ≡ answerer_of q → is_own (Some q) ≡ true
    each ask.Quiet e = cc
    each (ask.Routine m) e = by-routine (nat_lt m.routine first_of_outside) e
    each _ e = cc

pub asked-outside : (v : View) → Waits v → ((q : Ask) → question_of v ≡ Some q → answerer.Outside ≡ answerer_of q) → (q : Ask) × (outside_question (question_of v) ≡ Some q)
asked-outside v w is = (w.question, ap outside_question w.open_now ∙ each w.question (is w.question w.open_now))
  where
    by-routine : (q : Ask) (b : Bool) → answerer.Outside ≡ routine_answerer b → unless_own b q ≡ Some q
    by-routine q true e = cc
    by-routine q false e = refl

    each : (q : Ask) → answerer.Outside ≡ answerer_of q → outside_question (Some q) ≡ Some q
    each ask.Quiet e = cc
    each (ask.Routine m) e = by-routine (ask.Routine m) (nat_lt m.routine first_of_outside) e
    each _ e = refl
