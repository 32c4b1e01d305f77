-- What the service's own steps do, by its parts: what it knows, its host, what is due, and how many answers are left to it.
use Rattle.std.proofs.Common.{◌≡◌, ℕ, true, List, [], Option, Some, None, Result, Ok, Err, OnOk, OnErr, refl, sym, ◌∙◌, ap, subst}
use Rattle.std.specs.Option.{option_map}
use Rattle.std.specs.Prelude.{is_some}
use Rattle.tree_specs.specs.declared.call.Call.{Call}
use Rattle.tree_specs.specs.declared.call.Call.TheVariants.{Turn}
use Rattle.tree_specs.specs.Words.Objects.{first_context}
use Rattle.tree_specs.specs.declared.event.Event.{Event}
use Rattle.tree_specs.specs.declared.memory.Memory.{Memory}
use Rattle.tree_specs.specs.declared.moment.Moment.{Moment}
use Rattle.tree_specs.specs.declared.object.Obj.{Obj}
use Rattle.tree_specs.specs.declared.question.Act.TheVariants.{Do, Ret}
use Rattle.tree_specs.specs.declared.question.Ask.{Ask}
use Rattle.tree_specs.specs.declared.question.Ask.TheVariants as ask
use Rattle.tree_specs.specs.declared.question.Input.TheVariants as input
use Rattle.tree_specs.specs.Tree.Pool.{Pool}
use Rattle.tree_specs.specs.Words.Ranges.{is_sound_call}
use Rattle.tree_specs.specs.Machine.View.{View, begin, question_of}
use Rattle.host_core.specs.Promises.{NextLaw, Waits}
use Rattle.service_rules.specs.declared.order.Order.{Order}
use Rattle.service_rules.specs.declared.order.Order.TheVariants as order
use Rattle.service_rules.specs.declared.task.Fulfilling.{Fulfilling}
use Rattle.service_rules.specs.declared.task.Run.TheVariants.{Own}
use Rattle.service_rules.specs.declared.task.Task.{Task}
use Rattle.service_rules.specs.Knowledge.{Knowledge, with_run}
use Rattle.service_rules.specs.Knowledge.Setup.{Complete}
use Rattle.service_rules.specs.Routines.{does}
use Rattle.service_rules.specs.Routines.Next.{Does, Returns}
use Rattle.service_rules.specs.Service.{shown_events, told}
use Rattle.service_rules.specs.Stations.{IsAsked, Shows, StationView, outside_question, unborn}
use Rattle.service_desk.specs.Desks.{heard_at, known}
use Rattle.service_desk.specs.Fronts.{HasOrder, NamesItsOwn, OrderServed, StrangeServed, line_done, lines_of, ordering}
use Rattle.line_service.specs.declared.answerer.Answerer.TheVariants as answerer
use Rattle.line_service.specs.declared.telling.Step.{Step}
use Rattle.line_service.specs.declared.telling.Step.TheVariants as step
use Rattle.line_service.specs.Steps.{Gives, IsSetUp, IsShownBy, StepLaw, answerer_of, is_own, may_be_due, strange_in}
use Rattle.line_service.proofs.Stepping.{asked-outside, asked-not-due, born, calls, finds, goes-on, hears, is-asked, not-due, returns, turns, unchanged}

abbrev pub seen : Knowledge → View → Option Task → ℕ → StationView
seen d v due n = record { knows = d; host = v; due = due; left = n }

-- one of the service's own routines is asked, so somebody is
some-asked : (o : Option Ask) → is_own o ≡ true → (q : Ask) × (o ≡ Some q)
some-asked None e = cc
some-asked (Some q) e = (q, refl)

module _ (s : StationView) (d : Knowledge) (v : View) (due : Option Task) (n : ℕ) (is : seen d v due n ≡ s) where
  -- ---- the next turn

  pub turn-begun : (w : View) (m : ℕ) (r : Result (Unit {0}) Memory) → may_be_due due (question_of v) ≡ true → question_of s.host ≡ Some ask.Quiet → Waits s.host → s.knows.setup ≡ Complete
      → OnOk r (Gives v n (input.Call (Turn first_context)) w m) → OnErr r (w ≡ v) → OnErr r (m ≡ n) → Shows [] s (seen d w due m)
  turn-begun w m r may quiet waits complete ok host left =
      subst (λ (z : StationView). question_of z.host ≡ Some ask.Quiet → Waits z.host → z.knows.setup ≡ Complete → Shows [] z (seen d w due m)) is (each r ok host left) quiet waits complete
    where
      each : (r : Result (Unit {0}) Memory) → OnOk r (Gives v n (input.Call (Turn first_context)) w m) → OnErr r (w ≡ v) → OnErr r (m ≡ n) → question_of v ≡ Some ask.Quiet → Waits v → d.setup ≡ Complete → Shows [] (seen d v due n) (seen d w due m)
      each (Ok done) ok host left quiet waits complete = let none = not-due due (question_of v) may (ap is_own quiet) in turns (seen d v due n) (seen d w due m) none complete quiet waits ok refl none
      each (Err why) ok host left quiet waits complete = unchanged (seen d v due n) (seen d w due m) refl host refl left

  -- ---- what is due

  pub due-found : (e : Knowledge) (next : Option Task) (m : Moment) (r : Result (Unit {0}) Memory) → is_own (question_of s.host) ≡ true → Waits s.host → s.due ≡ None → question_of v ≡ Some (ask.Routine m)
      → OnOk r (e ≡ (heard_at d m).knowledge) → OnOk r (next ≡ Some (heard_at d m).task) → OnErr r (e ≡ d) → OnErr r (next ≡ due) → Shows [] s (seen e v next n)
  due-found e next m r own waits none asked knows found same same_due =
      subst (λ (z : StationView). is_own (question_of z.host) ≡ true → Waits z.host → z.due ≡ None → Shows [] z (seen e v next n)) is (each r knows found same same_due) own waits none
    where
      each : (r : Result (Unit {0}) Memory) → OnOk r (e ≡ (heard_at d m).knowledge) → OnOk r (next ≡ Some (heard_at d m).task) → OnErr r (e ≡ d) → OnErr r (next ≡ due) → is_own (question_of v) ≡ true → Waits v → due ≡ None
          → Shows [] (seen d v due n) (seen e v next n)
      each (Ok done) knows found same same_due own waits none =
          finds (seen d v due n) (seen e v next n) m (heard_at d m) none asked (sym (ap is_own asked) ∙ own) waits refl knows found refl refl
      each (Err why) knows found same same_due own waits none = unchanged (seen d v due n) (seen e v next n) same refl same_due refl

  -- ---- it is done

  pub call-done : (e : Knowledge) (w : View) (next : Option Task) (m : ℕ) (t : Task) (c : Call) → is_own (question_of s.host) ≡ true → s.due ≡ Some t → ((p : Pool) → does s.knows p t ≡ Does c t s.knows) → is_sound_call c ≡ true
      → Gives v n (input.Act (Do c)) w m → e ≡ with_run (Own t) d → next ≡ None → Shows [] s (seen e w next m)
  call-done e w next m t c own at is_call sound g knows none =
      subst (λ (z : StationView). is_own (question_of z.host) ≡ true → z.due ≡ Some t → ((p : Pool) → does z.knows p t ≡ Does c t z.knows) → Shows [] z (seen e w next m)) is
      (λ own at is_call. let q = some-asked (question_of v) own in calls (seen d v due n) (seen e w next m) t t c d q.0 at (is_call v.pool) sound q.1 g knows none) own at is_call

  pub line-call-done : (e : Knowledge) (w : View) (next : Option Task) (m : ℕ) (session : Obj) (length tag : ℕ) (o : Order) (c : Call) (at : Fulfilling) → is_own (question_of s.host) ≡ true → s.due ≡ Some (lines_of session)
      → HasOrder session length tag o s.knows → NamesItsOwn s.host.pool session o → OrderServed session o c at d → is_sound_call c ≡ true → Gives v n (input.Act (Do c)) w m
      → e ≡ with_run (Own (ordering session tag at)) (line_done session length d) → next ≡ None → Shows [] s (seen e w next m)
  line-call-done e w next m session length tag o c at own lines has names served sound g knows none =
      subst (λ (z : StationView). is_own (question_of z.host) ≡ true → z.due ≡ Some (lines_of session) → HasOrder session length tag o z.knows → NamesItsOwn z.host.pool session o → Shows [] z (seen e w next m)) is
      (λ own lines has names. let q = some-asked (question_of v) own in
      calls (seen d v due n) (seen e w next m) (lines_of session) (ordering session tag at) c (line_done session length d) q.0 lines (served length tag has v.pool names) sound q.1 g knows none) own lines has names

  pub return-done : (e : Knowledge) (w : View) (next : Option Task) (m : ℕ) (t : Task) → is_own (question_of s.host) ≡ true → s.due ≡ Some t → ((p : Pool) → does s.knows p t ≡ Returns s.knows)
      → Gives v n (input.Act (Ret 0)) w m → e ≡ d → next ≡ None → Shows [] s (seen e w next m)
  return-done e w next m t own at is_return g knows none =
      subst (λ (z : StationView). is_own (question_of z.host) ≡ true → z.due ≡ Some t → ((p : Pool) → does z.knows p t ≡ Returns z.knows) → Shows [] z (seen e w next m)) is
      (λ own at is_return. let q = some-asked (question_of v) own in returns (seen d v due n) (seen e w next m) t d q.0 at (is_return v.pool) q.1 g knows none) own at is_return

  -- ---- a line that names what isn't its session's is answered

  pub strange-told : (e : Knowledge) (next : Option Task) (session : Obj) (length tag : ℕ) (o : Order) (x : Obj) (r : Result (Unit {0}) Memory) → s.due ≡ Some (lines_of session) → HasOrder session length tag o s.knows
      → strange_in v.pool session o ≡ Some x → OnOk r (StrangeServed session length tag x d e) → OnErr r (e ≡ d) → next ≡ due → Shows [] s (seen e v next n)
  strange-told e next session length tag o x r lines has strange served same same_due =
      subst (λ (z : StationView). z.due ≡ Some (lines_of session) → HasOrder session length tag o z.knows → Shows [] z (seen e v next n)) is (each r o strange served same) lines has
    where
      each : (r : Result (Unit {0}) Memory) (o : Order) → strange_in v.pool session o ≡ Some x → OnOk r (StrangeServed session length tag x d e) → OnErr r (e ≡ d) → due ≡ Some (lines_of session) → HasOrder session length tag o d
          → Shows [] (seen d v due n) (seen e v next n)
      each (Err why) o strange served same lines has = unchanged (seen d v due n) (seen e v next n) same refl same_due refl
      each (Ok done) (order.Call c) strange served same lines has =
          goes-on (seen d v due n) (seen e v next n) (lines_of session) (lines_of session) lines (same_due ∙ lines) refl refl (sym (served c has v.pool strange))
      each (Ok done) _ strange served same lines has = cc

  -- ---- the outside is asked

  pub outside-asked : may_be_due due (question_of v) ≡ true → Waits s.host → ((q : Ask) → question_of v ≡ Some q → answerer.Outside ≡ answerer_of q) → Shows [] s (seen d v due n) × IsAsked (seen d v due n)
  outside-asked may waits answers =
      subst (λ (z : StationView). Waits z.host → Shows [] z (seen d v due n) × IsAsked (seen d v due n)) is
      (λ waits. let q = asked-outside v waits answers in
      (unchanged (seen d v due n) (seen d v due n) refl refl refl refl, is-asked (seen d v due n) q.0 (asked-not-due due (question_of v) q.0 may q.1) q.1 waits)) waits

  -- who is asked something that it may see
  pub some-asked-now : {R : Type 0} (f : R → Ask) (lent : Option R) → may_be_due due (question_of v) ≡ true → option_map f lent ≡ outside_question (question_of v) → is_some lent ≡ true → Waits v → IsAsked s
  some-asked-now f None may e some waits = cc
  some-asked-now f (Some r) may e some waits =
      subst IsAsked is (is-asked (seen d v due n) (f r) (asked-not-due due (question_of v) (f r) may (sym e)) (sym e) waits)

  -- ---- an event is told

  pub event-told : (e : Knowledge) (w : View) (next : Option Task) (event : Event) (r : Step) → may_be_due due (question_of v) ≡ true → NextLaw (Some event) v w → IsShownBy r (shown_events d event) → e ≡ told d event → next ≡ due
      → StepLaw (Ok r) s (seen e w next n)
  event-told e w next event r may law shown knows same_due =
      let none = not-due due (question_of v) may (ap is_own law.0) in
      let told = subst (λ (z : StationView). Shows (shown_events d event) z (seen e w next n)) is (hears (seen d v due n) (seen e w next n) event none law knows (same_due ∙ none) refl) in
      each r shown told
    where
      each : (r : Step) → IsShownBy r (shown_events d event) → Shows (shown_events d event) s (seen e w next n) → StepLaw (Ok r) s (seen e w next n)
      each (step.Shown x) shown h = subst (λ (events : List Event). Shows events s (seen e w next n)) shown h
      each step.Asked shown h = absurd shown
      each step.Silent shown h = subst (λ (events : List Event). Shows events s (seen e w next n)) shown h

-- nothing is due after it
pub told-may : (due next : Option Task) (v w : View) (event : Event) → may_be_due due (question_of v) ≡ true → NextLaw (Some event) v w → next ≡ due → may_be_due next (question_of w) ≡ true
told-may due next v w event may law same = ap (λ (o : Option Task). may_be_due o (question_of w)) (same ∙ not-due due (question_of v) may (ap is_own law.0))

-- a service whose host was set up begins
pub begun : (v w : View) (d : Knowledge) (due : Option Task) (n : ℕ) → v ≡ begin 1 → Waits v → IsSetUp v w → d ≡ known [] [] [] → due ≡ None → n ≡ 4194302 → Shows [] unborn (seen d w due n)
begun v w d due n first waits up knows none left =
    let h = born w (subst (λ (z : View). IsSetUp z w) first up) (subst Waits first waits) in
    let same : seen (known [] [] []) w None 4194302 ≡ seen d w due n = λ i. record { knows = sym knows i; host = w; due = sym none i; left = sym left i } in
    subst (λ (z : StationView). Shows [] unborn z) same h
