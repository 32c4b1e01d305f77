-- Each read that the outside is asked for is of as many bytes as may be read at once.
use Rattle.std.proofs.Common.{◌≡◌, suc, arith, ◌≤◌, nat_eq, Bool, true, List, [], ◌∷◌, ◌++◌, length, map, Option, Some, None, refl, sym, ap, subst}
use Rattle.std.specs.List.{list_all}
use Rattle.step_machine.specs.History.{EachFits}
use Rattle.step_machine.specs.Machine.{Move as Do}
use Rattle.step_machine.specs.Noted.{noted_move}
use Rattle.step_machine.proofs.Ends.{Leads}
use Rattle.step_machine.proofs.History.{FitsOn, each-fits}
use Rattle.machine_driver.specs.Seen.{sight_of}
use Rattle.machine_driver.specs.Driver.{filled, shown, shown_item, shown_question, shown_answer, shown_last, shown_of}
use Rattle.machine_driver.specs.Driver.Kind.{Event as AnEvent, Question as AQuestion}
use Rattle.tree_specs.specs.declared.object.Obj.{Obj}
use Rattle.tree_specs.specs.declared.call.Call.{Call}
use Rattle.tree_specs.specs.declared.call.Call.TheVariants as call
use Rattle.tree_specs.specs.declared.event.Event.{Event}
use Rattle.tree_specs.specs.declared.question.Ask.{Ask}
use Rattle.tree_specs.specs.declared.question.Ask.TheVariants as ask
use Rattle.tree_specs.specs.declared.question.Input.{Input}
use Rattle.tree_specs.specs.declared.frame.Frame.{Frame}
use Rattle.tree_specs.specs.declared.frame.Frame.TheVariants as frame
use Rattle.tree_specs.specs.declared.frame.CallFrame.TheVariants.{Asking, Doing, Awaiting, Turning, Requesting, Announcing, Telling, Returning}
use Rattle.tree_specs.specs.declared.frame.OutsideFrame.TheVariants.{Reaching, Opening, Hearing}
use Rattle.tree_specs.specs.declared.frame.Answer.{Answer}
use Rattle.tree_specs.specs.Tree.Pool.{Pool, empty, open_descriptor}
use Rattle.tree_specs.specs.Tree.Targets.{newest_ref}
use Rattle.tree_specs.specs.Rules.Items.{Item}
use Rattle.tree_specs.specs.Rules.Items.Item.{Told, Asked}
use Rattle.tree_specs.specs.Rules.Sequence.{CallStart, Scene}
use Rattle.tree_specs.specs.Rules.Story.{story, turns}
use Rattle.tree_specs.specs.Calls.Given.{Given, given_to}
use Rattle.tree_specs.specs.Calls.Given.Given.{Calls, Returns, Tells, IsReady, Opens, Answers}
use Rattle.tree_specs.specs.Calls.Plans.{Plan, plan, planned_at, frees}
use Rattle.tree_specs.specs.Calls.Plans.Plan.{Does, Frees, Unlinks, Empties, Asks, Turns, Works}
use Rattle.tree_specs.specs.Events.Queues.{runs}
use Rattle.tree_specs.specs.Machine.Table.{Step, table, notes, step, taken, resume, work_of, plan_step, doing, returning}
use Rattle.tree_specs.specs.Machine.Meaning.{noted_table}
use Rattle.tree_specs.specs.Rules.Answers.{led}
use Rattle.tree_specs.specs.Words.Ranges.{is_sound_call, is_return, is_length}
use Rattle.tree_specs.specs.Invariants.Sound.{AllWait}
use Rattle.tree_specs.specs.Invariants.Consistent.{IsConsistent}
use Rattle.tree_specs.proofs.Tree.Numbered.{by_test}
use Rattle.tree_specs.proofs.Calls.Checks.{both-true, planned-by, planned-at-by, Reached, reached-leads}
use Rattle.tree_specs.proofs.Calls.Checks.Reached.{ReachedOpening, ReachedHearing}
use Rattle.tree_specs.proofs.Invariants.Waiters.{waiter}
use Rattle.tree_specs.proofs.Promises.Causes.{NotedWork}
use Rattle.tree_specs.proofs.Promises.Fine.{taken-noted}
use Rattle.tree_specs.proofs.Promises.Fine as fine
use Rattle.tree_specs.proofs.Rules.Rest.{whole-kept}
use Rattle.tree_specs.proofs.Rules.StoryLaws.{asking, begin-whole, story-walk}
use Rattle.tree_stories.specs.Sights.{Sight}
use Rattle.tree_stories.specs.Sights.{Opening as OpenNow}
use Rattle.service_rules.specs.Knowledge.{Knowledge, nothing_known}
use Rattle.service_rules.specs.Service.{machine, answers, own, heard, told, kind_of, shown_events, asked_unless}
use Rattle.service_rules.specs.ReadRanges.{ReadsAreInRange, reads_in_range, shows_in_range}
use Rattle.service_rules.specs.Watching.{Shown, watched, watching}
use Rattle.service_rules.proofs.SuitingTaken.{IsOfCaller, caller}
use Rattle.service_rules.proofs.Works.{IsEvent, IsOfTurn, CarriesNothing, LeadsWork, resumed-carries, work-carries, start-carries, errand-starts, works}

-- ---- what a work of a host has to do with reads

-- a call that is being done has its ranges, and a question that is being put
abbrev HasRanges : Frame → Type 0
HasRanges (frame.Call (Doing q c)) = is_sound_call c ≡ true
HasRanges (frame.Outside (Reaching q)) = reads_in_range q ≡ true
HasRanges f = Unit {0}

abbrev item_in_range : Item → Bool
item_in_range (Told e) = true
item_in_range (Asked q) = reads_in_range q

-- so has what a move leads to
abbrev LeadsRanges : Step → List Frame → Type 0
LeadsRanges (Do.Done a q) [] = Unit {0}
LeadsRanges (Do.Done a q) (g ∷ gs) = HasRanges (resume g a)
LeadsRanges (Do.Go f q) fs = HasRanges f
LeadsRanges (Do.Emit e f q) fs = (item_in_range e ≡ true) × HasRanges f
LeadsRanges (Do.Wait e f q) fs = (item_in_range e ≡ true) × ((i : Input) (g : Frame) → taken f q i ≡ Some g → HasRanges g)
LeadsRanges (Do.Call g f q) fs = HasRanges g

-- ---- works that are no caller's

carries-ranges : (f : Frame) → CarriesNothing f → HasRanges f
carries-ranges (frame.Call (Doing q c)) n = absurd n
carries-ranges (frame.Outside (Reaching q)) n = absurd n
carries-ranges _ n = tt

done-ranges : (a : Answer) (q : Pool) (fs : List Frame) → AllWait fs → LeadsRanges (Do.Done a q) fs
done-ranges a q [] w = tt
done-ranges a q (g ∷ gs) w = carries-ranges (resume g a) (resumed-carries a g (waiter g gs w.0))

turn-ranges : (e : Item) (f : Frame) → IsOfTurn e f → item_in_range e ≡ true
turn-ranges (Told e) f o = absurd o
turn-ranges (Asked ask.Clock) f o = refl
turn-ranges (Asked (ask.Wait limit)) f o = refl
turn-ranges (Asked _) f o = absurd o

told-ranges : (e : Item) → IsEvent e → item_in_range e ≡ true
told-ranges (Told e) i = refl
told-ranges (Asked q) i = absurd i

works-ranges : (p : Pool) (m : Step) (fs : List Frame) → LeadsWork p m → AllWait fs → LeadsRanges m fs
works-ranges p (Do.Done a q) fs leads w = done-ranges a q fs w
works-ranges p (Do.Go g q) fs leads w = carries-ranges g (work-carries g leads.0)
works-ranges p (Do.Emit e g q) fs leads w = (told-ranges e leads.0, carries-ranges g (work-carries g leads.1))
works-ranges p (Do.Wait e g q) fs leads w = (turn-ranges e g leads.0, λ i h t. carries-ranges h (work-carries h (leads.2 i h t)))
works-ranges p (Do.Call h g q) fs leads w = carries-ranges h (start-carries h leads.0)

-- ---- calls

abbrev AsksInRange : Plan → Type 0
AsksInRange (Asks q) = reads_in_range q ≡ true
AsksInRange plan = Unit {0}

-- what a call of sound numbers asks of the outside is in range
plan-asks : (q : Ask) (p : Pool) (c : Call) → is_sound_call c ≡ true → AsksInRange (planned_at q p c)
plan-asks q p c sound = planned-at-by AsksInRange q p c (planned-by AsksInRange p c (λ passed. each c sound) (λ r. tt)) (λ nested. tt)
  where
    freed : (x : Obj) (o : Option Obj) → AsksInRange (frees o x)
    freed x None = tt
    freed x (Some r) = tt

    each : (c : Call) → is_sound_call c ≡ true → AsksInRange (plan p c)
    each (call.Read fd most) s = (both-true _ (is_length most) s).1
    each call.Now s = refl
    each (call.Accept fd) s = refl
    each (call.Write fd bytes) s = refl
    each (call.Free x) s = freed x (newest_ref p.rows x)
    each (call.Error x error) s = by_test (nat_eq error 0) (λ t. rw t tt) (λ t. rw t tt)
    each (call.Start q) s = by_test (runs p.queues q) (λ t. rw t tt) (λ t. rw t tt)
    each _ s = tt

plan-ranges : (q : Ask) (plan : Plan) (p : Pool) (fs : List Frame) → AsksInRange plan → LeadsRanges (plan_step q plan p) fs
plan-ranges q (Does change None r) p fs asks = tt
plan-ranges q (Does change (Some n) r) p fs asks = tt
plan-ranges q (Frees x) p fs asks = tt
plan-ranges q (Unlinks o x) p fs asks = tt
plan-ranges q (Empties x) p fs asks = tt
plan-ranges q (Asks outside) p fs asks = asks
plan-ranges ask.Quiet (Turns c) p fs asks = tt
plan-ranges _ (Turns c) p fs asks = tt
plan-ranges q (Works change errand x) p fs asks = carries-ranges (work_of errand x) (start-carries (work_of errand x) (errand-starts errand x))

-- a call is only taken where its numbers have their ranges
call-ranges : (q : Ask) (o : Option Given) (g : Frame) → led (doing q) returning o ≡ Some g → HasRanges g
call-ranges q None g e = cc
call-ranges q (Some (Calls c)) g e = by_test (is_sound_call c)
    (λ t. let k : (let o : Option Frame = Some (doing q c) in o) ≡ Some g = rw t at e in let k' : doing q c ≡ g = cc in subst HasRanges k' t)
    (λ t. let k : (let o : Option Frame = None in o) ≡ Some g = rw t at e in cc)
call-ranges q (Some (Returns v)) g e = by_test (is_return v)
    (λ t. let k : (let o : Option Frame = Some (returning v) in o) ≡ Some g = rw t at e in let k' : returning v ≡ g = cc in subst HasRanges k' tt)
    (λ t. let k : (let o : Option Frame = None in o) ≡ Some g = rw t at e in cc)
call-ranges q (Some (Tells n)) g e = cc
call-ranges q (Some (IsReady ws)) g e = cc
call-ranges q (Some (Opens n)) g e = cc
call-ranges q (Some (Answers r)) g e = cc

asked-range : (q : Ask) → IsOfCaller q → reads_in_range q ≡ true
asked-range ask.Quiet o = refl
asked-range (ask.Routine m) o = refl
asked-range _ o = absurd o

-- ---- each step keeps it

step-ranges : (f : Frame) (fs : List Frame) (p : Pool) → IsConsistent (record { innermost = f; below = fs; pool = p }) → HasRanges f → LeadsRanges (step f p) fs
step-ranges (frame.Free f) fs p h r = works-ranges p (step (frame.Free f) p) fs (works (frame.Free f) p tt) h.sound.waiting
step-ranges (frame.Turn f) fs p h r = works-ranges p (step (frame.Turn f) p) fs (works (frame.Turn f) p tt) h.sound.waiting
step-ranges (frame.Request f) fs p h r = works-ranges p (step (frame.Request f) p) fs (works (frame.Request f) p tt) h.sound.waiting
step-ranges (frame.Outside (Reaching q)) fs p h r = (r, λ i g e. each g (reached-leads p q i g e))
  where
    each : (g : Frame) → Reached p g → HasRanges g
    each _ (ReachedOpening fd number closed) = tt
    each _ (ReachedHearing reply) = tt
step-ranges (frame.Outside (Opening fd)) fs p h r = done-ranges _ (open_descriptor p fd) fs h.sound.waiting
step-ranges (frame.Outside (Hearing reply)) fs p h r = done-ranges _ p fs h.sound.waiting
step-ranges (frame.Call (Asking q)) fs p h r = (asked-range q (caller q fs h.seated), λ i g e. call-ranges q (given_to q i) g e)
step-ranges (frame.Call (Doing q c)) fs p h r = plan-ranges q (planned_at q p c) p fs (plan-asks q p c r)
step-ranges (frame.Call (Announcing q n reply)) fs p h r = (refl, tt)
step-ranges (frame.Call (Telling q reply)) fs p h r = (refl, tt)
step-ranges (frame.Call (Awaiting q x)) fs p h r = done-ranges _ p fs h.sound.waiting
step-ranges (frame.Call (Turning q)) fs p h r = done-ranges _ p fs h.sound.waiting
step-ranges (frame.Call (Requesting q)) fs p h r = done-ranges _ p fs h.sound.waiting
step-ranges (frame.Call (Returning v)) fs p h r = done-ranges _ p fs h.sound.waiting

-- ---- so every story does

abbrev IsInRange : List Scene → Scene → Type 0
IsInRange before s = item_in_range s.item ≡ true

abbrev WholeAt : Frame → List Frame → Pool → Type 0
WholeAt f fs p = IsConsistent (record { innermost = f; below = fs; pool = p })

abbrev Holds : List Scene → NotedWork → List NotedWork → Pool → Type 0
Holds scenes w ws p = WholeAt w.work (map fine.work_of ws) p × HasRanges w.work

both : (scenes : List Scene) (f : Frame) (b : Option CallStart) (ws : List NotedWork) (p : Pool) (m : Step) → Leads table (λ g gs q j. WholeAt g gs q) m (map fine.work_of ws) 1
    → LeadsRanges m (map fine.work_of ws) → FitsOn noted_table IsInRange Holds scenes (noted_move notes f b p m) ws
both scenes f b [] p (Do.Done a q) l r = tt
both scenes f b (w ∷ ws) p (Do.Done a q) l r = (l, r)
both scenes f b ws p (Do.Go g q) l r = (l, r)
both scenes f b ws p (Do.Emit e g q) l r = (r.0, (l, r.1))
both scenes f b ws p (Do.Wait e g q) l r = (
  r.0,
  λ i h s.
      let t = taken-noted (notes.after f p b) (taken g q i) h s in
      (subst (λ (w : NotedWork). WholeAt w.work (map fine.work_of ws) q) (sym t.2) (l i t.0 t.1), subst (λ (w : NotedWork). HasRanges w.work) (sym t.2) (r.1 i t.0 t.1)),
)
both scenes f b ws p (Do.Call g h q) l r = (l, r)

kept : (scenes : List Scene) (w : NotedWork) (ws : List NotedWork) (p : Pool) → Holds scenes w ws p → FitsOn noted_table IsInRange Holds scenes (noted_table.step w p) ws
kept scenes w ws p h =
    both scenes w.work w.note ws p (step w.work p) (whole-kept (record { innermost = w.work; below = map fine.work_of ws; pool = p }) 1 h.0) (step-ranges w.work (map fine.work_of ws) p h.0 h.1)

story-ranges : (is : List Input) → EachFits IsInRange (story 1 is)
story-ranges is =
    let one : 1 ≤ 1 = omega arith in
    subst (EachFits IsInRange) (story-walk 1 is one) (each-fits noted_table IsInRange Holds kept (turns 0 (length is)) asking [] (empty 1) is (begin-whole 1 one, tt))

-- ---- and what the service shows of it

abbrev AllInRange : List Sight → Type 0
AllInRange [] = Unit {0}
AllInRange (s ∷ ss) = (item_in_range s.item ≡ true) × AllInRange ss

sights-range : (scenes : List Scene) → EachFits IsInRange scenes → AllInRange (map (λ (s : Scene). sight_of s) scenes)
sights-range [] h = tt
sights-range (s ∷ ss) h = (h [] s ss refl, sights-range ss (λ before t after e. h (s ∷ before) t after (ap (λ (l : List Scene). s ∷ l) e)))

module _ (go : Knowledge → List Input → List Shown) (ih : (d : Knowledge) (js : List Input) → list_all shows_in_range (go d js) ≡ true) where
  events-range : (es : List Event) (rest : List Shown) → list_all shows_in_range rest ≡ true → list_all shows_in_range (map (λ e. AnEvent e) es ++ rest) ≡ true
  events-range [] rest r = r
  events-range (e ∷ es) rest r = events-range es rest r

  question-range : (q : OpenNow) → reads_in_range q.ask ≡ true → (js : List Input) (d : Knowledge) → list_all shows_in_range (shown_question watching go q js d) ≡ true
  question-range q r [] d = each (own d q)
    where
      each : (o : Option (Input × Knowledge)) → list_all shows_in_range (asked_unless o (AQuestion (watched q)) ++ shown_last watching go o) ≡ true
      each None = rw r refl
      each (Some a) = ih a.1 []
  question-range q r (j ∷ js) d = each (own d q)
    where
      each : (o : Option (Input × Knowledge)) → list_all shows_in_range (asked_unless o (AQuestion (watched q)) ++ shown_answer watching go (shown_question watching go q js) d q j js o) ≡ true
      each None = rw r (ih (heard d q.ask j) js)
      each (Some a) = ih a.1 (j ∷ js)

abbrev ShowsInRange : (Knowledge → List Input → List Shown) → Type 0
ShowsInRange go = (d : Knowledge) (js : List Input) → list_all shows_in_range (go d js) ≡ true

item-range : (go : Knowledge → List Input → List Shown) → ShowsInRange go → (t : Sight) (i : Item) → item_in_range i ≡ true → (d : Knowledge) (js : List Input) → list_all shows_in_range (shown_item watching go d js (kind_of i t)) ≡ true
item-range go ih t (Told e) r d js = events-range go ih (shown_events d e) (go (told d e) js) (ih (told d e) js)
item-range go ih t (Asked q) r d js = question-range go ih (record { ask = q; pool = t.before }) r js d

shown-range : (ts : List Sight) → AllInRange ts → ShowsInRange (shown watching ts)
shown-range [] h d js = refl
shown-range (t ∷ ts) h d js = item-range (shown watching ts) (shown-range ts h.1) t t.item h.0 d js

pub reads-in-range : ReadsAreInRange
reads-in-range is ss e = each (filled watching (suc (answers (length is))) nothing_known machine is) e
  where
    each : (o : Option (List Input)) → shown_of watching nothing_known machine is o ≡ Some ss → list_all shows_in_range ss ≡ true
    each None e = cc
    each (Some js) e =
        let h : shown watching (machine js) nothing_known is ≡ ss = cc in
        subst (λ (zs : List Shown). list_all shows_in_range zs ≡ true) h (shown-range (machine js) (sights-range (story 1 js) (story-ranges js)) nothing_known is)
