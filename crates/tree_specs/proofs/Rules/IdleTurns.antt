-- A turn replies 0 exactly where nothing came.
use Rattle.std.proofs.Common.{◌∙◌, ◌≡◌, ℕ, suc, zero, ◌≤◌, ◌-◌, List, [], ◌∷◌, ◌++◌, Option, Some, None, Bool, true, false, nat_eq, nat_le, if◌then◌else◌, is_some, refl, sym, ap, subst, arith}
use Rattle.std.proofs.lemmas.Bool.Decides.{nat_tests}
use Rattle.step_machine.specs.Machine.{Outcome, tell, followed}
use Rattle.step_machine.specs.Machine.Outcome.{Ended, Stray}
use Rattle.step_machine.proofs.Uses.{ended-tell, ended-followed}
use Rattle.tree_specs.specs.declared.object.Obj.{Obj}
use Rattle.tree_specs.specs.declared.due.Due.{Due}
use Rattle.tree_specs.specs.declared.handler.Handler.{Handler}
use Rattle.tree_specs.specs.declared.occasion.Occasion.{Occasion}
use Rattle.tree_specs.specs.declared.moment.What.{What}
use Rattle.tree_specs.specs.declared.moment.What.TheVariants.{Immediate as ForImmediate, Timer as ForTimer, Descriptor as ForDescriptor}
use Rattle.tree_specs.specs.declared.row.Mark.TheVariants as mark
use Rattle.tree_specs.specs.declared.event.Event.TheVariants.{Fired}
use Rattle.tree_specs.specs.declared.question.Ask.TheVariants as ask
use Rattle.tree_specs.specs.declared.question.Input.{Input}
use Rattle.tree_specs.specs.declared.question.Input.TheVariants.{Clock, Ready as IsReady}
use Rattle.tree_specs.specs.declared.wants.Want.{Want}
use Rattle.tree_specs.specs.Words.Ranges.{is_time}
use Rattle.tree_specs.specs.Words.Wants.{is_wants}
use Rattle.tree_specs.specs.Tree.Pool.{exit, soon_here, ring_here, times_here, Pool, set_mark, unschedule, disarm}
use Rattle.tree_specs.specs.Events.Pending.{first}
use Rattle.tree_specs.specs.Events.Rotation.{Ready, first_ready}
use Rattle.tree_specs.specs.Events.Coming.{wait_limit, handler_for, handler_moment, at_time, with_flags, plainly, begun, goes_after, looks_again}
use Rattle.tree_specs.specs.Rules.Items.Item.{Told, Asked}
use Rattle.tree_specs.specs.Rules.Sequence.{Work, Scene}
use Rattle.tree_specs.specs.Rules.Story.{free, asked, taking, timing, timed, polling, starting, firing, handling, handled, closing, finishing, notifying, triggering}
use Rattle.tree_specs.specs.Rules.Pieces.{comes}
use Rattle.tree_specs.specs.declared.reply.Reply.{Reply}
use Rattle.tree_specs.specs.declared.request.State.TheVariants.{TimedOut}
use Rattle.tree_specs.specs.declared.frame.Errand.TheVariants.{Notify}
use Rattle.tree_specs.specs.declared.coming.Coming.{Coming}
use Rattle.tree_specs.specs.Events.Requests.{is_noted}
use Rattle.tree_specs.specs.Promises.Idle.{Remains, IsEarly, NobodyReady, NothingCame, Untimed, Unwatched, Early}
use Rattle.tree_specs.proofs.Tree.Numbered.{by_test}
use Rattle.tree_specs.proofs.Rules.Lawful.{scene_of}
use Rattle.tree_specs.specs.Events.Queues.{has_queue}
use Rattle.tree_specs.specs.Calls.Refusals.{is_doomed}

-- ---- an event that comes is replied to by 1

closing-value : (n w : ℕ) (p : Pool) (is : List Input) (v : ℕ) (q : Pool) (told : List Scene) (left : List Input) → closing n w p is ≡ Ended v q told left → v ≡ w
closing-value zero w p is v q told left e = cc
closing-value (suc n) w p is v q told left e = each p.turning refl (λ q' js us e'. closing-value n w q' js v q us left e')
  where
    each : (o : Option Obj) → p.turning ≡ o → ((q' : Pool) (js : List Input) (us : List Scene) → closing n w q' js ≡ Ended v q us left → v ≡ w) → v ≡ w
    each None k ih = let i : closing (suc n) w p is ≡ Ended w p [] is = rw k refl in let e' : Ended w p [] is ≡ Ended v q told left = sym i ∙ e in cc
    each (Some c) k ih = by_test (is_doomed p c)
        (λ t.
        let i : closing (suc n) w p is ≡ followed (free n c (exit p c) is) (λ a. closing n w) = rw (k, t) refl in
        let e' : followed (free n c (exit p c) is) (λ a. closing n w) ≡ Ended v q told left = sym i ∙ e in
        let u = ended-followed (free n c (exit p c) is) (λ a. closing n w) v q told left e' in
        ih u.1 u.4 u.3 u.6)
        (λ t. let i : closing (suc n) w p is ≡ Ended w (exit p c) [] is = rw (k, t) refl in let e' : Ended w (exit p c) [] is ≡ Ended v q told left = sym i ∙ e in cc)

-- the pool after a turn in whose course its context wasn't to be freed
abbrev closed_by : Option Obj → Pool → Pool
closed_by None p = p
closed_by (Some c) p = exit p c

closing-is : (n w : ℕ) (p : Pool) (is : List Input) → Remains p → closing (suc n) w p is ≡ Ended w (closed_by p.turning p) [] is
closing-is n w p is stays = each p.turning refl
  where
    each : (o : Option Obj) → p.turning ≡ o → closing (suc n) w p is ≡ Ended w (closed_by p.turning p) [] is
    each None k = rw k refl
    each (Some c) k = let d = stays c k in rw (k, d) refl

-- then no more is taken
closing-ends : (n w : ℕ) (p : Pool) (is : List Input) (v : ℕ) (q : Pool) (told : List Scene) (left : List Input) → Remains p → closing n w p is ≡ Ended v q told left → (v ≡ w) × (is ≡ left)
closing-ends zero w p is v q told left stays e = cc
closing-ends (suc n) w p is v q told left stays e = let e' : Ended w (closed_by p.turning p) [] is ≡ Ended v q told left = sym (closing-is n w p is stays) ∙ e in (cc, cc)

handled-one : (n : ℕ) (what : What) (x : Obj) (p : Pool) (is : List Input) (v : ℕ) (q : Pool) (told : List Scene) (left : List Input) → handled n what x p is ≡ Ended v q told left → v ≡ 1
handled-one zero what x p is v q told left e = cc
handled-one (suc n) what x p is v q told left e = by_test (goes_after p what x)
    (λ t.
    let e' : followed (free n x (set_mark p x mark.Quiet) is) (λ a. closing n 1) ≡ Ended v q told left = rw t at e in
    let w = ended-followed (free n x (set_mark p x mark.Quiet) is) (λ a. closing n 1) v q told left e' in
    closing-value n 1 w.1 w.4 v q w.3 left w.6)
    (λ t. let e' : closing n 1 (set_mark p x mark.Quiet) is ≡ Ended v q told left = rw t at e in closing-value n 1 (set_mark p x mark.Quiet) is v q told left e')

handling-one : (n : ℕ) (what : What) (x : Obj) (h : Handler) (o : Occasion) (p : Pool) (is : List Input) (v : ℕ) (q : Pool) (told : List Scene) (left : List Input)
    → handling n what x h o p is ≡ Ended v q told left → v ≡ 1
handling-one zero what x h o p is v q told left e = cc
handling-one (suc n) what x h o p is v q told left e =
    let w = ended-followed (asked n (ask.Routine (handler_moment what x h o)) p is) (λ a. handled n what x) v q told left e in
    handled-one n what x w.1 w.4 v q w.3 left w.6

firing-one : (n : ℕ) (what : What) (x : Obj) (h : Handler) (o : Occasion) (p : Pool) (is : List Input) (v : ℕ) (q : Pool) (told : List Scene) (left : List Input)
    → firing n what x h o p is ≡ Ended v q told left → v ≡ 1
firing-one zero what x h o p is v q told left e = cc
firing-one (suc n) what x h o p is v q told left e =
    let w = ended-tell (scene_of (Told (Fired what x h.routine)) p) (handling n what x h o p is) v q told left e in
    handling-one n what x h o p is v q w.0 left w.1

starting-one : (n : ℕ) (what : What) (x : Obj) (o : Occasion) (p : Pool) (is : List Input) (v : ℕ) (q : Pool) (told : List Scene) (left : List Input)
    → starting n what x o p is ≡ Ended v q told left → v ≡ 1
starting-one zero what x o p is v q told left e = cc
starting-one (suc n) what x o p is v q told left e = each (handler_for p what x) refl
  where
    each : (h : Option Handler) → handler_for p what x ≡ h → v ≡ 1
    each None k = let e' : closing n 1 p is ≡ Ended v q told left = rw k at e in closing-value n 1 p is v q told left e'
    each (Some h) k = let e' : firing n what x h o (begun what x p) is ≡ Ended v q told left = rw k at e in firing-one n what x h o (begun what x p) is v q told left e'

-- and so is a request that comes
comes-one : (n : ℕ) (b : Bool) (w : Work Reply) (what : What) (x : Obj) (o : Occasion) (p : Pool) (is : List Input) (v : ℕ) (q : Pool) (told : List Scene) (left : List Input)
    → comes b w (closing n 1) (starting n what x o) p is ≡ Ended v q told left → v ≡ 1
comes-one n true w what x o p is v q told left e =
    let u = ended-followed (w p is) (λ a. closing n 1) v q told left e in
    closing-value n 1 u.1 u.4 v q u.3 left u.6
comes-one n false w what x o p is v q told left e = starting-one n what x o p is v q told left e

-- ---- how the works that ask end

-- after a wait
data Polls (p : Pool) (is : List Input) (v : ℕ) (q : Pool) (left : List Input) : Type 0 where
  LooksAgain : (m : ℕ) (rest : List Input) (us : List Scene) → is ≡ IsReady [] ∷ rest → is_some (first (times_here p)) ≡ true → timing m true p rest ≡ Ended v q us left → Polls p is v q left
  Nobody : (ready : List Want) → is ≡ IsReady ready ∷ left → NobodyReady p ready → looks_again p ready ≡ false → Polls p is v q left
  Somebody : v ≡ 1 → Polls p is v q left

polls : (n limit : ℕ) (p : Pool) (is : List Input) (v : ℕ) (q : Pool) (told : List Scene) (left : List Input) → Remains p → polling n limit p is ≡ Ended v q told left → Polls p is v q left
polls zero limit p is v q told left stays e = cc
polls (suc n) limit p [] v q told left stays e = cc
polls (suc n) limit p (IsReady wants ∷ is) v q told left stays e = by_test (is_wants wants)
    (λ t. by_test (looks_again p wants) (again wants t e) (λ l. ready wants t l e (first_ready (ring_here p) wants) refl))
    (λ t. let bad : Stray (s ∷ []) ≡ Ended v q told left = rw t at e in cc)
  where
    s : Scene
    s = scene_of (Asked (ask.Wait limit)) p

    Goes : List Want → Type 0
    Goes wants = polling (suc n) limit p (IsReady wants ∷ is) ≡ Ended v q told left

    again : (wants : List Want) → is_wants wants ≡ true → Goes wants → looks_again p wants ≡ true → Polls p (IsReady wants ∷ is) v q left
    again [] t e l =
        let e' : tell s (timing n true p is) ≡ Ended v q told left = rw l at e in
        let w = ended-tell s (timing n true p is) v q told left e' in
        LooksAgain n is w.0 refl l w.1
    again (w ∷ ws) t e l = cc

    ready : (wants : List Want) → is_wants wants ≡ true → looks_again p wants ≡ false → Goes wants → (o : Option Ready) → first_ready (ring_here p) wants ≡ o → Polls p (IsReady wants ∷ is) v q left
    ready wants t l e None k =
        let e' : tell s (closing n 0 p is) ≡ Ended v q told left = rw (t, l, k) at e in
        let w = ended-tell s (closing n 0 p is) v q told left e' in
        Nobody wants (ap (λ (js : List Input). IsReady wants ∷ js) (closing-ends n 0 p is v q w.0 left stays w.1).1) (record { sound = t; none = k }) l
    ready wants t l e (Some r) k =
        let o : Occasion = with_flags r.flags in
        let e' : tell s (starting n ForDescriptor r.object o p is) ≡ Ended v q told left = rw (t, l, k) at e in
        let w = ended-tell s (starting n ForDescriptor r.object o p is) v q told left e' in
        Somebody (starting-one n ForDescriptor r.object o p is v q w.0 left w.1)
polls (suc n) limit p (_ ∷ is) v q told left stays e = cc

-- what follows where the first time has not come
abbrev after_early : ℕ → Bool → ℕ → Work ℕ
after_early n again limit = if again then closing n 0 else polling n limit

-- after the clock was asked
data Times (d : Due) (again : Bool) (p : Pool) (is : List Input) (v : ℕ) (q : Pool) (left : List Input) : Type 0 where
  Earlier : (now m : ℕ) (rest : List Input) (us : List Scene) → is ≡ Clock now ∷ rest → IsEarly d now → after_early m again (d.time - now) p rest ≡ Ended v q us left → Times d again p is v q left
  Came : v ≡ 1 → Times d again p is v q left

timed-ends : (n : ℕ) (d : Due) (again : Bool) (now : ℕ) (p : Pool) (is : List Input) (v : ℕ) (q : Pool) (told : List Scene) (left : List Input) → first (times_here p) ≡ Some d → is_time now ≡ true
    → timed n again now p is ≡ Ended v q told left → Times d again p (Clock now ∷ is) v q left
timed-ends zero d again now p is v q told left f time e = cc
timed-ends (suc n) d again now p is v q told left f time e = by_test (nat_le d.time now)
    (λ t. Came (comes-one n (is_noted p.requests d.object) (finishing n d.object TimedOut) ForTimer d.object (at_time now) (disarm p d.object) is v q told left (rw (f, t) at e)))
    (λ t. let e' : after_early n again (d.time - now) p is ≡ Ended v q told left = rw (f, t) at e in
    Earlier now n is told refl (record { time = grind (arith, nat_tests); before = grind (arith, nat_tests) }) e')

times : (n : ℕ) (d : Due) (again : Bool) (p : Pool) (is : List Input) (v : ℕ) (q : Pool) (told : List Scene) (left : List Input) → first (times_here p) ≡ Some d
    → timing n again p is ≡ Ended v q told left → Times d again p is v q left
times zero d again p is v q told left f e = cc
times (suc n) d again p [] v q told left f e = cc
times (suc n) d again p (Clock now ∷ is) v q told left f e =
    let s : Scene = scene_of (Asked ask.Clock) p in
    by_test (is_time now)
    (λ t.
    let e' : tell s (timed n again now p is) ≡ Ended v q told left = rw t at e in
    let w = ended-tell s (timed n again now p is) v q told left e' in
    timed-ends n d again now p is v q w.0 left f t w.1)
    (λ t. let bad : Stray (s ∷ []) ≡ Ended v q told left = rw t at e in cc)
times (suc n) d again p (_ ∷ is) v q told left f e = cc

-- ---- a turn that replies 0

abbrev Idle : Pool → List Input → List Input → Type 0
Idle p is left = (used : List Input) × (used ++ left ≡ is) × NothingCame p used

not-one : {A : Type 0} → ◌≡◌ {A = ℕ} 0 1 → A
not-one e = absurd (omega (arith, e))

-- no event has a time
untimed : (p q : Pool) (is left : List Input) → first (soon_here p) ≡ None → first (times_here p) ≡ None → Polls p is 0 q left → Idle p is left
untimed p q is left soon none (LooksAgain m rest us e some k) = let bad : false ≡ true = rw none at some in cc
untimed p q is left soon none (Nobody ready e nobody l) = (IsReady ready ∷ [], sym e, Untimed ready soon none nobody)
untimed p q is left soon none (Somebody e) = not-one e

-- the first time hasn't come
module _ (d : Due) (p q : Pool) (left : List Input) (stays : Remains p) (soon : first (soon_here p) ≡ None) (due : first (times_here p) ≡ Some d) (now : ℕ) (early : IsEarly d now) where
  waited : (is : List Input) → Polls p is 0 q left → Idle p (Clock now ∷ is) left
  waited is (LooksAgain m rest us e some k) = again (times m d true p rest 0 q us left due k)
    where
      again : Times d true p rest 0 q left → Idle p (Clock now ∷ is) left
      again (Earlier later m rest' us i before k) =
          let over : rest' ≡ left = (closing-ends m 0 p rest' 0 q us left stays k).1 in
          let used : Clock now ∷ IsReady [] ∷ Clock later ∷ left ≡ Clock now ∷ is = rw (e, i, over) refl in
          (Clock now ∷ IsReady [] ∷ Clock later ∷ [], used, Early d now later soon due early before)
      again (Came e) = not-one e
  waited is (Nobody [] e nobody l) = let bad : true ≡ false = rw due at l in cc
  waited is (Nobody (w ∷ ready) e nobody l) =
      (Clock now ∷ IsReady (w ∷ ready) ∷ [], ap (λ (js : List Input). Clock now ∷ js) (sym e), Unwatched d now w ready soon due early nobody)
  waited is (Somebody e) = not-one e

pub idle-cause : (n : ℕ) (p q : Pool) (is left : List Input) (told : List Scene) → Remains p → taking n p is ≡ Ended 0 q told left → Idle p is left
idle-cause zero p q is left told stays e = cc
idle-cause (suc n) p q is left told stays e = soonest (first (soon_here p)) refl
  where
    timed-first : (d : Due) → first (soon_here p) ≡ None → first (times_here p) ≡ Some d → Times d false p is 0 q left → Idle p is left
    timed-first d soon due (Earlier now m rest us i early k) = subst (λ (js : List Input). Idle p js left) (sym i) (waited d p q left stays soon due now early rest (polls m (d.time - now) p rest 0 q us left stays k))
    timed-first d soon due (Came e) = not-one e

    earliest : first (soon_here p) ≡ None → (o : Option Due) → first (times_here p) ≡ o → Idle p is left
    earliest soon None k = untimed p q is left soon k (polls n wait_limit p is 0 q told left stays (rw (soon, k) at e))
    earliest soon (Some d) k = by_test (nat_eq d.time 0)
        (λ t. not-one (comes-one n (is_noted p.requests d.object) (finishing n d.object TimedOut) ForTimer d.object (at_time 0) (disarm p d.object) is 0 q told left (rw (soon, k, t) at e)))
        (λ t. timed-first d soon k (times n d false p is 0 q told left k (rw (soon, k, t) at e)))

    soonest : (o : Option Coming) → first (soon_here p) ≡ o → Idle p is left
    soonest None k = earliest k (first (times_here p)) refl
    soonest (Some y) k =
        let x : Obj = y.object in
        by_test (is_noted p.requests x)
        (λ t. not-one (comes-one n true (notifying n x Notify) ForImmediate x plainly (unschedule p x) is 0 q told left (rw (k, t) at e)))
        (λ t. not-one (comes-one n (has_queue p.queues x) (triggering n x) ForImmediate x plainly (unschedule p x) is 0 q told left (rw (k, t) at e)))

-- ---- where nothing came a turn replies 0

-- as many turns as a wait and two looks at the clock take
abbrev seven : ℕ → ℕ
seven n = suc (suc (suc (suc (suc (suc (suc n))))))

abbrev Replies0 : ℕ → Pool → List Input → List Input → Type 0
Replies0 n p is left = (q : Pool) × (told : List Scene) × (taking n p is ≡ Ended 0 q told left)

early-tests : (d : Due) (now : ℕ) → IsEarly d now → (nat_eq d.time 0 ≡ false) × (is_time now ≡ true) × (nat_le d.time now ≡ false)
early-tests d now early = let a = early.time in let b = early.before in (grind (arith, nat_tests), grind (arith, nat_tests), grind (arith, nat_tests))

replies : (n : ℕ) (p : Pool) (used left : List Input) → Remains p → NothingCame p used → Replies0 (seven n) p (used ++ left) left
replies n p _ left stays (Untimed ready soon none nobody) = each ready nobody
  where
    each : (ready : List Want) → NobodyReady p ready → Replies0 (seven n) p (IsReady ready ∷ left) left
    each [] nobody =
        let once : looks_again p [] ≡ false = rw none refl in
        (closed_by p.turning p, scene_of (Asked (ask.Wait wait_limit)) p ∷ [], rw (soon, none, once, nobody.none) (ap (tell (scene_of (Asked (ask.Wait wait_limit)) p)) (closing-is (suc (suc (suc (suc n)))) 0 p left stays)))
    each (w ∷ ws) nobody = (closed_by p.turning p, scene_of (Asked (ask.Wait wait_limit)) p ∷ [], rw (soon, none, nobody.sound, nobody.none) (ap (tell (scene_of (Asked (ask.Wait wait_limit)) p)) (closing-is (suc (suc (suc (suc n)))) 0 p left stays)))
replies n p _ left stays (Unwatched d now w ready soon due early nobody) =
    let t = early-tests d now early in (
      closed_by p.turning p,
      scene_of (Asked ask.Clock) p ∷ scene_of (Asked (ask.Wait (d.time - now))) p ∷ [],
      rw (soon, due, t.0, t.1, due, t.2, nobody.sound, nobody.none) (ap (λ (o : Outcome ℕ Pool Input Scene). tell (scene_of (Asked ask.Clock) p) (tell (scene_of (Asked (ask.Wait (d.time - now))) p) o)) (closing-is (suc (suc n)) 0 p left stays)),
    )
replies n p _ left stays (Early d now later soon due early before) =
    let t = early-tests d now early in
    let u = early-tests d later before in
    let twice : looks_again p [] ≡ true = rw due refl in (
      closed_by p.turning p,
      scene_of (Asked ask.Clock) p ∷ scene_of (Asked (ask.Wait (d.time - now))) p ∷ scene_of (Asked ask.Clock) p ∷ [],
      rw (soon, due, t.0, t.1, due, t.2, twice, u.1, due, u.2)
          (ap (λ (o : Outcome ℕ Pool Input Scene). tell (scene_of (Asked ask.Clock) p) (tell (scene_of (Asked (ask.Wait (d.time - now))) p) (tell (scene_of (Asked ask.Clock) p) o))) (closing-is n 0 p left stays)),
    )

pub idle-replies : (p : Pool) (used left : List Input) (n : ℕ) → Remains p → NothingCame p used → 8 ≤ n → Replies0 n p (used ++ left) left
idle-replies p used left n stays came enough =
    let e : n ≡ seven (n - 7) = omega arith in
    subst (λ (m : ℕ). Replies0 m p (used ++ left) left) (sym e) (replies (n - 7) p used left stays came)
