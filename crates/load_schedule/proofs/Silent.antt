-- Where no object has a destructor and none is a request or a queue, and no call asks for anything, nothing is asked but the next
-- call.
use Rattle.std.proofs.Common.{◌≡◌, ℕ, suc, zero, true, false, List, [], ◌∷◌, length, Option, Some, None, refl, sym, subst, arith}
use Rattle.step_machine.specs.Machine.{Outcome, tell, tells, followed, is_stray, items as told_by}
use Rattle.step_machine.specs.Machine.Outcome.{Ended, Waits, Stray, Short}
use Rattle.step_machine.proofs.Ends.{NotShort}
use Rattle.tree_specs.specs.declared.object.Obj.{Obj}
use Rattle.tree_specs.specs.declared.object.Owner.{Owner}
use Rattle.tree_specs.specs.declared.object.Owner.TheVariants.{Of}
use Rattle.tree_specs.specs.declared.row.Row.{Row}
use Rattle.tree_specs.specs.declared.row.Mark.{Mark}
use Rattle.tree_specs.specs.declared.row.Mark.TheVariants as mark
use Rattle.tree_specs.specs.declared.call.Call.{Call}
use Rattle.tree_specs.specs.declared.event.Event.TheVariants.{Freed}
use Rattle.tree_specs.specs.declared.notice.Notice.{Notice}
use Rattle.tree_specs.specs.declared.question.Ask.{Ask}
use Rattle.tree_specs.specs.declared.question.Ask.TheVariants.{Quiet}
use Rattle.tree_specs.specs.declared.question.Input.{Input}
use Rattle.tree_specs.specs.declared.question.Input.TheVariants as inputs
use Rattle.tree_specs.specs.declared.reply.Reply.{Reply}
use Rattle.tree_specs.specs.declared.free_step.FreeReply.{FreeReply}
use Rattle.tree_specs.specs.declared.frame.Errand.{Errand}
use Rattle.tree_specs.specs.declared.free_step.FreeReply.TheVariants as free_reply
use Rattle.tree_specs.specs.Tree.Targets.{newest_ref}
use Rattle.tree_specs.specs.Tree.Pool.{Pool, empty, row_of, is_below, owner_of, newest_ref_of, target_at, noted_owner, is_inside, first_kid, detach, remove, doom, place, left_row, marked_row}
use Rattle.tree_specs.specs.Events.Rotation.{closes_with}
use Rattle.tree_specs.specs.Tree.Heirs.{heir}
use Rattle.tree_specs.specs.Words.Ranges.{is_sound_call}
use Rattle.tree_specs.specs.Rules.Items.{Item}
use Rattle.tree_specs.specs.Rules.Items.Item.{Told}
use Rattle.tree_specs.specs.Rules.Sequence.{Work, Scene, CallStart, gives}
use Rattle.tree_specs.specs.Rules.Answers.{freed_reply}
use Rattle.tree_specs.specs.Rules.Pieces.{lets_go, hand_on, effect, turned, work_by}
use Rattle.tree_specs.specs.Rules.Story.{unlink, release, given, free, dooming, leave, children, tried, asked, acting, reaching, taking, finishing, notifying, receiving, cancelling, announcing, telling, turns, outcome, story, items}
use Rattle.tree_specs.specs.Calls.Plans.{Plan, planned_at, notice_of}
use Rattle.tree_specs.specs.Calls.Plans.Plan.{Does, Frees, Unlinks}
use Rattle.tree_specs.specs.Texts.Schedule.{open_question}
use Rattle.tree_specs.proofs.Tree.Numbered.{by_test}
use Rattle.tree_specs.proofs.Rules.StoryLaws.{story-enough}
use Rattle.load_schedule.proofs.Bare.{IsBare, IsCalm, is_calm, bare-row, bare-removed, bare-placed, bare-let_go, calm-planned}

-- nothing was asked, and no object has a destructor or is a request or a queue then
abbrev Stays : {A : Type 0} → List Input → Outcome A Pool Input Scene → Type 0
Stays is (Ended a q ts left) = IsBare q × (left ≡ is)
Stays is (Waits ts) = ⊥
Stays is (Stray ts) = ⊥
Stays is Short = Unit {0}

abbrev IsSilent : {A : Type 0} → Work A → Type 0
IsSilent w = (p : Pool) (is : List Input) → IsBare p → Stays is (w p is)

tell-stays : {A : Type 0} (is : List Input) (t : Scene) (o : Outcome A Pool Input Scene) → Stays is o → Stays is (tell t o)
tell-stays is t (Ended a q ts left) h = h
tell-stays is t (Waits ts) h = h
tell-stays is t (Stray ts) h = h
tell-stays is t Short h = h

tells-stays : {A : Type 0} (is : List Input) (ts : List Scene) (o : Outcome A Pool Input Scene) → Stays is o → Stays is (tells ts o)
tells-stays is [] o h = h
tells-stays is (t ∷ ts) o h = tell-stays is t (tells ts o) (tells-stays is ts o h)

followed-stays : {A B : Type 0} (is : List Input) (o : Outcome A Pool Input Scene) (k : A → Work B) → Stays is o → ((a : A) → IsSilent (k a)) → Stays is (followed o k)
followed-stays is (Ended a q ts left) k s more = tells-stays is ts (k a q left) (subst (λ (l : List Input). Stays l (k a q left)) s.1 (more a q left s.0))
followed-stays is (Waits ts) k s more = absurd s
followed-stays is (Stray ts) k s more = absurd s
followed-stays is Short k s more = tt

-- an object is let go of: what is told of its descriptor asks nothing
lets-go : (x : Obj) (f : Pool → Pool) (p : Pool) (is : List Input) → IsBare (f p) → Stays is (lets_go x f p is)
lets-go x f p is h = each (closes_with p.ring x) refl
  where
    each : (o : Option ℕ) → closes_with p.ring x ≡ o → Stays is (lets_go x f p is)
    each None e = rw e (h, refl)
    each (Some fd) e = rw e (h, refl)

-- with so many turns
record SilentAt (n : ℕ) : Type 0 where
  frees : (x : Obj) → IsSilent (free n x)
  dooms : (x : Obj) → IsSilent (dooming n x)
  leaves : (x : Obj) → IsSilent (leave n x 0)
  empties : (x : Obj) → IsSilent (children n x)
  tries : (x c : Obj) (noted : Option Owner) (answer : FreeReply) → IsSilent (tried n x c noted answer)
  unlinks : (o : Owner) (x : Obj) → IsSilent (unlink n o x)
  releases : (x : Obj) → IsSilent (release n x)
  hands : (x : Obj) (o : Owner) → IsSilent (given n x o)

frees-more : (n : ℕ) → SilentAt n → (x : Obj) → IsSilent (free (suc n) x)
frees-more n ih x p is h = newest (newest_ref p.rows x) refl
  where
    marks : newest_ref p.rows x ≡ None → (r : Row) (m : Mark) → r.mark ≡ m → row_of p.rows x ≡ Some r → Stays is (free (suc n) x p is)
    marks z r mark.Quiet m k = let e = bare-row p.rows x r k h in rw (z, k, m, e.0, e.1, e.2) (ih.leaves x p is h)
    marks z r mark.Asked m k = rw (z, k, m) (h, refl)
    marks z r mark.Busy m k = rw (z, k, m)
        (followed-stays is (lets_go x (λ q. doom q x) p is) (λ done. dooming n x) (lets-go x (λ q. doom q x) p is (bare-let_go p x (marked_row mark.Doomed) (λ s e. e) h)) (λ done. ih.dooms x))
    marks z r mark.Doomed m k = rw (z, k, m) (h, refl)
    marks z r (mark.Dying former) m k = rw (z, k, m) (h, refl)

    each : newest_ref p.rows x ≡ None → (o : Option Row) → row_of p.rows x ≡ o → Stays is (free (suc n) x p is)
    each z None k = rw (z, k) (h, refl)
    each z (Some r) k = marks z r r.mark refl k

    newest : (o : Option Obj) → newest_ref p.rows x ≡ o → Stays is (free (suc n) x p is)
    newest None z = each z (row_of p.rows x) refl
    newest (Some r) z = by_test (is_inside p.rows (Of r) (Of x))
        (λ t. rw (z, t) (tell-stays is _ (free n x (remove p r) is) (ih.frees x (remove p r) is (bare-removed p r h))))
        (λ t. rw (z, t) (bare-removed p r h, refl))

leaves-more : (n : ℕ) → SilentAt n → (x : Obj) → IsSilent (leave (suc n) x 0)
leaves-more n ih x p is h =
    followed-stays is (lets_go x (λ q. detach q x) p is) (λ done q left. followed (children n x q left) gone) (lets-go x (λ q. detach q x) p is (bare-let_go p x left_row (λ s e. e) h))
    (λ done q left u. followed-stays left (children n x q left) gone (ih.empties x q left u) (λ a r last k. (bare-removed r x k, refl)))
  where
    gone : Unit {0} → Work FreeReply
    gone a q left = tell (record { item = Told (Freed x 0); before = q; about = None }) (Ended free_reply.Ok (remove q x) [] left)

empties-more : (n : ℕ) → SilentAt n → (x : Obj) → IsSilent (children (suc n) x)
empties-more n ih x p is h = kids (first_kid p.rows (Of x)) refl
  where
    targets : (c : Obj) → first_kid p.rows (Of x) ≡ Some c → (o : Option Obj) → target_at p.rows c ≡ o → Stays is (children (suc n) x p is)
    targets c e None k = rw (e, k) (followed-stays is (free n c p is) (λ answer q left. tried n x c (noted_owner p.rows c) answer q left) (ih.frees c p is h) (λ answer. ih.tries x c (noted_owner p.rows c) answer))
    targets c e (Some target) k = rw (e, k) (tell-stays is _ (children n x (remove p c) is) (ih.empties x (remove p c) is (bare-removed p c h)))

    kids : (o : Option Obj) → first_kid p.rows (Of x) ≡ o → Stays is (children (suc n) x p is)
    kids None e = rw e (h, refl)
    kids (Some c) e = targets c e (target_at p.rows c) refl

handed-on : (n : ℕ) → SilentAt n → (x c : Obj) (noted : Option Owner) (p : Pool) (is : List Input) → IsBare p → Stays is (followed (hand_on x c noted p is) (λ a q left. children n x q left))
handed-on n ih x c noted p is h = by_test (is_below (owner_of p.rows c) (Of x))
    (λ t. rw t (tell-stays is _ (children n x (place p (heir p.rows x c noted) c) is) (ih.empties x (place p (heir p.rows x c noted) c) is (bare-placed p (heir p.rows x c noted) c h))))
    (λ t. rw t (ih.empties x p is h))

tries-more : (n : ℕ) → SilentAt n → (x c : Obj) (noted : Option Owner) (answer : FreeReply) → IsSilent (tried (suc n) x c noted answer)
tries-more n ih x c noted free_reply.Ok p is h = ih.empties x p is h
tries-more n ih x c noted free_reply.Held p is h = handed-on n ih x c noted p is h
tries-more n ih x c noted free_reply.Running p is h = handed-on n ih x c noted p is h
tries-more n ih x c noted (free_reply.Refused v) p is h = handed-on n ih x c noted p is h

unlinks-more : (n : ℕ) → SilentAt n → (o : Owner) (x : Obj) → IsSilent (unlink (suc n) o x)
unlinks-more n ih o x p is h = each (newest_ref_of p.rows o x) refl
  where
    each : (r : Option Obj) → newest_ref_of p.rows o x ≡ r → Stays is (unlink (suc n) o x p is)
    each None e = rw e (ih.releases x p is h)
    each (Some r) e = rw e (bare-removed p r h, refl)

releases-more : (n : ℕ) → SilentAt n → (x : Obj) → IsSilent (release (suc n) x)
releases-more n ih x p is h = each (newest_ref p.rows x) refl
  where
    each : (o : Option Obj) → newest_ref p.rows x ≡ o → Stays is (release (suc n) x p is)
    each None e = rw e (ih.frees x p is h)
    each (Some r) e = by_test (is_inside p.rows (Of r) (Of x))
        (λ t. rw (e, t) (tell-stays is _ (release n x (remove p r) is) (ih.releases x (remove p r) is (bare-removed p r h))))
        (λ t. rw (e, t) (tell-stays is _ (given n x _ (remove p r) is) (ih.hands x _ (remove p r) is (bare-removed p r h))))

hands-more : (n : ℕ) → SilentAt n → (x : Obj) (o : Owner) → IsSilent (given (suc n) x o)
hands-more n ih x o p is h = (bare-placed p o x h, refl)

silent : (n : ℕ) → SilentAt n
silent zero = record {
  frees = λ x p is h. tt;
  dooms = λ x p is h. tt;
  leaves = λ x p is h. tt;
  empties = λ x p is h. tt;
  tries = λ x c noted answer p is h. tt;
  unlinks = λ o x p is h. tt;
  releases = λ x p is h. tt;
  hands = λ x o p is h. tt;
}
silent (suc n) = record {
  frees = frees-more n (silent n);
  dooms = λ x p is h. (h, refl);
  leaves = leaves-more n (silent n);
  empties = empties-more n (silent n);
  tries = tries-more n (silent n);
  unlinks = unlinks-more n (silent n);
  releases = releases-more n (silent n);
  hands = hands-more n (silent n);
}

effect-silent : (n : ℕ) (w : Plan) (reach : Ask → Work Reply) (turn : Obj → Work Reply) (work : Errand → Obj → Work Reply) → IsCalm w → IsSilent (effect (free n) (unlink n) (children n) reach turn work w)
effect-silent n (Does c notice r) reach turn work calm p is h = (calm p h, refl)
effect-silent n (Frees x) reach turn work calm p is h = followed-stays is (free n x p is) (λ answer. gives (freed_reply x answer)) ((silent n).frees x p is h) (λ answer q left k. (k, refl))
effect-silent n (Unlinks o x) reach turn work calm p is h = followed-stays is (unlink n o x p is) (λ answer. gives (freed_reply x answer)) ((silent n).unlinks o x p is h) (λ answer q left k. (k, refl))
effect-silent n _ reach turn work calm p is h = absurd calm

-- ---- call after call

-- calls alone, which have their ranges, give no object a destructor, and ask for nothing
abbrev pub AreCalls : List Input → Type 0
AreCalls [] = Unit {0}
AreCalls (inputs.Call c ∷ is) = (is_sound_call c ≡ true) × (is_calm c ≡ true) × AreCalls is
AreCalls (_ ∷ is) = ⊥

-- the next call is waited for
abbrev AwaitsCall : Outcome ℕ Pool Input Scene → Type 0
AwaitsCall (Ended v q ts left) = ⊥
AwaitsCall (Waits ts) = open_question (items ts) ≡ Some Quiet
AwaitsCall (Stray ts) = ⊥
AwaitsCall Short = Unit {0}

asked-later : (i : Item) (ts : List Scene) → open_question (items ts) ≡ Some Quiet → open_question (i ∷ items ts) ≡ Some Quiet
unfolding open_question
asked-later i [] h = cc
asked-later i (t ∷ ts) h = h

tell-awaits : (t : Scene) (o : Outcome ℕ Pool Input Scene) → AwaitsCall o → AwaitsCall (tell t o)
tell-awaits t (Ended v q ts left) h = absurd h
tell-awaits t (Waits ts) h = asked-later t.item ts h
tell-awaits t (Stray ts) h = absurd h
tell-awaits t Short h = tt

tells-awaits : (ts : List Scene) (o : Outcome ℕ Pool Input Scene) → AwaitsCall o → AwaitsCall (tells ts o)
tells-awaits [] o h = h
tells-awaits (t ∷ ts) o h = tell-awaits t (tells ts o) (tells-awaits ts o h)

followed-awaits : {A : Type 0} (is : List Input) (o : Outcome A Pool Input Scene) (k : A → Work ℕ) → Stays is o → ((a : A) (q : Pool) → IsBare q → AwaitsCall (k a q is)) → AwaitsCall (followed o k)
followed-awaits is (Ended a q ts left) k s more = tells-awaits ts (k a q left) (subst (λ (l : List Input). AwaitsCall (k a q l)) (sym s.1) (more a q s.0))
followed-awaits is (Waits ts) k s more = absurd s
followed-awaits is (Stray ts) k s more = absurd s
followed-awaits is Short k s more = tt

record AwaitsAt (n : ℕ) : Type 0 where
  asks : (p : Pool) (is : List Input) → IsBare p → AreCalls is → AwaitsCall (asked n Quiet p is)
  acts : (c : Call) → is_calm c ≡ true → (p : Pool) (is : List Input) → IsBare p → AreCalls is → AwaitsCall (acting n Quiet c p is)
  tells : (about : Option CallStart) (r : Reply) (p : Pool) (is : List Input) → IsBare p → AreCalls is → AwaitsCall (telling n about Quiet r p is)
  announces : (about : Option CallStart) (notice : Notice) (r : Reply) (p : Pool) (is : List Input) → IsBare p → AreCalls is → AwaitsCall (announcing n about Quiet notice r p is)

asks-more : (n : ℕ) → AwaitsAt n → (p : Pool) (is : List Input) → IsBare p → AreCalls is → AwaitsCall (asked (suc n) Quiet p is)
unfolding open_question
asks-more n ih p [] h a = refl
asks-more n ih p (inputs.Call c ∷ is) h a = rw a.0 (tell-awaits _ (acting n Quiet c p is) (ih.acts c a.1 p is h a.2))
asks-more n ih p (_ ∷ is) h a = absurd a

acts-more : (n : ℕ) → AwaitsAt n → (c : Call) → is_calm c ≡ true → (p : Pool) (is : List Input) → IsBare p → AreCalls is → AwaitsCall (acting (suc n) Quiet c p is)
acts-more n ih c e p is h a = each (notice_of (planned_at Quiet p c)) refl
  where
    turn : Obj → Work Reply
    turn = turned Quiet (taking n)

    work : Errand → Obj → Work Reply
    work = work_by (finishing n) (notifying n) (receiving n) (cancelling n)

    done : Work Reply
    done = effect (free n) (unlink n) (children n) (reaching n) turn work (planned_at Quiet p c)

    does : Stays is (done p is)
    does = effect-silent n (planned_at Quiet p c) (reaching n) turn work (calm-planned Quiet p c e) p is h

    each : (notice : Option Notice) → notice_of (planned_at Quiet p c) ≡ notice → AwaitsCall (acting (suc n) Quiet c p is)
    each None k = rw k (followed-awaits is (done p is) (λ r. telling n (Some (record { call = c; start = p })) Quiet r) does (λ r q u. ih.tells _ r q is u a))
    each (Some notice) k = rw k (followed-awaits is (done p is) (λ r. announcing n (Some (record { call = c; start = p })) Quiet notice r) does (λ r q u. ih.announces _ notice r q is u a))

awaits : (n : ℕ) → AwaitsAt n
awaits zero = record {
  asks = λ p is h a. tt;
  acts = λ c e p is h a. tt;
  tells = λ about r p is h a. tt;
  announces = λ about notice r p is h a. tt;
}
awaits (suc n) = record {
  asks = asks-more n (awaits n);
  acts = acts-more n (awaits n);
  tells = λ about r p is h a. tell-awaits _ (asked n Quiet p is) ((awaits n).asks p is h a);
  announces = λ about notice r p is h a. tell-awaits _ (telling n about Quiet r p is) ((awaits n).tells about r p is h a);
}

-- the story of calls that give no object a destructor and ask for nothing waits for the next call, and all of them were taken
pub story-awaits : (is : List Input) → AreCalls is → (open_question (items (story 1 is)) ≡ Some Quiet) × (is_stray (outcome 1 is) ≡ false)
story-awaits is a = each (asked (turns 0 (length is)) Quiet (empty 1) is) ((awaits (turns 0 (length is))).asks (empty 1) is tt a) (story-enough 1 (turns 0 (length is)) is (omega arith) (omega arith))
  where
    each : (o : Outcome ℕ Pool Input Scene) → AwaitsCall o → NotShort o → (open_question (items (told_by o)) ≡ Some Quiet) × (is_stray o ≡ false)
    each (Ended v q ts left) h s = absurd h
    each (Waits ts) h s = (h, refl)
    each (Stray ts) h s = absurd h
    each Short h s = absurd s
