-- What a step of a call or a free means, by the text.
use Rattle.tree_specs.specs.declared.object.Owner.{Owner}
use Rattle.tree_specs.specs.Tree.Targets.{newest_ref}
use Rattle.std.proofs.Common.{◌≡◌, ℕ, suc, nat_eq, List, [], ◌∷◌, Option, Some, None, refl, sym, ap, inr}
use Rattle.step_machine.specs.Machine.{Move, Outcome, after, tell, followed}
use Rattle.step_machine.specs.Noted.{Noted, noted, noted_move}
use Rattle.step_machine.proofs.Laws.{Below, Below-trans, followed-tell, followed-tells, followed-followed}
use Rattle.tree_specs.specs.declared.object.Obj.{Obj}
use Rattle.tree_specs.specs.declared.object.Owner.TheVariants.{Of}
use Rattle.tree_specs.specs.declared.row.Row.{Row}
use Rattle.tree_specs.specs.declared.row.Mark.{Mark}
use Rattle.tree_specs.specs.declared.row.Mark.TheVariants as mark
use Rattle.tree_specs.specs.declared.call.Call.{Call}
use Rattle.tree_specs.specs.declared.question.Ask.{Ask}
use Rattle.tree_specs.specs.declared.question.Ask.TheVariants.{Quiet}
use Rattle.tree_specs.specs.declared.question.Input.{Input}
use Rattle.tree_specs.specs.declared.frame.Frame.{Frame}
use Rattle.tree_specs.specs.declared.frame.Frame.TheVariants as frame
use Rattle.tree_specs.specs.declared.frame.CallFrame.TheVariants.{Asking, Doing}
use Rattle.tree_specs.specs.declared.frame.FreeFrame.{FreeFrame}
use Rattle.tree_specs.specs.declared.frame.FreeFrame.TheVariants.{Unlinking, Releasing, Beginning, Judged, Dooming, Leaving, Looping, AfterChild}
use Rattle.tree_specs.specs.declared.frame.Purpose.{Purpose}
use Rattle.tree_specs.specs.declared.frame.Purpose.TheVariants.{Removal, Emptying}
use Rattle.tree_specs.specs.declared.frame.Answer.{Answer}
use Rattle.tree_specs.specs.declared.frame.Answer.TheVariants as answer
use Rattle.tree_specs.specs.declared.free_step.FreeReply.{FreeReply}
use Rattle.tree_specs.specs.declared.free_step.FreeReply.TheVariants.{Ok}
use Rattle.tree_specs.specs.Tree.Pool.{Pool, row_of, is_below, owner_of, first_kid, target_at, newest_ref_of, is_inside, remove, doom, detach}
use Rattle.tree_specs.specs.Rules.Items.{Item}
use Rattle.tree_specs.specs.Rules.Items.Item.{Told}
use Rattle.tree_specs.specs.declared.event.Event.TheVariants.{Freed, Closed}
use Rattle.tree_specs.specs.Words.Ranges.{is_sound_call, is_return}
use Rattle.tree_specs.specs.Calls.Refusals.{is_request, is_queue}
use Rattle.tree_specs.specs.Events.Rotation.{closes_with}
use Rattle.tree_specs.specs.Calls.Given.{Given, given_to}
use Rattle.tree_specs.specs.Calls.Given.Given.{Calls, Returns}
use Rattle.tree_specs.specs.declared.frame.Errand.{Errand}
use Rattle.tree_specs.specs.declared.frame.Errand.TheVariants.{Finish}
use Rattle.tree_specs.specs.Calls.Plans.{Change, Plan, planned_at}
use Rattle.tree_specs.specs.Calls.Plans.Plan.{Does, Frees, Unlinks, Empties, Asks, Turns, Works}
use Rattle.tree_specs.specs.Rules.Sequence.{Work, Scene, CallStart, ◌>>◌, change, tells, gives}
use Rattle.tree_specs.specs.Rules.Story.{free, dooming, judged, leave, children, tried, unlink, release}
use Rattle.tree_specs.specs.Rules.Pieces.{lets_go}
use Rattle.tree_specs.specs.Machine.Meaning.{noted_table, ends_as, looped, mean}
use Rattle.tree_specs.specs.Machine.FreeTable.{judge_step, loop_step, tried_step, refs_step, unlink_step, release_step}
use Rattle.tree_specs.specs.Machine.Table.{notes, step, lifted, plan_step, announced, closed_event}
use Rattle.tree_specs.proofs.Tree.Numbered.{by_test}

ruleset laws = (followed-tell, followed-tells, followed-followed)

abbrev pub noted_mean : ℕ → Noted Frame CallStart → Work Answer
noted_mean n w = mean n w.work w.note

-- one step of the work, and then the text with one turn less
abbrev pub Turn : ℕ → Frame → Option CallStart → Move Frame Answer Pool Item → Pool → List Input → Outcome Answer Pool Input Scene
Turn n f b m p is = after noted_table (noted_mean n) (noted_move notes f b p m) is

-- a step of the table, and what follows, come to no more than the text
abbrev pub AsText : ℕ → Frame → Option CallStart → Pool → List Input → Type 0
AsText n f b p is = Below (Turn n f b (step f p) p is) (mean (suc n) f b p is)

-- a question does as the text where there is no input, and by what the first one gives to it
pub by-given : (q : Ask) (n : ℕ) (f : Frame) (b : Option CallStart) (p : Pool) → AsText n f b p [] → ((i : Input) (is : List Input) (g : Option Given) → given_to q i ≡ g → AsText n f b p (i ∷ is)) → (is : List Input) → AsText n f b p is
by-given q n f b p none each [] = none
by-given q n f b p none each (i ∷ is) = each i is (given_to q i) refl

pub asking-turn : (n : ℕ) (q : Ask) (b : Option CallStart) (p : Pool) (is : List Input) → AsText n (frame.Call (Asking q)) b p is
asking-turn n q b p is = by-given q n (frame.Call (Asking q)) b p (inr refl) each is
  where
    each : (i : Input) (js : List Input) (g : Option Given) → given_to q i ≡ g → AsText n (frame.Call (Asking q)) b p (i ∷ js)
    each i js None e = rw e (inr refl)
    each i js (Some (Calls c)) e = by_test (is_sound_call c) (λ t. rw (e, t) (inr (simp laws))) (λ t. rw (e, t) (inr refl))
    each i js (Some (Returns v)) e = by_test (is_return v) (λ t. rw (e, t) (inr (simp laws))) (λ t. rw (e, t) (inr refl))
    each i js (Some _) e = rw e (inr refl)

turning-turn : (n : ℕ) (q : Ask) (c : Call) (b : Option CallStart) (p : Pool) (is : List Input) (x : Obj) → planned_at q p c ≡ Turns x
    → Below (Turn n (frame.Call (Doing q c)) b (plan_step q (planned_at q p c) p) p is) (mean (suc n) (frame.Call (Doing q c)) b p is)
turning-turn n Quiet c b p is x e = rw e (inr (simp laws))
turning-turn n _ c b p is x e = rw e (inr refl)

pub doing-turn : (n : ℕ) (q : Ask) (c : Call) (b : Option CallStart) (p : Pool) (is : List Input)
    → Below (Turn n (frame.Call (Doing q c)) b (plan_step q (planned_at q p c) p) p is) (mean (suc n) (frame.Call (Doing q c)) b p is)
doing-turn n q c b p is = each (planned_at q p c) refl
  where
    works : (change : Change) (errand : Errand) (x : Obj) → planned_at q p c ≡ Works change errand x → Below (Turn n (frame.Call (Doing q c)) b (plan_step q (planned_at q p c) p) p is) (mean (suc n) (frame.Call (Doing q c)) b p is)
    works change (Finish s) x e = rw e (inr (simp laws))
    works change _ x e = rw e (inr (simp laws))

    each : (plan : Plan) → planned_at q p c ≡ plan → Below (Turn n (frame.Call (Doing q c)) b (plan_step q (planned_at q p c) p) p is) (mean (suc n) (frame.Call (Doing q c)) b p is)
    each (Does change None r) e = rw e (inr refl)
    each (Does change (Some notice) r) e = rw e (inr refl)
    each (Frees x) e = rw e (inr (simp laws))
    each (Unlinks o x) e = rw e (inr (simp laws))
    each (Empties x) e = rw e (inr (simp laws))
    each (Asks outside) e = rw e (inr (simp laws))
    each (Turns x) e = turning-turn n q c b p is x e
    each (Works change errand x) e = works change errand x e

-- by what was found, if anything
pub by-found : {A P : Type 0} (o : Option A) → (o ≡ None → P) → ((x : A) → o ≡ Some x → P) → P
by-found None none some = none refl
by-found (Some x) none some = some x refl

-- an object is let go of
letting-turn : (n : ℕ) (f g : FreeFrame) (b : Option CallStart) (x : Obj) (change : Pool → Pool) (p : Pool) (is : List Input) (k : Unit {0} → Work Answer)
    → ((js : List Input) → mean n (frame.Free g) None (change p) js ≡ k tt (change p) js)
    → Below (Turn n (frame.Free f) b (announced (closed_event (closes_with p.ring x)) g (change p)) p is) (followed (lets_go x change p is) k)
letting-turn n f g b x change p is k law = each (closes_with p.ring x) refl
  where
    each : (o : Option ℕ) → closes_with p.ring x ≡ o → Below (Turn n (frame.Free f) b (announced (closed_event (closes_with p.ring x)) g (change p)) p is) (followed (lets_go x change p is) k)
    each None c = rw c (inr (law is))
    each (Some fd) c = rw c (inr (ap (tell (record { item = Told (Closed fd); before = p; about = None })) (law is)))

pub beginning-turn : (n : ℕ) (x : Obj) (b : Option CallStart) (p : Pool) (is : List Input)
    → Below (Turn n (frame.Free (Beginning x)) b (lifted p.ring (refs_step x (newest_ref p.rows x) p)) p is) (ends_as answer.Freed (free (suc n) x) p is)
beginning-turn n x b p is = newest (newest_ref p.rows x) refl
  where
    marks : newest_ref p.rows x ≡ None → (r : Row) (m : Mark) → r.mark ≡ m → row_of p.rows x ≡ Some r
        → Below (Turn n (frame.Free (Beginning x)) b (lifted p.ring (refs_step x (newest_ref p.rows x) p)) p is) (ends_as answer.Freed (free (suc n) x) p is)
    marks k r mark.Quiet m e = by_test (is_request r.kind)
        (λ u. rw (k, e, m, u) (inr refl))
        (λ u. by_test (is_queue r.kind)
        (λ v. rw (k, e, m, u, v) (inr refl))
        (λ v. by_test (nat_eq r.hook 0) (λ t. rw (k, e, m, u, v, t) (inr refl)) (λ t. rw (k, e, m, u, v, t) (inr refl))))
    marks k r mark.Busy m e = rw (k, e, m)
        (Below-trans _ _ _ (letting-turn n (Beginning x) (Dooming x) b x (λ q. doom q x) p is (λ u. ends_as answer.Freed (dooming n x)) (λ js. refl)) (inr (sym (followed-followed (lets_go x (λ q. doom q x) p is) _ _))))
    marks k r _ m e = rw (k, e, m) (inr refl)

    each : newest_ref p.rows x ≡ None → (o : Option Row) → row_of p.rows x ≡ o
        → Below (Turn n (frame.Free (Beginning x)) b (lifted p.ring (refs_step x (newest_ref p.rows x) p)) p is) (ends_as answer.Freed (free (suc n) x) p is)
    each k None e = rw (k, e) (inr refl)
    each k (Some r) e = marks k r r.mark refl e

    newest : (o : Option Obj) → newest_ref p.rows x ≡ o → Below (Turn n (frame.Free (Beginning x)) b (lifted p.ring (refs_step x (newest_ref p.rows x) p)) p is) (ends_as answer.Freed (free (suc n) x) p is)
    newest None k = each k (row_of p.rows x) refl
    newest (Some r) k = by_test (is_inside p.rows (Of r) (Of x)) (λ t. rw (k, t) (inr (simp laws))) (λ t. rw (k, t) (inr (simp laws)))

pub unlinking-turn : (n : ℕ) (o : Owner) (x : Obj) (b : Option CallStart) (p : Pool) (is : List Input)
    → Below (Turn n (frame.Free (Unlinking o x)) b (lifted p.ring (unlink_step x (newest_ref_of p.rows o x) p)) p is) (ends_as answer.Freed (unlink (suc n) o x) p is)
unlinking-turn n o x b p is = by-found (newest_ref_of p.rows o x) (λ k. rw k (inr refl)) (λ r k. rw k (inr (simp laws)))

pub releasing-turn : (n : ℕ) (x : Obj) (b : Option CallStart) (p : Pool) (is : List Input)
    → Below (Turn n (frame.Free (Releasing x)) b (lifted p.ring (release_step x (newest_ref p.rows x) p)) p is) (ends_as answer.Freed (release (suc n) x) p is)
releasing-turn n x b p is = each (newest_ref p.rows x) refl
  where
    each : (r : Option Obj) → newest_ref p.rows x ≡ r → Below (Turn n (frame.Free (Releasing x)) b (lifted p.ring (release_step x (newest_ref p.rows x) p)) p is) (ends_as answer.Freed (release (suc n) x) p is)
    each None k = rw k (inr refl)
    each (Some r) k = by_test (is_inside p.rows (Of r) (Of x)) (λ t. rw (k, t) (inr (simp laws))) (λ t. rw (k, t) (inr (simp laws)))

pub judged-turn : (n : ℕ) (x : Obj) (h v : ℕ) (b : Option CallStart) (p : Pool) (is : List Input)
    → Below (Turn n (frame.Free (Judged x h v)) b (lifted p.ring (judge_step x h v p)) p is) (ends_as answer.Freed (judged (suc n) x h v) p is)
judged-turn n x h v b p is = by_test (nat_eq v 0) (λ t. rw t (inr (simp laws))) (λ t. rw t (inr (simp laws)))

pub leaving-turn : (n : ℕ) (x : Obj) (h : ℕ) (b : Option CallStart) (p : Pool) (is : List Input)
    → Below (Turn n (frame.Free (Leaving x h)) b (step (frame.Free (Leaving x h)) p) p is) (ends_as answer.Freed (leave (suc n) x h) p is)
leaving-turn n x h b p is =
    Below-trans _ _ _ (letting-turn n (Leaving x h) (Looping x (Removal h)) b x (λ q. detach q x) p is (λ u. ends_as answer.Freed emptied) (λ js. simp laws)) (inr (sym (followed-followed (lets_go x (λ q. detach q x) p is) _ _)))
  where
    -- what follows
    emptied : Work FreeReply
    emptied = do
      children n x
      tells (Told (Freed x h))
      change (λ q. remove q x)
      gives Ok

pub looping-turn : (n : ℕ) (x : Obj) (purpose : Purpose) (b : Option CallStart) (p : Pool) (is : List Input)
    → Below (Turn n (frame.Free (Looping x purpose)) b (lifted p.ring (loop_step x purpose (first_kid p.rows (Of x)) p)) p is) (looped x purpose (children (suc n) x) p is)
looping-turn n x purpose b p is = each purpose (first_kid p.rows (Of x)) refl
  where
    child : (purpose : Purpose) (c : Obj) (t : Option Obj) → target_at p.rows c ≡ t → first_kid p.rows (Of x) ≡ Some c
        → Below (Turn n (frame.Free (Looping x purpose)) b (lifted p.ring (loop_step x purpose (first_kid p.rows (Of x)) p)) p is) (looped x purpose (children (suc n) x) p is)
    child (Removal h) c None k e = rw (e, k) (inr (simp laws))
    child Emptying c None k e = rw (e, k) (inr (simp laws))
    child (Removal h) c (Some t) k e = rw (e, k) (inr (simp laws))
    child Emptying c (Some t) k e = rw (e, k) (inr (simp laws))

    each : (purpose : Purpose) (o : Option Obj) → first_kid p.rows (Of x) ≡ o
        → Below (Turn n (frame.Free (Looping x purpose)) b (lifted p.ring (loop_step x purpose (first_kid p.rows (Of x)) p)) p is) (looped x purpose (children (suc n) x) p is)
    each (Removal h) None e = rw e (inr refl)
    each Emptying None e = rw e (inr refl)
    each purpose (Some c) e = child purpose c (target_at p.rows c) refl e

pub tried-turn : (n : ℕ) (x c : Obj) (noted : Option Owner) (purpose : Purpose) (a : FreeReply) (b : Option CallStart) (p : Pool) (is : List Input)
    → Below (Turn n (frame.Free (AfterChild x c noted purpose a)) b (lifted p.ring (tried_step x c noted purpose a p)) p is) (looped x purpose (tried (suc n) x c noted a) p is)
tried-turn n x c noted purpose a b p is = each purpose a
  where
    each : (purpose : Purpose) (a : FreeReply) → Below (Turn n (frame.Free (AfterChild x c noted purpose a)) b (lifted p.ring (tried_step x c noted purpose a p)) p is) (looped x purpose (tried (suc n) x c noted a) p is)
    each (Removal h) Ok = inr refl
    each Emptying Ok = inr refl
    each _ _ = by_test (is_below (owner_of p.rows c) (Of x)) (λ t. rw t (inr (simp laws))) (λ t. rw t (inr refl))
