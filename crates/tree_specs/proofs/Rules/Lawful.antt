-- What is so of every work of the rules' text: what an acceptance follows, and which inputs it takes.
use Rattle.tree_specs.specs.declared.object.Owner.{Owner}
use Rattle.std.proofs.Common.{◌≡◌, ℕ, List, [], ◌∷◌, Option, Some, None, refl, sym, ◌∙◌, ap, subst}
use Rattle.step_machine.specs.Machine.{Outcome, tell, tells, followed}
use Rattle.step_machine.specs.Machine.Outcome.{Ended, Waits, Stray, Short}
use Rattle.step_machine.proofs.Uses.{Used, Used-same, Used-ended, Used-told, Used-asked, Used-followed}
use Rattle.tree_specs.specs.declared.object.Obj.{Obj}
use Rattle.tree_specs.specs.declared.call.Call.{Call}
use Rattle.tree_specs.specs.declared.reply.Reply.{Reply}
use Rattle.tree_specs.specs.declared.reply.Reply.TheVariants.{No}
use Rattle.tree_specs.specs.declared.request.State.{State}
use Rattle.tree_specs.specs.declared.frame.Errand.{Errand}
use Rattle.tree_specs.specs.declared.notice.Notice.{Notice}
use Rattle.tree_specs.specs.declared.occasion.Occasion.{Occasion}
use Rattle.tree_specs.specs.declared.question.Ask.{Ask}
use Rattle.tree_specs.specs.declared.question.Ask.TheVariants as ask
use Rattle.tree_specs.specs.declared.question.Act.TheVariants as act
use Rattle.tree_specs.specs.declared.question.Input.{Input}
use Rattle.tree_specs.specs.declared.question.Input.TheVariants as input
use Rattle.tree_specs.specs.declared.free_step.FreeReply.{FreeReply}
use Rattle.tree_specs.specs.Tree.Pool.{Pool}
use Rattle.tree_specs.specs.Rules.Items.{Item}
use Rattle.tree_specs.specs.Rules.Items.Item.{Asked}
use Rattle.tree_specs.specs.Rules.Sequence.{Work, Scene, CallStart, asks, fits_to}
use Rattle.tree_specs.specs.Rules.Answers.{later}
use Rattle.tree_specs.specs.Rules.Story.{free, hooked, judged, dooming, leave, children, tried, asked, acting, telling, returning, items, announcing, unlink, release, given, taking, timing, timed, polling, starting, firing, handling, handled, reaching, opening, hearing, closing, preparing, prepared, finishing, receiving, cancelling, cleaning, cleaned, notifying, calling, called, over, draining, vacating, triggering}
use Rattle.tree_specs.specs.Promises.Acceptances.{Return, returned_by, answered_by, inputs_after, AcceptsNow, AcceptsAfterReturns}
use Rattle.tree_specs.specs.declared.handler.Handler.{Handler}
use Rattle.tree_specs.specs.declared.moment.What.{What}
use Rattle.std.specs.Prelude.{Bool}

-- ---- what an acceptance follows, over the items of an outcome

abbrev pub Last : Type 0
Last = Option Return

abbrev pub last_after : Last → List Scene → List Input → Last
last_after last [] is = last
last_after last (s ∷ ts) is = last_after (answered_by s.item is) ts (inputs_after s.item is)

abbrev pub left_after : List Scene → List Input → List Input
left_after [] is = is
left_after (s ∷ ts) is = left_after ts (inputs_after s.item is)

-- of a run's answer and of what was heard last this is so
abbrev pub After : {A : Type 0} → Last → List Input → (A → Last → Type 0) → Outcome A Pool Input Scene → Type 0
After last is Q (Ended a q ts left) = AcceptsAfterReturns last (items ts) is × (left_after ts is ≡ left) × Q a (last_after last ts is)
After last is Q (Waits ts) = AcceptsAfterReturns last (items ts) is
After last is Q (Stray ts) = AcceptsAfterReturns last (items ts) is
After last is Q Short = Unit {0}

after-tell : {A : Type 0} (last : Last) (is : List Input) (Q : A → Last → Type 0) (s : Scene) (o : Outcome A Pool Input Scene) → AcceptsNow last s.item
    → After (answered_by s.item is) (inputs_after s.item is) Q o → After last is Q (tell s o)
after-tell last is Q s (Ended a q ts left) now h = ((now, h.0), h.1, h.2)
after-tell last is Q s (Waits ts) now h = (now, h)
after-tell last is Q s (Stray ts) now h = (now, h)
after-tell last is Q s Short now h = tt

after-tells : {A : Type 0} (last : Last) (is : List Input) (Q : A → Last → Type 0) (ts : List Scene) (o : Outcome A Pool Input Scene) → AcceptsAfterReturns last (items ts) is
    → After (last_after last ts is) (left_after ts is) Q o → After last is Q (tells ts o)
after-tells last is Q [] o a h = h
after-tells last is Q (s ∷ ts) o a h = after-tell last is Q s (tells ts o) a.0 (after-tells (answered_by s.item is) (inputs_after s.item is) Q ts o a.1 h)

after-followed : {A B : Type 0} (last : Last) (is : List Input) (P : A → Last → Type 0) (Q : B → Last → Type 0) (o : Outcome A Pool Input Scene) (k : A → Pool → List Input → Outcome B Pool Input Scene)
    → After last is P o → ((a : A) (q : Pool) (left : List Input) (l : Last) → P a l → After l left Q (k a q left)) → After last is Q (followed o k)
after-followed last is P Q (Ended a q ts left) k h next =
    after-tells last is Q ts (k a q left) h.0 (subst (λ (x : List Input). After (last_after last ts is) x Q (k a q left)) (sym h.1) (next a q left (last_after last ts is) h.2))
after-followed last is P Q (Waits ts) k h next = h
after-followed last is P Q (Stray ts) k h next = h
after-followed last is P Q Short k h next = tt

-- ---- what is so of every work of the text

pub record Lawful {A : Type 0} (last : Last) (Q : A → Last → Type 0) (go : List Input → Outcome A Pool Input Scene) : Type 0 where
  -- each acceptance comes right after a return of 0
  pub accepts : (is : List Input) → After last is Q (go is)
  -- it takes a prefix of the inputs, and waits before each of them
  pub uses : (is : List Input) (a : A) (q : Pool) (ts : List Scene) (left : List Input) → go is ≡ Ended a q ts left → Used go a q ts is left

-- nothing is asked of its answer
abbrev pub Any : {A : Type 0} → A → Last → Type 0
Any a l = Unit {0}

-- it isn't refused
abbrev pub Said : Reply → Last → Type 0
Said (No why) l = ⊥
Said r l = Unit {0}

pub same-lawful : {A : Type 0} (last : Last) (Q : A → Last → Type 0) (go go' : List Input → Outcome A Pool Input Scene) → ((js : List Input) → go js ≡ go' js) → Lawful last Q go' → Lawful last Q go
same-lawful last Q go go' law h = record {
  accepts = λ is. subst (After last is Q) (sym (law is)) (h.accepts is);
  uses = λ is a q ts left e. Used-same go go' law a q ts is left (h.uses is a q ts left (sym (law is) ∙ e));
}

pub ended-lawful : {A : Type 0} (last : Last) (Q : A → Last → Type 0) (a : A) (q : Pool) → Q a last → Lawful last Q (λ is. Ended a q [] is)
ended-lawful last Q a q h = record {
  accepts = λ is. (tt, refl, h);
  uses = λ is b r ts left e. Used-ended (λ js. Ended a q [] js) a q [] (λ js. refl) b r ts is left e;
}

pub short-lawful : {A : Type 0} (last : Last) (Q : A → Last → Type 0) → Lawful last Q (λ is. Short)
short-lawful last Q = record { accepts = λ is. tt; uses = λ is a q ts left e. cc }

pub told-lawful : {A : Type 0} (last : Last) (Q : A → Last → Type 0) (s : Scene) (go : List Input → Outcome A Pool Input Scene) → AcceptsNow last s.item
    → ((is : List Input) → (answered_by s.item is ≡ None) × (inputs_after s.item is ≡ is)) → Lawful None Q go → Lawful last Q (λ is. tell s (go is))
told-lawful last Q s go now event h = record {
  accepts = λ is. after-tell last is Q s (go is) now (rw ((event is).0, (event is).1) (h.accepts is));
  uses = λ is a q ts left e. Used-told (λ js. tell s (go js)) go s (λ js. refl) is (λ b r us l k. h.uses is b r us l k) a q ts left e;
}

pub followed-lawful : {A B : Type 0} (last : Last) (P : A → Last → Type 0) (Q : B → Last → Type 0) (go : List Input → Outcome A Pool Input Scene) (k : A → Pool → List Input → Outcome B Pool Input Scene)
    → Lawful last P go → ((a : A) (q : Pool) (l : Last) → P a l → Lawful l Q (k a q)) → Lawful last Q (λ is. followed (go is) k)
followed-lawful {A = A} last P Q go k h next = record {
  accepts = λ is. after-followed last is P Q (go is) k (h.accepts is) (λ a q left l p. (next a q l p).accepts left);
  uses = λ is b q ts left e. Used-followed go k is (λ a r us mid w. h.uses is a r us mid w) (λ a r us mid w c s vs l v. (next a r _ (heard is a r us mid w)).uses mid c s vs l v) b q ts left e;
}
  where
    heard : (is : List Input) (a : A) (q : Pool) (ts : List Scene) (left : List Input) → go is ≡ Ended a q ts left → P a (last_after last ts is)
    heard is a q ts left e = let h' : After last is P (Ended a q ts left) = subst (After last is P) e (h.accepts is) in h'.2

pub asks-lawful : {A : Type 0} (last : Last) (Q : A → Last → Type 0) (q : Ask) (f : Input → Option (Work A)) (p : Pool)
    → ((i : Input) (w : Work A) → f i ≡ Some w → Lawful (returned_by q i) Q (w p)) → Lawful last Q (asks (Asked q) f p)
asks-lawful {A = A} last Q q f p next = record {
  accepts = accepts;
  uses = uses;
}
  where
    s : Scene
    s = record { item = Asked q; before = p; about = None }

    accepts : (is : List Input) → After last is Q (asks (Asked q) f p is)
    accepts [] = (tt, tt)
    accepts (i ∷ is) = each (f i) refl
      where
        each : (o : Option (Work A)) → f i ≡ o → After last (i ∷ is) Q (fits_to s (f i) p is)
        each None e = rw e (tt, tt)
        each (Some w) e = rw e (after-tell last (i ∷ is) Q s (w p is) tt ((next i w e).accepts is))

    uses : (is : List Input) (a : A) (r : Pool) (ts : List Scene) (left : List Input) → asks (Asked q) f p is ≡ Ended a r ts left → Used (asks (Asked q) f p) a r ts is left
    uses [] a r ts left e = cc
    uses (i ∷ is) a r ts left e = each (f i) refl
      where
        each : (o : Option (Work A)) → f i ≡ o → Used (asks (Asked q) f p) a r ts (i ∷ is) left
        each None h = let e' : Stray (s ∷ []) ≡ Ended a r ts left = rw h at e in cc
        each (Some w) h = Used-asked (asks (Asked q) f p) (w p) s i refl (λ js. ap (λ (o : Option (Work A)). fits_to s o p js) h)
            (λ b r' us js l k. (next i w h).uses js b r' us l k) a r ts is left e

-- ---- the text

-- what was heard last when a run has returned v
abbrev pub Returned : Ask → ℕ → Last → Type 0
Returned q v l = (r : Return) → returned_by q (input.Act (act.Ret v)) ≡ Some r → l ≡ Some r

pub returned-later : (q : Ask) (r : Reply) (v : ℕ) → returned_by (later q r) (input.Act (act.Ret v)) ≡ returned_by q (input.Act (act.Ret v))
returned-later (ask.Routine m) r v = refl
returned-later _ r v = refl

abbrev pub scene_of : Item → Pool → Scene
scene_of item p = record { item = item; before = p; about = None }

-- the works of a free, with so many turns
pub record FreesLawful (n : ℕ) : Type 0 where
  pub unlink : (o : Owner) (x : Obj) (p : Pool) (last : Last) → Lawful last Any (unlink n o x p)
  pub release : (x : Obj) (p : Pool) (last : Last) → Lawful last Any (release n x p)
  pub given : (x : Obj) (o : Owner) (p : Pool) (last : Last) → Lawful last Any (given n x o p)
  pub free : (x : Obj) (p : Pool) (last : Last) → Lawful last Any (free n x p)
  pub hooked : (x : Obj) (h : ℕ) (p : Pool) (last : Last) → Lawful last Any (hooked n x h p)
  pub judged : (x : Obj) (h v : ℕ) (p : Pool) (last : Last) → last ≡ Some (record { object = x; value = v }) → Lawful last Any (judged n x h v p)
  pub preparing : (x : Obj) (p : Pool) (last : Last) → Lawful last Any (preparing n x p)
  pub draining : (x : Obj) (p : Pool) (last : Last) → Lawful last Any (draining n x p)
  pub prepared : (x : Obj) (p : Pool) (last : Last) → Lawful last Any (prepared n x p)
  pub dooming : (x : Obj) (p : Pool) (last : Last) → Lawful last Any (dooming n x p)
  pub leave : (x : Obj) (h : ℕ) (p : Pool) (last : Last) → Lawful last Any (leave n x h p)
  pub children : (x : Obj) (p : Pool) (last : Last) → Lawful last Any (children n x p)
  pub tried : (x c : Obj) (noted : Option Owner) (a : FreeReply) (p : Pool) (last : Last) → Lawful last Any (tried n x c noted a p)

-- those of a caller
pub record CallsLawful (n : ℕ) : Type 0 where
  pub asked : (q : Ask) (p : Pool) (last : Last) → Lawful last (Returned q) (asked n q p)
  pub acting : (q : Ask) (c : Call) (p : Pool) (last : Last) → Lawful last (Returned q) (acting n q c p)
  pub announcing : (q : Ask) (notice : Notice) (r : Reply) (about : Option CallStart) (p : Pool) (last : Last) → Lawful last (Returned q) (announcing n about (later q r) notice r p)
  pub later : (q : Ask) (r : Reply) (about : Option CallStart) (p : Pool) (last : Last) → Lawful last (Returned q) (telling n about (later q r) r p)
  pub returning : (q : Ask) (v : ℕ) (p : Pool) (last : Last) → Returned q v last → Lawful last (Returned q) (returning n v p)

-- those of a turn of the event loop
pub record TurnsLawful (n : ℕ) : Type 0 where
  pub taking : (p : Pool) (last : Last) → Lawful last Any (taking n p)
  pub timing : (again : Bool) (p : Pool) (last : Last) → Lawful last Any (timing n again p)
  pub timed : (again : Bool) (now : ℕ) (p : Pool) (last : Last) → Lawful last Any (timed n again now p)
  pub polling : (limit : ℕ) (p : Pool) (last : Last) → Lawful last Any (polling n limit p)
  pub starting : (what : What) (x : Obj) (occasion : Occasion) (p : Pool) (last : Last) → Lawful last Any (starting n what x occasion p)
  pub firing : (what : What) (x : Obj) (h : Handler) (occasion : Occasion) (p : Pool) (last : Last) → Lawful last Any (firing n what x h occasion p)
  pub handling : (what : What) (x : Obj) (h : Handler) (occasion : Occasion) (p : Pool) (last : Last) → Lawful last Any (handling n what x h occasion p)
  pub handled : (what : What) (x : Obj) (p : Pool) (last : Last) → Lawful last Any (handled n what x p)
  pub closing : (v : ℕ) (p : Pool) (last : Last) → Lawful last Any (closing n v p)

-- those of a question to the outside
pub record OutsideLawful (n : ℕ) : Type 0 where
  pub reaching : (q : Ask) (p : Pool) (last : Last) → Lawful last Any (reaching n q p)
  pub opening : (fd : ℕ) (p : Pool) (last : Last) → Lawful last Any (opening n fd p)
  pub hearing : (r : Reply) (p : Pool) (last : Last) → Lawful last Any (hearing n r p)

-- those of a request, and of a queue, none of which is refused
pub record RequestsLawful (n : ℕ) : Type 0 where
  pub finishing : (x : Obj) (s : State) (p : Pool) (last : Last) → Lawful last Said (finishing n x s p)
  pub receiving : (x : Obj) (p : Pool) (last : Last) → Lawful last Said (receiving n x p)
  pub cancelling : (x : Obj) (p : Pool) (last : Last) → Lawful last Said (cancelling n x p)
  pub cleaning : (x : Obj) (errand : Errand) (p : Pool) (last : Last) → Lawful last Said (cleaning n x errand p)
  pub cleaned : (x : Obj) (errand : Errand) (p : Pool) (last : Last) → Lawful last Said (cleaned n x errand p)
  pub notifying : (x : Obj) (errand : Errand) (p : Pool) (last : Last) → Lawful last Said (notifying n x errand p)
  pub calling : (what : What) (x : Obj) (h : Handler) (errand : Errand) (p : Pool) (last : Last) → Lawful last Said (calling n what x h errand p)
  pub called : (what : What) (x : Obj) (h : Handler) (errand : Errand) (p : Pool) (last : Last) → Lawful last Said (called n what x h errand p)
  pub vacating : (q : Obj) (p : Pool) (last : Last) → Lawful last Said (vacating n q p)
  pub triggering : (q : Obj) (p : Pool) (last : Last) → Lawful last Said (triggering n q p)
  pub over : (r : Reply) (p : Pool) (last : Last) → Said r last → Lawful last Said (over n r p)

-- all works of the text
pub record AllLawful (n : ℕ) : Type 0 where
  pub frees : FreesLawful n
  pub calls : CallsLawful n
  pub turns : TurnsLawful n
  pub outside : OutsideLawful n
  pub requests : RequestsLawful n
