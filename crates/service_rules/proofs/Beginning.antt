-- What goes out still does where a caller is asked: the host's own, a routine of the service's, and one of the outside.
use Rattle.std.proofs.Common.{◌≡◌, ℕ, zero, suc, Bool, true, false, List, [], ◌∷◌, Option, Some, None, refl, sym, ◌∙◌, ap, subst}
use Rattle.std.specs.Prelude.{nat_lt}
use Rattle.tree_specs.specs.declared.object.Obj.{Obj}
use Rattle.tree_specs.specs.declared.reply.Reply.{Reply}
use Rattle.tree_specs.specs.declared.moment.Moment.{Moment}
use Rattle.tree_specs.specs.declared.moment.What.{What}
use Rattle.tree_specs.specs.declared.moment.What.TheVariants as what
use Rattle.tree_specs.specs.declared.question.Act.TheVariants.{Do, Ret}
use Rattle.tree_specs.specs.declared.question.Ask.TheVariants as ask
use Rattle.tree_specs.specs.declared.question.Input.{Input}
use Rattle.tree_specs.specs.declared.question.Input.TheVariants as input
use Rattle.tree_specs.specs.declared.frame.Frame.{Frame}
use Rattle.tree_specs.specs.declared.frame.Frame.TheVariants as frame
use Rattle.tree_specs.specs.declared.frame.CallFrame.TheVariants.{Asking}
use Rattle.tree_specs.specs.Words.Objects.{same}
use Rattle.tree_specs.specs.Words.Ranges.{is_sound_call, is_return}
use Rattle.tree_specs.specs.Tree.Pool.{Pool}
use Rattle.tree_specs.specs.Machine.Table.{taken, doing, returning}
use Rattle.tree_specs.proofs.Tree.Numbered.{by_test}
use Rattle.tree_stories.specs.Sights.{Opening}
use Rattle.service_rules.specs.declared.task.Kept.{Kept}
use Rattle.service_rules.specs.declared.task.Run.{Run}
use Rattle.service_rules.specs.declared.task.Run.TheVariants.{Own, Outside}
use Rattle.service_rules.specs.declared.task.Serving.{Serving}
use Rattle.service_rules.specs.Knowledge.{Connection, Knowledge, Setup, connection_of, kept_of, with_run, without_run, rest_of}
use Rattle.service_rules.specs.Knowledge.Setup.{Nothing, Unwatched, Complete}
use Rattle.service_rules.specs.Knowledge.{resting_call}
use Rattle.service_rules.specs.Tasks.{object}
use Rattle.service_rules.specs.Routines.{Next, served, if_listener, if_its_event, ready, begins_serving, begins_notice, begins_notifying, begins_trigger, begins_first, begins_second, begins_third, begins_fourth, begins_with, begins, resumes, comes_to, does_next, next_act}
use Rattle.service_rules.specs.Routines.Next.{Does, Returns}
use Rattle.service_rules.specs.Service.{own, own_if, at_rest, answer_of, done_if, first_of_outside, heard, after_act}
use Rattle.service_rules.specs.Sent.{Ledger, answered, says}
use Rattle.service_rules.specs.Fair.{is_fair}
use Rattle.service_rules.proofs.Owing.{whole, Keeps, Before, After, IsOwn, Top, Below, Rest, AskedBy, IsResting, Fine}
use Rattle.service_rules.proofs.Growing.{speaks, appends-nothing, appends-becomes, became-keeps, became-goes}
use Rattle.service_rules.proofs.Acting.{ActsFine, does-acts}
use Rattle.service_rules.proofs.Heeding.{heeds}
use Rattle.service_rules.proofs.Leading.{GivenFine, AskedFine}

-- ---- a routine of the service's

module _ (d : Knowledge) (l : Ledger) (next : ℕ) where
  served-before : (s : Obj) (o : Option Serving) → Before d l next (served s o)
  served-before s None = tt
  served-before s (Some at) = tt

  first-before : (m : Moment) (w : What) → Before d l next (begins_first m w)
  first-before m what.Descriptor = each (same m.object _)
    where
      each : (b : Bool) → Before d l next (if_listener b)
      each true = tt
      each false = tt
  first-before m _ = tt

  serving-before : (m : Moment) (o : Option Connection) → Before d l next (begins_serving m o)
  serving-before m None = tt
  serving-before m (Some c) = each (same c.event m.object)
    where
      each : (b : Bool) → Before d l next (if_its_event b (object m.user) (ready m.flags c))
      each true = served-before (object m.user) (ready m.flags c)
      each false = tt

  second-before : (m : Moment) (w : What) → Before d l next (begins_second d m w)
  second-before m what.Descriptor = serving-before m (connection_of d (object m.user))
  second-before m _ = tt

  third-before : (m : Moment) (w : What) → Before d l next (begins_third d m w)
  third-before m what.Callback = each (kept_of d m.object)
    where
      notice : (k : Kept) (o : Option Connection) → Before d l next (begins_notice m.object k o)
      notice k None = tt
      notice k (Some c) = tt

      each : (o : Option Kept) → Before d l next (begins_notifying d m.object o)
      each None = tt
      each (Some k) = notice k (connection_of d k.session)
  third-before m _ = tt

  fourth-before : (m : Moment) (w : What) → Before d l next (begins_fourth d m w)
  fourth-before m what.Trigger = each (kept_of d m.object)
    where
      each : (o : Option Kept) → Before d l next (begins_trigger m o)
      each None = tt
      each (Some k) = tt
  fourth-before m _ = tt

  begins-before : (n : ℕ) (m : Moment) → Before d l next (begins_with n d m)
  begins-before zero m = tt
  begins-before (suc zero) m = first-before m m.what
  begins-before (suc (suc zero)) m = second-before m m.what
  begins-before (suc (suc (suc zero))) m = third-before m m.what
  begins-before (suc (suc (suc (suc zero)))) m = fourth-before m m.what
  begins-before (suc (suc (suc (suc (suc n))))) m = tt

  next-acts : (fs : List Frame) (p : Pool) (m : Moment) (o : Option Reply) → Keeps d l next → AskedBy d l next m o fs → ActsFine d l next fs (does_next p (comes_to d m o))
  next-acts fs p m None k w = does-acts d l next fs k w.1.0 p d (begins d m) (appends-nothing d d refl) w.1.1 (begins-before m.routine m)
  next-acts fs p m (Some r) k w = each d.runs refl w.1
    where
      each : (runs : List Run) → d.runs ≡ runs → Top (After d l next r) (Below fs) runs → ActsFine d l next fs (does_next p (resumes d r runs))
      each (Own t ∷ runs) is top = heeds d l next fs k p (without_run d) refl (subst (λ (z : List Run). Below fs (rest_of z)) (sym is) top.1) t r top.0
      each [] is top = absurd top
      each (Outside ∷ runs) is top = absurd top

  -- its answer
  answer-fine : (fs : List Frame) (m : Moment) (n : Next) (q : Pool) → IsOwn m → ActsFine d l next fs n → (h : Frame) → taken (frame.Call (Asking (ask.Routine m))) q (answer_of n).0 ≡ Some h → Fine (answer_of n).1 (says l d (Some (answer_of n))) h fs next
  answer-fine fs m (Returns e) q mine s h t =
      let i : returning 0 ≡ h = cc in
      subst (λ (z : Frame). Fine e (speaks l d e) z fs next) i (record { keeps = s.keeps; stands = (s.goes, s.below) })
  answer-fine fs m (Does c t e) q mine s h k = each (is_sound_call c) refl k
    where
      returned : Fine e (speaks l d e) (returning 0) fs next
      returned = record { keeps = s.0.keeps; stands = (s.0.goes, s.0.below) }

      done : Fine (with_run (Own t) e) (speaks l d e) (doing (ask.Routine m) c) fs next
      done = let k = s.0.keeps in record {
        keeps = record { sorted = k.sorted; distinct = k.distinct; young = k.young; unsaid = k.unsaid };
        stands = (mine, s.0.goes, ((s.1, s.2), s.0.below));
      }

      each : (b : Bool) → is_sound_call c ≡ b → taken (frame.Call (Asking (ask.Routine m))) q (done_if b c t e).0 ≡ Some h → Fine (done_if b c t e).1 (says l d (Some (done_if b c t e))) h fs next
      each true is k =
          let k' : Some (doing (ask.Routine m) c) ≡ Some h = rw is at k in
          let i : doing (ask.Routine m) c ≡ h = cc in subst (λ (z : Frame). Fine (with_run (Own t) e) (speaks l d e) z fs next) i done
      each false is k = let i : returning 0 ≡ h = cc in subst (λ (z : Frame). Fine e (speaks l d e) z fs next) i returned

-- ---- the host's own caller

resting : (d : Knowledge) (l : Ledger) (next : ℕ) (s : Setup) → IsResting d l next (resting_call s)
resting d l next Nothing = tt
resting d l next Unwatched = tt
resting d l next Complete = tt

pub rest-asked : (d : Knowledge) (l : Ledger) (fs : List Frame) (p : Pool) → Keeps d l p.next → Rest d l p.next fs → AskedFine d l p ask.Quiet (frame.Call (Asking ask.Quiet)) fs p
rest-asked d l fs p k w = record { before = λ e. cc; outside = λ e. cc; itself = λ a e h t. mine a e h t }
  where
    e : Knowledge
    e = (at_rest d).1

    quiet : Fine e (speaks l d e) (doing ask.Quiet (resting_call d.setup)) fs p.next
    quiet = let b = appends-becomes d e l p.next k (appends-nothing d e refl) in record {
      keeps = became-keeps d l p.next 0 whole e b k;
      stands = (resting e (speaks l d e) p.next d.setup, (became-goes d l p.next 0 whole e b w.0, w.1));
    }

    mine : (a : Input × Knowledge) → own d (record { ask = ask.Quiet; pool = p }) ≡ Some a → (h : Frame) → taken (frame.Call (Asking ask.Quiet)) p a.0 ≡ Some h → Fine a.1 (says l d (Some a)) h fs p.next
    mine a is h t =
        let i : at_rest d ≡ a = cc in
        let t' : taken (frame.Call (Asking ask.Quiet)) p (at_rest d).0 ≡ Some h = ap (λ (z : Input × Knowledge). taken (frame.Call (Asking ask.Quiet)) p z.0) i ∙ t in
        subst (λ (z : Input × Knowledge). Fine z.1 (says l d (Some z)) h fs p.next) i
        (by_test (is_sound_call (resting_call d.setup))
        (λ b. let k' : Some (doing ask.Quiet (resting_call d.setup)) ≡ Some h = rw b at t' in
        let j : doing ask.Quiet (resting_call d.setup) ≡ h = cc in subst (λ (z : Frame). Fine e (speaks l d e) z fs p.next) j quiet)
        (λ b. let k' : None ≡ Some h = rw b at t' in cc))

-- ---- a routine

pub routine-asked : (d : Knowledge) (l : Ledger) (fs : List Frame) (p : Pool) (m : Moment) → Keeps d l p.next → AskedBy d l p.next m m.last fs → AskedFine d l p (ask.Routine m) (frame.Call (Asking (ask.Routine m))) fs p
routine-asked d l fs p m k w = by_test (nat_lt m.routine first_of_outside) itself outside
  where
    opening : Opening
    opening = record { ask = ask.Routine m; pool = p }

    itself : IsOwn m → AskedFine d l p (ask.Routine m) (frame.Call (Asking (ask.Routine m))) fs p
    itself i = record {
      before = λ e. let f : Some (answer_of (next_act d p m)) ≡ None = sym mine ∙ e in cc;
      outside = λ e. let f : Some (answer_of (next_act d p m)) ≡ None = sym mine ∙ e in cc;
      itself = λ a e h t.
          let f : Some (answer_of (next_act d p m)) ≡ Some a = sym mine ∙ e in
          let g : answer_of (next_act d p m) ≡ a = cc in
          subst (λ (z : Input × Knowledge). Fine z.1 (says l d (Some z)) h fs p.next) g
          (answer-fine d l p.next fs m (next_act d p m) p i (next-acts d l p.next fs p m m.last k w) h (ap (λ (z : Input × Knowledge). taken (frame.Call (Asking (ask.Routine m))) p z.0) g ∙ t));
    }
      where
        mine : own d opening ≡ Some (answer_of (next_act d p m))
        mine = ap (λ (b : Bool). own_if b (next_act d p m)) i

    outside : nat_lt m.routine first_of_outside ≡ false → AskedFine d l p (ask.Routine m) (frame.Call (Asking (ask.Routine m))) fs p
    outside i = record {
      before = λ e. (k, begun.1.0);
      outside = λ e j fair. given j fair;
      itself = λ a e. let f : None ≡ Some a = sym (ap (λ (b : Bool). own_if b (next_act d p m)) i) ∙ e in cc;
    }
      where
        begun : (m.step ≡ 0) × Rest d l p.next fs
        begun = each m.last w
          where
            each : (o : Option Reply) → AskedBy d l p.next m o fs → (m.step ≡ 0) × Rest d l p.next fs
            each None v = v
            each (Some r) v = let v' : nat_lt m.routine first_of_outside ≡ true = v.0 in let c : true ≡ false = sym v' ∙ i in cc

        given : (j : Input) → is_fair d (ask.Routine m) j ≡ true → GivenFine (heard d (ask.Routine m) j) (answered l (ask.Routine m) j) p.next fs (taken (frame.Call (Asking (ask.Routine m))) p j)
        given (input.Act (Do c)) fair = cc
        given (input.Act (Ret v)) fair = subst (λ (z : ℕ). GivenFine (after_act d z (Ret v)) l p.next fs (taken (frame.Call (Asking (ask.Routine m))) p (input.Act (Ret v)))) (sym begun.0)
            (by_test (is_return v) (λ t. rw t (record { keeps = k; stands = begun.1 })) (λ t. rw t (k, begun.1.0)))
        given _ fair = (k, begun.1.0)
