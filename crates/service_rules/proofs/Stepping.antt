-- What goes out still does after each step of a host.
use Rattle.std.proofs.Common.{◌≡◌, ℕ, List, [], ◌∷◌, Option, Some, None, refl, sym, ◌∙◌, subst}
use Rattle.step_machine.specs.Machine.{Move as Do}
use Rattle.tree_specs.specs.declared.event.Event.{Event}
use Rattle.tree_specs.specs.declared.reply.Reply.{Reply}
use Rattle.tree_specs.specs.declared.reply.Reply.TheVariants as reply
use Rattle.tree_specs.specs.declared.question.Ask.{Ask}
use Rattle.tree_specs.specs.declared.question.Ask.TheVariants as ask
use Rattle.tree_specs.specs.declared.question.Input.{Input}
use Rattle.tree_specs.specs.declared.frame.Frame.{Frame}
use Rattle.tree_specs.specs.declared.frame.Frame.TheVariants as frame
use Rattle.tree_specs.specs.declared.frame.CallFrame.TheVariants.{Asking, Doing, Awaiting, Turning, Requesting, Announcing, Telling, Returning}
use Rattle.tree_specs.specs.declared.frame.OutsideFrame.{OutsideFrame}
use Rattle.tree_specs.specs.declared.frame.OutsideFrame.TheVariants.{Reaching, Opening, Hearing}
use Rattle.tree_specs.specs.declared.frame.Answer.TheVariants.{Returned, Heard}
use Rattle.tree_specs.specs.Tree.Pool.{Pool, open_descriptor}
use Rattle.tree_specs.specs.Rules.Items.Item.{Told, Asked}
use Rattle.tree_specs.specs.Rules.Pieces.{notice_event}
use Rattle.tree_specs.specs.Machine.Table.{Step, step, taken}
use Rattle.tree_specs.proofs.Calls.Plans.{IsOutside}
use Rattle.tree_stories.proofs.Outsides.{AsksOutside}
use Rattle.service_rules.specs.Knowledge.{Knowledge}
use Rattle.service_rules.specs.Service.{told, own, heard}
use Rattle.service_rules.specs.Sent.{Ledger, answered}
use Rattle.service_rules.proofs.Owing.{Keeps, Rest, AskedBy, Outer, Stands}
use Rattle.service_rules.proofs.Works.{IsWork, IsStart, LeadsWork, works}
use Rattle.service_rules.proofs.Leading.{GivenFine, AskedFine, LeadsFine}
use Rattle.service_rules.proofs.Standing.{fewer-told, keeps-fewer, rest-fewer, told-fewer, done-fine}
use Rattle.service_rules.proofs.Calling.{run-does, rest-does}
use Rattle.service_rules.proofs.Replying.{reaching-fine, reaching-goes}
use Rattle.service_rules.proofs.Beginning.{rest-asked, routine-asked}

module _ (d : Knowledge) (l : Ledger) (p : Pool) where
  -- ---- works that are no caller's

  work-stands : (e : Knowledge) (next : ℕ) (g : Frame) (fs : List Frame) → IsWork g → Rest e l next fs → Stands e l next g fs
  work-stands e next (frame.Call f) fs i r = absurd i
  work-stands e next (frame.Outside f) fs i r = absurd i
  work-stands e next (frame.Free f) fs i r = r
  work-stands e next (frame.Turn f) fs i r = r
  work-stands e next (frame.Request f) fs i r = r

  rest-on : (next : ℕ) (g : Frame) (fs : List Frame) → IsWork g → Rest d l next fs → Rest d l next (g ∷ fs)
  rest-on next (frame.Call f) fs i r = absurd i
  rest-on next (frame.Outside f) fs i r = absurd i
  rest-on next (frame.Free f) fs i r = r
  rest-on next (frame.Turn f) fs i r = r
  rest-on next (frame.Request f) fs i r = r

  start-stands : (next : ℕ) (h : Frame) (fs : List Frame) → IsStart h → Rest d l next fs → Stands d l next h fs
  start-stands next (frame.Free f) fs i r = r
  start-stands next (frame.Turn f) fs i r = r
  start-stands next (frame.Request f) fs i r = r
  start-stands next (frame.Outside f) fs i r = absurd i
  start-stands next (frame.Call (Asking (ask.Routine m))) fs i r = subst (λ (o : Option Reply). AskedBy d l next m o fs) (sym i.0) (i.1, r)
  start-stands next (frame.Call _) fs i r = absurd i

  keeps-at : (e : Knowledge) (q : Pool) → q.next ≡ p.next → Keeps e l p.next → Keeps e l q.next
  keeps-at e q is k = subst (Keeps e l) (sym is) k

  -- a turn's question
  turn-asked : (q : Ask) (g : Frame) (fs : List Frame) (r : Pool) → own d (record { ask = q; pool = p }) ≡ None → ((i : Input) → heard d q i ≡ d) → ((i : Input) → answered l q i ≡ l) → r.next ≡ p.next → ((i : Input) (h : Frame) → taken g r i ≡ Some h → IsWork h)
      → Keeps d l p.next → Rest d l p.next fs → AskedFine d l p q g fs r
  turn-asked q g fs r none hears answers next leads k w = record {
    before = λ e. (keeps-at d r next k, w.0);
    outside = λ e i fair. subst (λ (z : Knowledge). GivenFine z (answered l q i) r.next fs (taken g r i)) (sym (hears i)) (subst (λ (z : Ledger). GivenFine d z r.next fs (taken g r i)) (sym (answers i)) (each i (taken g r i) refl));
    itself = λ a e. let f : None ≡ Some a = sym none ∙ e in cc;
  }
    where
      each : (i : Input) (o : Option Frame) → taken g r i ≡ o → GivenFine d l r.next fs o
      each i None e = (keeps-at d r next k, w.0)
      each i (Some h) e = record { keeps = keeps-at d r next k; stands = work-stands d r.next h fs (leads i h e) w }

  works-fine : (m : Step) (fs : List Frame) → LeadsWork p m → Keeps d l p.next → Rest d l p.next fs → LeadsFine d l p m fs
  works-fine (Do.Done a q) [] leads k w = tt
  works-fine (Do.Done a q) (g ∷ gs) leads k w = done-fine d l q.next g gs a (keeps-at d q leads.0 k) w
  works-fine (Do.Go g q) fs leads k w = record { keeps = keeps-at d q leads.1 k; stands = work-stands d q.next g fs leads.0 w }
  works-fine (Do.Emit (Told e) g q) fs leads k w =
      let f = fewer-told d e in record {
        keeps = keeps-at (told d e) q leads.2 (keeps-fewer d (told d e) l p.next f k);
        stands = work-stands (told d e) q.next g fs leads.1 (rest-fewer d (told d e) l q.next f fs w);
      }
  works-fine (Do.Emit (Asked a) g q) fs leads k w = tt
  works-fine (Do.Wait (Told e) g q) fs leads k w = tt
  works-fine (Do.Wait (Asked ask.Clock) g q) fs leads k w = turn-asked ask.Clock g fs q refl (λ i. refl) (λ i. refl) leads.1 leads.2 k w
  works-fine (Do.Wait (Asked (ask.Wait limit)) g q) fs leads k w = turn-asked (ask.Wait limit) g fs q refl (λ i. refl) (λ i. refl) leads.1 leads.2 k w
  works-fine (Do.Wait (Asked _) g q) fs leads k w = absurd leads.0
  works-fine (Do.Call h g q) fs leads k w = record { keeps = keeps-at d q leads.2 k; stands = start-stands q.next h (g ∷ fs) leads.0 (rest-on q.next g fs leads.1 w) }

  -- ---- the outside

  pub own-none : (q : Ask) → IsOutside q → own d (record { ask = q; pool = p }) ≡ None
  own-none ask.Quiet o = absurd o
  own-none (ask.Routine m) o = absurd o
  own-none (ask.Wait limit) o = absurd o
  own-none ask.Clock o = refl
  own-none (ask.Accept fd) o = refl
  own-none (ask.Read fd most) o = refl
  own-none (ask.Write fd bytes) o = refl

  heard-by : (f : OutsideFrame) (r : Reply) (q : Pool) (fs : List Frame) → Outer d l p.next (Hearing r) fs → q.next ≡ p.next → Keeps d l p.next → LeadsFine d l p (Do.Done (Heard r) q) fs
  heard-by f r q (frame.Call (Turning (ask.Routine m)) ∷ fs) w is k = record { keeps = keeps-at d q is k; stands = (refl, subst (λ (n : ℕ). Outer d l n (Hearing r) (frame.Call (Turning (ask.Routine m)) ∷ fs)) (sym is) w) }
  heard-by f r q _ w is k = absurd w

  opened-as : (fd : ℕ) (fs : List Frame) → Outer d l p.next (Opening fd) fs → Outer d l p.next (Hearing (reply.Number fd)) fs
  opened-as fd (frame.Call (Turning (ask.Routine m)) ∷ fs) w = w
  opened-as fd _ w = absurd w

  -- ---- all works

  pub step-fine : (f : Frame) (fs : List Frame) → AsksOutside f → Keeps d l p.next → Stands d l p.next f fs → LeadsFine d l p (step f p) fs
  step-fine (frame.Free f) fs o k w = works-fine (step (frame.Free f) p) fs (works (frame.Free f) p tt) k w
  step-fine (frame.Turn f) fs o k w = works-fine (step (frame.Turn f) p) fs (works (frame.Turn f) p tt) k w
  step-fine (frame.Request f) fs o k w = works-fine (step (frame.Request f) p) fs (works (frame.Request f) p tt) k w
  step-fine (frame.Outside (Reaching q)) fs o k w = record {
    before = λ e. (k, reaching-goes d l p.next q fs w);
    outside = λ e i fair. reaching-fine d l p q fs i k o w fair;
    itself = λ a e. let f : None ≡ Some a = sym (own-none q o) ∙ e in cc;
  }
  step-fine (frame.Outside (Opening fd)) fs o k w = heard-by (Opening fd) (reply.Number fd) (open_descriptor p fd) fs (opened-as fd fs w) refl k
  step-fine (frame.Outside (Hearing r)) fs o k w = heard-by (Hearing r) r p fs w refl k
  step-fine (frame.Call (Asking ask.Quiet)) fs o k w = rest-asked d l fs p k w
  step-fine (frame.Call (Asking (ask.Routine m))) fs o k w = routine-asked d l fs p m k w
  step-fine (frame.Call (Asking _)) fs o k w = absurd w
  step-fine (frame.Call (Doing ask.Quiet c)) fs o k w = rest-does d l fs p c k w
  step-fine (frame.Call (Doing (ask.Routine m) c)) fs o k w = run-does d l fs p m c k w
  step-fine (frame.Call (Doing _ c)) fs o k w = absurd w
  step-fine (frame.Call (Announcing q notice r)) fs o k w =
      let e : Event = notice_event notice in let f = fewer-told d e in
      record { keeps = keeps-fewer d (told d e) l p.next f k; stands = told-fewer d (told d e) l p.next f q r fs w }
  step-fine (frame.Call (Telling ask.Quiet r)) fs o k w = record { keeps = k; stands = w }
  step-fine (frame.Call (Telling (ask.Routine m) r)) fs o k w = record { keeps = k; stands = subst (λ (z : Option Reply). AskedBy d l p.next m z fs) (sym w.0) w.1 }
  step-fine (frame.Call (Telling _ r)) fs o k w = absurd w
  step-fine (frame.Call (Returning v)) [] o k w = tt
  step-fine (frame.Call (Returning v)) (g ∷ gs) o k w = done-fine d l p.next g gs (Returned v) k w
  step-fine (frame.Call (Awaiting q x)) fs o k w = absurd w
  step-fine (frame.Call (Turning q)) fs o k w = absurd w
  step-fine (frame.Call (Requesting q)) fs o k w = absurd w
