-- Kept connections stay attended where a turn or a caller is asked.
use Rattle.std.proofs.Common.{◌≡◌, ℕ, Bool, true, false, List, [], ◌∷◌, Option, Some, None, refl, sym, ◌∙◌, ap, subst, inl, inr}
use Rattle.std.specs.Prelude.{nat_lt}
use Rattle.step_machine.specs.Machine.{Move as Do}
use Rattle.tree_specs.specs.declared.object.Obj.{Obj}
use Rattle.tree_specs.specs.declared.reply.Reply.{Reply}
use Rattle.tree_specs.specs.declared.moment.Moment.{Moment}
use Rattle.tree_specs.specs.declared.moment.What.TheVariants as what
use Rattle.tree_specs.specs.declared.question.Act.TheVariants.{Do as DoAct, Ret}
use Rattle.tree_specs.specs.declared.question.Ask.{Ask}
use Rattle.tree_specs.specs.declared.question.Ask.TheVariants as ask
use Rattle.tree_specs.specs.declared.question.Input.{Input}
use Rattle.tree_specs.specs.declared.question.Input.TheVariants as input
use Rattle.tree_specs.specs.declared.frame.Frame.{Frame}
use Rattle.tree_specs.specs.declared.frame.Frame.TheVariants as frame
use Rattle.tree_specs.specs.declared.frame.CallFrame.{CallFrame}
use Rattle.tree_specs.specs.declared.frame.CallFrame.TheVariants.{Asking, Doing, Returning}
use Rattle.tree_specs.specs.Rules.Items.Item.{Asked}
use Rattle.tree_specs.specs.Tree.Pool.{Pool}
use Rattle.tree_specs.specs.Words.Ranges.{is_sound_call, is_return}
use Rattle.tree_specs.specs.Machine.Table.{taken, doing, returning}
use Rattle.tree_specs.specs.Invariants.Consistent.{IsConsistent, IsStacked}
use Rattle.tree_specs.proofs.Tree.Numbered.{by_test}
use Rattle.tree_specs.proofs.Calls.Checks.{Heard, heard-leads}
use Rattle.tree_specs.proofs.Calls.Checks.Heard.{HeardCall, HeardReturn}
use Rattle.service_rules.specs.declared.task.Run.{Run}
use Rattle.service_rules.specs.declared.task.Run.TheVariants.{Own, Outside}
use Rattle.service_rules.specs.declared.task.Task.{Task}
use Rattle.service_rules.specs.Knowledge.{Connection, Knowledge}
use Rattle.service_rules.specs.Tasks.{object}
use Rattle.service_rules.specs.Routines.{Next, next_act}
use Rattle.service_rules.specs.Routines.Next.{Does, Returns}
use Rattle.service_rules.specs.Service.{own, own_if, at_rest, answer_of, done_if, first_of_outside, heard, after_act}
use Rattle.service_rules.specs.Sent.{Ledger, answered, is_no_act}
use Rattle.service_rules.proofs.Owing.{IsKnown, IsOwn, Top, Below, AskedBy}
use Rattle.service_rules.proofs.Leading.{GivenFine, AskedFine}
use Rattle.service_rules.proofs.Works.{IsWork}
use Rattle.service_rules.proofs.Seating.{LeadsSeats}
use Rattle.service_rules.proofs.Sparing.{AllSpare, Tends, LeadsTends}
use Rattle.service_rules.proofs.NewEvents.{Stacks, alone}
use Rattle.service_rules.proofs.KidsBelow.{KidsBelow}
use Rattle.service_rules.proofs.Clean.{Clean}
use Rattle.service_rules.proofs.Claiming.{Claims}
use Rattle.service_rules.proofs.Answering.{Known, ActsWell, next-claims}
use Rattle.service_rules.proofs.Attending.{AllTend, Attended, AskedAttended, work-claims}

-- ---- what a run stands on

pub stacks : (f : Frame) (fs : List Frame) → IsStacked f fs → Stacks fs
stacks f [] s = tt
stacks f (g ∷ gs) s = s.1

pub top-below : (P : Task → Type 0) (fs : List Frame) (runs : List Run) → Top P (Below fs) runs → (rs : List Run) × Below fs rs
top-below P fs (Own t ∷ runs) w = (runs, w.1)
top-below P fs [] w = absurd w
top-below P fs (Outside ∷ runs) w = absurd w

asked-below : (d : Knowledge) (l : Ledger) (next : ℕ) (m : Moment) (fs : List Frame) (o : Option Reply) → AskedBy d l next m o fs → (rs : List Run) × Below fs rs
asked-below d l next m fs None w = (d.runs, w.1.1)
asked-below d l next m fs (Some r) w = top-below _ fs d.runs w.1

-- ---- the events of connections

tends-as : (p : Pool) (fs : List Frame) (k : Obj) (g h : CallFrame) (b c : Connection) → b.event ≡ c.event → b.descriptor ≡ c.descriptor → Tends c.event k c.descriptor (frame.Call g) fs p → Tends b.event k b.descriptor (frame.Call h) fs p
tends-as p fs k g h b c event descriptor t = subst (λ (z : Obj). Tends z k b.descriptor (frame.Call h) fs p) (sym event) (subst (λ (n : ℕ). Tends c.event k n (frame.Call h) fs p) (sym descriptor) t)

known-tends : (d f : Knowledge) (p : Pool) (m : Moment) (g h : CallFrame) (fs : List Frame) → Known d p m f → (m.what ≡ what.Descriptor → (e k : Obj) → AllSpare e k fs) → AllTend d (frame.Call g) fs p → AllTend f (frame.Call h) fs p
known-tends d f p m g h fs known spare tends k b i = elim (known k b i) [
  | inl v ↦ tends-as p fs (object k) g h b v.0 v.2 v.3 (tends k v.0 v.1)
  | inr t ↦ inl (t.0, (tt, spare t.1 b.event (object k)))
]

module _ (d : Knowledge) (l : Ledger) (fs : List Frame) (p : Pool) where
  -- each answer to the question spares the events of all connections
  abbrev pub AllLead : Ask → Frame → Pool → Type 0
  AllLead q g r = (k : ℕ) (c : Connection) → IsKnown d k c → LeadsTends c.event (object k) c.descriptor (Do.Wait (Asked q) g r) fs

  -- ---- a turn's question

  worked : (q : Ask) (g h : Frame) (r : Pool) (i : Input) → taken g r i ≡ Some h → GivenFine d l r.next fs (taken g r i) → LeadsSeats (Do.Wait (Asked q) g r) fs → KidsBelow r → Clean d r.next → AllLead q g r → IsWork h → Attended d l h fs r
  worked q g h r i t fine seats kids clean leads work = record {
    fine = subst (GivenFine d l r.next fs) t fine;
    seats = seats i h t;
    kids = kids;
    clean = clean;
    claims = work-claims d r h fs work;
    tends = λ k c known. leads k c known i h t;
  }

  pub clock-attended : (g : Frame) (r : Pool) → AskedFine d l p ask.Clock g fs r → LeadsSeats (Do.Wait (Asked ask.Clock) g r) fs → KidsBelow r → Clean d r.next → AllLead ask.Clock g r → ((i : Input) (h : Frame) → taken g r i ≡ Some h → IsWork h)
      → AskedAttended d l p ask.Clock g fs r
  clock-attended g r fine seats kids clean leads work = record {
    outside = λ e i h t acts. (acts, worked ask.Clock g h r i t (fine.outside e i acts) seats kids clean leads (work i h t));
    itself = λ a e. let f : None ≡ Some a = e in cc;
  }

  pub wait-attended : (limit : ℕ) (g : Frame) (r : Pool) → AskedFine d l p (ask.Wait limit) g fs r → LeadsSeats (Do.Wait (Asked (ask.Wait limit)) g r) fs → KidsBelow r → Clean d r.next → AllLead (ask.Wait limit) g r → ((i : Input) (h : Frame) → taken g r i ≡ Some h → IsWork h)
      → AskedAttended d l p (ask.Wait limit) g fs r
  wait-attended limit g r fine seats kids clean leads work = record {
    outside = λ e i h t acts. (acts, worked (ask.Wait limit) g h r i t (fine.outside e i acts) seats kids clean leads (work i h t));
    itself = λ a e. let f : None ≡ Some a = e in cc;
  }

  -- ---- the host's own caller

  quiet-claims : (e : Knowledge) (h : Frame) → Heard ask.Quiet h → Claims e p h fs
  quiet-claims e _ (HeardCall c) = tt
  quiet-claims e _ (HeardReturn v o) = absurd o

  pub rest-attended : AskedFine d l p ask.Quiet (frame.Call (Asking ask.Quiet)) fs p → LeadsSeats (Do.Wait (Asked ask.Quiet) (frame.Call (Asking ask.Quiet)) p) fs → KidsBelow p → Clean d p.next → AllLead ask.Quiet (frame.Call (Asking ask.Quiet)) p
      → AskedAttended d l p ask.Quiet (frame.Call (Asking ask.Quiet)) fs p
  rest-attended fine seats kids clean leads = record {
    outside = λ e. cc;
    itself = λ a e h t. let i : at_rest d ≡ a = cc in record {
      fine = fine.itself a e h t;
      seats = seats a.0 h t;
      kids = kids;
      clean = subst (λ (z : Input × Knowledge). Clean z.1 p.next) i (record { base = clean.base; events = clean.events; runs = clean.runs });
      claims = quiet-claims a.1 h (heard-leads ask.Quiet a.0 h t);
      tends = subst (λ (z : Input × Knowledge). AllTend z.1 h fs p) i (λ k c known. leads k c known a.0 h t);
    };
  }

  -- ---- a routine

  module _ (m : Moment) (whole : IsConsistent (record { innermost = frame.Call (Asking (ask.Routine m)); below = fs; pool = p })) (before : Attended d l (frame.Call (Asking (ask.Routine m))) fs p) where
    asked : AskedBy d l p.next m m.last fs
    asked = before.fine.stands

    -- one for an event on a descriptor stands on the turn alone
    spare : m.what ≡ what.Descriptor → (e k : Obj) → AllSpare e k fs
    spare is e k = let b = asked-below d l p.next m fs m.last asked in
        (alone fs b.0 (before.seats.0 is) whole.sound.waiting (stacks (frame.Call (Asking (ask.Routine m))) fs whole.seated) b.1 e k).1

    abbrev Leads : Input × Knowledge → Frame → Type 0
    Leads a h = Clean a.1 p.next × Claims a.1 p h fs × AllTend a.1 h fs p

    answer-leads : (n : Next) → ActsWell d p m n → (h : Frame) → taken (frame.Call (Asking (ask.Routine m))) p (answer_of n).0 ≡ Some h → Leads (answer_of n) h
    answer-leads (Returns f) w h t =
        let i : returning 0 ≡ h = cc in
        subst (Leads (answer_of (Returns f))) i (w.1, tt, known-tends d f p m (Asking (ask.Routine m)) (Returning 0) fs w.0 spare before.tends)
    answer-leads (Does c u f) w h k = each (is_sound_call c) refl k
      where
        each : (b : Bool) → is_sound_call c ≡ b → taken (frame.Call (Asking (ask.Routine m))) p (done_if b c u f).0 ≡ Some h → Leads (done_if b c u f) h
        each true is k =
            let k' : Some (doing (ask.Routine m) c) ≡ Some h = rw is at k in
            let i : doing (ask.Routine m) c ≡ h = cc in
            subst (Leads (done_if true c u f)) i (w.2, (w.3, w.4), known-tends d f p m (Asking (ask.Routine m)) (Doing (ask.Routine m) c) fs w.0 spare before.tends)
        each false is k =
            let i : returning 0 ≡ h = cc in
            subst (Leads (done_if false c u f)) i (w.1, tt, known-tends d f p m (Asking (ask.Routine m)) (Returning 0) fs w.0 spare before.tends)

    module _ (fine : AskedFine d l p (ask.Routine m) (frame.Call (Asking (ask.Routine m))) fs p) (seats : LeadsSeats (Do.Wait (Asked (ask.Routine m)) (frame.Call (Asking (ask.Routine m))) p) fs) (leads : AllLead (ask.Routine m) (frame.Call (Asking (ask.Routine m))) p) where
      -- the service's own
      own-attended : IsOwn m → AskedAttended d l p (ask.Routine m) (frame.Call (Asking (ask.Routine m))) fs p
      own-attended is = record {
        outside = λ e. let f : Some (answer_of (next_act d p m)) ≡ None = sym mine ∙ e in cc;
        itself = λ a e h t.
            let f : Some (answer_of (next_act d p m)) ≡ Some a = sym mine ∙ e in
            let g : answer_of (next_act d p m) ≡ a = cc in
            let w : Leads a h = subst (λ (z : Input × Knowledge). Leads z h) g
            (answer-leads (next_act d p m) (next-claims d p m before.clean m.last before.claims) h (ap (λ (z : Input × Knowledge). taken (frame.Call (Asking (ask.Routine m))) p z.0) g ∙ t)) in
            record { fine = fine.itself a e h t; seats = seats a.0 h t; kids = before.kids; clean = w.0; claims = w.1; tends = w.2 };
      }
        where
          mine : own d (record { ask = ask.Routine m; pool = p }) ≡ Some (answer_of (next_act d p m))
          mine = ap (λ (b : Bool). own_if b (next_act d p m)) is

      -- one of the outside that does no act returns
      returned : (i : Input) (h : Frame) → is_no_act i ≡ true → taken (frame.Call (Asking (ask.Routine m))) p i ≡ Some h → (v : ℕ) × (h ≡ returning v)
      returned (input.Act (DoAct c)) h acts t = cc
      returned (input.Act (Ret v)) h acts t = by_test (is_return v)
          (λ b. let t' : Some (returning v) ≡ Some h = rw b at t in (v, cc))
          (λ b. let t' : None ≡ Some h = rw b at t in cc)
      returned _ h acts t = cc

      hears-same : (i : Input) → m.step ≡ 0 → is_no_act i ≡ true → heard d (ask.Routine m) i ≡ d
      hears-same (input.Act (DoAct c)) step acts = cc
      hears-same (input.Act (Ret v)) step acts = ap (λ (z : ℕ). after_act d z (Ret v)) step
      hears-same _ step acts = refl

      begun : nat_lt m.routine first_of_outside ≡ false → (o : Option Reply) → AskedBy d l p.next m o fs → m.step ≡ 0
      begun i None v = v.0
      begun i (Some r) v = let v' : nat_lt m.routine first_of_outside ≡ true = v.0 in let c : true ≡ false = sym v' ∙ i in cc

      others-attended : nat_lt m.routine first_of_outside ≡ false → AskedAttended d l p (ask.Routine m) (frame.Call (Asking (ask.Routine m))) fs p
      others-attended is = record {
        outside = λ e i h t acts.
            let same : heard d (ask.Routine m) i ≡ d = hears-same i (begun is m.last asked) acts in
            let v = returned i h acts t in (
              acts,
              record {
                fine = subst (GivenFine (heard d (ask.Routine m) i) (answered l (ask.Routine m) i) p.next fs) t (fine.outside e i acts);
                seats = seats i h t;
                kids = before.kids;
                clean = subst (λ (z : Knowledge). Clean z p.next) (sym same) before.clean;
                claims = subst (λ (z : Frame). Claims (heard d (ask.Routine m) i) p z fs) (sym v.1) tt;
                tends = subst (λ (z : Knowledge). AllTend z h fs p) (sym same) (λ k c known. leads k c known i h t);
              },
            );
        itself = λ a e. let f : None ≡ Some a = sym (ap (λ (b : Bool). own_if b (next_act d p m)) is) ∙ e in cc;
      }

      pub routine-attended : AskedAttended d l p (ask.Routine m) (frame.Call (Asking (ask.Routine m))) fs p
      routine-attended = by_test (nat_lt m.routine first_of_outside) own-attended others-attended
