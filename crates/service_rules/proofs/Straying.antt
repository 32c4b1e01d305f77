-- Where the last answer fits and no answer of the outside is an act, all are fair.
use Rattle.std.proofs.Common.{◌≡◌, ◌&&◌, Bool, true, false, List, [], ◌∷◌, ◌++◌, Option, Some, None, refl, sym, ◌∙◌, subst}
use Rattle.step_machine.specs.Machine.{Move as Do}
use Rattle.machine_driver.specs.Driver.{Driver}
use Rattle.machine_driver.specs.Seen.{seen_move}
use Rattle.machine_driver.specs.Watched.{Log, logged, logged_own}
use Rattle.tree_specs.specs.declared.event.Event.{Event}
use Rattle.tree_specs.specs.declared.frame.Frame.{Frame}
use Rattle.tree_specs.specs.declared.question.Ask.{Ask}
use Rattle.tree_specs.specs.declared.question.Input.{Input}
use Rattle.tree_specs.specs.Rules.Items.{Item}
use Rattle.tree_specs.specs.Rules.Items.Item.{Told, Asked}
use Rattle.tree_specs.specs.Tree.Pool.{Pool}
use Rattle.tree_specs.specs.Machine.Table.{Step, step, taken}
use Rattle.tree_specs.specs.Machine.View.{begin, strays_of}
use Rattle.tree_specs.proofs.Calls.Checks.{both-true}
use Rattle.tree_stories.specs.Sights.{Sight, Opening, seen_table}
use Rattle.service_rules.specs.Knowledge.{Knowledge}
use Rattle.service_rules.specs.Service.{own, heard}
use Rattle.service_rules.specs.Sent.{Ledger, answered, says, is_no_act}
use Rattle.service_rules.specs.Fair.{with_fairness, is_fair}
use Rattle.service_rules.proofs.Fitting.{own-taken}
use Rattle.service_rules.proofs.Attending.{Attended, LeadsAttended}
use Rattle.service_rules.proofs.AttendingSteps.{step-attended}
use Rattle.service_rules.proofs.Recorded.{TakenSo, OwnSo, StepSo, KeptSo}
use Rattle.service_rules.proofs.Tracing.{Traced, TracedAnswers, LeadsTraced, step-traced}

-- ---- each step keeps it

-- whether none was an act so far
abbrev pub mildness : Log Bool ((Knowledge × Ledger) × Bool) Event Opening Input
mildness = record {
  at_event = λ b w e. b;
  at_own = λ b w o. b;
  at_answer = λ b w o i. b && is_no_act i;
}

abbrev pub with_mildness : Driver (((Knowledge × Ledger) × Bool) × Bool) Sight Event Opening Input Input Item
with_mildness = logged mildness with_fairness

abbrev pub Known : Type 0
Known = ((Knowledge × Ledger) × Bool) × Bool

abbrev pub K : List Input → Known → Frame → List Frame → Pool → Type 0
K ks w f fs p = Traced ks f fs p × (w.1 ≡ true → (w.0.1 ≡ true) × Attended w.0.0.0 w.0.0.1 f fs p)

abbrev pub C : List Input → Known → Type 0
C ks w = strays_of (begin 1) ks ≡ false → w.1 ≡ true → w.0.1 ≡ true

module _ (ks : List Input) (w : Known) (f : Frame) (fs : List Frame) (p : Pool) (k : K ks w f fs p) where
  abbrev Attends : Step → List Frame → Type 0
  Attends m gs = w.1 ≡ true → (w.0.1 ≡ true) × LeadsAttended w.0.0.0 w.0.0.1 p m gs

  question-keeps : (q : Ask) (g : Frame) (gs : List Frame) (r : Pool) (again : Known → Type 0) → TracedAnswers ks (Asked q) g gs r → Attends (Do.Wait (Asked q) g r) gs → (o : Option (Input × Knowledge)) → own w.0.0.0 (record { ask = q; pool = p }) ≡ o
      → let opening : Opening = record { ask = q; pool = p } in OwnSo seen_table with_mildness K C again ks w opening g gs r (logged_own w.1 (logged_own w.0.1 (logged_own (says w.0.0.1 w.0.0.0 o) o)))
  question-keeps q g gs r again traced attends None is = (λ s b. (k.1 b).0, λ j. each j (taken g r j) refl)
    where
      later : Input → Known
      later j = (((heard w.0.0.0 q j, answered w.0.0.1 q j), w.0.1 && is_fair w.0.0.0 q j), w.1 && is_no_act j)

      mild : (j : Input) (h : Frame) → taken g r j ≡ Some h → (w.1 && is_no_act j) ≡ true → ((w.0.1 && is_fair w.0.0.0 q j) ≡ true) × Attended (heard w.0.0.0 q j) (answered w.0.0.1 q j) h gs r
      mild j h t b =
          let c = both-true w.1 (is_no_act j) b in
          let a = attends c.0 in
          let o = a.1.outside is j h t c.1 in
          let x : w.0.1 ≡ true = a.0 in
          let y : is_fair w.0.0.0 q j ≡ true = o.0 in
          (rw (x, y) refl, o.1)

      each : (j : Input) (o : Option Frame) → taken g r j ≡ o → TakenSo seen_table with_mildness K C (ks ++ j ∷ []) (later j) gs r o
      each j None t = λ s b. let z : true ≡ false = sym (traced.strays j t) ∙ s in cc
      each j (Some h) t = (traced.goes j h t, mild j h t)
  question-keeps q g gs r again traced attends (Some a) is =
      let y = own-taken w.0.0.0 p q g r traced.asked a is in
      subst (TakenSo seen_table with_mildness K C (ks ++ a.0 ∷ []) (((a.1, says w.0.0.1 w.0.0.0 (Some a)), w.0.1), w.1) gs r) (sym y.1) (traced.goes a.0 y.0 y.1, λ b. let x = attends b in (x.0, x.1.itself a is y.0 y.1))

  step-keeps : StepSo seen_table with_mildness K C (λ v. K ks v f fs p) ks w (seen_move p (step f p)) fs
  step-keeps = each (step f p) fs (step-traced ks f fs p k.0) (λ b. let x = k.1 b in (x.0, step-attended w.0.0.0 w.0.0.1 p f fs k.0.whole k.0.asks x.1))
    where
      each : (m : Step) (gs : List Frame) → LeadsTraced ks m gs → Attends m gs → StepSo seen_table with_mildness K C (λ v. K ks v f fs p) ks w (seen_move p m) gs
      each (Do.Done a q) [] t h = absurd t
      each (Do.Done a q) (g ∷ gs) t h = (t, h)
      each (Do.Go g q) gs t h = (t, h)
      each (Do.Call i g q) gs t h = (t, h)
      each (Do.Emit (Told x) g q) gs t h = (t, h)
      each (Do.Emit (Asked x) g q) gs t h = absurd t
      each (Do.Wait (Told x) g q) gs t h = absurd t
      each (Do.Wait (Asked x) g r) gs t h = question-keeps x g gs r (λ v. K ks v f fs p) t h (own w.0.0.0 (record { ask = x; pool = p })) refl

pub mild-kept : KeptSo seen_table with_mildness K C
mild-kept ks w f fs p k = step-keeps ks w f fs p k
