-- Where each answer suits its question, and no descriptor is accepted that is open, the service takes them all.
use Rattle.std.proofs.Common.{◌≡◌, ◌≤◌, ℕ, suc, ◌&&◌, Bool, true, false, length, List, [], ◌∷◌, ◌++◌, Option, Some, None, refl, sym, ◌∙◌, ap, subst, arith}
use Rattle.step_machine.specs.Machine.{Move as Do}
use Rattle.machine_driver.specs.Driver.{filled, shown, shown_of, items_or_none}
use Rattle.machine_driver.specs.Driver.Kind.{Event as AnEvent, Question as AQuestion}
use Rattle.machine_driver.specs.Seen.{seen_move}
use Rattle.machine_driver.specs.Watched.{after, logged_own}
use Rattle.machine_driver.proofs.Logging.{filled-logged}
use Rattle.tree_specs.specs.declared.frame.Frame.{Frame}
use Rattle.tree_specs.specs.declared.question.Ask.{Ask}
use Rattle.tree_specs.specs.declared.question.Input.{Input}
use Rattle.tree_specs.specs.Rules.Items.Item.{Told, Asked}
use Rattle.tree_specs.specs.Tree.Pool.{Pool}
use Rattle.tree_specs.specs.Machine.Table.{Step, step, taken}
use Rattle.tree_specs.specs.Machine.View.{begin, strays_of}
use Rattle.tree_specs.proofs.Calls.Checks.{both-true, Heard}
use Rattle.tree_specs.proofs.Calls.Checks.Heard.{HeardCall, HeardReturn}
use Rattle.tree_specs.proofs.Rules.StoryLaws.{story-strays}
use Rattle.tree_stories.specs.Sights.{Opening, seen_table}
use Rattle.service_rules.specs.Knowledge.{Knowledge, nothing_known}
use Rattle.service_rules.specs.Service.{own, heard, machine, answers, inputs_behind}
use Rattle.service_rules.specs.Schedules.{strays_behind}
use Rattle.service_rules.specs.Watching.{Shown, watched, watching}
use Rattle.service_rules.specs.Exchanges.{AllSuit, accepts_new, exchanges}
use Rattle.service_rules.specs.Suiting.{SuitingAnswersFit, none_open}
use Rattle.service_rules.proofs.Fitting.{own-taken}
use Rattle.service_rules.proofs.OpenDescriptors.{Expects, Follows, listener-known, with-known}
use Rattle.service_rules.proofs.OpenSteps.{LeadsFollowing, step-follows}
use Rattle.service_rules.proofs.Recorded.{TakenSo, OwnSo, StepSo, KeptSo}
use Rattle.service_rules.proofs.Showing.{filled-same}
use Rattle.service_rules.proofs.Suiting.{Known, suiting, with_suiting, suits_now, is_new, suits-so, new-so, says}
use Rattle.service_rules.proofs.Tracing.{Traced, TracedAnswers, LeadsTraced, traced-fits, step-traced, begin-traced, concluded}

-- ---- each step keeps it

abbrev K : List Input → Known → Frame → List Frame → Pool → Type 0
K ks w f fs p = Traced ks f fs p × (w.1.suits ≡ true → Follows w.1.known f p)

abbrev C : List Input → Known → Type 0
C ks w = w.1.suits ≡ true → strays_of (begin 1) ks ≡ false

heard-expects : (known : ℕ → Bool) (p : Pool) (q : Ask) (g : Frame) → Heard q g → Expects known p g
heard-expects known p q _ (HeardCall c) = tt
heard-expects known p q _ (HeardReturn v o) = tt

module _ (ks : List Input) (w : Known) (f : Frame) (fs : List Frame) (p : Pool) (k : K ks w f fs p) where
  abbrev Following : Step → List Frame → Type 0
  Following m gs = w.1.suits ≡ true → LeadsFollowing w.1.known m gs

  question-keeps : (q : Ask) (g : Frame) (gs : List Frame) (r : Pool) (again : Known → Type 0) → TracedAnswers ks (Asked q) g gs r → Following (Do.Wait (Asked q) g r) gs → (o : Option (Input × Knowledge)) → own w.0 (record { ask = q; pool = p }) ≡ o
      → let opening : Opening = record { ask = q; pool = p } in OwnSo seen_table with_suiting K C again ks w opening g gs r (logged_own w.1 o)
  question-keeps q g gs r again traced follows None is = (λ b. traced-fits ks f fs p k.0, λ i. each i (taken g r i) refl)
    where
      later : Input → Known
      later i = (heard w.0 q i, suiting.at_answer w.1 w.0 (record { ask = q; pool = p }) i)

      -- one that suits is taken
      suited : (i : Input) → (later i).1.suits ≡ true → (h : Frame) × (taken g r i ≡ Some h) × Follows (later i).1.known h r
      suited i b =
          let s = both-true w.1.suits (suits_now q i && is_new w.1.known i) b in
          let t = both-true (suits_now q i) (is_new w.1.known i) s.1 in
          let l = follows s.0 in
          let y = l.1 i (suits-so q i t.0) (new-so w.1.known i t.1) in
          (y.0, y.1, record { all = with-known w.1.known r.descriptors l.0 i; expects = y.2 })

      each : (i : Input) (o : Option Frame) → taken g r i ≡ o → TakenSo seen_table with_suiting K C (ks ++ i ∷ []) (later i) gs r o
      each i None t = λ b. let y = suited i b in let bad : None ≡ Some y.0 = sym t ∙ y.1 in cc
      each i (Some h) t = (
        traced.goes i h t,
        λ b.
            let y = suited i b in
            let z : Some y.0 ≡ Some h = sym y.1 ∙ t in
            let e : y.0 ≡ h = cc in
            subst (λ (u : Frame). Follows (later i).1.known u r) e y.2,
      )
  question-keeps q g gs r again traced follows (Some a) is =
      let y = own-taken w.0 p q g r traced.asked a is in
      subst (TakenSo seen_table with_suiting K C (ks ++ a.0 ∷ []) (a.1, w.1) gs r) (sym y.1) (traced.goes a.0 y.0 y.1, λ b. record { all = (follows b).0; expects = heard-expects w.1.known r q y.0 y.2 })

  step-keeps : StepSo seen_table with_suiting K C (λ v. K ks v f fs p) ks w (seen_move p (step f p)) fs
  step-keeps = each (step f p) fs (step-traced ks f fs p k.0) (λ b. step-follows w.1.known f fs p k.0.whole k.0.asks (k.1 b))
    where
      each : (m : Step) (gs : List Frame) → LeadsTraced ks m gs → Following m gs → StepSo seen_table with_suiting K C (λ v. K ks v f fs p) ks w (seen_move p m) gs
      each (Do.Done a q) [] t h = absurd t
      each (Do.Done a q) (g ∷ gs) t h = (t, h)
      each (Do.Go g q) gs t h = (t, h)
      each (Do.Call i g q) gs t h = (t, h)
      each (Do.Emit (Told x) g q) gs t h = (t, h)
      each (Do.Emit (Asked x) g q) gs t h = absurd t
      each (Do.Wait (Told x) g q) gs t h = absurd t
      each (Do.Wait (Asked x) g r) gs t h = question-keeps x g gs r (λ v. K ks v f fs p) t h (own w.0 (record { ask = x; pool = p })) refl

suiting-kept : KeptSo seen_table with_suiting K C
suiting-kept ks w f fs p k = step-keeps ks w f fs p k

-- ---- so all are taken

abbrev first-known : Known
first-known = (nothing_known, record { known = none_open; suits = true })

begins : Follows none_open (begin 1).innermost (begin 1).pool
begins = record { all = listener-known none_open; expects = tt }

pub answers-taken : SuitingAnswersFit
answers-taken is suit new = each (inputs_behind is) refl
  where
    n : ℕ
    n = suc (answers (length is))

    each : (o : Option (List Input)) → inputs_behind is ≡ o → strays_behind o ≡ false
    each None e = refl
    each (Some js) e =
        let one : 1 ≤ 1 = omega arith in
        let ss : List Shown = shown watching (machine js) nothing_known is in
        let f : filled watching n nothing_known machine is ≡ Some js = filled-same (λ x. AnEvent x) (λ o. AQuestion (watched o)) (λ x. Told x) (λ o. Asked o.ask) n nothing_known machine is ∙ e in
        let s : items_or_none (shown_of watching nothing_known machine is (filled watching n nothing_known machine is)) ≡ ss = ap (λ (o : Option (List Input)). items_or_none (shown_of watching nothing_known machine is o)) f in
        let all : AllSuit (exchanges ss is) = subst (λ (zs : List Shown). AllSuit (exchanges zs is)) s suit in
        let fresh : accepts_new none_open (exchanges ss is) ≡ true = subst (λ (zs : List Shown). accepts_new none_open (exchanges zs is) ≡ true) s new in
        let g : filled with_suiting n first-known machine is ≡ Some js = filled-logged suiting watching n nothing_known first-known.1 machine is ∙ f in
        let c : C js (after with_suiting (machine js) first-known is) = concluded with_suiting K C suiting-kept n first-known is js (begin-traced, λ b. begins) g in
        sym (story-strays 1 js one) ∙ c (says (machine js) first-known is (all, fresh) refl)
