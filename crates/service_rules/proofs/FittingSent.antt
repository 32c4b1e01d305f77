-- Where the answers fit and none of them is an act, bytes go out as they were said.
use Rattle.std.proofs.Common.{◌≡◌, ℕ, suc, ◌≤◌, ◌&&◌, Bool, true, false, length, List, [], ◌∷◌, Option, Some, None, refl, sym, ◌∙◌, ap, inl, inr, arith}
use Rattle.std.specs.List.{list_all}
use Rattle.machine_driver.specs.Driver.{Kind, filled}
use Rattle.machine_driver.specs.Driver.Kind.{Event as AnEvent, Question as AQuestion}
use Rattle.machine_driver.specs.Watched.{after, after_item, after_question, after_last, after_answer, logged_own}
use Rattle.machine_driver.proofs.Logging.{filled-logged, after-logged}
use Rattle.tree_specs.specs.declared.event.Event.{Event}
use Rattle.tree_specs.specs.declared.question.Input.{Input}
use Rattle.tree_specs.specs.Machine.View.{begin, strays_of}
use Rattle.tree_specs.proofs.Rules.StoryLaws.{story-strays}
use Rattle.tree_specs.proofs.Calls.Checks.{both-true}
use Rattle.tree_stories.specs.Sights.{Sight, Opening}
use Rattle.service_rules.specs.declared.task.Kept.{Kept}
use Rattle.service_rules.specs.Knowledge.{Connection, Knowledge, nothing_known}
use Rattle.service_rules.specs.Service.{station, machine, answers, own}
use Rattle.service_rules.specs.Sent.{Ledger, nothing_sent, ledger, with_ledger, says, is_no_act}
use Rattle.service_rules.specs.Fair.{fairness, with_fairness, all_fair}
use Rattle.service_rules.specs.Fitting.{FittingBytesGoOut}
use Rattle.service_rules.proofs.Attending.{Attended}
use Rattle.service_rules.proofs.Sending.{begins, fair-go-out}
use Rattle.service_rules.proofs.Tracing.{begin-traced, concluded}
use Rattle.service_rules.proofs.Straying.{Known, K, C, mildness, with_mildness, mild-kept}

-- ---- none of them is an act

abbrev Mild : (Known → List Input → Known) → Type 0
Mild go = (w : Known) (is : List Input) → list_all is_no_act is ≡ true → w.1 ≡ true → (go w is).1 ≡ true

module _ (go : Known → List Input → Known) (ih : Mild go) (q : Opening) where
  question-mild : (is : List Input) (w : Known) → list_all is_no_act is ≡ true → w.1 ≡ true → (after_question with_mildness go q is w).1 ≡ true
  question-mild [] w n b = each (own w.0.0.0 q)
    where
      each : (o : Option (Input × Knowledge)) → (after_last with_mildness go w (logged_own w.1 (logged_own w.0.1 (logged_own (says w.0.0.1 w.0.0.0 o) o)))).1 ≡ true
      each None = b
      each (Some a) = ih (((a.1, says w.0.0.1 w.0.0.0 (Some a)), w.0.1), w.1) [] refl b
  question-mild (i ∷ is) w n b = each (own w.0.0.0 q)
    where
      first : (is_no_act i ≡ true) × (list_all is_no_act is ≡ true)
      first = both-true (is_no_act i) (list_all is_no_act is) n

      still : (w.1 && is_no_act i) ≡ true
      still = let x : w.1 ≡ true = b in let y : is_no_act i ≡ true = first.0 in rw (x, y) refl

      each : (o : Option (Input × Knowledge)) → (after_answer with_mildness go (after_question with_mildness go q is) w q i is (logged_own w.1 (logged_own w.0.1 (logged_own (says w.0.0.1 w.0.0.0 o) o)))).1 ≡ true
      each None = ih _ is first.1 still
      each (Some a) = ih (((a.1, says w.0.0.1 w.0.0.0 (Some a)), w.0.1), w.1) (i ∷ is) n b

all-mild : (ts : List Sight) → Mild (after with_mildness ts)
all-mild [] w is n b = b
all-mild (t ∷ ts) w is n b = each (all-mild ts) (station.kind t)
  where
    each : Mild (after with_mildness ts) → (k : Kind Event Opening) → (after_item with_mildness (after with_mildness ts) w is k).1 ≡ true
    each ih (AnEvent x) = ih (with_mildness.told w x) is n b
    each ih (AQuestion q) = question-mild (after with_mildness ts) ih q is w n b

-- ---- so they are fair

abbrev first-known : Known
first-known = (((nothing_known, nothing_sent), true), true)

-- at the beginning there is no connection
begins-attended : Attended nothing_known nothing_sent (begin 1).innermost [] (begin 1).pool
begins-attended = record {
  fine = begins 1;
  seats = (tt, tt);
  kids = λ x n h. cc;
  clean = record { base = λ x b. elim b [ inl v ↦ absurd (unknown v.0 v.1) | inr v ↦ absurd (unkept v.0 v.1) ]; events = λ x v. absurd (unknown v.1 v.2); runs = tt };
  claims = tt;
  tends = λ k c h. absurd (unknown c h);
}
  where
    unknown : (c : Connection) → None ≡ Some c → ⊥
    unknown c h = cc

    unkept : (k : Kept) → None ≡ Some k → ⊥
    unkept k h = cc

pub fitting-go-out : FittingBytesGoOut
fitting-go-out is js acts e strays =
    let n : ℕ = suc (answers (length is)) in
    let one : 1 ≤ 1 = omega arith in
    let f : filled with_mildness n first-known machine is ≡ Some js =
    filled-logged mildness with_fairness n ((nothing_known, nothing_sent), true) true machine is ∙ filled-logged fairness with_ledger n (nothing_known, nothing_sent) true machine is ∙ filled-logged ledger station n nothing_known nothing_sent machine is ∙ e in
    let g : C js (after with_mildness (machine js) first-known is) = concluded with_mildness K C mild-kept n first-known is js (begin-traced, λ b. (refl, begins-attended)) f in
    let fits : strays_of (begin 1) js ≡ false = story-strays 1 js one ∙ strays in
    let mild : (after with_mildness (machine js) first-known is).1 ≡ true = all-mild (machine js) first-known is acts refl in
    let fair : all_fair is js ≡ true = ap (λ (w : (Knowledge × Ledger) × Bool). w.1) (sym (after-logged mildness with_fairness (machine js) ((nothing_known, nothing_sent), true) true is)) ∙ g fits mild in
    fair-go-out is js e fair
