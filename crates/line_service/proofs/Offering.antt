-- An answer of the outside: what it does, and why it is refused, by the question of the host that the outside sees.
use Rattle.std.proofs.Common.{◌≡◌, ◌↔◌, ℕ, true, [], ◌∷◌, Option, Some, Result, Err, sym, ◌∙◌, ap, subst}
use Rattle.tree_specs.specs.declared.question.Ask.{Ask}
use Rattle.tree_specs.specs.declared.question.Input.{Input}
use Rattle.tree_specs.specs.declared.schedule.Reason.TheVariants.{NotAsked}
use Rattle.tree_specs.specs.Rules.Items.Item.{Asked}
use Rattle.tree_specs.specs.Machine.View.{View, question_of}
use Rattle.tree_specs.specs.Texts.Schedule.{misfit}
use Rattle.machine_driver.specs.Seen.{sight}
use Rattle.tree_stories.specs.Sights.{sights_of}
use Rattle.host_core.specs.declared.fault.OfferFault.{OfferFault}
use Rattle.host_core.specs.declared.fault.OfferFault.TheVariants as faults
use Rattle.host_core.specs.Promises as promises
use Rattle.host_core.specs.Promises.{Waits, taken_by}
use Rattle.service_rules.specs.declared.task.Task.{Task}
use Rattle.service_rules.specs.Knowledge.{Knowledge, nothing_known}
use Rattle.service_rules.specs.Stations.{StationView, TakesAnswer, asked_of, outside_question, strays_to_come}
use Rattle.service_rules.proofs.Steps.{not-own}
use Rattle.line_service.specs.declared.runs.Change.{Change}
use Rattle.line_service.specs.Runs.{changed}
use Rattle.line_service.specs.Steps.{IsPrepared, StraysAt, may_be_due}
use Rattle.line_service.proofs.Doing.{seen}
use Rattle.line_service.proofs.Stepping.{asked-not-due, passes, question-is, strays}

module _ (v : View) (i : Input) (q : Ask) (asked : outside_question (question_of v) ≡ Some q) where
  -- where the outside is asked, it is asked what the host asks
  same-asked : outside_question (question_of v) ≡ question_of v
  same-asked = asked ∙ sym (asks (question_of v) asked)
    where
      asks : (o : Option Ask) → outside_question o ≡ Some q → o ≡ Some q
      asks o e = (not-own nothing_known v o q e).0

  pub same-misfit : misfit (outside_question (question_of v)) i ≡ misfit (question_of v) i
  same-misfit = ap (λ (o : Option Ask). misfit o i) same-asked

  pub same-taken : taken_by (outside_question (question_of v)) v.pool i ≡ taken_by (question_of v) v.pool i
  same-taken = ap (λ (o : Option Ask). taken_by o v.pool i) same-asked

  pub refused-not-asked : {R : Type 0} (r : Result R OfferFault) → (r ≡ Err faults.NotAsked) ↔ (misfit (question_of v) i ≡ Some NotAsked) → (r ≡ Err faults.NotAsked) ↔ (misfit (outside_question (question_of v)) i ≡ Some NotAsked)
  refused-not-asked r h = (λ e. same-misfit ∙ h.0 e, λ e. h.1 (sym same-misfit ∙ e))

  pub refused-taken : {R : Type 0} (r : Result R OfferFault) (fd : ℕ) → (r ≡ Err (faults.Taken fd)) ↔ (taken_by (question_of v) v.pool i ≡ Some fd) → (r ≡ Err (faults.Taken fd)) ↔ (taken_by (outside_question (question_of v)) v.pool i ≡ Some fd)
  refused-taken r fd h = (λ e. same-taken ∙ h.0 e, λ e. h.1 (sym same-taken ∙ e))

-- a fault is the same whatever else there might have been
same-fault : {A B : Type 0} (f g : OfferFault) → (let r : Result A OfferFault = Err f in r) ≡ Err g → (let r : Result B OfferFault = Err f in r) ≡ Err g
same-fault f g e = let same : f ≡ g = cc in ap Err same

pub fault-passed : {A B X : Type 0} (f g : OfferFault) → ((let r : Result A OfferFault = Err f in r) ≡ Err g) ↔ X → ((let r : Result B OfferFault = Err f in r) ≡ Err g) ↔ X
fault-passed f g h = (λ e. h.0 (same-fault f g e), λ x. same-fault f g (h.1 x))

pub fault-was : {A B : Type 0} (f g : OfferFault) → (let r : Result A OfferFault = Err f in r) ≡ Err g → (let r : Result B OfferFault = Err f in r) ≡ Err g
fault-was f g e = same-fault f g e

-- ---- of a station, by its parts

module _ (s : StationView) (d : Knowledge) (v : View) (due : Option Task) (n : ℕ) (is : seen d v due n ≡ s) (i : Input) where
  pub station-not-asked : (r : Result (Unit {0}) OfferFault) → (r ≡ Err faults.NotAsked) ↔ (misfit (outside_question (question_of v)) i ≡ Some NotAsked) → (r ≡ Err faults.NotAsked) ↔ (misfit (asked_of s) i ≡ Some NotAsked)
  station-not-asked r h = subst (λ (z : StationView). (r ≡ Err faults.NotAsked) ↔ (misfit (asked_of z) i ≡ Some NotAsked)) is h

  pub station-taken : (r : Result (Unit {0}) OfferFault) (fd : ℕ) → (r ≡ Err (faults.Taken fd)) ↔ (taken_by (outside_question (question_of v)) v.pool i ≡ Some fd) → (r ≡ Err (faults.Taken fd)) ↔ (taken_by (asked_of s) s.host.pool i ≡ Some fd)
  station-taken r fd h = subst (λ (z : StationView). (r ≡ Err (faults.Taken fd)) ↔ (taken_by (asked_of z) z.host.pool i ≡ Some fd)) is h

  pub station-strays : may_be_due due (question_of v) ≡ true → StraysAt v i → strays_to_come s (i ∷ []) ≡ true
  station-strays may h =
      let same : h.waits.question ≡ h.question = question-is v h.waits h.question (sym (same-asked v i h.question h.asked) ∙ h.asked) in
      subst (λ (z : StationView). strays_to_come z (i ∷ []) ≡ true) is
      (strays (seen d v due n) h.question i (asked-not-due due (question_of v) h.question may h.asked) h.asked h.waits h.ends h.stray (subst (λ (z : Ask). sights_of v [] ≡ sight v.pool (Asked z) ∷ []) same h.waits.last_seen))

  pub station-takes : (e : Knowledge) (w : View) (next : Option Task) (m : ℕ) (change : Change) → IsPrepared (outside_question (question_of v)) i n change m → may_be_due due (question_of v) ≡ true → Waits v → promises.TakesAnswer v i w
      → e ≡ changed change d → next ≡ due → TakesAnswer s i (seen e w next m)
  station-takes e w next m change p may waits taken knows same_due =
      let none = asked-not-due due (question_of v) p.question may p.open_now in
      subst (λ (z : StationView). TakesAnswer z i (seen e w next m)) is
      (passes (seen d v due n) (seen e w next m) p.question i none p.open_now waits taken p.more (knows ∙ ap (λ (c : Change). changed c d) p.change) (same_due ∙ none))
