-- What is to be shown of each step of a host: the bytes still go out as they were said.
use Rattle.std.proofs.Common.{◌≡◌, ℕ, true, List, [], ◌∷◌, Option, Some, None}
use Rattle.step_machine.specs.Machine.{Move as Do}
use Rattle.tree_specs.specs.declared.question.Ask.{Ask}
use Rattle.tree_specs.specs.declared.question.Input.{Input}
use Rattle.tree_specs.specs.declared.frame.Frame.{Frame}
use Rattle.tree_specs.specs.Rules.Items.Item.{Told, Asked}
use Rattle.tree_specs.specs.Tree.Pool.{Pool}
use Rattle.tree_specs.specs.Machine.Table.{Step, resume, taken}
use Rattle.service_rules.specs.Knowledge.{Knowledge}
use Rattle.service_rules.specs.Service.{told, own, heard}
use Rattle.service_rules.specs.Sent.{Ledger, answered, says}
use Rattle.service_rules.specs.Fair.{is_fair}
use Rattle.service_rules.proofs.Owing.{Goes, whole, Keeps, Fine}

-- after an input, also one that isn't taken
abbrev pub GivenFine : Knowledge → Ledger → ℕ → List Frame → Option Frame → Type 0
GivenFine d l next fs None = Keeps d l next × Goes d l whole
GivenFine d l next fs (Some f) = Fine d l f fs next

-- a question: the outside gives a fair answer, or the service answers itself
pub record AskedFine (d : Knowledge) (l : Ledger) (p : Pool) (q : Ask) (g : Frame) (fs : List Frame) (r : Pool) : Type 0 where
  pub before : own d (record { ask = q; pool = p }) ≡ None → Keeps d l r.next × Goes d l whole
  pub outside : own d (record { ask = q; pool = p }) ≡ None → (i : Input) → is_fair d q i ≡ true → GivenFine (heard d q i) (answered l q i) r.next fs (taken g r i)
  pub itself : (a : Input × Knowledge) → own d (record { ask = q; pool = p }) ≡ Some a → (h : Frame) → taken g r a.0 ≡ Some h → Fine a.1 (says l d (Some a)) h fs r.next

module _ (d : Knowledge) (l : Ledger) (p : Pool) where
  abbrev pub LeadsFine : Step → List Frame → Type 0
  LeadsFine (Do.Done a q) [] = Unit {0}
  LeadsFine (Do.Done a q) (g ∷ gs) = Fine d l (resume g a) gs q.next
  LeadsFine (Do.Go g q) fs = Fine d l g fs q.next
  LeadsFine (Do.Emit (Told e) g q) fs = Fine (told d e) l g fs q.next
  LeadsFine (Do.Emit (Asked a) g q) fs = Unit {0}
  LeadsFine (Do.Wait (Asked q) g r) fs = AskedFine d l p q g fs r
  LeadsFine (Do.Wait (Told e) g r) fs = Unit {0}
  LeadsFine (Do.Call h g q) fs = Fine d l h (g ∷ fs) q.next
