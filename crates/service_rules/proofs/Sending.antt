-- Where the answers of the outside are fair, bytes go out as they were said.
use Rattle.std.proofs.Common.{◌≡◌, ℕ, suc, ◌≤◌, ◌&&◌, Bool, true, length, List, [], ◌∷◌, ◌++◌, Option, Some, None, refl, sym, ◌∙◌, ap, subst, arith}
use Rattle.std.proofs.lemmas.Slice.Eq.{bytes_eq-Decides}
use Rattle.step_machine.specs.Machine.{Move}
use Rattle.step_machine.specs.Machine.{Move as Do}
use Rattle.step_machine.proofs.Ends.{Leads}
use Rattle.machine_driver.specs.Driver.{Story, filled}
use Rattle.machine_driver.specs.Seen.{seen_move}
use Rattle.machine_driver.specs.Watched.{after, logged_own}
use Rattle.machine_driver.proofs.Kept.{TakenOr, OwnKeeps, StepKeeps, IsKept}
use Rattle.machine_driver.proofs.Logging.{filled-logged, after-logged}
use Rattle.machine_driver.proofs.Together.{Concluded, together}
use Rattle.tree_specs.specs.declared.frame.Frame.{Frame}
use Rattle.tree_specs.specs.declared.frame.Answer.{Answer}
use Rattle.tree_specs.specs.declared.question.Ask.{Ask}
use Rattle.tree_specs.specs.declared.question.Input.{Input}
use Rattle.tree_specs.specs.Rules.Items.{Item}
use Rattle.tree_specs.specs.Rules.Items.Item.{Told, Asked}
use Rattle.tree_specs.specs.Tree.Pool.{Pool}
use Rattle.tree_specs.specs.Machine.Table.{table, step, taken}
use Rattle.tree_specs.specs.Machine.View.{begin}
use Rattle.tree_specs.specs.Invariants.Consistent.{IsConsistent, IsStacked}
use Rattle.tree_specs.specs.Invariants.Sound.{Rests}
use Rattle.tree_specs.proofs.Rules.Rest.{whole-kept, no-end}
use Rattle.tree_specs.proofs.Rules.StoryLaws.{begin-whole}
use Rattle.tree_specs.proofs.Calls.Checks.{both-true}
use Rattle.tree_stories.specs.Sights.{Sight, Opening, seen_table, sights_of}
use Rattle.tree_stories.proofs.Stories.{at, IsWhole, tale, tells}
use Rattle.tree_stories.proofs.Outsides.{AsksOutside, LeadsOutside, outside-kept}
use Rattle.service_rules.specs.Knowledge.{Knowledge, nothing_known}
use Rattle.service_rules.specs.Service.{station, machine, answers, own, heard}
use Rattle.service_rules.specs.Sent.{Ledger, nothing_sent, ledger, with_ledger, answered, says, goes_out, all_go_out}
use Rattle.service_rules.specs.Fair.{fairness, with_fairness, is_fair, FairBytesGoOut}
use Rattle.service_rules.proofs.Entries.{all-found}
use Rattle.service_rules.proofs.Fitting.{own-taken}
use Rattle.service_rules.proofs.Owing.{Goes, whole, Keeps, Fine}
use Rattle.service_rules.proofs.Leading.{GivenFine, AskedFine, LeadsFine}
use Rattle.service_rules.proofs.Stepping.{step-fine}
use Rattle.service_rules.proofs.Tracing.{same-story}

abbrev Known : Type 0
Known = (Knowledge × Ledger) × Bool

abbrev K : List Item → Known → Frame → List Frame → Pool → Type 0
K us w f fs p = IsWhole f fs p × AsksOutside f × (w.1 ≡ true → Fine w.0.0 w.0.1 f fs p.next)

abbrev C : List Item → Known → Type 0
C us w = w.1 ≡ true → all_go_out w.0 ≡ true

all-go : (d : Knowledge) (l : Ledger) (next : ℕ) → Keeps d l next → Goes d l whole → all_go_out (d, l) ≡ true
all-go d l next k g = all-found (λ e. goes_out l e) d.connections k.sorted (λ q c h. (bytes_eq-Decides _ _).1 (g q c h))

-- ---- each step keeps it

abbrev WholeAfter : Move Frame Answer Pool Item → List Frame → Type 0
WholeAfter m fs = Leads table (λ g gs q j. IsConsistent (record { innermost = g; below = gs; pool = q })) m fs 1

question-keeps : (us : List Item) (w : Known) (q : Ask) (g : Frame) (gs : List Frame) (p r : Pool) (again : List Item → Known → Type 0)
    → WholeAfter (Do.Wait (Asked q) g r) gs → LeadsOutside (Do.Wait (Asked q) g r) gs → (w.1 ≡ true → AskedFine w.0.0 w.0.1 p q g gs r)
    → (o : Option (Input × Knowledge)) → own w.0.0 (record { ask = q; pool = p }) ≡ o
    → let opening : Opening = record { ask = q; pool = p } in OwnKeeps seen_table with_fairness K C again us w opening g gs r (logged_own w.1 (logged_own (says w.0.1 w.0.0 o) o))
question-keeps us w q g gs p r again whole leads fine None e = (
  λ b. let f = (fine b).before e in all-go w.0.0 w.0.1 r.next f.0 f.1,
  λ j. each j (taken g r j) refl,
)
  where
    shown : List Item
    shown = us ++ with_fairness.asks w (record { ask = q; pool = p })

    later : Input → Known
    later j = ((heard w.0.0 q j, answered w.0.1 q j), w.1 && is_fair w.0.0 q j)

    each : (j : Input) (o : Option Frame) → taken g r j ≡ o → TakenOr seen_table with_fairness K C shown (later j) gs r o
    each j None t = λ b.
        let c = both-true w.1 (is_fair w.0.0 q j) b in
        let f : GivenFine (heard w.0.0 q j) (answered w.0.1 q j) r.next gs None = subst (GivenFine (heard w.0.0 q j) (answered w.0.1 q j) r.next gs) t ((fine c.0).outside e j c.1) in
        all-go (heard w.0.0 q j) (answered w.0.1 q j) r.next f.0 f.1
    each j (Some h) t = (
      whole j h t,
      leads.1 j h t,
      λ b.
          let c = both-true w.1 (is_fair w.0.0 q j) b in
          subst (GivenFine (heard w.0.0 q j) (answered w.0.1 q j) r.next gs) t ((fine c.0).outside e j c.1),
    )
question-keeps us w q g gs p r again whole leads fine (Some a) e =
    let y = own-taken w.0.0 p q g r leads.0 a e in
    let shown : List Item = us ++ with_fairness.asks w (record { ask = q; pool = p }) in
    let later : Known = ((a.1, says w.0.1 w.0.0 (Some a)), w.1) in
    subst (TakenOr seen_table with_fairness K C shown later gs r) (sym y.1) (whole a.0 y.0 y.1, leads.1 a.0 y.0 y.1, λ b. (fine b).itself a e y.0 y.1)

step-keeps : (us : List Item) (w : Known) (f : Frame) (fs : List Frame) (p : Pool) → K us w f fs p → StepKeeps seen_table with_fairness K C (λ vs v. K vs v f fs p) us w (seen_move p (step f p)) fs
step-keeps us w f fs p k = each (step f p) fs refl refl (whole-kept (at f fs p) 1 k.0) (outside-kept f fs p k.0 k.1) (λ b. let h = k.2 b in step-fine w.0.0 w.0.1 p f fs k.1 h.keeps h.stands)
  where
    each : (m : Move Frame Answer Pool Item) (gs : List Frame) → step f p ≡ m → fs ≡ gs → WholeAfter m gs → LeadsOutside m gs → (w.1 ≡ true → LeadsFine w.0.0 w.0.1 p m gs) → StepKeeps seen_table with_fairness K C (λ vs v. K vs v f fs p) us w (seen_move p m) gs
    each (Do.Done a q) [] e s l o h =
        let b : IsStacked f [] = subst (λ (z : List Frame). IsStacked f z) s k.0.seated in
        let r : Rests f [] p = subst (λ (z : List Frame). Rests f z p) s k.0.sound.rests in
        absurd (no-end f p q a b r e)
    each (Do.Done a q) (g ∷ gs) e s l o h = (l, o, h)
    each (Do.Go g q) gs e s l o h = (l, o, h)
    each (Do.Call g i q) gs e s l o h = (l, o, h)
    each (Do.Emit (Told t) g q) gs e s l o h = (l, o.1, h)
    each (Do.Emit (Asked t) g q) gs e s l o h = absurd o.0
    each (Do.Wait (Told t) g q) gs e s l o h = absurd o.0
    each (Do.Wait (Asked t) g q) gs e s l o h = question-keeps us w t g gs p q (λ vs v. K vs v f fs p) l o h (own w.0.0 (record { ask = t; pool = p })) refl

kept : IsKept seen_table with_fairness K C
kept = record { kept = step-keeps }

-- ---- so they go out

abbrev first-known : Known
first-known = ((nothing_known, nothing_sent), true)

pub begins : (next : ℕ) → Fine nothing_known nothing_sent (begin next).innermost [] next
begins next = record {
  keeps = record { sorted = tt; distinct = λ k j c e h. cc; young = λ k h. refl; unsaid = λ k h. refl };
  stands = ((λ k c h. cc), tt);
}

some-go : (s : Story Input Sight) (is js : List Input) (o : Option (List Input)) → o ≡ Some js → Concluded seen_table with_fairness IsWhole tale K C tells kept [] first-known s is o → C [] (after with_fairness (s js) first-known is)
some-go s is js None e c = cc
some-go s is js (Some ks) e c = let e' : ks ≡ js = cc in subst (λ (z : List Input). C [] (after with_fairness (s z) first-known is)) e' c

pub fair-go-out : FairBytesGoOut
fair-go-out is js e fair =
    let n : ℕ = suc (answers (length is)) in
    let one : 1 ≤ 1 = omega arith in
    let c = together seen_table with_fairness IsWhole tale K C tells kept n [] first-known (begin 1).innermost [] (begin 1).pool is (begin-whole 1 one) (begin-whole 1 one, tt, λ b. begins 1) in
    let f : filled with_fairness n first-known machine is ≡ Some js = filled-logged fairness with_ledger n (nothing_known, nothing_sent) true machine is ∙ filled-logged ledger station n nothing_known nothing_sent machine is ∙ e in
    let f' : filled with_fairness n first-known (sights_of (begin 1)) is ≡ Some js = ap (λ (s : Story Input Sight). filled with_fairness n first-known s is) same-story ∙ f in
    let g : C [] (after with_fairness (sights_of (begin 1) js) first-known is) = some-go (sights_of (begin 1)) is js (filled with_fairness n first-known (sights_of (begin 1)) is) f' c in
    let g' : C [] (after with_fairness (machine js) first-known is) = subst (λ (s : Story Input Sight). C [] (after with_fairness (s js) first-known is)) same-story g in
    ap all_go_out (sym (after-logged fairness with_ledger (machine js) (nothing_known, nothing_sent) true is)) ∙ g' fair
