-- Where a host is after the inputs so far: what comes then doesn't fit where it doesn't fit after them.
use std.Path.{fun_ext}
use Rattle.std.proofs.Common.{◌≡◌, ◌≤◌, ℕ, arith, true, false, List, [], ◌∷◌, ◌++◌, length, Option, Some, None, refl, sym, ◌∙◌, ap, subst, append_assoc}
use Rattle.std.proofs.lemmas.List.{append-nil}
use Rattle.step_machine.specs.Machine.{Move, State, silent, given, leads, walk, is_stray}
use Rattle.step_machine.specs.Machine.{Move as Do}
use Rattle.step_machine.proofs.Ends.{Leads, rest-step}
use Rattle.machine_driver.specs.Driver.{Driver, Story, filled}
use Rattle.machine_driver.specs.Watched.{after}
use Rattle.tree_specs.specs.declared.event.Event.{Event}
use Rattle.tree_specs.specs.declared.frame.Frame.{Frame}
use Rattle.tree_specs.specs.declared.frame.Answer.{Answer}
use Rattle.tree_specs.specs.declared.question.Input.{Input}
use Rattle.tree_specs.specs.Rules.Items.{Item}
use Rattle.tree_specs.specs.Rules.Items.Item.{Told, Asked}
use Rattle.tree_specs.specs.Rules.Story.{turns}
use Rattle.tree_specs.specs.Tree.Pool.{Pool}
use Rattle.tree_specs.specs.Invariants.Measure.{cost}
use Rattle.tree_specs.specs.Invariants.Consistent.{IsConsistent, IsStacked}
use Rattle.tree_specs.specs.Invariants.Sound.{Rests}
use Rattle.tree_specs.specs.Machine.Table.{Step, table, step, taken, resume}
use Rattle.tree_specs.specs.Machine.View.{View, begin, strays_of}
use Rattle.tree_specs.proofs.Turns.Falls.{Well, falls}
use Rattle.tree_specs.proofs.Turns.Bound.{cost-turns}
use Rattle.tree_specs.proofs.Rules.Rest.{most, well, whole-kept, no-end}
use Rattle.tree_specs.proofs.Rules.StoryLaws.{begin-whole}
use Rattle.tree_stories.specs.Sights.{Sight, Opening, seen_table, sights_of}
use Rattle.tree_stories.proofs.Seeing.{begin-seen}
use Rattle.tree_stories.proofs.Stories.{at, IsWhole, tale, tells}
use Rattle.tree_stories.proofs.Strays.{unanswered, event-strays, question-strays, silent-strays}
use Rattle.tree_stories.proofs.Outsides.{AsksOutside, LeadsOutside, IsAskedBy, outside-kept}
use Rattle.service_rules.specs.Service.{machine}
use Rattle.service_rules.proofs.Recorded.{KeptSo, ConcludedSo, recorded}

-- an answer that isn't taken doesn't fit
stray-law : (v : View) (q : Item) (f : Frame) (p : Pool) (i : Input) (is : List Input) → IsConsistent v → step v.innermost v.pool ≡ Do.Wait q f p → taken f p i ≡ None → strays_of v (i ∷ is) ≡ true
stray-law v q f p i is h is-wait took =
    let R : ℕ = most v (length (i ∷ is)) in
    let n : ℕ = turns (length v.pool.rows) (length (i ∷ is)) in
    ap is_stray (rest-step table (Well R) (cost R) (falls R) n v.innermost v.below v.pool (i ∷ is) (well v (length (i ∷ is)) h) (cost-turns v (length (i ∷ is)) h.light)
    ∙ ap (λ (m : Move Frame Answer Pool Item). leads table (walk table n) m v.below (i ∷ is)) is-wait
    ∙ ap (λ (o : Option Frame). given (λ g p' left. walk table n g v.below p' left) q p is o) took)

-- a host that is so far after these inputs
pub record Traced (ks : List Input) (f : Frame) (fs : List Frame) (p : Pool) : Type 0 where
  pub whole : IsWhole f fs p
  pub asks : AsksOutside f
  pub same : (more : List Input) → strays_of (begin 1) (ks ++ more) ≡ strays_of (at f fs p) more

-- where an answer goes that is taken, and that one which isn't doesn't fit
pub record TracedAnswers (ks : List Input) (q : Item) (f : Frame) (fs : List Frame) (p : Pool) : Type 0 where
  pub asked : IsAskedBy q f
  pub goes : (i : Input) (g : Frame) → taken f p i ≡ Some g → Traced (ks ++ i ∷ []) g fs p
  pub strays : (i : Input) → taken f p i ≡ None → strays_of (begin 1) (ks ++ i ∷ []) ≡ true

-- where a move leads to; an end doesn't come
abbrev pub LeadsTraced : List Input → Step → List Frame → Type 0
LeadsTraced ks (Do.Done a q) [] = ⊥
LeadsTraced ks (Do.Done a q) (g ∷ gs) = Traced ks (resume g a) gs q
LeadsTraced ks (Do.Go f q) fs = Traced ks f fs q
LeadsTraced ks (Do.Emit (Told e) f q) fs = Traced ks f fs q
LeadsTraced ks (Do.Emit (Asked x) f q) fs = ⊥
LeadsTraced ks (Do.Wait (Told e) f q) fs = ⊥
LeadsTraced ks (Do.Wait (Asked x) f q) fs = TracedAnswers ks (Asked x) f fs q
LeadsTraced ks (Do.Call g f q) fs = Traced ks g (f ∷ fs) q

pub begin-traced : Traced [] (begin 1).innermost [] (begin 1).pool
begin-traced = let one : 1 ≤ 1 = omega arith in record { whole = begin-whole 1 one; asks = tt; same = λ more. refl }

abbrev WholeAfter : Step → List Frame → Type 0
WholeAfter m fs = Leads table (λ g gs q j. IsConsistent (record { innermost = g; below = gs; pool = q })) m fs 1

module _ (ks : List Input) (f : Frame) (fs : List Frame) (p : Pool) (t : Traced ks f fs p) where
  -- where no more inputs come all fit
  pub traced-fits : strays_of (begin 1) ks ≡ false
  traced-fits = ap (strays_of (begin 1)) (sym (append-nil ks)) ∙ t.same [] ∙ unanswered (at f fs p)

  silent-on : (m : Step) (s : State Frame Pool) → step f p ≡ m → silent table m fs ≡ Some s → (more : List Input) → strays_of (begin 1) (ks ++ more) ≡ strays_of (at s.now s.below s.pool) more
  silent-on m s e i more = t.same more ∙ silent-strays (at f fs p) s more t.whole (ap (λ (z : Step). silent table z fs) e ∙ i)

  answers-traced : (x : Item) (g : Frame) (q : Pool) → step f p ≡ Do.Wait x g q → WholeAfter (Do.Wait x g q) fs → LeadsOutside (Do.Wait x g q) fs → TracedAnswers ks x g fs q
  answers-traced x g q e l o = record {
    asked = o.0;
    goes = λ i h u. record {
      whole = l i h u;
      asks = o.1 i h u;
      same = λ more. ap (strays_of (begin 1)) (append_assoc ks (i ∷ []) more) ∙ t.same (i ∷ more) ∙ question-strays (at f fs p) x g h q i more t.whole e u;
    };
    strays = λ i u. t.same (i ∷ []) ∙ stray-law (at f fs p) x g q i [] t.whole e u;
  }

  pub step-traced : LeadsTraced ks (step f p) fs
  step-traced = each (step f p) refl (whole-kept (at f fs p) 1 t.whole) (outside-kept f fs p t.whole t.asks)
    where
      done : (a : Answer) (q : Pool) (gs : List Frame) → step f p ≡ Do.Done a q → fs ≡ gs → WholeAfter (Do.Done a q) gs → LeadsOutside (Do.Done a q) gs → LeadsTraced ks (Do.Done a q) gs
      done a q [] e d l o =
          let b : IsStacked f [] = subst (λ (z : List Frame). IsStacked f z) d t.whole.seated in
          let r : Rests f [] p = subst (λ (z : List Frame). Rests f z p) d t.whole.sound.rests in
          no-end f p q a b r e
      done a q (g ∷ gs) e d l o = record { whole = l; asks = o; same = silent-on (Do.Done a q) (record { now = resume g a; below = gs; pool = q }) e (ap (silent table (Do.Done a q)) d) }

      each : (m : Step) → step f p ≡ m → WholeAfter m fs → LeadsOutside m fs → LeadsTraced ks m fs
      each (Do.Done a q) e l o = done a q fs e refl l o
      each (Do.Go g q) e l o = record { whole = l; asks = o; same = silent-on (Do.Go g q) (record { now = g; below = fs; pool = q }) e refl }
      each (Do.Call i g q) e l o = record { whole = l; asks = o; same = silent-on (Do.Call i g q) (record { now = i; below = g ∷ fs; pool = q }) e refl }
      each (Do.Emit (Told x) g q) e l o = record { whole = l; asks = o.1; same = λ more. t.same more ∙ event-strays (at f fs p) (Told x) g q more t.whole e }
      each (Do.Emit (Asked x) g q) e l o = absurd o.0
      each (Do.Wait (Told x) g q) e l o = absurd o.0
      each (Do.Wait (Asked x) g q) e l o = answers-traced (Asked x) g q e l o

-- ---- from the beginning

pub same-story : sights_of (begin 1) ≡ machine
same-story = let one : 1 ≤ 1 = omega arith in fun_ext (λ (is : List Input). begin-seen 1 is one)

-- what each step keeps is concluded of the machine's story behind a driver
module _ {W U : Type 0} (driver : Driver W Sight Event Opening Input Input U) (K : List Input → W → Frame → List Frame → Pool → Type 0) (C : List Input → W → Type 0) (kept : KeptSo seen_table driver K C) where
  some-concluded : (s : Story Input Sight) (w : W) (is js : List Input) (o : Option (List Input)) → o ≡ Some js → ConcludedSo seen_table driver K C [] w s is o → C js (after driver (s js) w is)
  some-concluded s w is js None e c = cc
  some-concluded s w is js (Some ks) e c = let e' : ks ≡ js = cc in subst (λ (z : List Input). C z (after driver (s z) w is)) e' c

  pub concluded : (n : ℕ) (w : W) (is js : List Input) → K [] w (begin 1).innermost [] (begin 1).pool → filled driver n w machine is ≡ Some js → C js (after driver (machine js) w is)
  concluded n w is js k e =
      let one : 1 ≤ 1 = omega arith in
      let c = recorded seen_table driver K C IsWhole tale tells kept n [] w (begin 1).innermost [] (begin 1).pool is (begin-whole 1 one) k in
      let e' : filled driver n w (sights_of (begin 1)) is ≡ Some js = ap (λ (s : Story Input Sight). filled driver n w s is) same-story ∙ e in
      subst (λ (s : Story Input Sight). C js (after driver (s js) w is)) same-story (some-concluded (sights_of (begin 1)) w is js (filled driver n w (sights_of (begin 1)) is) e' c)
