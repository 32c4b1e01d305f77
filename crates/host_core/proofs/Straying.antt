-- An answer that doesn't fit, though it was asked for: a descriptor was accepted that is open already.
use Rattle.std.proofs.Common.{◌≡◌, ℕ, Bool, true, false, List, [], ◌∷◌, reverse, Option, Some, None, refl, sym, ◌∙◌, ap}
use Rattle.std.specs.Prelude.{◌&&◌, not, is_none, if◌then◌else◌}
use Rattle.tree_specs.specs.declared.question.Ask.{Ask}
use Rattle.tree_specs.specs.declared.question.Ask.TheVariants as ask
use Rattle.tree_specs.specs.declared.question.Input.{Input}
use Rattle.tree_specs.specs.declared.question.Input.TheVariants as input
use Rattle.tree_specs.specs.declared.frame.Frame.TheVariants as frame
use Rattle.tree_specs.specs.declared.frame.CallFrame.TheVariants.{Asking}
use Rattle.tree_specs.specs.declared.frame.FreeFrame.{FreeFrame}
use Rattle.tree_specs.specs.declared.frame.TurnFrame.{TurnFrame}
use Rattle.tree_specs.specs.declared.frame.TurnFrame.TheVariants.{Timing}
use Rattle.tree_specs.specs.declared.frame.OutsideFrame.TheVariants.{Opening}
use Rattle.tree_specs.specs.Rules.Items.Item.{Asked}
use Rattle.tree_specs.specs.Tree.Pool.{Pool}
use Rattle.tree_specs.specs.Words.Ranges.{is_routine}
use Rattle.tree_specs.specs.Calls.Refusals.{is_open}
use Rattle.tree_specs.specs.Texts.Schedule.{misfit}
use Rattle.step_machine.specs.Machine.{Move as Do}
use Rattle.tree_specs.specs.Machine.Table.{step, taken}
use Rattle.tree_specs.specs.Machine.View.{View, strays_of}
use Rattle.tree_stories.specs.Sights.{sights_of}
use Rattle.tree_stories.proofs.Seeing.{open-seen, stray-seen}
use Rattle.tree_specs.specs.Invariants.Consistent.{IsStacked}
use Rattle.host_core.specs.declared.active.Active.{Active}
use Rattle.host_core.specs.declared.active.Active.TheVariants as active
use Rattle.host_core.specs.declared.caller.Stage.{Stage}
use Rattle.host_core.specs.declared.caller.Stage.TheVariants as stage
use Rattle.host_core.specs.declared.parts.Parts.{Parts}
use Rattle.host_core.specs.Callers.{staged, open_at}
use Rattle.host_core.specs.Promises.{taken_in, taken_by}
use Rattle.host_core.specs.Stacks.{freeing_view}
use Rattle.host_core.specs.Turns.{turn_asks}
use Rattle.host_core.specs.Hosts.{host_view, below_in, asked_now, IsBetweenSteps}
use Rattle.host_core.proofs.StepsSilently.{untaken-strays}
use Rattle.host_core.proofs.Answering.{caller-kind}

-- ---- what was accepted

pub taken-open : (o : Option Ask) (p : Pool) (i : Input) (fd : ℕ) → taken_by o p i ≡ Some fd → taken_in p i ≡ Some fd
taken-open (Some (ask.Accept listener)) p i fd e = e
taken-open _ p i fd e = cc

-- it was asked for
pub taken-fits : (o : Option Ask) (p : Pool) (i : Input) (fd : ℕ) → taken_by o p i ≡ Some fd → is_none (misfit o i) ≡ true
taken-fits (Some (ask.Accept listener)) p (input.Took new) fd e = refl
taken-fits _ p i fd e = cc

pub taken-asked : (o : Option Ask) (p : Pool) (i : Input) (fd : ℕ) → is_none (misfit o i) ≡ true → taken_in p i ≡ Some fd → taken_by o p i ≡ Some fd
taken-asked (Some (ask.Accept listener)) p i fd fits e = e
taken-asked None p i fd fits e = cc
taken-asked (Some q) p (input.Took new) fd fits e = cc
taken-asked _ p _ fd fits e = cc

-- what wasn't asked for isn't taken
pub not-taken : {A : Type 0} (o asked : Option Ask) (p : Pool) (i : Input) (fd : ℕ) → o ≡ asked → is_none (misfit asked i) ≡ false → taken_by o p i ≡ Some fd → A
not-taken o asked p i fd same fits e = never (sym (taken-fits o p i fd e) ∙ ap (λ (z : Option Ask). is_none (misfit z i)) same ∙ fits)
  where
    never : {A : Type 0} → true ≡ false → A
    never e = cc

-- a host is seen over its pool
view-pool : (now : Active) (parts : Parts) → (host_view now parts).pool ≡ parts.objects.pool
view-pool active.Freeing parts = each parts.objects.works
  where
    each : (works : List FreeFrame) → (freeing_view works (reverse parts.waiting.items) parts.objects.pool).pool ≡ parts.objects.pool
    each [] = refl
    each (f ∷ fs) = refl
view-pool (active.Caller c) parts = refl
view-pool (active.Turning t) parts = refl
view-pool (active.Reaching q) parts = refl
view-pool (active.Requesting w) parts = refl

pub taken-there : (v : View) (now : Active) (parts : Parts) (i : Input) (o : Option ℕ) → host_view now parts ≡ v → o ≡ taken_in v.pool i → taken_in parts.objects.pool i ≡ o
taken-there v now parts i o is e = ap (λ (z : Pool). taken_in z i) (sym (view-pool now parts) ∙ ap (λ (z : View). z.pool) is) ∙ sym e

pub no-some : {A : Type 0} (o : Option A) → ((x : A) → o ≡ Some x → ⊥) → o ≡ None
no-some None none = refl
no-some (Some x) none = absurd (none x refl)

-- ---- it doesn't fit

-- no descriptor that is open is taken
opens-not : {A : Type 0} (a b : Bool) (new fd : ℕ) (g : A) → (if b then Some new else None) ≡ Some fd → (if a && not b then Some g else None) ≡ None
opens-not a false new fd g e = cc
opens-not true true new fd g e = refl
opens-not false true new fd g e = refl

-- a turn asks for no descriptor
turn-takes-not : (f : TurnFrame) (new : ℕ) → is_none (misfit (turn_asks f) (input.Took new)) ≡ true → ⊥
turn-takes-not (Timing again) new fits = cc
turn-takes-not _ new fits = cc

-- the work that is asked waits, and doesn't take it
pub record IsUntaken (v : View) (i : Input) : Type 0 where
  pub question : Ask
  pub waits : step v.innermost v.pool ≡ Do.Wait (Asked question) v.innermost v.pool
  pub untaken : taken v.innermost v.pool i ≡ None

reach-untaken : (q : Ask) (parts : Parts) (new fd : ℕ) → is_none (misfit (Some q) (input.Took new)) ≡ true → taken_in parts.objects.pool (input.Took new) ≡ Some fd
    → IsUntaken (host_view (active.Reaching q) parts) (input.Took new)
reach-untaken (ask.Accept listener) parts new fd fits e =
    record { question = ask.Accept listener; waits = refl; untaken = opens-not (is_routine new) (is_open parts.objects.pool new) new fd (frame.Outside (Opening new)) e }
reach-untaken _ parts new fd fits e = cc

untaken-by : (now : Active) (parts : Parts) (i : Input) (fd : ℕ) → IsBetweenSteps now parts → is_none (misfit (asked_now now) i) ≡ true → taken_in parts.objects.pool i ≡ Some fd → IsUntaken (host_view now parts) i
untaken-by (active.Reaching q) parts (input.Took new) fd b fits e = reach-untaken q parts new fd fits e
untaken-by (active.Turning t) parts (input.Took new) fd b fits e = absurd (turn-takes-not t.frame new (ap (λ (z : Option Ask). is_none (misfit z (input.Took new))) (sym b.ready.question) ∙ fits))
untaken-by (active.Caller c) parts (input.Took new) fd b fits e = absurd (no c.stage c.ask b.whole.seated fits)
  where
    no : (s : Stage) (q : Ask) → IsStacked (frame.Call (staged q s)) (below_in parts) → is_none (misfit (open_at s q) (input.Took new)) ≡ true → ⊥
    no stage.Asking (ask.Accept listener) seated fits = caller-kind (frame.Call (Asking (ask.Accept listener))) (ask.Accept listener) (below_in parts) refl seated
    no stage.Asking _ seated fits = cc
    no _ q seated fits = cc
untaken-by _ parts (input.Took new) fd b fits e = cc
untaken-by _ parts _ fd b fits e = cc

pub taken-strays : (now : Active) (parts : Parts) (i : Input) (fd : ℕ) → IsBetweenSteps now parts → is_none (misfit (asked_now now) i) ≡ true → taken_in parts.objects.pool i ≡ Some fd → strays_of (host_view now parts) (i ∷ []) ≡ true
taken-strays now parts i fd b fits e =
    let u = untaken-by now parts i fd b fits e in
    let v : View = host_view now parts in
    untaken-strays v (Asked u.question) v.innermost v.pool i b.whole u.waits u.untaken

-- and nothing is seen after it
pub taken-ends : (now : Active) (parts : Parts) (i : Input) (fd : ℕ) → IsBetweenSteps now parts → is_none (misfit (asked_now now) i) ≡ true → taken_in parts.objects.pool i ≡ Some fd
    → (is : List Input) → sights_of (host_view now parts) (i ∷ is) ≡ sights_of (host_view now parts) []
taken-ends now parts i fd b fits e is =
    let u = untaken-by now parts i fd b fits e in
    let v : View = host_view now parts in
    stray-seen v (Asked u.question) v.innermost v.pool i is b.whole u.waits u.untaken ∙ sym (open-seen v (Asked u.question) v.innermost v.pool b.whole u.waits)
