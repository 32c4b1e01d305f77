-- One step of a host after another, and what stands after it.
use Rattle.std.proofs.Common.{◌≡◌, ℕ, ◌+◌, ◌≤◌, ◌<◌, List, [], ◌∷◌, length, Option, Some, None, true, false, refl, sym, ◌∙◌, ap, subst, arith}
use Rattle.step_machine.specs.Machine.{Move, State, silent, given, leads, walk, is_stray, items as told_by}
use Rattle.step_machine.specs.Machine.{Move as Do}
use Rattle.step_machine.specs.Open.{LastIs}
use Rattle.step_machine.proofs.Ends.{rest-step, silent-leads}
use Rattle.tree_specs.specs.declared.event.Event.{Event}
use Rattle.tree_specs.specs.declared.question.Ask.{Ask}
use Rattle.tree_specs.specs.declared.question.Ask.TheVariants.{Quiet}
use Rattle.tree_specs.specs.declared.question.Input.{Input}
use Rattle.tree_specs.specs.declared.frame.Frame.{Frame}
use Rattle.tree_specs.specs.declared.frame.Frame.TheVariants as frame
use Rattle.tree_specs.specs.declared.frame.CallFrame.TheVariants.{Asking}
use Rattle.tree_specs.specs.declared.frame.Answer.{Answer}
use Rattle.tree_specs.specs.Tree.Pool.{Pool}
use Rattle.tree_specs.specs.Rules.Items.{Item, IsQuestion}
use Rattle.tree_specs.specs.Rules.Items.Item.{Told, Asked}
use Rattle.tree_specs.specs.Rules.Story.{turns}
use Rattle.tree_specs.specs.Machine.Table.{table, step, taken}
use Rattle.tree_specs.specs.Invariants.Measure.{cost, pending}
use Rattle.tree_specs.specs.Machine.View.{View, begin, rest_of, strays_of, question_in}
use Rattle.tree_specs.specs.Invariants.Consistent.{IsConsistent}
use Rattle.tree_specs.proofs.Rules.StoryLaws.{begin-whole}
use Rattle.tree_specs.proofs.Turns.Lowering.{Room}
use Rattle.tree_specs.proofs.Turns.Bound.{cost-turns}
use Rattle.tree_specs.proofs.Turns.Falls.{Well, lower, falls}
use Rattle.tree_specs.proofs.Rules.Rest.{most, well, event-whole, event-items, open-law, open-items, begins-items, ends-asked, silent-whole, silent-law, no-end, view_of_state}
use Rattle.machine_driver.specs.Seen.{sight}
use Rattle.tree_stories.specs.Sights.{Sight, sights_of}
use Rattle.tree_stories.proofs.Seeing.{event-seen, silent-seen, begins-seen, open-seen}
use Rattle.tree_stories.proofs.Strays.{event-strays, silent-strays}
use Rattle.host_core.specs.Promises.{Waits}
use Rattle.host_core.specs.Hosts.{speaks, moved, next_of, speaking_view, TellsSameStory, StepsSilently}

-- ---- a step that tells nothing

silent-next : (v : View) → IsConsistent v → speaking_view v ≡ false
    → (s : State Frame Pool) × (silent table (step v.innermost v.pool) v.below ≡ Some s) × (next_of v ≡ (None, view_of_state s))
silent-next v h t = each (step v.innermost v.pool) v.below refl refl t
  where
    each : (m : Move Frame Answer Pool Item) (fs : List Frame) → step v.innermost v.pool ≡ m → v.below ≡ fs → speaks m ≡ false
        → (s : State Frame Pool) × (silent table m fs ≡ Some s) × (moved m fs ≡ (None, view_of_state s))
    each (Do.Done a q) [] e d t =
        let w : IsConsistent (record { innermost = v.innermost; below = []; pool = v.pool }) = subst (λ (z : List Frame). IsConsistent (record { innermost = v.innermost; below = z; pool = v.pool })) d h in
        absurd (no-end v.innermost v.pool q a w.seated w.sound.rests e)
    each (Do.Done a q) (g ∷ gs) e d t = (_, refl, refl)
    each (Do.Go g q) fs e d t = (_, refl, refl)
    each (Do.Emit i g q) fs e d t = cc
    each (Do.Wait i g q) fs e d t = cc
    each (Do.Call g k q) fs e d t = (_, refl, refl)

silent-onward : (v : View) (s : State Frame Pool) → IsConsistent v → silent table (step v.innermost v.pool) v.below ≡ Some s → StepsSilently v (view_of_state s)
silent-onward v s h e = record {
  along = record {
    whole = silent-whole v s h e;
    rows = λ R r. (let l = (lowered R r).0 in omega arith);
    no_dearer = λ R r. (let l = (lowered R r).1 in omega arith);
    same = λ is. ap told_by (silent-law v s is h e);
    seen = λ is. silent-seen v s is h e;
    strays = λ is. silent-strays v s is h e;
  };
  cheaper = λ R r. (lowered R r).1;
}
  where
    lowered : (R : ℕ) → length v.pool.rows + pending v.innermost ≤ R → Room R s.now s.pool 0 × (cost R s.now s.below s.pool 0 < cost R v.innermost v.below v.pool 0)
    lowered R r = silent-leads table (λ g gs q j. Room R g q j × (cost R g gs q j < cost R v.innermost v.below v.pool 0)) (step v.innermost v.pool) v.below 0 s (lower R v.innermost v.below v.pool 0 h.sound h.noted (omega arith)) e

pub onward : (v w : View) → IsConsistent v → speaking_view v ≡ false → (next_of v).1 ≡ w → StepsSilently v w
onward v w h t e =
    let n = silent-next v h t in
    subst (λ (z : View). StepsSilently v z) (sym (ap (λ (z : Option Event × View). z.1) n.2) ∙ e) (silent-onward v n.0 h n.1)

-- ---- one after another

pub stays : (v : View) → IsConsistent v → TellsSameStory v v
stays v h = record { whole = h; rows = λ R r. r; no_dearer = λ R r. omega arith; same = λ is. refl; seen = λ is. refl; strays = λ is. refl }

pub along-then : (u v w : View) → TellsSameStory u v → TellsSameStory v w → TellsSameStory u w
along-then u v w a b = record {
  whole = b.whole;
  rows = λ R r. b.rows R (a.rows R r);
  no_dearer = λ R r. (let c = a.no_dearer R r in let d = b.no_dearer R (a.rows R r) in omega (arith, c, d));
  same = λ is. a.same is ∙ b.same is;
  seen = λ is. a.seen is ∙ b.seen is;
  strays = λ is. a.strays is ∙ b.strays is;
}

pub onward-along : (u v w : View) → StepsSilently u v → TellsSameStory v w → StepsSilently u w
onward-along u v w o b = record {
  along = along-then u v w o.along b;
  cheaper = λ R r. (let c = o.cheaper R r in let d = b.no_dearer R (o.along.rows R r) in omega (arith, c, d));
}

-- ---- whether the last input fits

-- an answer that a question doesn't take is the one that doesn't fit
pub untaken-strays : (v : View) (q : Item) (f : Frame) (p : Pool) (i : Input) → IsConsistent v → step v.innermost v.pool ≡ Do.Wait q f p → taken f p i ≡ None → strays_of v (i ∷ []) ≡ true
untaken-strays v q f p i h is-wait none =
    let n : ℕ = turns (length v.pool.rows) (length (i ∷ [])) in
    let R : ℕ = most v (length (i ∷ [])) in
    let go = λ (g : Frame) (p' : Pool) (left : List Input). walk table n g v.below p' left in
    ap is_stray
    (rest-step table (Well R) (cost R) (falls R) n v.innermost v.below v.pool (i ∷ []) (well v (length (i ∷ [])) h) (cost-turns v (length (i ∷ [])) h.light)
    ∙ ap (λ (m : Move Frame Answer Pool Item). leads table (walk table n) m v.below (i ∷ [])) is-wait
    ∙ ap (given go q p []) none)

-- ---- an event

-- what stands after it
pub record AfterEvent (v w : View) (e : Event) : Type 0 where
  pub whole : IsConsistent w
  pub law : (is : List Input) → rest_of v is ≡ Told e ∷ rest_of w is
  pub seen : (is : List Input) → sights_of v is ≡ sight v.pool (Told e) ∷ sights_of w is
  pub strays : (is : List Input) → strays_of v is ≡ strays_of w is

emitted : (v : View) (e : Event) (f : Frame) (p : Pool) → IsConsistent v → step v.innermost v.pool ≡ Do.Emit (Told e) f p → AfterEvent v (record { innermost = f; below = v.below; pool = p }) e
emitted v e f p h t = record { whole = event-whole v (Told e) f p h t; law = λ is. event-items v (Told e) f p is h t; seen = λ is. event-seen v (Told e) f p is h t; strays = λ is. event-strays v (Told e) f p is h t }

pub after-event : (v w : View) (e : Event) → IsConsistent v → next_of v ≡ (Some e, w) → AfterEvent v w e
after-event v w e h t = each (step v.innermost v.pool) v.below refl refl t
  where
    none : (x : View) → (let a : Option Event × View = (None, x) in a) ≡ (Some e, w) → ⊥
    none x t = let z : None ≡ Some e = ap (λ (z : Option Event × View). z.0) t in cc

    each : (m : Move Frame Answer Pool Item) (fs : List Frame) → step v.innermost v.pool ≡ m → v.below ≡ fs → moved m fs ≡ (Some e, w) → AfterEvent v w e
    each (Do.Done a q) [] k d t = absurd (none _ t)
    each (Do.Done a q) (g ∷ gs) k d t = absurd (none _ t)
    each (Do.Go f q) fs k d t = absurd (none _ t)
    each (Do.Call f g q) fs k d t = absurd (none _ t)
    each (Do.Wait i f q) fs k d t = absurd (none _ t)
    each (Do.Emit (Asked i) f q) fs k d t = absurd (none _ t)
    each (Do.Emit (Told i) f q) fs k d t =
        let x : Some i ≡ Some e = ap (λ (z : Option Event × View). z.0) t in
        let x' : i ≡ e = cc in
        let y : record { innermost = f; below = fs; pool = q } ≡ w = ap (λ (z : Option Event × View). z.1) t in
        let y' : record { innermost = f; below = v.below; pool = q } ≡ w = ap (λ (l : List Frame). let r : View = record { innermost = f; below = l; pool = q } in r) d ∙ y in
        subst (λ (z : View). AfterEvent v z e) y' (emitted v e f q h (k ∙ ap (λ (z : Event). Do.Emit (Told z) f q) x'))

pub event-along : (u v w : View) (e : Event) → AfterEvent u v e → TellsSameStory v w → AfterEvent u w e
event-along u v w e a b = record { whole = b.whole; law = λ is. a.law is ∙ ap (λ (l : List Item). Told e ∷ l) (b.same is); seen = λ is. a.seen is ∙ ap (λ (l : List Sight). sight u.pool (Told e) ∷ l) (b.seen is); strays = λ is. a.strays is ∙ b.strays is }

-- ---- a question

-- a host that asks waits, and nothing goes on until it is answered
pub waits-at : (v : View) (q : Ask) → IsConsistent v → step v.innermost v.pool ≡ Do.Wait (Asked q) v.innermost v.pool → Waits v
waits-at v q h e = record {
  question = q;
  open_now = ap question_in e;
  last = open-items v (Asked q) v.innermost v.pool h e;
  begins = λ is. begins-items v (Asked q) v.innermost v.pool is h e;
  begins_seen = λ is. begins-seen v (Asked q) v.innermost v.pool is h e;
  last_seen = open-seen v (Asked q) v.innermost v.pool h e;
  fits = ap is_stray (open-law v (Asked q) v.innermost v.pool h e);
}

pub waits-asked : (q : Ask) (below : List Frame) (p : Pool) → IsConsistent (record { innermost = frame.Call (Asking q); below = below; pool = p }) → Waits (record { innermost = frame.Call (Asking q); below = below; pool = p })
waits-asked q below p h = waits-at (record { innermost = frame.Call (Asking q); below = below; pool = p }) q h refl

-- there is always something to come
pub always-more : (v : View) (is : List Input) → IsConsistent v → (item : Item) × (items : List Item) × (rest_of v is ≡ item ∷ items)
always-more v is h = each (rest_of v is) refl (ends-asked v is h)
  where
    each : (l : List Item) → rest_of v is ≡ l → LastIs IsQuestion l → (item : Item) × (items : List Item) × (rest_of v is ≡ item ∷ items)
    each [] e h = absurd h
    each (i ∷ l) e h = (i, l, e)

pub begin_waits : (first : ℕ) → 1 ≤ first → Waits (begin first)
begin_waits first h = waits-asked Quiet [] (begin first).pool (begin-whole first h)
