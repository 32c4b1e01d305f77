-- The story by the rules' text, by the table, and by a host.
use Rattle.std.proofs.Common.{true, ◌≡◌, ◌≢◌, ℕ, ◌+◌, ◌-◌, ◌*◌, ◌≤◌, List, [], length, None, refl, sym, ◌∙◌, ap, subst, arith}
use Rattle.step_machine.specs.Machine.{Outcome, run, walk, followed, is_stray, map_items, items as told_by}
use Rattle.step_machine.specs.Machine.Outcome.{Ended, Waits, Stray, Short}
use Rattle.step_machine.specs.Noted.{Noted, with_note}
use Rattle.step_machine.specs.Open.{LastIs}
use Rattle.step_machine.proofs.Ends.{NotShort, Below-equal, run-same}
use Rattle.step_machine.proofs.Laws.{walk-rest}
use Rattle.step_machine.proofs.NotedLaws.{noted-run, noted-walk}
use Rattle.step_machine.proofs.Open.{items-map_items, stray-map_items, NotShort-map_items}
use Rattle.tree_specs.specs.declared.question.Input.{Input}
use Rattle.tree_specs.specs.declared.frame.Frame.{Frame}
use Rattle.tree_specs.specs.declared.frame.Frame.TheVariants as frame
use Rattle.tree_specs.specs.declared.frame.CallFrame.TheVariants.{Asking}
use Rattle.tree_specs.specs.declared.question.Ask.TheVariants.{Quiet}
use Rattle.tree_specs.specs.declared.frame.Answer.{Answer}
use Rattle.tree_specs.specs.declared.frame.Answer.TheVariants.{Returned}
use Rattle.tree_specs.specs.Tree.Pool.{Pool, empty}
use Rattle.tree_specs.specs.Rules.Items.{Item, IsQuestion}
use Rattle.tree_specs.specs.Rules.Sequence.{Work, Scene, CallStart, gives}
use Rattle.tree_specs.specs.Rules.Story.{asked, turns, outcome, story, items}
use Rattle.tree_specs.specs.Machine.Table.{table, notes}
use Rattle.tree_specs.specs.Machine.View.{View, begin, outcome_of, strays_of, rest_of}
use Rattle.tree_specs.specs.Invariants.Consistent.{IsConsistent}
use Rattle.tree_specs.specs.Invariants.Awaiting.{waits, Awaits}
use Rattle.tree_specs.specs.declared.object.Obj.{Obj}
use Rattle.tree_specs.specs.declared.moment.What.{What}
use Rattle.tree_specs.specs.declared.moment.What.TheVariants.{Immediate, Timer, Descriptor}
use Rattle.tree_specs.proofs.Tree.Rooted.{forest-none}
use Rattle.tree_specs.proofs.Turns.Bound.{cost-turns}
use Rattle.tree_specs.specs.Machine.Meaning.{noted_table, ends_as}
use Rattle.tree_specs.proofs.Rules.Means.{run-means}
use Rattle.tree_specs.proofs.Rules.LettingGo.{tells-ended}
use Rattle.tree_specs.proofs.Rules.Rest.{rest-enough, walk-whole, not-short, ends-asked}

-- nothing waits at the beginning
pub none-await : (first : ℕ) → Awaits (empty first)
none-await first = record { events = λ w x h. absurd (none w x h); handlers = λ x e. refl; distinct = tt; watched = λ fd h. cc; contexts = record { soon = λ c h. cc; times = λ c h. cc; ring = λ c h. cc } }
  where
    none : (w : What) (x : Obj) → waits w (empty first) x ≡ true → ⊥
    none Immediate x h = cc
    none Timer x h = cc
    none Descriptor x h = cc
    none _ x h = cc

-- a host at its beginning
pub begin-whole : (first : ℕ) → 1 ≤ first → IsConsistent (begin first)
begin-whole first h = record {
  sound = record { started = omega arith; valid = λ x. tt; forest = forest-none; refers = record { target = λ r t e. cc; quiet = λ r t e. cc }; open_frees = λ x. refl; waiting = tt; turned = tt; rests = tt };
  seated = tt;
  light = omega arith;
  noted = record { pool = record { notes = λ x. refl; timed = λ x t. cc; ready = λ x t. cc }; works = tt };
  queued = record { pool = record { queues = λ x. refl; entries = λ x. refl; waiting = tt; idle = λ q t. cc }; works = tt; frees = (tt, tt) };
  calm = ((λ x. refl), tt);
  awaits = none-await first;
}

abbrev item_of : Scene → Item
item_of s = s.item

-- ---- the answer of a run, as the machine has it

abbrev Told : Type 0 → Type 0
Told A = Outcome A Pool Input Scene

abbrev answering : Told ℕ → Told Answer
answering (Ended v p ts is) = Ended (Returned v) p ts is
answering (Waits ts) = Waits ts
answering (Stray ts) = Stray ts
answering Short = Short

returned-answering : (w : Work ℕ) (p : Pool) (is : List Input) → ends_as Returned w p is ≡ answering (w p is)
returned-answering w p is = each (w p is)
  where
    each : (o : Told ℕ) → followed o (λ v. gives (Returned v)) ≡ answering o
    each (Ended v q ts left) = tells-ended ts (Returned v) q left
    each _ = refl

answering-same : (o u : Told ℕ) → answering o ≡ answering u → o ≡ u
answering-same (Ended v p ts is) (Ended w q us js) e = cc
answering-same (Ended v p ts is) (Waits us) e = cc
answering-same (Ended v p ts is) (Stray us) e = cc
answering-same (Ended v p ts is) Short e = cc
answering-same (Waits ts) (Ended w q us js) e = cc
answering-same (Waits ts) (Waits us) e = cc
answering-same (Waits ts) (Stray us) e = cc
answering-same (Waits ts) Short e = cc
answering-same (Stray ts) (Ended w q us js) e = cc
answering-same (Stray ts) (Waits us) e = cc
answering-same (Stray ts) (Stray us) e = cc
answering-same (Stray ts) Short e = cc
answering-same Short (Ended w q us js) e = cc
answering-same Short (Waits us) e = cc
answering-same Short (Stray us) e = cc
answering-same Short Short e = refl

answering-items : (o : Told ℕ) → told_by (answering o) ≡ told_by o
answering-items (Ended v p ts is) = refl
answering-items _ = refl

answering-strays : (o : Told ℕ) → is_stray (answering o) ≡ is_stray o
answering-strays (Stray ts) = refl
answering-strays _ = refl

answering-whole : (o : Told ℕ) → NotShort (answering o) → NotShort o
answering-whole (Ended v p ts is) h = h
answering-whole _ h = h

-- ---- the text and the table

abbrev pub asking : Noted Frame CallStart
asking = with_note None (frame.Call (Asking Quiet))

-- the rules' text, with turns enough, tells what the table's run tells
text-run : (first n : ℕ) (is : List Input) → 1 ≤ first → turns 0 (length is) ≤ n
    → (run noted_table n asking (empty first) is ≡ answering (asked n Quiet (empty first) is)) × (map_items item_of (answering (asked n Quiet (empty first) is)) ≡ outcome_of (begin first) is)
text-run first n is h big =
    let v : View = begin first in
    let R : ℕ = 0 + 2 * length is + 2 in
    let start = begin-whole first h in
    let c = cost-turns v (length is) start.light in
    let e : run table n (frame.Call (Asking Quiet)) (empty first) is ≡ outcome_of v is = rest-enough R n v is start (record { sound = start.sound; noted = start.noted; queued = start.queued; seated = start.seated; light = start.light; room = omega arith }) (omega (arith, c)) in
    let noted = noted-run notes table n asking (empty first) is in
    let whole : NotShort (map_items item_of (run noted_table n asking (empty first) is)) =
    subst NotShort (sym (noted ∙ e)) (not-short v is (begin-whole first h)) in
    let same : run noted_table n asking (empty first) is ≡ answering (asked n Quiet (empty first) is) =
    Below-equal _ _ (NotShort-map_items item_of _ whole) (run-means n asking (empty first) is) ∙ returned-answering (asked n Quiet) (empty first) is in
    (same, ap (map_items item_of) (sym same) ∙ noted ∙ e)

-- the items of the story are those of a host at its beginning
pub story-items : (first : ℕ) (is : List Input) → 1 ≤ first → items (story first is) ≡ rest_of (begin first) is
story-items first is h =
    let t = text-run first (turns 0 (length is)) is h (omega arith) in
    ap (λ (l : List Scene). items l) (sym (answering-items (asked (turns 0 (length is)) Quiet (empty first) is)))
    ∙ sym (items-map_items item_of (answering (asked (turns 0 (length is)) Quiet (empty first) is))) ∙ ap told_by t.1

-- they stray at the same inputs
pub story-strays : (first : ℕ) (is : List Input) → 1 ≤ first → strays_of (begin first) is ≡ is_stray (outcome first is)
story-strays first is h =
    let o : Told ℕ = outcome first is in
    let t = text-run first (turns 0 (length is)) is h (omega arith) in
    sym (ap is_stray t.1) ∙ stray-map_items item_of (answering o) ∙ answering-strays o

-- the turns are never too few
pub story-enough : (first n : ℕ) (is : List Input) → 1 ≤ first → turns 0 (length is) ≤ n → NotShort (asked n Quiet (empty first) is)
story-enough first n is h big =
    let t = text-run first n is h big in
    answering-whole _ (NotShort-map_items item_of _ (subst NotShort (sym t.1) (not-short (begin first) is (begin-whole first h))))

-- the last item is a question
pub story-asks : (first : ℕ) (is : List Input) → 1 ≤ first → LastIs IsQuestion (items (story first is))
story-asks first is h = subst (λ (l : List Item). LastIs IsQuestion l) (sym (story-items first is h)) (ends-asked (begin first) is (begin-whole first h))

-- the story is what the table tells, with what its replies are about
pub story-table : (first : ℕ) (is : List Input) → 1 ≤ first → told_by (run noted_table (turns 0 (length is)) asking (empty first) is) ≡ story first is
story-table first is h = ap told_by (text-run first (turns 0 (length is)) is h (omega arith)).0 ∙ answering-items (asked (turns 0 (length is)) Quiet (empty first) is)

-- more turns give the same
pub story-more : (first n : ℕ) (is : List Input) → 1 ≤ first → turns 0 (length is) ≤ n → asked n Quiet (empty first) is ≡ asked (turns 0 (length is)) Quiet (empty first) is
story-more first n is h big =
    let m : ℕ = turns 0 (length is) in
    let d : m + (n - m) ≡ n = omega arith in
    let t = text-run first m is h (omega arith) in
    let u = text-run first n is h big in
    let short : NotShort (answering (asked m Quiet (empty first) is)) = NotShort-map_items item_of _ (subst NotShort (sym t.1) (not-short (begin first) is (begin-whole first h))) in
    let whole : NotShort (run noted_table m asking (empty first) is) = subst NotShort (sym t.0) short in
    answering-same _ _ (sym u.0 ∙ ap (λ (k : ℕ). run noted_table k asking (empty first) is) (sym d) ∙ sym (run-same noted_table m (n - m) asking (empty first) is whole) ∙ t.0)

pub not-the-short : {A P I T : Type 0} (o : Outcome A P I T) → NotShort o → o ≢ Short
not-the-short Short h = absurd h
not-the-short _ h = λ e. cc

-- the same a step at a time
pub story-walk : (first : ℕ) (is : List Input) → 1 ≤ first → told_by (walk noted_table (turns 0 (length is)) asking [] (empty first) is) ≡ story first is
story-walk first is h =
    let n : ℕ = turns 0 (length is) in
    let whole : NotShort (walk noted_table n asking [] (empty first) is) =
    NotShort-map_items item_of _ (subst NotShort (sym (noted-walk notes table n asking [] (empty first) is)) (walk-whole (begin first) is (begin-whole first h))) in
    ap told_by (Below-equal _ _ whole (walk-rest noted_table n asking [] (empty first) is)) ∙ story-table first is h
