-- In every story what waits is as it must be, over each pool just before an item.
use Rattle.std.proofs.Common.{ℕ, ◌≤◌, List, [], ◌∷◌, length, Option, sym, subst, map}
use Rattle.step_machine.specs.History.{EachFits}
use Rattle.step_machine.specs.Machine.{Move}
use Rattle.step_machine.specs.Machine.{Move as Do}
use Rattle.step_machine.specs.Noted.{noted_move}
use Rattle.step_machine.proofs.Ends.{Leads}
use Rattle.step_machine.proofs.History.{FitsOn, each-fits}
use Rattle.tree_specs.specs.declared.question.Input.{Input}
use Rattle.tree_specs.specs.declared.frame.Frame.{Frame}
use Rattle.tree_specs.specs.declared.frame.Answer.{Answer}
use Rattle.tree_specs.specs.Tree.Pool.{Pool, empty}
use Rattle.tree_specs.specs.Rules.Items.{Item}
use Rattle.tree_specs.specs.Rules.Sequence.{CallStart, Scene}
use Rattle.tree_specs.specs.Rules.Story.{story, turns}
use Rattle.tree_specs.specs.Machine.Table.{table, notes, step, taken}
use Rattle.tree_specs.specs.Machine.Meaning.{noted_table}
use Rattle.tree_specs.specs.Machine.View.{View}
use Rattle.tree_specs.specs.Invariants.Consistent.{IsConsistent}
use Rattle.tree_specs.specs.Invariants.Awaiting.{Awaits, pool_after, AwaitsBefore}
use Rattle.tree_specs.proofs.Events.AwaitingSteps.{step-awaits}
use Rattle.tree_specs.proofs.Rules.Rest.{whole-kept}
use Rattle.tree_specs.proofs.Rules.StoryLaws.{asking, begin-whole, none-await, story-walk}
use Rattle.tree_specs.proofs.Promises.Causes.{NotedWork}
use Rattle.tree_specs.proofs.Promises.Fine.{work_of, taken-noted}

abbrev WholeAt : Frame → List Frame → Pool → Type 0
WholeAt f fs p = IsConsistent (record { innermost = f; below = fs; pool = p })

-- what holds between two steps
abbrev Holds : List Scene → NotedWork → List NotedWork → Pool → Type 0
Holds scenes w ws p = WholeAt w.work (map work_of ws) p × Awaits p

both : (scenes : List Scene) (f : Frame) (b : Option CallStart) (ws : List NotedWork) (p : Pool) (m : Move Frame Answer Pool Item) → Leads table (λ g gs q j. WholeAt g gs q) m (map work_of ws) 1
    → Awaits p → Awaits (pool_after m) → FitsOn noted_table AwaitsBefore Holds scenes (noted_move notes f b p m) ws
both scenes f b [] p (Do.Done a q) l now next = tt
both scenes f b (w ∷ ws) p (Do.Done a q) l now next = (l, next)
both scenes f b ws p (Do.Go g q) l now next = (l, next)
both scenes f b ws p (Do.Emit e g q) l now next = (now, (l, next))
both scenes f b ws p (Do.Wait e g q) l now next = (
  now,
  λ i h s.
      let t = taken-noted (notes.after f p b) (taken g q i) h s in
      (subst (λ (w : NotedWork). WholeAt w.work (map work_of ws) q) (sym t.2) (l i t.0 t.1), next),
)
both scenes f b ws p (Do.Call g h q) l now next = (l, next)

kept : (scenes : List Scene) (w : NotedWork) (ws : List NotedWork) (p : Pool) → Holds scenes w ws p → FitsOn noted_table AwaitsBefore Holds scenes (noted_table.step w p) ws
kept scenes w ws p h =
    both scenes w.work w.note ws p (step w.work p) (whole-kept (record { innermost = w.work; below = map work_of ws; pool = p }) 1 h.0) h.1 (step-awaits w.work (map work_of ws) p h.0.sound h.0.noted h.0.queued.pool h.0.calm.0 h.1)

pub story-awaits : (first : ℕ) (is : List Input) → 1 ≤ first → EachFits AwaitsBefore (story first is)
story-awaits first is h =
    subst (EachFits AwaitsBefore) (story-walk first is h) (each-fits noted_table AwaitsBefore Holds kept (turns 0 (length is)) asking [] (empty first) is (begin-whole first h, none-await first))

pub moment-awaits : (v : View) → IsConsistent v → Awaits v.pool → Awaits (pool_after (step v.innermost v.pool))
moment-awaits v h a = step-awaits v.innermost v.below v.pool h.sound h.noted h.queued.pool h.calm.0 a
