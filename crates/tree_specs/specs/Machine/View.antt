-- A host is seen as its open works, the innermost first, over a pool.
use Rattle.std.specs.Prelude.{List, [], length, Bool, Option, Some, None}
use Rattle.step_machine.specs.Machine.{Move, Outcome, rest, is_stray, items as told_by}
use Rattle.step_machine.specs.Machine.{Move as Do}
use Rattle.tree_specs.specs.declared.question.Ask.{Ask}
use Rattle.tree_specs.specs.declared.question.Input.{Input}
use Rattle.tree_specs.specs.declared.frame.Frame.{Frame}
use Rattle.tree_specs.specs.declared.frame.Frame.TheVariants as frame
use Rattle.tree_specs.specs.declared.frame.CallFrame.TheVariants.{Asking}
use Rattle.tree_specs.specs.declared.question.Ask.TheVariants.{Quiet as AtRest}
use Rattle.tree_specs.specs.declared.frame.Answer.{Answer}
use Rattle.tree_specs.specs.Tree.Pool.{Pool, empty}
use Rattle.tree_specs.specs.Rules.Items.{Item}
use Rattle.tree_specs.specs.Rules.Items.Item.{Told, Asked}
use Rattle.tree_specs.specs.Rules.Story.{turns}
use Rattle.tree_specs.specs.Machine.Table.{table, step}
use Rattle.std.specs.Prelude.{ℕ}

pub record View : Type 0 where
  pub innermost : Frame
  pub below : List Frame
  pub pool : Pool

-- a host at rest over an empty pool
abbrev pub begin : ℕ → View
begin first = record { innermost = frame.Call (Asking AtRest); below = []; pool = empty first }

-- what comes of these inputs
abbrev pub outcome_of : View → List Input → Outcome Answer Pool Input Item
outcome_of v is = rest table (turns (length v.pool.rows) (length is)) v.innermost v.below v.pool is

-- the story still to come: its items
abbrev pub rest_of : View → List Input → List Item
rest_of v is = told_by (outcome_of v is)

-- the last of these inputs doesn't fit, and those before it do
abbrev pub strays_of : View → List Input → Bool
strays_of v is = is_stray (outcome_of v is)

abbrev pub asked_by : Item → Option Ask
asked_by (Told e) = None
asked_by (Asked q) = Some q

-- the question that a step asks
abbrev pub question_in : Move Frame Answer Pool Item → Option Ask
question_in (Do.Done a p) = None
question_in (Do.Go f p) = None
question_in (Do.Emit e f p) = None
question_in (Do.Wait q f p) = asked_by q
question_in (Do.Call g f p) = None

-- the question that is open
abbrev pub question_of : View → Option Ask
question_of v = question_in (step v.innermost v.pool)
