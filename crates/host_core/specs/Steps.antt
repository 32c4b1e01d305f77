-- What the code calls a step that tells and asks nothing.
use Rattle.step_machine.specs.Machine.{Move}
use Rattle.step_machine.specs.Machine.{Move as Do}
use Rattle.tree_specs.specs.declared.frame.Answer.{Answer}
use Rattle.tree_specs.specs.declared.frame.Frame.{Frame}
use Rattle.tree_specs.specs.declared.frame.Frame.TheVariants as frame
use Rattle.tree_specs.specs.declared.frame.FreeFrame.TheVariants.{Unlinking, Beginning, Looping}
use Rattle.tree_specs.specs.declared.frame.Purpose.TheVariants.{Emptying}
use Rattle.tree_specs.specs.Tree.Pool.{Pool}
use Rattle.tree_specs.specs.Rules.Items.{Item}
use Rattle.host_core.specs.declared.active.Active.{Active}
use Rattle.host_core.specs.declared.active.Active.TheVariants as active
use Rattle.host_core.specs.declared.waiting.Waiting.{Waiting}
use Rattle.host_core.specs.declared.waiting.Waiting.TheVariants as waiting
use Rattle.host_core.specs.declared.step.Step.{Step}
use Rattle.host_core.specs.declared.step.Step.TheVariants.{Goes, Calls, Frees, Unlinks, Empties, Ends}
use Rattle.host_core.specs.Stacks.{answer_of, waiting_frame, active_frame}

abbrev pub step_of : Step → Pool → Move Frame Answer Pool Item
step_of (Goes next) p = Do.Go (active_frame next) p
step_of (Calls first second) p = Do.Call (active_frame first) (waiting_frame second) p
step_of (Frees x second) p = Do.Call (frame.Free (Beginning x)) (waiting_frame second) p
step_of (Unlinks o x second) p = Do.Call (frame.Free (Unlinking o x)) (waiting_frame second) p
step_of (Empties x second) p = Do.Call (frame.Free (Looping x Emptying)) (waiting_frame second) p
step_of (Ends a) p = Do.Done (answer_of a) p

-- the open frees are no part of it
abbrev pub IsOther : Active → Type 0
IsOther active.Freeing = ⊥
IsOther now = Unit {0}

abbrev pub IsWaiter : Waiting → Type 0
IsWaiter waiting.Freeing = ⊥
IsWaiter w = Unit {0}

abbrev pub IsBusy : Step → Type 0
IsBusy (Goes next) = IsOther next
IsBusy (Calls first second) = IsOther first × IsWaiter second
IsBusy (Frees x second) = IsWaiter second
IsBusy (Unlinks o x second) = IsWaiter second
IsBusy (Empties x second) = IsWaiter second
IsBusy (Ends a) = Unit {0}
