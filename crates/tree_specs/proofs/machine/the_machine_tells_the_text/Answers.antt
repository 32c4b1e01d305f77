use Rattle.std.proofs.Common.{None}
use Rattle.step_machine.specs.Noted.{with_note}
use Rattle.tree_specs.specs.declared.frame.CallFrame.TheVariants.{Asking}
use Rattle.tree_specs.specs.declared.frame.Frame.TheVariants.{Call, Free, Turn, Outside, Request}
use Rattle.tree_specs.specs.declared.frame.RequestFrame.TheVariants.{Finishing, Receiving, Cancelling, Notifying, Vacating, Triggering}
use Rattle.tree_specs.specs.declared.frame.FreeFrame.TheVariants.{Beginning, Unlinking, Looping}
use Rattle.tree_specs.specs.declared.frame.Purpose.TheVariants.{Emptying}
use Rattle.tree_specs.specs.declared.frame.OutsideFrame.TheVariants.{Reaching}
use Rattle.tree_specs.specs.declared.frame.TurnFrame.TheVariants.{Taking}
use Rattle.tree_specs.proofs.Rules.Means.{run-means}
use Rattle.tree_specs.proofs.Rules.MidStories.{not-short-equal, innermost-enough, innermost-more}
use Rattle.tree_specs.proofs.machine.the_machine_tells_the_text.Goals as goal

pub returns-clause-free : goal.returns-clause-free
returns-clause-free c = λ n x p is h. not-short-equal _ _ h (run-means n (with_note None (Free (Beginning x))) p is)

pub returns-clause-unlink : goal.returns-clause-unlink
returns-clause-unlink c = λ n o x p is h. not-short-equal _ _ h (run-means n (with_note None (Free (Unlinking o x))) p is)

pub returns-clause-children : goal.returns-clause-children
returns-clause-children c = λ n x p is h. not-short-equal _ _ h (run-means n (with_note None (Free (Looping x Emptying))) p is)

pub returns-clause-turn : goal.returns-clause-turn
returns-clause-turn c = λ n p is h. not-short-equal _ _ h (run-means n (with_note None (Turn Taking)) p is)

pub returns-clause-outside : goal.returns-clause-outside
returns-clause-outside c = λ n q p is h. not-short-equal _ _ h (run-means n (with_note None (Outside (Reaching q))) p is)

pub returns-clause-finish : goal.returns-clause-finish
returns-clause-finish c = λ n x s p is h. not-short-equal _ _ h (run-means n (with_note None (Request (Finishing x s))) p is)

pub returns-clause-notify : goal.returns-clause-notify
returns-clause-notify c = λ n x e p is h. not-short-equal _ _ h (run-means n (with_note None (Request (Notifying x e))) p is)

pub returns-clause-receive : goal.returns-clause-receive
returns-clause-receive c = λ n x p is h. not-short-equal _ _ h (run-means n (with_note None (Request (Receiving x))) p is)

pub returns-clause-cancel : goal.returns-clause-cancel
returns-clause-cancel c = λ n x p is h. not-short-equal _ _ h (run-means n (with_note None (Request (Cancelling x))) p is)

pub returns-clause-vacate : goal.returns-clause-vacate
returns-clause-vacate c = λ n q p is h. not-short-equal _ _ h (run-means n (with_note None (Request (Vacating q))) p is)

pub returns-clause-trigger : goal.returns-clause-trigger
returns-clause-trigger c = λ n q p is h. not-short-equal _ _ h (run-means n (with_note None (Request (Triggering q))) p is)

pub returns-clause-enough : goal.returns-clause-enough
returns-clause-enough c = λ v is h. innermost-enough v is h.sound h.noted h.queued h.seated h.light

pub returns-clause-same : goal.returns-clause-same
returns-clause-same c = λ v n is h big. innermost-more v n is h big

pub returns-clause-caller : goal.returns-clause-caller
returns-clause-caller c = λ n q p is h. not-short-equal _ _ h (run-means n (with_note None (Call (Asking q))) p is)
