-- The callers of a host, as frames.
use Rattle.std.specs.Prelude.{Option, Some, None}
use Rattle.tree_specs.specs.declared.event.Event.{Event}
use Rattle.tree_specs.specs.declared.event.Event.TheVariants.{Replied}
use Rattle.tree_specs.specs.declared.frame.CallFrame.{CallFrame}
use Rattle.tree_specs.specs.declared.frame.CallFrame.TheVariants.{Asking, Telling, Announcing}
use Rattle.tree_specs.specs.declared.question.Ask.{Ask}
use Rattle.tree_specs.specs.declared.reply.Reply.{Reply}
use Rattle.tree_specs.specs.Rules.Answers.{later}
use Rattle.tree_specs.specs.Rules.Pieces.{notice_event}
use Rattle.host_core.specs.declared.caller.Caller.{Caller}
use Rattle.host_core.specs.declared.caller.Stage.{Stage}
use Rattle.host_core.specs.declared.caller.Stage.TheVariants as stage

-- what comes next of a caller with this question
abbrev pub staged : Ask → Stage → CallFrame
staged q stage.Asking = Asking q
staged q (stage.Telling r) = Telling q r
staged q (stage.Announcing notice r) = Announcing q notice r

abbrev pub frame_of : Caller → CallFrame
frame_of c = staged c.ask c.stage

-- what a caller tells
abbrev pub told_by : CallFrame → Option Event
told_by (Announcing q notice r) = Some (notice_event notice)
told_by (Telling q r) = Some (Replied r)
told_by f = None

-- and how it goes on
abbrev pub after_telling : CallFrame → CallFrame
after_telling (Announcing q notice r) = Telling q r
after_telling (Telling q r) = Asking q
after_telling f = f

-- the question that is open at this stage
abbrev pub open_at : Stage → Ask → Option Ask
open_at stage.Asking q = Some q
open_at s q = None

-- the question with what a routine is to remember
abbrev pub remembers : Ask → Option Reply → Ask
remembers q None = q
remembers q (Some r) = later q r
