-- What the code calls a move of a caller, a reply that takes no memory, and a refusal.
use Rattle.std.specs.Prelude.{◌≡◌, Bool, true, false, Option, Some, None}
use Rattle.step_machine.specs.Machine.{Move}
use Rattle.step_machine.specs.Machine.{Move as Do}
use Rattle.tree_specs.specs.declared.reply.Reply.{Reply}
use Rattle.tree_specs.specs.declared.reply.Reply.TheVariants as reply
use Rattle.tree_specs.specs.declared.question.Ask.{Ask}
use Rattle.tree_specs.specs.declared.question.Act.TheVariants as act
use Rattle.tree_specs.specs.declared.question.Input.{Input}
use Rattle.tree_specs.specs.declared.question.Input.TheVariants as input
use Rattle.tree_specs.specs.declared.frame.Frame.{Frame}
use Rattle.tree_specs.specs.declared.frame.Frame.TheVariants as frame
use Rattle.tree_specs.specs.declared.frame.CallFrame.{CallFrame}
use Rattle.tree_specs.specs.declared.frame.CallFrame.TheVariants.{Awaiting, Turning, Requesting, Telling, Announcing}
use Rattle.tree_specs.specs.declared.frame.OutsideFrame.TheVariants.{Reaching}
use Rattle.tree_specs.specs.declared.notice.Notice.{Notice}
use Rattle.tree_specs.specs.declared.frame.TurnFrame.TheVariants.{Taking}
use Rattle.tree_specs.specs.declared.question.Ask.TheVariants.{Quiet}
use Rattle.tree_specs.specs.Machine.Table.{work_of}
use Rattle.tree_specs.specs.declared.frame.FreeFrame.TheVariants.{Unlinking, Beginning, Looping}
use Rattle.tree_specs.specs.declared.frame.Purpose.TheVariants.{Emptying}
use Rattle.tree_specs.specs.declared.frame.Answer.{Answer}
use Rattle.tree_specs.specs.declared.call.Call.{Call}
use Rattle.tree_specs.specs.declared.call.Call.TheVariants as call
use Rattle.tree_specs.specs.declared.object.Owner.{Owner}
use Rattle.tree_specs.specs.Tree.Pool.{Pool}
use Rattle.tree_specs.specs.Rules.Items.{Item}
use Rattle.tree_specs.specs.Rules.Answers.{later}
use Rattle.host_core.specs.Reaches.{IsOutside}
use Rattle.host_core.specs.declared.motion.Motion.{Motion}
use Rattle.host_core.specs.declared.motion.Motion.TheVariants.{Replies, Announces, Frees, Unlinks, Empties, Asks, Turns, Works}
use Rattle.host_core.specs.declared.short_reply.ShortReply.{ShortReply}
use Rattle.host_core.specs.declared.short_reply.ShortReply.TheVariants as short_reply

abbrev pub reply_of : ShortReply → Reply
reply_of short_reply.Ok = reply.Ok
reply_of (short_reply.Number n) = reply.Number n
reply_of (short_reply.Pair first second) = reply.Pair first second
reply_of short_reply.Again = reply.Again
reply_of short_reply.Fault = reply.Fault
reply_of short_reply.End = reply.End
reply_of (short_reply.No why) = reply.No why

-- the reply is told next
abbrev pub telling : Ask → ShortReply → CallFrame
telling q b = Telling (later q (reply_of b)) (reply_of b)

-- a notice is told next, and then the reply
abbrev pub announcing : Ask → Notice → ShortReply → CallFrame
announcing q notice b = Announcing (later q (reply_of b)) notice (reply_of b)

-- what a call does first, for a caller that was asked this
abbrev pub move_of : Ask → Motion → Pool → Move Frame Answer Pool Item
move_of q (Replies b) p = Do.Go (frame.Call (telling q b)) p
move_of q (Announces notice b) p = Do.Go (frame.Call (announcing q notice b)) p
move_of q (Frees x) p = Do.Call (frame.Free (Beginning x)) (frame.Call (Awaiting q x)) p
move_of q (Unlinks o x) p = Do.Call (frame.Free (Unlinking o x)) (frame.Call (Awaiting q x)) p
move_of q (Empties x) p = Do.Call (frame.Free (Looping x Emptying)) (frame.Call (Awaiting q x)) p
move_of q (Asks outside) p = Do.Call (frame.Outside (Reaching outside)) (frame.Call (Turning q)) p
move_of q Turns p = Do.Call (frame.Turn Taking) (frame.Call (Turning Quiet)) p
move_of q (Works errand x) p = Do.Call (work_of errand x) (frame.Call (Requesting q)) p

-- what a call begins has the memory that the call was given, and what it asks is asked of the outside
abbrev pub ReadyFor : Motion → Bool → Type 0
ReadyFor (Replies b) ready = Unit {0}
ReadyFor (Announces notice b) ready = Unit {0}
ReadyFor (Asks outside) ready = IsOutside outside
ReadyFor m ready = ready ≡ true

-- the owner that a report is about; it is the one call whose reply takes memory
abbrev pub report_of : Call → Option Owner
report_of (call.Report o) = Some o
report_of c = None

-- a call that the caller waits for, that is told before its reply, or that has a reply of its own
abbrev pub is_work : Call → Bool
is_work (call.Free x) = true
is_work (call.Freekids x) = true
is_work (call.Unlink o x) = true
is_work (call.Steal o x) = true
is_work (call.Move o x) = true
is_work (call.Report o) = true
is_work (call.Close fd) = true
is_work (call.Accept fd) = true
is_work (call.Read fd len) = true
is_work (call.Write fd bytes) = true
is_work call.Now = true
is_work (call.Turn c) = true
is_work (call.Cancel x) = true
is_work (call.Done x) = true
is_work (call.Oom x) = true
is_work (call.Error x error) = true
is_work (call.Received x) = true
is_work c = false

-- a call that makes an object
abbrev pub is_making : Call → Bool
is_making (call.New o size name) = true
is_making (call.Reference o x) = true
is_making (call.Context o) = true
is_making (call.Immediate o) = true
is_making (call.Timer o time routine user c) = true
is_making (call.Fd o fd flags routine user c) = true
is_making (call.Req o size name) = true
is_making (call.Queue o name) = true
is_making (call.Enqueue q x routine user c) = true
is_making c = false

-- the call that an input is to do
abbrev pub call_of : Input → Option Call
call_of (input.Call c) = Some c
call_of (input.Act (act.Do c)) = Some c
call_of i = None

abbrev pub reported : Option Call → Option Owner
reported None = None
reported (Some c) = report_of c
