-- A question to the outside that is open in a host, and what its answer leaves.
use Rattle.std.specs.Prelude.{Bool, true, false, Option, Some, None}
use Rattle.tree_specs.specs.declared.frame.OutsideFrame.{OutsideFrame}
use Rattle.tree_specs.specs.declared.frame.OutsideFrame.TheVariants.{Reaching, Opening, Hearing}
use Rattle.tree_specs.specs.declared.question.Ask.{Ask}
use Rattle.tree_specs.specs.declared.question.Ask.TheVariants as ask
use Rattle.tree_specs.specs.declared.question.Ask.TheVariants.{Routine}
use Rattle.tree_specs.specs.declared.question.Input.{Input}
use Rattle.tree_specs.specs.declared.question.Input.TheVariants as input
use Rattle.tree_specs.specs.declared.reply.Reply.{Reply}
use Rattle.tree_specs.specs.declared.reply.Reply.TheVariants as reply
use Rattle.tree_specs.specs.Tree.Pool.{Pool, open_descriptor}
use Rattle.tree_specs.specs.Calls.Given.{Given, given_to}
use Rattle.tree_specs.specs.Calls.Given.Given.{Tells, Opens, Answers}
use Rattle.host_core.specs.declared.short_reply.ShortReply.{ShortReply}
use Rattle.host_core.specs.declared.short_reply.ShortReply.TheVariants as short_reply

-- what is still to do of it after this was given
abbrev pub outside_given_by : Ask → Option Given → OutsideFrame
outside_given_by q (Some (Tells now)) = Hearing (reply.Number now)
outside_given_by q (Some (Opens fd)) = Opening fd
outside_given_by q (Some (Answers r)) = Hearing r
outside_given_by q given = Reaching q

abbrev pub outside_given : Ask → Input → OutsideFrame
outside_given q i = outside_given_by q (given_to q i)

-- it is asked of the outside
abbrev pub IsOutside : Ask → Type 0
IsOutside ask.Clock = Unit {0}
IsOutside (ask.Accept fd) = Unit {0}
IsOutside (ask.Read fd most) = Unit {0}
IsOutside (ask.Write fd bytes) = Unit {0}
IsOutside q = ⊥

-- a routine remembers a reply that owns memory, and nobody else does
abbrev pub remembered : Ask → Reply → Option Reply
remembered (Routine m) r = Some r
remembered q r = None

-- bytes are the one answer of the outside that owns memory
abbrev pub is_bytes : Input → Bool
is_bytes (input.Got bytes) = true
is_bytes i = false

-- an answer of the outside that takes no memory
abbrev pub IsShortAnswer : Input → Type 0
IsShortAnswer (input.Clock now) = Unit {0}
IsShortAnswer (input.Took fd) = Unit {0}
IsShortAnswer (input.Wrote n) = Unit {0}
IsShortAnswer input.Again = Unit {0}
IsShortAnswer input.Fault = Unit {0}
IsShortAnswer input.End = Unit {0}
IsShortAnswer i = ⊥

-- the reply that it is
abbrev pub short_answer : Input → ShortReply
short_answer (input.Clock now) = short_reply.Number now
short_answer (input.Took fd) = short_reply.Number fd
short_answer (input.Wrote n) = short_reply.Number n
short_answer input.Again = short_reply.Again
short_answer input.Fault = short_reply.Fault
short_answer i = short_reply.End

-- a descriptor that was accepted is open
abbrev pub pool_heard : Input → Pool → Pool
pool_heard (input.Took fd) p = open_descriptor p fd
pool_heard i p = p
