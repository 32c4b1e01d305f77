-- What a line says, as far as the rules of orderly stories look at it.
use Rattle.std.specs.Prelude.{Bool, true, false}
use Rattle.tree_specs.specs.declared.object.Obj.{Obj}
use Rattle.tree_specs.specs.declared.moment.What.{What}
use Rattle.tree_specs.specs.declared.moment.What.TheVariants.{Hook}
use Rattle.tree_specs.specs.declared.question.Ask.{Ask}
use Rattle.tree_specs.specs.declared.question.Ask.TheVariants.{Routine}
use Rattle.tree_specs.specs.declared.reply.Reply.{Reply}
use Rattle.tree_specs.specs.declared.reply.Reply.TheVariants.{No}
use Rattle.tree_specs.specs.declared.reply.Refusal.TheVariants.{Refused as RefusedBy}
use Rattle.tree_specs.specs.declared.event.Event.{Event}
use Rattle.tree_specs.specs.declared.event.Event.TheVariants as events
use Rattle.transcript_lines.specs.declared.said.Fact.{Fact}
use Rattle.transcript_lines.specs.declared.said.Fact.TheVariants as facts
use Rattle.transcript_lines.specs.declared.said.Said.{Said}
use Rattle.transcript_lines.specs.declared.said.Said.TheVariants as says
use Rattle.transcript_lines.specs.Lines.{Line}
use Rattle.transcript_lines.specs.Lines.Line.{Row, Rows, Tells, Asks, Ends}

abbrev pub fact_of_reply : Reply → Fact
fact_of_reply (No (RefusedBy x answer)) = facts.RefusesCall x answer
fact_of_reply reply = facts.Nothing

abbrev pub fact_of_event : Event → Fact
fact_of_event (events.Replied reply) = fact_of_reply reply
fact_of_event (events.Fired what x routine) = facts.Uses x
fact_of_event (events.Accepted x) = facts.Accepts x
fact_of_event (events.Refused x answer) = facts.Refuses x answer
fact_of_event (events.Moved x owner) = facts.Moves x owner
fact_of_event (events.Warned x) = facts.Uses x
fact_of_event (events.Freed x hook) = facts.Frees x hook
fact_of_event (events.Unreferenced reference target) = facts.Drops reference target
fact_of_event (events.Closed fd) = facts.Nothing
fact_of_event (events.State x state) = facts.Sets x state

abbrev pub fact_of_moment : What → Obj → Fact
fact_of_moment Hook x = facts.Asks x
fact_of_moment what x = facts.Nothing

abbrev pub fact_of_ask : Ask → Fact
fact_of_ask (Routine m) = fact_of_moment m.what m.object
fact_of_ask q = facts.Nothing

abbrev pub said_of : Line → Said
said_of (Row r) = says.Row
said_of (Rows n) = says.Rows n
said_of (Tells e) = says.Tells (fact_of_event e)
said_of (Asks q) = says.Tells (fact_of_ask q)
said_of (Ends q) = says.Ends (fact_of_ask q)

-- what a question says, where it is open at the end or was answered
abbrev pub told_by : Bool → Fact → Said
told_by true fact = says.Ends fact
told_by false fact = says.Tells fact
